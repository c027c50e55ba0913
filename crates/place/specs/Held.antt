-- What is known of a net before its free places are sized: the loads and the upstream resistances that the places with one index give. Places are
-- numbered as they drive each other. Cited by the contracts of the code that refines and searches; net/proofs/Held shows what the delay is by them,
-- so a reader need not believe this file.
use Rattle.std.specs.Prelude.{◌≡◌, Bool, cond, List, ℕ, ◌+◌, ◌*◌, ◌≤◌, ◌<◌, ltb, eqb, length}
use Rattle.lattice.specs.Lists.{at, sum}
use Rattle.net.specs.Driving.{Driving, delay_at, load_at, behind, slope, before}

-- The sum of f over those of the n places that stand from p on.
unfoldable pub sum_after : ℕ → (ℕ → ℕ) → ℕ → ℕ
sum_after n f p = sum n (λ q. cond (ltb q p) 0 (f q))

-- The same over those whose node is r.
abbrev pub gathered_from : ℕ → (ℕ → ℕ) → (ℕ → ℕ) → ℕ → ℕ → ℕ
gathered_from n node f p r = sum_after n (λ q. cond (eqb (node q) r) (f q) 0) p

-- `gathered` has these sums for the nodes up to n.
pub record GatheredFrom (n : ℕ) (node f : ℕ → ℕ) (p : ℕ) (gathered : List ℕ) : Type 0 where
  pub long : n < length gathered
  pub held : (r : ℕ) → r ≤ n → at gathered r ≡ gathered_from n node f p r

-- `table` has, for the places before p, what f has for the place before each: f reads the table at that place.
pub record BeforeTo (net : Driving) (f : List ℕ → ℕ → ℕ) (p : ℕ) (table : List ℕ) : Type 0 where
  pub long : net.places ≤ length table
  pub held : (q : ℕ) → q < p → q < net.places → at table q ≡ before (f table) (net.hangs_at q)

-- Has place p more than one index between the bounds?
abbrev pub free : List ℕ → List ℕ → ℕ → Bool
free lower upper p = ltb (at lower p) (at upper p)

module _ (net : Driving) (lower upper : List ℕ) where
  -- The load that place p shows where it drives what `driven` says: a free place shows none yet.
  abbrev pub held_load : List ℕ → ℕ → ℕ
  held_load driven p = cond (free lower upper p) 0 (load_at net p (at lower p) (at driven p))

  -- `driven` has what the places from p on drive.
  pub record DrivenFrom (p : ℕ) (driven : List ℕ) : Type 0 where
    pub long : net.places ≤ length driven
    pub held : (q : ℕ) → p ≤ q → q < net.places → at driven q ≡ net.sink q + behind net (held_load driven) q

  -- What the held places from p on add to the delay.
  abbrev pub fixed_from : List ℕ → ℕ → ℕ
  fixed_from driven p = sum_after net.places (λ a. cond (free lower upper a) 0 (net.weight a * delay_at net a (at lower a) (at driven a))) p

  -- What the delay grows by with each unit of load behind place a, through it and the places before it: nothing through a free place, and
  -- nothing beyond a driver, which shows its gate.
  abbrev pub onward : List ℕ → ℕ → ℕ
  onward upstream a = cond (free lower upper a) 0 (slope net a (at lower a) + cond (net.driver a) 0 (at upstream a))

  -- `upstream` has the weighted upstream resistances of the places before p: what the delay grows by with each unit of load that a place shows.
  abbrev pub UpstreamTo : ℕ → List ℕ → Type 0
  UpstreamTo p upstream = BeforeTo net onward p upstream
