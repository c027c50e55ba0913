-- The turns of the search's loops over the indices of one free place: what each asks, and what it yields.
use mathlib.Core.Path.{◌≡◌, refl, sym, ap, ◌∙◌}
use mathlib.Core.Logic.{⊎_elim}
use mathlib.Core.Bool.{true, false, cond, true≢false}
use mathlib.Core.List.{List, flat_map}
use Prim.Native.Nat.{ℕ, suc, ◌+◌, ◌*◌, ◌-◌, ◌^◌, ◌≤◌, ◌<◌}
use native.Mathlib.Nat.{eq-or-lt_of_le}
use native.Mathlib.Omega.{arith}
use borrow.Author.Tests.{le-ltb, ne_eqb}
use lib.ListN.{length, set, length-set}
use lib.Seq.{get_or-set_same, get_or-set_other}
use Rattle.lattice.specs.Lists.{at, from, span}
use Rattle.lattice.specs.Space.{Allowed}
use Rattle.lattice.specs.Search.{Found, take, takes, cover}
use Rattle.lattice.proofs.Boxes.{boxed-set}
use Rattle.lattice.proofs.Searching.{cover-same}
use Rattle.net.specs.declared.Counts.{Counts}
use Rattle.net.specs.Driving.{Driving, allowed_by, delay_at, load_at, driven_load, shown_load, added_delay, delay_by}
use Rattle.net.specs.Order.{driving_by}
use Rattle.net.proofs.Driving.{driven-reads, shown-reads, added-reads}
use Rattle.net.proofs.InOrder.{allowed-by, placed, in_limits}
use Rattle.place.specs.Held.{free, GatheredFrom, fixed_from}
use Rattle.place.proofs.After.{after-step, after_same, after-le}
use Rattle.place.proofs.Gathering.{gathered-all, gathering-step}
use Rattle.free.specs.Searching.{free_load, priced_from, Prepared, Sized, Searched}
use Rattle.free.proofs.Apart.{ups-fall, delay-apart, driven-apart}
use Rattle.free.proofs.Tables.{skip-le, next-index, no_index, priced-skip, gathers-skip, takes_skip}

-- a larger delay than the least changes nothing
take_none : (x : List ℕ) (d : ℕ) (f : Found) → f.least < d → f ≡ take x d f
unfolding take
take_none x d f h = let l : f.least ≤ d = omega arith in rw (le-ltb d f.least l, ne_eqb d f.least (λ e. omega arith))

-- x has the held places and what stands after p as they were, and k is not before the lower bound at p.
pub record Standing (net : Driving) (lower upper : List ℕ) (p : ℕ) (x₀ x : List ℕ) (k : ℕ) : Type 0 where
  pub allowed : Allowed (allowed_by net) x
  pub held : (q : ℕ) → q < net.places → free lower upper q ≡ false → at x q ≡ at lower q
  pub same : (q : ℕ) → p < q → q < net.places → at x q ≡ at x₀ q
  pub low : at lower p ≤ k

-- What a loop knows: the sizings with an index before k are taken, and what stands after p and the held places is as it was.
pub record Turning (net : Driving) (lower upper : List ℕ) (p : ℕ) (x₀ : List ℕ) (f₀ : Found) (x : List ℕ) (k : ℕ) (f : Found) : Type 0 where
  pub found : takes (delay_by net) (flat_map (λ j. cover lower upper p (set x₀ p j)) (from k (suc (at upper p) - k))) f ≡ takes (delay_by net) (cover lower upper (suc p) x₀) f₀
  pub allowed : Allowed (allowed_by net) x
  pub held : (q : ℕ) → q < net.places → free lower upper q ≡ false → at x q ≡ at lower q
  pub same : (q : ℕ) → p < q → q < net.places → at x q ≡ at x₀ q
  pub lean_long : length f.lean ≡ net.places
  pub wide_long : length f.wide ≡ net.places
  pub low : at lower p ≤ k

pub stands : {net : Driving} {lower upper : List ℕ} {p : ℕ} {x₀ : List ℕ} {f₀ : Found} {x : List ℕ} {k : ℕ} {f : Found}
    → Turning net lower upper p x₀ f₀ x k f → Standing net lower upper p x₀ x k
stands t = record { allowed = t.allowed; held = t.held; same = t.same; low = t.low }

module _ {c : Counts} {job orders weights upstream driven ups skips lower upper : List ℕ} (r : Prepared c job orders weights upstream driven ups skips lower upper)
    (p : ℕ) (few : p < (driving_by c job).places) (frees : free lower upper p ≡ true)
    {added : ℕ} {x₀ gathered₀ : List ℕ} (f₀ : Found) (start : Sized (driving_by c job) lower upper upstream driven ups (suc p) added x₀ gathered₀ f₀.lean f₀.wide) where
  abbrev net : Driving
  net = driving_by c job

  falls : (t : ℕ) → t < net.places → net.hangs_at t ≤ t
  falls = (placed r.checked).falls

  x₀-long : length x₀ ≡ net.places
  x₀-long = ((allowed-by net x₀).0 start.allowed).long

  -- the load that the place drives
  pub load_is : at driven p + at gathered₀ (suc p) ≡ driven_load (driving_by c job) x₀ p
  load_is =
      ap (λ (v : ℕ). at driven p + v)
      (start.gathers.held (suc p) few
      ∙ sym (gathered-all net.places (at ups) (free_load net lower upper x₀) (suc p) (suc p)
      (λ q h m e. omega (arith, ups-fall net (placed r.checked) lower upper ups net.places r.lifted (suc q) q (omega arith) m m))))
      ∙ sym (driven-apart net (placed r.checked) lower upper driven upstream ups r.drives r.known r.lifted x₀ start.held p few frees)

  pub turning-start : Turning (driving_by c job) lower upper p x₀ f₀ x₀ (at lower p) f₀
  unfolding cover span
  turning-start =
      record {
        found = refl;
        allowed = start.allowed;
        held = start.held;
        same = λ q h i. refl;
        lean_long = start.lean_long;
        wide_long = start.wide_long;
        low = omega arith;
      }

  module _ {x : List ℕ} {k : ℕ} (t : Standing (driving_by c job) lower upper p x₀ x k) (inside : k ≤ at upper p) where
    pub lows : (driving_by c job).lowest p ≤ k
    lows = omega (arith, ((allowed-by net lower).0 r.lower_allowed).low p few, t.low)

    pub highs : k ≤ (driving_by c job).highest p
    highs = omega (arith, ((allowed-by net upper).0 r.upper_allowed).high p few)

    abbrev stepped : List ℕ
    stepped = set x p k

    y-allowed : Allowed (allowed_by net) stepped
    y-allowed = (allowed-by net (set x p k)).1 (boxed-set net.places _ _ x p k ((allowed-by net x).0 t.allowed) lows highs)

    y-here : at stepped p ≡ k
    y-here = get_or-set_same x p k 0 (omega (arith, ((allowed-by net x).0 t.allowed).long))

    -- after p the sizing is as it was
    y-after : (q : ℕ) → suc p ≤ q → q < net.places → at stepped q ≡ at x₀ q
    y-after q h i = get_or-set_other x p q k 0 (λ e. omega arith) ∙ t.same q h i

    y-held : (q : ℕ) → q < net.places → free lower upper q ≡ false → at stepped q ≡ at lower q
    y-held q h e = get_or-set_other x p q k 0 (λ g. true≢false (sym frees ∙ ap (free lower upper) (sym g) ∙ e)) ∙ t.held q h e

    y-driven : driven_load net stepped p ≡ driven_load net x₀ p
    y-driven = driven-reads net falls stepped x₀ p y-after

    -- what the free places from p on add, with k at p
    priced : priced_from net lower upper upstream stepped p
        ≡ priced_from net lower upper upstream x₀ (suc p) + (net.weight p * delay_at net p k (driven_load net x₀ p) + at upstream p * load_at net p k (driven_load net x₀ p))
    priced =
        after-step net.places (λ q. cond (free lower upper q) (added_delay net stepped q + at upstream q * shown_load net stepped q) 0) p few
        ∙ cc (
          after_same net.places (λ q. cond (free lower upper q) (added_delay net stepped q + at upstream q * shown_load net stepped q) 0)
              (λ q. cond (free lower upper q) (added_delay net x₀ q + at upstream q * shown_load net x₀ q) 0) (suc p)
              (λ q h m. rw (added-reads net falls stepped x₀ q m (λ s a b. y-after s (omega arith) b), shown-reads net falls stepped x₀ q m (λ s a b. y-after s (omega arith) b))),
          here,
        )
      where
        here : cond (free lower upper p) (added_delay net stepped p + at upstream p * shown_load net stepped p) 0
            ≡ net.weight p * delay_at net p k (driven_load net x₀ p) + at upstream p * load_at net p k (driven_load net x₀ p)
        here = rw frees (cc (y-here, y-driven))

    module _ (d : ℕ) (e : d ≡ added + ((driving_by c job).weight p * delay_at (driving_by c job) p k (driven_load (driving_by c job) x₀ p) + at upstream p * load_at (driving_by c job) p k (driven_load (driving_by c job) x₀ p))) where
      -- the places before p that are skipped add nothing
      reached : d ≡ fixed_from net lower upper driven 0 + priced_from net lower upper upstream stepped (at skips p)
      reached =
          let a = start.adds in
          let b = priced in
          let s = priced-skip net lower upper skips r.skipped p (omega arith) stepped upstream in
          omega arith

      whole : fixed_from net lower upper driven 0 + priced_from net lower upper upstream stepped 0 ≡ delay_by net stepped
      whole = sym (delay-apart net (placed r.checked) lower upper driven upstream ups r.drives r.known r.lifted stepped y-held)

      pub reached-fits : d < 2 ^ 63
      reached-fits =
          omega (
            arith,
            reached,
            whole,
            after-le net.places (λ q. cond (free lower upper q) (added_delay net stepped q + at upstream q * shown_load net stepped q) 0) (at skips p),
            (in_limits r.checked).fits stepped y-allowed,
          )

      -- where no free place is left, the sizing is complete
      pub complete : at skips p ≡ 0 → d ≡ delay_by (driving_by c job) (set x p k)
      complete z = (rw z at reached) ∙ whole

    y-long : length stepped ≡ net.places
    y-long = ((allowed-by net stepped).0 y-allowed).long

    agree : (q : ℕ) → p ≤ q → q < net.places → at stepped q ≡ at (set x₀ p k) q
    agree q i n =
        ⊎_elim (λ (e : p ≡ q). rw (← e) (y-here ∙ sym (get_or-set_same x₀ p k 0 (omega (arith, x₀-long)))))
        (λ e. y-after q e n ∙ sym (get_or-set_other x₀ p q k 0 (λ g. omega arith))) (eq-or-lt_of_le i)

    -- the sizings of the index k, by those with the skipped places as they are
    from-rest : (f : Found) → takes (delay_by net) (cover lower upper (at skips p) stepped) f ≡ takes (delay_by net) (cover lower upper p (set x₀ p k)) f
    from-rest f =
        sym (takes_skip net lower upper skips r.skipped p (omega arith) stepped r.in_order y-held f)
        ∙ ap (λ l. takes (delay_by net) l f) (cover-same lower upper net.places p stepped (set x₀ p k) y-long (length-set x₀ p k ∙ x₀-long) agree)

  module _ {x : List ℕ} {k : ℕ} {f : Found} (t : Turning (driving_by c job) lower upper p x₀ f₀ x k f) (inside : k ≤ at upper p) where
    abbrev y : List ℕ
    y = set x p k

    -- the recursive call may be made
    pub turn-ready : (d : ℕ) → d ≡ added + ((driving_by c job).weight p * delay_at (driving_by c job) p k (driven_load (driving_by c job) x₀ p) + at upstream p * load_at (driving_by c job) p k (driven_load (driving_by c job) x₀ p))
        → (v : ℕ) (gathered : List ℕ) → v ≡ at gathered₀ (at ups p) + load_at (driving_by c job) p k (driven_load (driving_by c job) x₀ p) → ((w : ℕ) → set gathered (at ups p) w ≡ set gathered₀ (at ups p) w)
        → Sized (driving_by c job) lower upper upstream driven ups (at skips p) d (set x p k) (set gathered (at ups p) v) f.lean f.wide
    turn-ready d e v gathered g same =
        record {
          few = omega (arith, skip-le lower upper net.places skips r.skipped p (omega arith));
          allowed = y-allowed (stands t) inside;
          held = y-held (stands t) inside;
          gathers = rw (same v) (gathers-skip net lower upper skips r.skipped p (omega arith) y ups _ here);
          adds = reached (stands t) inside d e;
          lean_long = t.lean_long;
          wide_long = t.wide_long;
        }
      where
        here : GatheredFrom net.places (at ups) (free_load net lower upper y) p (set gathered₀ (at ups p) v)
        here =
            gathering-step net.places (at ups) (free_load net lower upper x₀) (free_load net lower upper y) p gathered₀ few
            (λ q h m. rw (shown-reads net falls y x₀ q m (λ s a b. y-after (stands t) inside s (omega arith) b))) start.gathers v
            (omega (arith, ups-fall net (placed r.checked) lower upper ups net.places r.lifted (suc p) p (omega arith) few few))
            (g ∙ rw frees (cc (y-here (stands t) inside, y-driven (stands t) inside)))

    -- with the sizings of the index k taken
    next : (x' : List ℕ) (f' : Found) → f' ≡ takes (delay_by net) (cover lower upper p (set x₀ p k)) f → Allowed (allowed_by net) x'
        → ((q : ℕ) → q < net.places → free lower upper q ≡ false → at x' q ≡ at lower q) → ((q : ℕ) → p < q → q < net.places → at x' q ≡ at x₀ q)
        → length f'.lean ≡ length f.lean → length f'.wide ≡ length f.wide → Turning net lower upper p x₀ f₀ x' (k + 1) f'
    next x' f' e a h s leans wides =
        record {
          found = ap (takes (delay_by net) _) e ∙ sym (next-index (delay_by net) (λ j. cover lower upper p (set x₀ p j)) (at upper p) k f inside) ∙ t.found;
          allowed = a;
          held = h;
          same = s;
          lean_long = leans ∙ t.lean_long;
          wide_long = wides ∙ t.wide_long;
          low = omega (arith, t.low);
        }

    -- what the recursive call leaves is the loop's state at the next index
    pub turn-done : {x' gathered gathered' : List ℕ} {f' : Found} → length f'.lean ≡ length f.lean → length f'.wide ≡ length f.wide
        → Searched (driving_by c job) lower upper (at skips p) (set x p k) gathered f x' gathered' f' → Turning (driving_by c job) lower upper p x₀ f₀ x' (k + 1) f'
    turn-done {x'} {f' = f'} leans wides s =
        next x' f' (s.found ∙ from-rest (stands t) inside f) s.allowed s.held
        (λ q h m. s.same q (omega (arith, skip-le lower upper net.places skips r.skipped p (omega arith))) m ∙ y-after (stands t) inside q h m) leans wides

    -- a complete sizing is taken, or it has no place among the best
    pub taken-done : at skips p ≡ 0 → {f' : Found} → length f'.lean ≡ length f.lean → length f'.wide ≡ length f.wide
        → f' ≡ take (set x p k) (delay_by (driving_by c job) (set x p k)) f → Turning (driving_by c job) lower upper p x₀ f₀ (set x p k) (k + 1) f'
    unfolding cover takes
    taken-done z {f'} leans wides e = next y f' (e ∙ (rw z at (from-rest (stands t) inside f))) (y-allowed (stands t) inside) (y-held (stands t) inside) (y-after (stands t) inside) leans wides

    pub passed-done : at skips p ≡ 0 → f.least < delay_by (driving_by c job) (set x p k) → Turning (driving_by c job) lower upper p x₀ f₀ x (k + 1) f
    unfolding cover takes
    passed-done z h = next x f (take_none y (delay_by net y) f h ∙ (rw z at (from-rest (stands t) inside f))) t.allowed t.held t.same refl refl

  -- past the last index
  pub turning-end : {x : List ℕ} {k : ℕ} {f : Found} (gathered : List ℕ) → Turning (driving_by c job) lower upper p x₀ f₀ x k f → at upper p < k → gathered ≡ gathered₀
      → Searched (driving_by c job) lower upper (suc p) x₀ gathered₀ f₀ x gathered f
  turning-end {k = k} {f = f} gathered t h e =
      record {
        found = sym (no_index (delay_by net) (λ j. cover lower upper p (set x₀ p j)) (at upper p) k f h) ∙ t.found;
        allowed = t.allowed;
        held = t.held;
        same = λ q i n. t.same q i n;
        gathers = e;
      }
