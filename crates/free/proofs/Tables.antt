-- The tables of the search, place after place: where the loads arrive, which places are skipped, and what the held places add.
use mathlib.Core.Path.{◌≡◌, refl, sym, ap, ◌∙◌}
use mathlib.Core.Logic.{◌⊎◌, inl, inr}
use mathlib.Core.Bool.{Bool, true, false, cond}
use mathlib.Core.List.{List, flat_map}
use Prim.Native.Nat.{ℕ, zero, suc, ◌+◌, ◌*◌, ◌-◌, ◌≤◌, ◌<◌}
use native.Mathlib.Nat.{eq-or-lt_of_le, le_of_suc-le-suc}
use native.Mathlib.Numerals.{add-one}
use native.Mathlib.Omega.{arith}
use borrow.Author.Tests.{lt-ltb, le-ltb, ltb-false}
use lib.Dec.{eqb}
use lib.ListN.{length, set}
use lib.Seq.{get_or-set_same, get_or-set_other, set-get_or}
use Rattle.lattice.specs.Lists.{at, from, span}
use Rattle.lattice.specs.Search.{Found, takes, cover}
use Rattle.lattice.proofs.Searching.{takes-append}
use Rattle.net.specs.Driving.{Driving, before, shown_load, added_delay, delay_by}
use Rattle.place.specs.Held.{free, GatheredFrom}
use Rattle.place.proofs.After.{after-skip}
use Rattle.free.specs.Searching.{arrives, SkipsTo, free_load, priced_from}

module _ (net : Driving) (lower upper : List ℕ) where
  -- where a load at a node arrives: at the node itself, but through a held wire
  pub arrives-none : (ups : List ℕ) (r : ℕ) → r ≡ 0 → 0 ≡ before (arrives net lower upper ups) r
  unfolding before
  arrives-none ups zero e = refl
  arrives-none ups (suc a) e = absurd (omega arith)

  pub arrives-free : (ups : List ℕ) (r : ℕ) → (r ≡ 0 → ⊥) → at lower (r - 1) < at upper (r - 1) → r ≡ before (arrives net lower upper ups) r
  unfolding before
  arrives-free ups zero n h = absurd (n refl)
  arrives-free ups (suc a) n h = let e : suc a - 1 ≡ a = omega arith in rw (lt-ltb (at lower a) (at upper a) (rw e at h))

  pub arrives-driver : (ups : List ℕ) (r : ℕ) → (r ≡ 0 → ⊥) → net.driver (r - 1) ≡ true → r ≡ before (arrives net lower upper ups) r
  unfolding before
  arrives-driver ups zero n h = absurd (n refl)
  arrives-driver ups (suc a) n h = let e : suc a - 1 ≡ a = omega arith in rw (rw e at h) (go (free lower upper a))
    where
      go : (b : Bool) → suc a ≡ cond b (suc a) (suc a)
      go true = refl
      go false = refl

  pub arrives-through : (ups : List ℕ) (r : ℕ) → (r ≡ 0 → ⊥) → net.driver (r - 1) ≡ false → at upper (r - 1) ≤ at lower (r - 1) → at ups (r - 1) ≡ before (arrives net lower upper ups) r
  unfolding before
  arrives-through ups zero n d h = absurd (n refl)
  arrives-through ups (suc a) n d h =
      let e : suc a - 1 ≡ a = omega arith in
      rw (e, le-ltb (at lower a) (at upper a) (rw e at h), rw e at d)

  -- it reads the node at which the load of the place itself arrives
  pub arrives-reads : (t u : List ℕ) (a : ℕ) → at t a ≡ at u a → arrives net lower upper t a ≡ arrives net lower upper u a
  arrives-reads t u a e = ap (λ (w : ℕ). cond (free lower upper a) (suc a) (cond (net.driver a) (suc a) w)) e

module _ (lower upper : List ℕ) where
  -- how many places there are up to the last free one
  pub skips-none : (skips : List ℕ) → at skips 0 ≡ 0 → SkipsTo lower upper 0 skips
  skips-none skips e = record { none = e; held = λ q l. absurd (omega arith) }

  pub skips-step : (skips : List ℕ) (p v : ℕ) → p + 1 < length skips → SkipsTo lower upper p skips → v ≡ cond (free lower upper p) (p + 1) (at skips p)
      → SkipsTo lower upper (p + 1) (set skips (p + 1) v)
  skips-step skips p v h s e =
      record {
        none = get_or-set_other skips (p + 1) 0 v 0 (λ k. omega arith) ∙ s.none;
        held = λ q l. here q (eq-or-lt_of_le (le_of_suc-le-suc (omega arith)));
      }
    where
      here : (q : ℕ) → (q ≡ p) ⊎ (q < p) → at (set skips (p + 1) v) (suc q) ≡ cond (free lower upper q) (suc q) (at (set skips (p + 1) v) q)
      here q (inl f) =
          let g : suc q ≡ p + 1 = omega arith in
          rw (g, f, get_or-set_same skips (p + 1) v 0 h, get_or-set_other skips (p + 1) p v 0 (λ k. omega arith)) e
      here q (inr f) =
          get_or-set_other skips (p + 1) (suc q) v 0 (λ k. omega arith)
          ∙ s.held q f
          ∙ ap (λ (w : ℕ). cond (free lower upper q) (suc q) w) (sym (get_or-set_other skips (p + 1) q v 0 (λ k. omega arith)))

  module _ (n : ℕ) (skips : List ℕ) (s : SkipsTo lower upper n skips) where
    pub skip-le : (l : ℕ) → l ≤ n → at skips l ≤ l
    skip-le zero h = omega (arith, s.none)
    skip-le (suc l) h = let r = skip-le l (omega arith) in rw (s.held l h) (go (free lower upper l) (skip-le l (omega arith)))
      where
        go : (b : Bool) → at skips l ≤ l → cond b (suc l) (at skips l) ≤ suc l
        go true m = omega arith
        go false m = omega arith

    -- what is skipped is held
    pub skip-held : (l : ℕ) → l ≤ n → (q : ℕ) → at skips l ≤ q → q < l → free lower upper q ≡ false
    skip-held zero h q a b = absurd (omega arith)
    skip-held (suc l) h q a b = go (free lower upper l) refl (rw (s.held l h) at a) (λ c d. skip-held l (omega arith) q c d)
      where
        go : (t : Bool) → free lower upper l ≡ t → cond t (suc l) (at skips l) ≤ q → (at skips l ≤ q → q < l → free lower upper q ≡ false) → free lower upper q ≡ false
        go true e c rest = absurd (omega arith)
        go false e c rest = here (eq-or-lt_of_le (le_of_suc-le-suc b))
          where
            here : (q ≡ l) ⊎ (q < l) → free lower upper q ≡ false
            here (inl f) = rw f e
            here (inr f) = rest c f

    -- what is not skipped is free
    pub skip-free : (l : ℕ) → l ≤ n → (at skips l ≡ 0 → ⊥) → free lower upper (at skips l - 1) ≡ true
    skip-free zero h m = absurd (m s.none)
    skip-free (suc l) h m = go (free lower upper l) refl (λ k. skip-free l (omega arith) k)
      where
        go : (t : Bool) → free lower upper l ≡ t → ((at skips l ≡ 0 → ⊥) → free lower upper (at skips l - 1) ≡ true) → free lower upper (at skips (suc l) - 1) ≡ true
        go true e rest = let f : at skips (suc l) ≡ suc l = s.held l h ∙ rw e in let g : suc l - 1 ≡ l = omega arith in rw (f, g) e
        go false e rest = let f : at skips (suc l) ≡ at skips l = s.held l h ∙ rw e in rw f (rest (λ k. m (f ∙ k)))

-- one index fewer is left
pub next-index : (D : List ℕ → ℕ) (g : ℕ → List (List ℕ)) (top k : ℕ) (f : Found) → k ≤ top
    → takes D (flat_map g (from k (suc top - k))) f ≡ takes D (flat_map g (from (k + 1) (suc top - (k + 1)))) (takes D (g k) f)
unfolding from flat_map
next-index D g top k f h =
    let e : suc top - k ≡ suc (suc top - (k + 1)) = omega arith in
    rw (e, add-one k) (takes-append D 0 (g k) _ f)

pub no_index : (D : List ℕ → ℕ) (g : ℕ → List (List ℕ)) (top k : ℕ) (f : Found) → top < k → takes D (flat_map g (from k (suc top - k))) f ≡ f
unfolding from flat_map takes
no_index D g top k f h = let e : suc top - k ≡ 0 = omega arith in rw e

-- places with one index, which x has, need not be gone through
pub cover-skip : (D : List ℕ → ℕ) (lower upper : List ℕ) (l p : ℕ) → l ≤ p → (x : List ℕ) (f : Found)
    → ((q : ℕ) → l ≤ q → q < p → (at lower q ≡ at upper q) × (at x q ≡ at lower q)) → takes D (cover lower upper p x) f ≡ takes D (cover lower upper l x) f
unfolding cover span
cover-skip D lower upper l zero h x f held = let e : l ≡ 0 = omega arith in rw e
cover-skip D lower upper l (suc p) h x f held = go (eq-or-lt_of_le h) (λ m. cover-skip D lower upper l p m x f (λ q a b. held q a (omega arith)))
  where
    go : (l ≡ suc p) ⊎ (l < suc p) → (l ≤ p → takes D (cover lower upper p x) f ≡ takes D (cover lower upper l x) f)
        → takes D (flat_map (λ k. cover lower upper p (set x p k)) (from (at lower p) (suc (at upper p) - at lower p))) f ≡ takes D (cover lower upper l x) f
    go (inl e) rest = rw e
    go (inr m) rest =
        let g : ℕ → List (List ℕ) = λ k. cover lower upper p (set x p k) in
        let a = held p (le_of_suc-le-suc m) (omega arith) in
        next-index D g (at upper p) (at lower p) f (omega (arith, a.0))
        ∙ no_index D g (at upper p) (at lower p + 1) _ (omega (arith, a.0))
        ∙ ap (λ (y : List ℕ). takes D (cover lower upper p y) f) (ap (λ (k : ℕ). set x p k) (sym a.1) ∙ set-get_or x p 0)
        ∙ rest (le_of_suc-le-suc m)

-- a held place has one index
pub one_index : (lower upper : List ℕ) (q : ℕ) → at lower q ≤ at upper q → free lower upper q ≡ false → at lower q ≡ at upper q
one_index lower upper q h t = omega (arith, ltb-false (at lower q) (at upper q) t)

-- The places that are skipped before p: they add nothing, show nothing, and leave one sizing.
module _ (net : Driving) (lower upper skips : List ℕ) (s : SkipsTo lower upper net.places skips) (p : ℕ) (h : p ≤ net.places) (y : List ℕ) where
  pub priced-skip : (upstream : List ℕ) → priced_from net lower upper upstream y (at skips p) ≡ priced_from net lower upper upstream y p
  priced-skip upstream =
      after-skip net.places (λ q. cond (free lower upper q) (added_delay net y q + at upstream q * shown_load net y q) 0) (at skips p) p
      (skip-le lower upper net.places skips s p h) (λ q a b m. rw (skip-held lower upper net.places skips s p h q a b))

  pub gathers-skip : (ups gathered : List ℕ) → GatheredFrom net.places (at ups) (free_load net lower upper y) p gathered
      → GatheredFrom net.places (at ups) (free_load net lower upper y) (at skips p) gathered
  gathers-skip ups gathered g =
      record {
        long = g.long;
        held = λ r m. g.held r m
            ∙ sym (after-skip net.places (λ q. cond (eqb (at ups q) r) (free_load net lower upper y q) 0) (at skips p) p (skip-le lower upper net.places skips s p h)
            (λ q a b n. rw (skip-held lower upper net.places skips s p h q a b) (none (eqb (at ups q) r))));
      }
    where
      none : (b : Bool) → ◌≡◌ {A = ℕ} (cond b 0 0) 0
      none true = refl
      none false = refl

  pub takes_skip : ((q : ℕ) → q < net.places → at lower q ≤ at upper q) → ((q : ℕ) → q < net.places → free lower upper q ≡ false → at y q ≡ at lower q) → (f : Found)
      → takes (delay_by net) (cover lower upper p y) f ≡ takes (delay_by net) (cover lower upper (at skips p) y) f
  takes_skip order held f =
      cover-skip (delay_by net) lower upper (at skips p) p (skip-le lower upper net.places skips s p h) y f
      (λ q a b. let t = skip-held lower upper net.places skips s p h q a b in (one_index lower upper q (order q (omega arith)) t, held q (omega arith) t))
