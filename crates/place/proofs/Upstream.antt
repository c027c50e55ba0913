-- The weighted resistances upstream, place after place: what each is by those before it, and that it is small.
use mathlib.Core.Path.{◌≡◌, refl, sym, ap, ◌∙◌}
use mathlib.Core.Logic.{◌⊎◌, inl, inr}
use mathlib.Core.Bool.{Bool, true, false, cond}
use mathlib.Core.List.{List}
use Prim.Native.Nat.{ℕ, zero, suc, ◌+◌, ◌*◌, ◌-◌, ◌≤◌, ◌<◌}
use native.Mathlib.Nat.{eq-or-lt_of_le, le_of_suc-le-suc}
use native.Mathlib.Omega.{arith}
use borrow.Author.Tests.{le-ltb}
use lib.Dec.{ltb}
use lib.ListN.{length, set, length-set}
use lib.Seq.{get_or-set_same, get_or-set_other}
use Rattle.lattice.specs.Lists.{at}
use Rattle.lattice.specs.Space.{Allowed}
use Rattle.net.specs.Driving.{Driving, allowed_by, slope, before, Placed, InLimits}
use Rattle.net.proofs.InOrder.{allowed-by}
use Rattle.net.proofs.Held.{before_same}
use Rattle.place.specs.Held.{BeforeTo, onward, UpstreamTo}

pub before-none : (f : ℕ → ℕ) (r : ℕ) → r ≡ 0 → 0 ≡ before f r
unfolding before
before-none f zero e = refl
before-none f (suc p) e = absurd (omega arith)

pub before-some : (f : ℕ → ℕ) (r : ℕ) → (r ≡ 0 → ⊥) → f (r - 1) ≡ before f r
unfolding before
before-some f zero n = absurd (n refl)
before-some f (suc p) n = let e : suc p - 1 ≡ p = omega arith in ap f e

-- By cases: a free place, a driver, a wire.
module _ (net : Driving) (lower upper upstream : List ℕ) (a : ℕ) where
  pub onward-driver : at upper a ≤ at lower a → net.driver a ≡ true → slope net a (at lower a) ≡ onward net lower upper upstream a
  onward-driver h e = rw (le-ltb (at lower a) (at upper a) h, e) (omega arith)

  pub onward-wire : at upper a ≤ at lower a → net.driver a ≡ false → slope net a (at lower a) + at upstream a ≡ onward net lower upper upstream a
  onward-wire h e = rw (le-ltb (at lower a) (at upper a) h, e)

module _ (net : Driving) (o : Placed net) (l : InLimits net) (lower upper : List ℕ) (low : Allowed (allowed_by net) lower) where
  slope-most : (a : ℕ) → a < net.places → slope net a (at lower a) ≤ 6528000000
  slope-most a h = l.slopes a (at lower a) h (((allowed-by net lower).0 low).high a h)

  module _ (upstream : List ℕ) where
    onward-most : (a : ℕ) → a < net.places → at upstream a ≤ a * 6528000000 → onward net lower upper upstream a ≤ suc a * 6528000000
    onward-most a h m = let s = slope-most a h in go (ltb (at lower a) (at upper a)) (net.driver a)
      where
        go : (b t : Bool) → cond b 0 (slope net a (at lower a) + cond t 0 (at upstream a)) ≤ suc a * 6528000000
        go true t = omega arith
        go false true = omega (arith, slope-most a h)
        go false false = omega (arith, slope-most a h)

    module _ (p : ℕ) (u : UpstreamTo net lower upper p upstream) where
      most-to : (d q : ℕ) → q < d → q < p → q < net.places → at upstream q ≤ q * 6528000000
      unfolding before
      most-to zero q h k m = absurd (omega arith)
      most-to (suc d) q h k m = rw (u.held q k m) (go (net.hangs_at q) (o.falls q m) (λ a n. onward-most a (omega arith) (most-to d a (omega arith) (omega arith) (omega arith))))
        where
          go : (r : ℕ) → r ≤ q → ((a : ℕ) → a < q → onward net lower upper upstream a ≤ suc a * 6528000000) → before (onward net lower upper upstream) r ≤ q * 6528000000
          go zero n rest = omega arith
          go (suc a) n rest = omega (arith, rest a n)

      pub upstream-most : (q : ℕ) → q < p → q < net.places → at upstream q ≤ q * 6528000000
      upstream-most q h m = most-to (suc q) q (omega arith) h m

-- A table by the places before: one place more.
pub before-start : (net : Driving) (f : List ℕ → ℕ → ℕ) (table : List ℕ) → net.places ≤ length table → BeforeTo net f 0 table
before-start net f table h = record { long = h; held = λ q l m. absurd (omega arith) }

pub before-step : (net : Driving) → Placed net → (f : List ℕ → ℕ → ℕ) → ((t u : List ℕ) (a : ℕ) → at t a ≡ at u a → f t a ≡ f u a) → (table : List ℕ) (p v : ℕ) → p < net.places
    → BeforeTo net f p table → v ≡ before (f table) (net.hangs_at p) → BeforeTo net f (p + 1) (set table p v)
before-step net o f reads table p v h u e =
    record {
      long = rw (length-set table p v) u.long;
      held = λ q l m. here q m (eq-or-lt_of_le (le_of_suc-le-suc (omega arith)));
    }
  where
    -- what stands before q is as it was
    same : (q : ℕ) → q < net.places → q ≤ p → before (f table) (net.hangs_at q) ≡ before (f (set table p v)) (net.hangs_at q)
    same q m n =
        before_same _ _ (net.hangs_at q)
        (λ a g. let k = o.falls q m in reads table (set table p v) a (sym (get_or-set_other table p a v 0 (λ d. omega arith))))

    here : (q : ℕ) → q < net.places → (q ≡ p) ⊎ (q < p) → at (set table p v) q ≡ before (f (set table p v)) (net.hangs_at q)
    here q m (inl g) = rw g (get_or-set_same table p v 0 (omega (arith, u.long)) ∙ e ∙ same p h (omega arith))
    here q m (inr g) = get_or-set_other table p q v 0 (λ k. omega arith) ∙ u.held q g m ∙ same q m (omega arith)

-- the resistance onward from a place reads what is upstream of it
pub onward-reads : (net : Driving) (lower upper t u : List ℕ) (a : ℕ) → at t a ≡ at u a → onward net lower upper t a ≡ onward net lower upper u a
onward-reads net lower upper t u a e = ap (λ (w : ℕ). cond (ltb (at lower a) (at upper a)) 0 (slope net a (at lower a) + cond (net.driver a) 0 w)) e

-- Where no place is free, what is upstream of a place reads the indices of the places before it.
pub upstream-reads : (net : Driving) → Placed net → (x y upstream : List ℕ) (n : ℕ) → ((a : ℕ) → suc a < n → at x a ≡ at y a) → UpstreamTo net x x n upstream → UpstreamTo net y y n upstream
upstream-reads net o x y upstream n same u =
    record {
      long = u.long;
      held = λ q l m.
          let f = o.falls q m in
          u.held q l m
          ∙ before_same _ _ (net.hangs_at q) (λ a e. ap (λ (v : ℕ). cond (ltb v v) 0 (slope net a v + cond (net.driver a) 0 (at upstream a))) (same a (omega arith)));
    }
