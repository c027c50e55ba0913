-- What the held places add to the delay, from the last place to the first; where every place is held it is the delay.
use mathlib.Core.Path.{◌≡◌, ap, ◌∙◌, sym}
use mathlib.Core.Bool.{Bool, true, false, cond}
use mathlib.Core.List.{List}
use Prim.Native.Nat.{ℕ, suc, ◌+◌, ◌*◌, ◌≤◌, ◌<◌}
use native.Mathlib.Nat.{mul-le-mul_right}
use native.Mathlib.Omega.{arith}
use borrow.Author.Tests.{lt-ltb, le-ltb}
use Rattle.lattice.specs.Lists.{at}
use Rattle.lattice.specs.Space.{Allowed}
use Rattle.net.specs.Driving.{Driving, allowed_by, delay_at, added_delay, delay_by, Placed, InLimits}
use Rattle.net.proofs.InOrder.{allowed-by}
use Rattle.place.specs.Held.{free, fixed_from, DrivenFrom}
use Rattle.place.proofs.After.{after_none, after-step, after_small, after-whole, after_same}
use Rattle.place.proofs.Steps.{weighted-small}
use Rattle.place.proofs.Driving.{driven-most, driven-all}

-- What the held places add, from the last place to the first.
module _ (net : Driving) (o : Placed net) (l : InLimits net) (lower upper driven : List ℕ) where
  abbrev term : ℕ → ℕ
  term a = cond (free lower upper a) 0 (net.weight a * delay_at net a (at lower a) (at driven a))

  pub fixed-fits : (p : ℕ) → Allowed (allowed_by net) lower → DrivenFrom net lower upper p driven → fixed_from net lower upper driven p ≤ 6821760000000000000
  fixed-fits p low i =
      omega (
        arith,
        after_small net.places term p 89760000000000000 (λ q h m. go (free lower upper q) (weighted-small _ _ (l.weights q m) (l.delays q (at lower q) (at driven q) m (((allowed-by net lower).0 low).high q m) (driven-most net o l lower upper low driven p i q h m)))),
        mul-le-mul_right 89760000000000000 l.few,
      )
    where
      go : (b : Bool) {v : ℕ} → v ≤ 89760000000000000 → cond b 0 v ≤ 89760000000000000
      go true h = omega arith
      go false h = h

  pub fixed-none : fixed_from net lower upper driven net.places ≡ 0
  fixed-none = after_none net.places term

  -- a held place adds its delay, a free one nothing
  pub fixed-step : (p : ℕ) → p < net.places → at upper p ≤ at lower p
      → fixed_from net lower upper driven p ≡ fixed_from net lower upper driven (suc p) + net.weight p * delay_at net p (at lower p) (at driven p)
  fixed-step p h m = after-step net.places term p h ∙ ap (λ (v : ℕ). fixed_from net lower upper driven (suc p) + v) (rw (le-ltb (at lower p) (at upper p) m))

  pub fixed-skip : (p : ℕ) → p < net.places → at lower p < at upper p → fixed_from net lower upper driven p ≡ fixed_from net lower upper driven (suc p)
  fixed-skip p h m = after-step net.places term p h ∙ (rw (lt-ltb (at lower p) (at upper p) m) (omega arith))

-- a sizing of one index at each place
pub fixed-whole : (net : Driving) (o : Placed net) (x driven : List ℕ) → DrivenFrom net x x 0 driven → fixed_from net x x driven 0 ≡ delay_by net x
unfolding delay_by
fixed-whole net o x driven i =
    after_same net.places _ (added_delay net x) 0 (λ q l h. rw (le-ltb (at x q) (at x q) (omega arith), driven-all net o x driven i q h))
    ∙ sym (after-whole net.places (added_delay net x) 0 (λ q l h. absurd (omega arith)))
