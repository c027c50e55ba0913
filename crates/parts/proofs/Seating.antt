-- The seats of the repeaters: how they are written, one after the other, and what a segment's seat says.
use mathlib.Core.Path.{◌≡◌, refl, sym, ap, ◌∙◌}
use mathlib.Core.Logic.{◌⊎◌, inl, inr}
use mathlib.Core.Bool.{Bool, true, false}
use mathlib.Core.List.{List}
use Prim.Native.Nat.{ℕ, ◌+◌, ◌≤◌, ◌<◌}
use native.Mathlib.Nat.{eq-or-lt_of_le}
use native.Mathlib.Omega.{arith}
use borrow.Author.Tests.{eqb-true, eqb-false}
use lib.Dec.{eqb}
use lib.ListN.{set, replicate, length-set, length-replicate, get_or-replicate}
use lib.Seq.{get_or-set_same, get_or-set_other}
use Rattle.std.specs.Prelude.{Option, Some, None, get_or}
use Rattle.net.specs.Net.{Net}
use Rattle.net.specs.Delay.{repeated}
use Rattle.net.specs.Checked.{Ordered}
use Rattle.net.proofs.Order.{repeated-one}
use Rattle.parts.specs.Seats.{SeatedTo, Seated}

module _ (net : Net) where
  -- at first none has a seat
  pub seated-start : net.segments ≤ 64 → SeatedTo net 0 (replicate 64 None)
  seated-start l =
      record {
        long = omega (arith, length-replicate {A = Option ℕ} 64 None);
        there = λ r h. absurd (omega arith);
        only = λ i r h e. let f = get_or-replicate {A = Option ℕ} 64 i None None (omega arith) in absurd (cc);
      }

  -- repeater r takes its seat at its segment, which no other has
  pub seated-step : Ordered net → (seats : List (Option ℕ)) (r q : ℕ) → r < net.repeaters → q ≡ net.site r → SeatedTo net r seats
      → SeatedTo net (r + 1) (set seats q (Some r))
  seated-step o seats r q h g s =
      record {
        long = rw (length-set seats q (Some r)) s.long;
        there = λ k l. kept k (eq-or-lt_of_le (omega arith));
        only = λ i k l. alone i k l (eqb i q) refl;
      }
    where
      here : get_or (set seats q (Some r)) q None ≡ Some r
      here = get_or-set_same seats q (Some r) None (omega (arith, o.sites r h, s.long))

      kept : (k : ℕ) → (k ≡ r) ⊎ (k < r) → get_or (set seats q (Some r)) (net.site k) None ≡ Some k
      kept k (inl e) = rw (e, ← g) here
      kept k (inr l) = get_or-set_other seats q (net.site k) (Some r) None (λ e. omega (arith, o.rising k r l h)) ∙ s.there k l

      alone : (i k : ℕ) → i < net.segments → (b : Bool) → eqb i q ≡ b → get_or (set seats q (Some r)) i None ≡ Some k
          → (k < net.repeaters) × (net.site k ≡ i)
      alone i k l true e = rw (eqb-true i q e) (λ m. let f : k ≡ r = cc here in (omega arith, ap net.site f ∙ sym g))
      alone i k l false e = rw (get_or-set_other seats q i (Some r) None (eqb-false i q e)) (s.only i k l)

  -- where no repeater has its seat, none sits
  pub seat-none : {seats : List (Option ℕ)} → Seated net seats → (i : ℕ) → get_or seats i None ≡ None → repeated net i ≡ false
  seat-none {seats} s i h = go (repeated net i) refl
    where
      go : (b : Bool) → repeated net i ≡ b → b ≡ false
      go false e = refl
      go true e =
          let k = repeated-one net i e in
          let t : get_or seats i None ≡ Some k.0 = rw k.2 at (s.there k.0 k.1) in
          absurd (cc t)
