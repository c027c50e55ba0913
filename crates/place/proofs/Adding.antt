-- What the places drive and what the held ones add to the delay, from the last place to the first: one place more.
use mathlib.Core.Path.{◌≡◌, sym, ap, ◌∙◌}
use mathlib.Core.Bool.{cond}
use mathlib.Core.List.{List}
use Prim.Native.Nat.{ℕ, suc, ◌+◌, ◌*◌, ◌≤◌, ◌<◌}
use native.Mathlib.Omega.{arith}
use lib.ListN.{length, set}
use lib.Seq.{get_or-set_other}
use Rattle.lattice.specs.Lists.{at}
use Rattle.lattice.specs.Space.{Allowed}
use Rattle.net.specs.Driving.{Driving, allowed_by, load_at, delay_at, Placed, InLimits}
use Rattle.place.specs.Held.{free, fixed_from}
use Rattle.place.proofs.After.{after_same}
use Rattle.place.proofs.Driving.{Driven, driving-start, drives-more, load_here, driving-free, driving-held}
use Rattle.place.proofs.Fixed.{fixed-fits, fixed-none, fixed-step, fixed-skip}

-- What the loop knows when the places from p on are done.
pub record Added (net : Driving) (lower upper : List ℕ) (p : ℕ) (driven gathered : List ℕ) (sum : ℕ) : Type 0 where
  pub driving : Driven net lower upper p driven gathered
  pub adds : sum ≡ fixed_from net lower upper driven p

module _ (net : Driving) (o : Placed net) (l : InLimits net) (lower upper : List ℕ) (low : Allowed (allowed_by net) lower) where
  pub added-start : (driven gathered : List ℕ) → net.places ≤ length driven → net.places < length gathered → ((r : ℕ) → r ≤ net.places → at gathered r ≡ 0)
      → Added net lower upper net.places driven gathered 0
  added-start driven gathered h k z =
      record {
        driving = driving-start net o l lower upper low driven gathered h k z;
        adds = sym (fixed-none net o l lower upper driven);
      }

  module _ (p : ℕ) (few : p < net.places) (driven gathered : List ℕ) (sum : ℕ) (i : Added net lower upper (suc p) driven gathered sum) (v : ℕ) (e : v ≡ net.sink p + at gathered (suc p)) where
    -- the places after p add what they added, whatever p drives
    same : fixed_from net lower upper driven (suc p) ≡ fixed_from net lower upper (set driven p v) (suc p)
    same =
        after_same net.places _ _ (suc p)
        (λ q h m. ap (λ (w : ℕ). cond (free lower upper q) 0 (net.weight q * delay_at net q (at lower q) w)) (sym (get_or-set_other driven p q v 0 (λ k. omega arith))))

    -- a held place adds its delay
    abbrev pub own : ℕ
    own = net.weight p * delay_at net p (at lower p) v

    more : at upper p ≤ at lower p → sum + own ≡ fixed_from net lower upper (set driven p v) p
    more h =
        ap (λ (s : ℕ). s + net.weight p * delay_at net p (at lower p) v) (i.adds ∙ same)
        ∙ ap (λ (w : ℕ). fixed_from net lower upper (set driven p v) (suc p) + net.weight p * delay_at net p (at lower p) w) (sym (load_here net o l lower upper low p few driven gathered i.driving v e))
        ∙ sym (fixed-step net o l lower upper (set driven p v) p few h)

    pub added-fits : at upper p ≤ at lower p → sum + own ≤ 6821760000000000000
    added-fits h =
        omega (arith, more h, fixed-fits net o l lower upper (set driven p v) p low (drives-more net o l lower upper low p few driven gathered i.driving v e))

    pub added-held : (s u d : ℕ) → at upper p ≤ at lower p → s ≡ load_at net p (at lower p) v → u ≡ at gathered (net.hangs_at p) + s → d ≡ sum + own
        → Added net lower upper p (set driven p v) (set gathered (net.hangs_at p) u) d
    added-held s u d h f g k =
        record {
          driving = driving-held net o l lower upper low p few driven gathered i.driving v e s u h f g;
          adds = k ∙ more h;
        }

    -- a free place adds nothing, and shows nothing
    pub added-free : at lower p < at upper p → Added net lower upper p (set driven p v) gathered sum
    added-free h =
        record {
          driving = driving-free net o l lower upper low p few driven gathered i.driving v e h;
          adds = i.adds ∙ same ∙ sym (fixed-skip net o l lower upper (set driven p v) p few h);
        }
