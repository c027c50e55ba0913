-- What the places drive, from the last to the first: one place more, and that it is small.
use mathlib.Core.Path.{◌≡◌, sym, ap, ◌∙◌}
use mathlib.Core.Logic.{◌⊎◌, inl, inr}
use mathlib.Core.Bool.{false, cond, false≢true}
use mathlib.Core.List.{List}
use Prim.Native.Nat.{ℕ, suc, ◌+◌, ◌-◌, ◌≤◌, ◌<◌}
use native.Mathlib.Nat.{eq-or-lt_of_le, mul-le-mul_right}
use native.Mathlib.Omega.{arith}
use borrow.Author.Tests.{lt-ltb, le-ltb}
use lib.ListN.{length, set, length-set}
use lib.Seq.{get_or-set_same, get_or-set_other}
use Rattle.lattice.specs.Lists.{at}
use Rattle.lattice.specs.Space.{Allowed}
use Rattle.net.specs.Driving.{Driving, allowed_by, load_at, behind, driven_load, shown_load, Placed, InLimits}
use Rattle.net.proofs.InOrder.{allowed-by}
use Rattle.net.proofs.Driving.{behind-same, driven-behind}
use Rattle.net.proofs.Held.{behind-le, less-from, less-all}
use Rattle.place.specs.Held.{free, held_load, DrivenFrom, GatheredFrom}
use Rattle.place.proofs.Gathering.{gathered-all, gathered-small, gathering-start, gathering-skip, gathering-step}

-- What the loop knows when the places from p on are done.
pub record Driven (net : Driving) (lower upper : List ℕ) (p : ℕ) (driven gathered : List ℕ) : Type 0 where
  pub drives : DrivenFrom net lower upper p driven
  pub gathers : GatheredFrom net.places net.hangs_at (held_load net lower upper driven) p gathered

module _ (net : Driving) (o : Placed net) (l : InLimits net) (lower upper : List ℕ) (low : Allowed (allowed_by net) lower) where
  -- what is held shows no more than the sizing `lower`
  held-less : (driven : List ℕ) (p : ℕ) → DrivenFrom net lower upper p driven → (q : ℕ) → p ≤ q → q < net.places → held_load net lower upper driven q ≤ shown_load net lower q
  held-less driven p i q h m =
      less-from net o.falls (free lower upper) (at lower) (shown_load net lower) (held_load net lower upper driven) p
      (λ r n k t. ap (load_at net r (at lower r)) (driven-behind net o.falls lower r k))
      (λ r n k t. rw t (ap (load_at net r (at lower r)) (i.held r n k)))
      (λ r n k t. rw t (omega arith))
      (net.places - p) p (omega arith) (omega arith) q h m

  -- what a place drives is small
  pub driven-most : (driven : List ℕ) (p : ℕ) → DrivenFrom net lower upper p driven → (q : ℕ) → p ≤ q → q < net.places → at driven q ≤ 13700000
  driven-most driven p i q n h =
      omega (
        arith,
        i.held q n h,
        behind-le net o.falls (held_load net lower upper driven) (shown_load net lower) q (λ r m k. held-less driven p i r (omega arith) k),
        driven-behind net o.falls lower q h,
        l.drives lower low q h,
      )

  pub driving-start : (driven gathered : List ℕ) → net.places ≤ length driven → net.places < length gathered → ((r : ℕ) → r ≤ net.places → at gathered r ≡ 0) → Driven net lower upper net.places driven gathered
  driving-start driven gathered h k z =
      record {
        drives = record { long = h; held = λ q m n. absurd (omega arith) };
        gathers = gathering-start net.places net.hangs_at _ gathered k z;
      }

  module _ (p : ℕ) (few : p < net.places) (driven gathered : List ℕ) (i : Driven net lower upper (suc p) driven gathered) where
    here : at gathered (suc p) ≡ behind net (held_load net lower upper driven) p
    unfolding behind
    here =
        i.gathers.held (suc p) (omega arith)
        ∙ sym (gathered-all net.places net.hangs_at (held_load net lower upper driven) (suc p) (suc p) (λ q h m e. omega (arith, o.falls q m)))

    pub drives-small : net.sink p + at gathered (suc p) ≤ 13700000
    drives-small =
        omega (
          arith,
          here,
          behind-le net o.falls (held_load net lower upper driven) (shown_load net lower) p (λ q h m. held-less driven (suc p) i.drives q h m),
          driven-behind net o.falls lower p few,
          l.drives lower low p few,
        )

    pub gathers-small : (r : ℕ) → r ≤ net.places → at gathered r ≤ 1048800000
    gathers-small r h =
        omega (
          arith,
          i.gathers.held r h,
          gathered-small net.places net.hangs_at (held_load net lower upper driven) (suc p) r 13800000
              (λ q m k. omega (arith, held-less driven (suc p) i.drives q m k, l.shows q (at lower q) (driven_load net lower q) k (((allowed-by net lower).0 low).high q k) (l.drives lower low q k))),
          mul-le-mul_right 13800000 l.few,
        )

    module _ (v : ℕ) (e : v ≡ net.sink p + at gathered (suc p)) where
      loads-after : (q : ℕ) → p < q → q < net.places → held_load net lower upper driven q ≡ held_load net lower upper (set driven p v) q
      loads-after q h m = ap (λ (w : ℕ). cond (free lower upper q) 0 (load_at net q (at lower q) w)) (sym (get_or-set_other driven p q v 0 (λ k. omega arith)))

      pub load_here : at (set driven p v) p ≡ v
      load_here = get_or-set_same driven p v 0 (omega (arith, i.drives.long))

      pub drives-more : DrivenFrom net lower upper p (set driven p v)
      drives-more =
          record {
            long = rw (length-set driven p v) i.drives.long;
            held = λ q h m. place q m (eq-or-lt_of_le h);
          }
        where
          place : (q : ℕ) → q < net.places → (p ≡ q) ⊎ (p < q) → at (set driven p v) q ≡ net.sink q + behind net (held_load net lower upper (set driven p v)) q
          place q m (inl f) =
              rw (← f) (load_here ∙ e ∙ ap (λ (w : ℕ). net.sink p + w) (here ∙ behind-same net o.falls _ _ p loads-after))
          place q m (inr f) =
              get_or-set_other driven p q v 0 (λ k. omega arith)
              ∙ i.drives.held q f m
              ∙ ap (λ (w : ℕ). net.sink q + w) (behind-same net o.falls _ _ q (λ r n k. loads-after r (omega arith) k))

      -- a free place shows nothing
      pub driving-free : at lower p < at upper p → Driven net lower upper p (set driven p v) gathered
      driving-free h =
          record {
            drives = drives-more;
            gathers = gathering-skip net.places net.hangs_at _ _ p gathered few loads-after i.gathers (rw (lt-ltb (at lower p) (at upper p) h));
          }

      -- a held place shows its load where it hangs
      pub driving-held : (s u : ℕ) → at upper p ≤ at lower p → s ≡ load_at net p (at lower p) v → u ≡ at gathered (net.hangs_at p) + s → Driven net lower upper p (set driven p v) (set gathered (net.hangs_at p) u)
      driving-held s u h f g =
          record {
            drives = drives-more;
            gathers = gathering-step net.places net.hangs_at _ _ p gathered few loads-after i.gathers u (omega (arith, o.falls p few))
                (g ∙ ap (λ (w : ℕ). at gathered (net.hangs_at p) + w) (f ∙ rw (le-ltb (at lower p) (at upper p) h, load_here)));
          }

-- Where no place is free, the places drive what they drive in the sizing.
module _ (net : Driving) (o : Placed net) (x driven : List ℕ) (i : DrivenFrom net x x 0 driven) where
  all_held : (q : ℕ) → free x x q ≡ false
  all_held q = le-ltb (at x q) (at x q) (omega arith)

  shows : (q : ℕ) → q < net.places → held_load net x x driven q ≡ load_at net q (at x q) (net.sink q + behind net (held_load net x x driven) q)
  shows q h = rw (all_held q) (ap (load_at net q (at x q)) (i.held q (omega arith) h))

  places-show : (q : ℕ) → q < net.places → shown_load net x q ≡ load_at net q (at x q) (net.sink q + behind net (shown_load net x) q)
  places-show q h = ap (load_at net q (at x q)) (driven-behind net o.falls x q h)

  loads-same : (q : ℕ) → q < net.places → held_load net x x driven q ≡ shown_load net x q
  loads-same q h =
      omega (
        arith,
        less-all net o.falls (free x x) (at x) (shown_load net x) (held_load net x x driven) (λ r m t. places-show r m) (λ r m t. shows r m) (λ r m t. absurd (false≢true (sym (all_held r) ∙ t))) q h,
        less-all net o.falls (free x x) (at x) (held_load net x x driven) (shown_load net x) (λ r m t. shows r m) (λ r m t. places-show r m) (λ r m t. absurd (false≢true (sym (all_held r) ∙ t))) q h,
      )

  pub driven-all : (q : ℕ) → q < net.places → at driven q ≡ driven_load net x q
  driven-all q h =
      i.held q (omega arith) h
      ∙ ap (λ (v : ℕ). net.sink q + v) (behind-same net o.falls _ _ q (λ r l m. loads-same r m))
      ∙ sym (driven-behind net o.falls x q h)
