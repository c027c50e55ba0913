-- The driving order is a numbering of the places, and each place stands after the one that it hangs at. Assumes that repeaters sit at segments and are
-- numbered by them.
use mathlib.Core.Path.{◌≡◌, sym, ap, ◌∙◌}
use mathlib.Core.Logic.{◌⊎◌, inl, inr}
use mathlib.Core.Bool.{Bool, true, false, cond}
use Prim.Native.Nat.{ℕ, zero, suc, ◌+◌, ◌≤◌, ◌<◌, min}
use native.Mathlib.Nat.{eq-or-lt_of_le, le_of_suc-le-suc}
use native.Mathlib.Decide.{dec_le}
use native.Mathlib.Omega.{arith}
use borrow.Author.Tests.{lt-ltb, le-ltb}
use lib.Dec.{T, eqb, ltb, eqb→eq}
use Rattle.lattice.specs.Lists.{some, sum}
use Rattle.lattice.specs.Numbering.{Numbering}
use Rattle.lattice.proofs.ListLaws.{eq-T, some_at, at_some, sum-le}
use Rattle.lattice.proofs.Totals.{numbering-full}
use Rattle.lattice.proofs.Renumbering.{numbering-back}
use Rattle.net.specs.Job.{of_kind}
use Rattle.net.specs.Net.{Net, places}
use Rattle.net.specs.Delay.{repeated}
use Rattle.net.specs.Places.{by_kind}
use Rattle.net.specs.Order.{places_before, position, order, driving}
use Rattle.net.proofs.Sum.{eqb-iff, sum_same, sum-zero, sum-at, sum-bounded}
use Rattle.net.proofs.Places.{is-stage, is-segment, is-repeater, kinds}

-- how many of 0 .. m - 1 are below r
pub sum_below : (m r : ℕ) → sum m (λ k. cond (ltb k r) 1 0) ≡ min m r
unfolding sum
sum_below zero r = omega arith
sum_below (suc m) r = go (dec_le (suc m) r) (sum_below m r)
  where
    go : Dec (suc m ≤ r) → sum m (λ k. cond (ltb k r) 1 0) ≡ min m r → cond (ltb m r) 1 0 + sum m (λ k. cond (ltb k r) 1 0) ≡ min (suc m) r
    go (yes h) e = rw (lt-ltb m r h) (omega arith)
    go (no h) e = let l : r ≤ m = omega arith in rw (le-ltb m r l) (omega arith)

-- two tests that say the same
pub ltb_iff : (a b c d : ℕ) → (a < b → c < d) → (c < d → a < b) → ltb a b ≡ ltb c d
ltb_iff a b c d f g = go (dec_le (suc a) b) (dec_le (suc c) d)
  where
    go : Dec (suc a ≤ b) → Dec (suc c ≤ d) → ltb a b ≡ ltb c d
    go (yes h) k = rw (lt-ltb a b h, lt-ltb c d (f h))
    go (no h) (yes k) = absurd (h (g k))
    go (no h) (no k) =
        let l : b ≤ a = omega arith in
        let m : d ≤ c = omega arith in
        rw (le-ltb a b l, le-ltb c d m)

module _ (net : Net) where
  -- a repeater sits at the far end of a segment, or none does
  pub repeated-one : (i : ℕ) → repeated net i ≡ true → (r : ℕ) × (r < net.repeaters) × (net.site r ≡ i)
  unfolding repeated
  repeated-one i e =
      let t : T (some net.repeaters (λ r. eqb (net.site r) i)) = rw e tt in
      let s = some_at net.repeaters (λ r. eqb (net.site r) i) t in
      (s.0, s.1, eqb→eq (net.site s.0) i s.2)

  pub repeated-none : (i : ℕ) → repeated net i ≡ false → (r : ℕ) → r < net.repeaters → net.site r ≡ i → ⊥
  unfolding repeated
  repeated-none i e r h f = rw e at (at_some net.repeaters (λ k. eqb (net.site k) i) r h (eq-T (net.site r) i f))

  -- the places before the first segment are the stages
  pub before-first : places_before net 0 ≡ net.stages
  unfolding places_before
  before-first = let z = sum-zero net.repeaters (λ r. cond (ltb (net.site r) 0) 1 0) (λ r h. rw (le-ltb (net.site r) 0 (omega arith))) in omega arith

  pub before-stages : (q : ℕ) → net.stages ≤ places_before net q
  unfolding places_before
  before-stages q = omega arith

  before-most : (q : ℕ) → places_before net q ≤ net.stages + q + net.repeaters
  unfolding places_before
  before-most q = omega (arith, sum-bounded net.repeaters 1 (λ r. cond (ltb (net.site r) q) 1 0) (λ r h. go (ltb (net.site r) q)))
    where
      go : (b : Bool) → cond b 1 0 ≤ 1
      go true = omega arith
      go false = omega arith

  -- there are more before a later segment
  pub before-less : (a b : ℕ) → a < b → places_before net a < places_before net b
  unfolding places_before
  before-less a b h =
      let s = sum-le net.repeaters (λ r. cond (ltb (net.site r) b) 1 0) (λ r. cond (ltb (net.site r) a) 1 0) (λ r l. go (net.site r) (dec_le (suc (net.site r)) a)) in
      omega arith
    where
      go : (s : ℕ) → Dec (suc s ≤ a) → cond (ltb s a) 1 0 ≤ cond (ltb s b) 1 0
      go s (yes l) = let m : s < b = omega arith in rw (lt-ltb s a l, lt-ltb s b m) (omega arith)
      go s (no l) = let m : a ≤ s = omega arith in rw (le-ltb s a m) (omega arith)

  before-le : (a b : ℕ) → a ≤ b → places_before net a ≤ places_before net b
  before-le a b h = go (eq-or-lt_of_le h)
    where
      go : (a ≡ b) ⊎ (a < b) → places_before net a ≤ places_before net b
      go (inl e) = rw e (omega arith)
      go (inr l) = omega (arith, before-less a b l)

  pub before-only : (a b : ℕ) → places_before net a ≡ places_before net b → a ≡ b
  before-only a b e = go (dec_le (suc a) b) (dec_le (suc b) a)
    where
      go : Dec (suc a ≤ b) → Dec (suc b ≤ a) → a ≡ b
      go (yes h) c = absurd (omega (arith, before-less a b h))
      go (no h) (yes k) = absurd (omega (arith, before-less b a k))
      go (no h) (no k) = omega arith

  -- without a repeater the next segment stands next
  pub before-next : (i : ℕ) → repeated net i ≡ false → places_before net (suc i) ≡ suc (places_before net i)
  unfolding places_before
  before-next i e =
      let s = sum_same net.repeaters (λ r. cond (ltb (net.site r) (suc i)) 1 0) (λ r. cond (ltb (net.site r) i) 1 0)
      (λ r h. rw (ltb_iff (net.site r) (suc i) (net.site r) i (λ l. omega (arith, repeated-none i e r h)) (λ l. omega arith))) in
      omega arith

-- it is enough to look at neighbours
pub rising-steps : (n : ℕ) (site : ℕ → ℕ) → ((r : ℕ) → suc r < n → site r < site (suc r)) → (r s : ℕ) → r < s → s < n → site r < site s
rising-steps n site f r zero h l = absurd (omega arith)
rising-steps n site f r (suc s) h l = go (eq-or-lt_of_le (le_of_suc-le-suc h)) (λ k. rising-steps n site f r s k (omega arith))
  where
    go : (r ≡ s) ⊎ (r < s) → (r < s → site r < site s) → site r < site (suc s)
    go (inl e) rest = rw e (f s l)
    go (inr k) rest = omega (arith, rest k, f s l)

module _ (net : Net) (sites : (r : ℕ) → r < net.repeaters → net.site r < net.segments)
    (rising : (r s : ℕ) → r < s → s < net.repeaters → net.site r < net.site s) where
  sites-le : (r s : ℕ) → r ≤ s → s < net.repeaters → net.site r ≤ net.site s
  sites-le r s h l = go (eq-or-lt_of_le h)
    where
      go : (r ≡ s) ⊎ (r < s) → net.site r ≤ net.site s
      go (inl e) = rw e (omega arith)
      go (inr k) = omega (arith, rising r s k l)

  sites-before : (r s : ℕ) → s < net.repeaters → net.site s < net.site r → s < r
  sites-before r s h l = go (dec_le r s)
    where
      go : Dec (r ≤ s) → s < r
      go (yes k) = absurd (omega (arith, sites-le r s k h))
      go (no k) = omega arith

  sites-upto : (r s : ℕ) → s < net.repeaters → net.site s ≤ net.site r → s ≤ r
  sites-upto r s h l = go (dec_le (suc r) s)
    where
      go : Dec (suc r ≤ s) → s ≤ r
      go (yes k) = absurd (omega (arith, rising r s k h))
      go (no k) = omega arith

  pub sites-only : (r s : ℕ) → r < net.repeaters → s < net.repeaters → net.site r ≡ net.site s → r ≡ s
  sites-only r s h l e = omega (arith, sites-upto r s l (omega arith), sites-upto s r h (omega arith))

  -- before the segment of repeater r stand the r repeaters before it
  pub before-site : (r : ℕ) → r < net.repeaters → places_before net (net.site r) ≡ net.stages + net.site r + r
  unfolding places_before
  before-site r h =
      let a = sum_same net.repeaters (λ k. cond (ltb (net.site k) (net.site r)) 1 0) (λ k. cond (ltb k r) 1 0)
      (λ k l. rw (ltb_iff (net.site k) (net.site r) k r (sites-before r k l) (λ m. rising k r m h))) in
      let b = sum_below net.repeaters r in
      omega arith

  -- and behind it the repeater itself
  pub before-behind : (r : ℕ) → r < net.repeaters → places_before net (suc (net.site r)) ≡ suc (suc (places_before net (net.site r)))
  unfolding places_before
  before-behind r h =
      let a = sum_same net.repeaters (λ k. cond (ltb (net.site k) (suc (net.site r))) 1 0) (λ k. cond (ltb k (suc r)) 1 0)
      (λ k l. rw (ltb_iff (net.site k) (suc (net.site r)) k (suc r)
      (λ m. omega (arith, sites-upto r k l (omega arith))) (λ m. omega (arith, sites-le k r (omega arith) h)))) in
      let b = sum_below net.repeaters (suc r) in
      let c = before-site r h in
      omega arith

  -- no node and no segment stands between a segment and its repeater
  pub before-gap : (q r : ℕ) → r < net.repeaters → places_before net q ≡ suc (places_before net (net.site r)) → ⊥
  before-gap q r h e = go (dec_le (suc (net.site r)) q)
    where
      go : Dec (suc (net.site r) ≤ q) → ⊥
      go (yes l) = omega (arith, before-le net (suc (net.site r)) q l, before-behind r h)
      go (no l) = let m : q ≤ net.site r = omega arith in omega (arith, before-le net q (net.site r) m)

  -- the positions of the three kinds
  pub position-stage : (s : ℕ) → s < net.stages → position net s ≡ s
  unfolding of_kind
  position-stage s h = rw (is-stage net s h)

  pub position-segment : (i : ℕ) → i < net.segments → position net (net.stages + i) ≡ places_before net i
  unfolding of_kind
  position-segment i h = let k = is-segment net i h in rw (k.0, k.1, k.2)

  pub position-repeater : (r : ℕ) → position net (net.stages + net.segments + r) ≡ suc (places_before net (net.site r))
  unfolding of_kind
  position-repeater r = let k = is-repeater net r in rw (k.0, k.1, k.2)

  -- places have positions among them
  position-inside : (p : ℕ) → p < places net → position net p < places net
  position-inside =
      kinds net (λ p. position net p < places net) (λ s h. rw (position-stage s h) (omega arith)) (λ i h. rw (position-segment i h) (omega (arith, before-most net i)))
      (λ r h. rw (position-repeater r, before-site r h) (omega (arith, sites r h)))

  -- and no two the same
  position-only : (p : ℕ) → p < places net → (q : ℕ) → q < places net → position net p ≡ position net q → p ≡ q
  position-only =
      kinds net (λ p. (q : ℕ) → q < places net → position net p ≡ position net q → p ≡ q)
      (λ s h. kinds net (λ q. position net s ≡ position net q → s ≡ q)
      (λ z l e. omega (arith, position-stage s h, position-stage z l))
      (λ i l e. absurd (omega (arith, position-stage s h, position-segment i l, before-stages net i)))
      (λ r l e. absurd (omega (arith, position-stage s h, position-repeater r, before-stages net (net.site r)))))
      (λ i h. kinds net (λ q. position net (net.stages + i) ≡ position net q → net.stages + i ≡ q)
      (λ s l e. absurd (omega (arith, position-stage s l, position-segment i h, before-stages net i)))
      (λ j l e. omega (arith, before-only net i j (omega (arith, position-segment i h, position-segment j l))))
      (λ r l e. absurd (before-gap i r l (omega (arith, position-segment i h, position-repeater r)))))
      (λ r h. kinds net (λ q. position net (net.stages + net.segments + r) ≡ position net q → net.stages + net.segments + r ≡ q)
      (λ s l e. absurd (omega (arith, position-stage s l, position-repeater r, before-stages net (net.site r))))
      (λ i l e. absurd (before-gap i r h (omega (arith, position-segment i l, position-repeater r))))
      (λ s l e. omega (arith, sites-only r s h l (before-only net (net.site r) (net.site s) (omega (arith, position-repeater r, position-repeater s))))))

  -- the place at a position is the one that has it
  pub order-position : (p : ℕ) → p < places net → order net (position net p) ≡ p
  unfolding order
  order-position p h =
      sum_same (places net) _ (λ q. cond (eqb q p) q 0)
      (λ q l. rw (eqb-iff (position net q) (position net p) q p (λ e. position-only q l p h e) (λ e. ap (position net) e)))
      ∙ sum-at (places net) p (λ q. q) h

  -- the order, as a loop fills it: the stages, and from `places_before net i` on segment i and its repeater
  pub order-stage : (s : ℕ) → s < net.stages → order net s ≡ s
  order-stage s h = sym (ap (order net) (position-stage s h)) ∙ order-position s (omega arith)

  pub order-segment : (i : ℕ) → i < net.segments → order net (places_before net i) ≡ net.stages + i
  order-segment i h = sym (ap (order net) (position-segment i h)) ∙ order-position (net.stages + i) (omega arith)

  pub order-repeater : (r : ℕ) → r < net.repeaters → order net (suc (places_before net (net.site r))) ≡ net.stages + net.segments + r
  order-repeater r h = sym (ap (order net) (position-repeater r)) ∙ order-position (net.stages + net.segments + r) (omega arith)

  pub numbering : Numbering (places net) (order net) (position net)
  numbering = numbering-back (numbering-full (places net) (position net) (order net) position-inside order-position)

  node-falls : ((i : ℕ) → i < net.segments → net.parent i ≤ i) → (p : ℕ) → p < places net
      → by_kind net (λ s. s) (λ i. places_before net (net.parent i)) (λ r. suc (places_before net (net.site r))) p ≤ position net p
  unfolding of_kind
  node-falls falls =
      kinds net _ (λ s h. rw (is-stage net s h) (omega arith))
      (λ i h. let k = is-segment net i h in rw (k.0, k.1, k.2) (before-le net (net.parent i) i (falls i h)))
      (λ r h. let k = is-repeater net r in rw (k.0, k.1, k.2) (omega arith))

  -- a position hangs behind an earlier one, the first behind none
  pub hangs-falls : ((i : ℕ) → i < net.segments → net.parent i ≤ i) → (t : ℕ) → t < places net → (driving net).hangs_at t ≤ t
  hangs-falls falls t h = omega (arith, node-falls falls (order net t) (numbering.inside t h), numbering.there t h)
