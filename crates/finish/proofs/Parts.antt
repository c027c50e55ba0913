-- The search between the bounds finds the least delay, lean and wide, and what is written of them by place is the finished reply: no word of the
-- theory depends on how places are numbered.
use mathlib.Core.Path.{◌≡◌, sym, ap, ◌∙◌}
use mathlib.Core.List.{List, ◌++◌}
use Prim.Native.Nat.{ℕ, suc, ◌*◌, ◌≤◌, ◌<◌}
use native.Mathlib.Omega.{arith}
use lib.ListN.{length, drop}
use Rattle.lattice.specs.Side.{Side, below, above}
use Rattle.lattice.specs.Lists.{at}
use Rattle.lattice.specs.Space.{Allowed, within, Lattice, Submodular}
use Rattle.lattice.specs.Least as least
use Rattle.lattice.specs.Refine as refining
use Rattle.lattice.specs.Numbering.{Alike, arranged}
use Rattle.lattice.specs.Search.{Found, takes, cover}
use Rattle.lattice.proofs.Theorems.{lower-fixed, upper-fixed, enclosed, never-cross}
use Rattle.lattice.proofs.Searching.{Finds, cover-finds}
use Rattle.lattice.proofs.Renumbering.{at-arranged, moved_back, moved-alike}
use Rattle.net.specs.declared.Counts.{Counts}
use Rattle.net.specs.Net.{places, net_by}
use Rattle.net.specs.Delay.{delay}
use Rattle.net.specs.Driving.{Driving, allowed_by, delay_by}
use Rattle.net.specs.Order.{position, by_position, driving_by}
use Rattle.net.specs.Sizings.{allowed}
use Rattle.net.specs.Answers.{finished_reply, little_endian}
use Rattle.net.specs.Checked.{Checked}
use Rattle.net.proofs.Positions.{driving-moved}
use Rattle.net.proofs.Order.{numbering}
use Rattle.net.proofs.Questions.{lowest_sizing, checked-allowed, ordered}
use Rattle.net.proofs.InOrder.{allowed-by, driving-lattice, driving-submodular, in_limits}
use Rattle.positions.specs.Arranged.{Among, PositionsOf}
use Rattle.envelope.specs.Kept.{found}
use Rattle.reply.specs.Records.{of_place, replied}
use Rattle.reply.proofs.Places.{reply-same}
use Rattle.free.specs.Searching.{Between}
use Rattle.finish.specs.Parts.{Bounded, LeastOf, buffer_from}

module _ {c : Counts} {job : List ℕ} (k : Checked c job) where
  abbrev net : Driving
  net = driving_by c job

  la : Lattice (allowed_by net)
  la = driving-lattice net

  sub : Submodular (allowed_by net) (delay_by net)
  sub = driving-submodular k

  -- a sizing by position that is allowed
  x₀ : List ℕ
  x₀ = by_position (net_by c job) (lowest_sizing (net_by c job))

  some-allowed : Allowed (allowed_by net) x₀
  unfolding x₀
  some-allowed = (driving-moved (net_by c job) (ordered k)).forth (lowest_sizing (net_by c job)) (checked-allowed k)

  -- both bounds are allowed sizings
  lower-allowed : Allowed (allowed_by net) (refining.lower (allowed_by net) (delay_by net))
  lower-allowed = (lower-fixed la sub x₀ some-allowed).allowed

  upper-allowed : Allowed (allowed_by net) (refining.upper (allowed_by net) (delay_by net))
  upper-allowed = (upper-fixed la sub x₀ some-allowed).allowed

  pub lower_long : {l u : List ℕ} → Bounded net l u → length l ≡ places (net_by c job)
  lower_long b = ap length b.is_lower ∙ ((allowed-by net (refining.lower (allowed_by net) (delay_by net))).0 lower-allowed).long

  pub upper_long : {l u : List ℕ} → Bounded net l u → length u ≡ places (net_by c job)
  upper_long b = ap length b.is_upper ∙ ((allowed-by net (refining.upper (allowed_by net) (delay_by net))).0 upper-allowed).long

  -- the bounds that are given do not cross
  pub given-in-order : {l u : List ℕ} → Bounded net l u → (p : ℕ) → p < net.places → at l p ≤ at u p
  unfolding within
  given-in-order b = rw (b.is_lower, b.is_upper) (never-cross la sub x₀ some-allowed)

  -- the search may start
  pub between : {lower upper : List ℕ} → Bounded net lower upper → Between c job lower upper
  between b =
      record {
        lower_allowed = rw b.is_lower lower-allowed;
        upper_allowed = rw b.is_upper upper-allowed;
        in_order = given-in-order b;
      }

  -- and finds what it is for
  pub searched : (lower upper x lean' wide' : List ℕ) {f : Found} → Bounded net lower upper → length x ≡ net.places
      → f ≡ takes (delay_by net) (cover lower upper net.places x) (found 9223372036854775808 lean' wide')
      → LeastOf net f.least f.lean f.wide
  unfolding within
  searched lower upper x lean' wide' {f} b e s =
      let r : Finds la sub x₀ some-allowed f =
      rw s (cover-finds la sub x₀ some-allowed lower upper (found 9223372036854775808 lean' wide') x e
      (λ y l m. let a = inside y l m in (a, (in_limits k).fits y a))
      (λ y l q h. rw (b.is_lower, b.is_upper) (enclosed la sub x₀ some-allowed y l q h))) in
      record { is_least = r.least; is_lean = r.lean; is_wide = r.wide }
    where
      inside : (y : List ℕ) → length y ≡ net.places → ((q : ℕ) → q < net.places → (at lower q ≤ at y q) × (at y q ≤ at upper q)) → Allowed (allowed_by net) y
      inside y l m =
          let lo = (allowed-by net (refining.lower (allowed_by net) (delay_by net))).0 lower-allowed in
          let hi = (allowed-by net (refining.upper (allowed_by net) (delay_by net))).0 upper-allowed in
          (allowed-by net y).1
          record {
            long = l;
            low = λ q h. omega (arith, lo.low q h, m q h, ap (λ v. at v q) b.is_lower);
            high = λ q h. omega (arith, hi.high q h, m q h, ap (λ v. at v q) b.is_upper);
          }

  -- what the words of the theory say by place, they say by position
  pub alike_by_place : Alike (places (net_by c job)) (position (net_by c job)) (allowed_by net) (delay_by net) (allowed (net_by c job)) (delay (net_by c job))
  alike_by_place = moved-alike (moved_back (driving-moved (net_by c job) (ordered k)))

  -- the positions of the places are those of a sizing
  pub positions-among : {positions : List ℕ} (l : List ℕ) → PositionsOf c job positions → length l ≡ places (net_by c job) → Among (length l) (length l) positions
  positions-among l q e = record { among = λ p h. rw (e, q.held p (rw e at h)) ((numbering (net_by c job) (ordered k).sites (ordered k).rising).found p (rw e at h)) }

  module _ {positions : List ℕ} (q : PositionsOf c job positions) where
    -- what a sizing by position has for a place is what that sizing by place has
    of-place : (x y : List ℕ) (s : List ℕ) → s ≡ x → y ≡ arranged (places (net_by c job)) (position (net_by c job)) x → (p : ℕ) → p < places (net_by c job) → of_place positions s p ≡ at y p
    of-place x y s e f p h =
        rw (e, f, q.held p h) (sym (at-arranged (places (net_by c job)) (position (net_by c job)) x p h))

    pub bound-of-place : (s : Side) (x : List ℕ) → x ≡ refining.bound s (allowed_by net) (delay_by net) → (p : ℕ) → p < places (net_by c job)
        → of_place positions x p ≡ at (refining.bound s (allowed (net_by c job)) (delay (net_by c job))) p
    bound-of-place s x e p h = of-place (refining.bound s (allowed_by net) (delay_by net)) _ x e (alike_by_place.bound s) p h

    pub extreme-of-place : (s : Side) (x : List ℕ) → x ≡ least.least_envelope s (allowed_by net) (delay_by net) → (p : ℕ) → p < places (net_by c job)
        → of_place positions x p ≡ at (least.least_envelope s (allowed (net_by c job)) (delay (net_by c job))) p
    extreme-of-place s x e p h = of-place (least.least_envelope s (allowed_by net) (delay_by net)) _ x e (alike_by_place.least_envelope s) p h

-- the buffer after a finished reply
module _ {c : Counts} {job positions lower upper : List ℕ} (k : Checked c job) (q : PositionsOf c job positions) (b : Bounded (driving_by c job) lower upper) (before after : List ℕ) where
  pub buffer-0 : (d : ℕ) (l w : List ℕ) → LeastOf (driving_by c job) d l w
      → after ≡ replied (length lower) (little_endian 8 d) positions lower upper l w before
      → after ≡ buffer_from (net_by c job) 0 before
  unfolding buffer_from finished_reply
  buffer-0 d l w f e =
      e
      ∙ rw (lower_long k b, f.is_least, ← (alike_by_place k).least_delay)
      (ap (λ z. z ++ drop (8 * suc (places (net_by c job))) before)
      (reply-same (places (net_by c job)) (little_endian 8 _) _ _ _ _ _ _ _ _
      (λ p h. (
        bound-of-place k q below lower b.is_lower p h,
        bound-of-place k q above upper b.is_upper p h,
        extreme-of-place k q below l f.is_lean p h,
        extreme-of-place k q above w f.is_wide p h,
      ))))
