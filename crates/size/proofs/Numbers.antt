-- The numbers of size and the buffer at each: every way through the code is the definition.
use mathlib.Core.Path.{◌≡◌, refl, sym, ap, subst, ◌∙◌}
use mathlib.Core.Bool.{Bool, true, false}
use mathlib.Core.List.{List, ◌++◌}
use Prim.Native.Nat.{ℕ, suc, ◌*◌, ◌≤◌, ◌<◌}
use native.Mathlib.Omega.{arith}
use borrow.Author.Tests.{le-leb, lt-leb}
use lib.Dec.{leb, lit≤}
use lib.ListN.{length, drop, replicate}
use Rattle.lattice.specs.Side.{below, above}
use Rattle.lattice.specs.Space.{within}
use Rattle.lattice.specs.Refine as refining
use Rattle.net.specs.declared.Counts.{Counts}
use Rattle.net.specs.Net.{places, net_by, net_of}
use Rattle.net.specs.Order.{driving_by}
use Rattle.net.specs.Sizings.{room}
use Rattle.net.specs.Checked.{Checked}
use Rattle.net.specs.Questions.{refusal}
use Rattle.net.specs.Answers.{reply_length, size_number, bounds_reply, size_buffer}
use Rattle.net.proofs.Promises.{promises, refusal-apart, size-fails, size-passes, buffer-refused}
use Rattle.refusal.specs.declared.Refusal.{Refusal}
use Rattle.refusal.specs.Numbers.{number_of}
use Rattle.refusal.proofs.Positive.{number-positive}
use Rattle.positions.specs.Arranged.{PositionsOf}
use Rattle.reply.specs.Records.{bounds_replied}
use Rattle.reply.proofs.Places.{reply-same}
use Rattle.bounds.specs.Between.{roomy}
use Rattle.finish.specs.Parts.{Bounded, buffer_from}
use Rattle.finish.proofs.Parts.{lower_long, alike_by_place, bound-of-place}
use Rattle.size.specs.Numbers.{room_number, Settled}

-- question 14: the room by position is that by place
module _ {c : Counts} {job lower upper : List ℕ} (k : Checked c job) (b : Bounded (driving_by c job) lower upper) where
  fits-is : leb (room (net_by c job)) 65536 ≡ roomy (places (net_by c job)) lower upper
  unfolding refining.room within
  fits-is = ap (λ r. leb r 65536) (alike_by_place k).room ∙ rw (b.is_lower, b.is_upper)

  module _ (t : Bool) (g : t ≡ roomy (places (net_by c job)) lower upper) where
    pub number-14 : t ≡ false → 14 ≡ room_number (net_by c job)
    unfolding room_number
    number-14 h = rw (fits-is ∙ sym g ∙ h)

    pub number-0 : t ≡ true → 0 ≡ room_number (net_by c job)
    unfolding room_number
    number-0 h = rw (fits-is ∙ sym g ∙ h)

-- the buffer at 14
module _ {c : Counts} {job positions lower upper : List ℕ} (k : Checked c job) (q : PositionsOf c job positions) (b : Bounded (driving_by c job) lower upper) (before after : List ℕ) where
  pub buffer-14 : after ≡ bounds_replied (length lower) positions lower upper before → after ≡ buffer_from (net_by c job) 14 before
  unfolding buffer_from bounds_reply
  buffer-14 e =
      e
      ∙ rw (lower_long k b)
      (ap (λ z. z ++ drop (8 * suc (places (net_by c job))) before)
      (reply-same (places (net_by c job)) (replicate 8 255) _ _ _ _ _ _ _ _
      (λ p h. (bound-of-place k q below lower b.is_lower p h, bound-of-place k q above upper b.is_upper p h, refl, refl))))

settled : (job before : List ℕ) (n : ℕ) (after : List ℕ) → n ≡ size_number job (length before) → after ≡ size_buffer job before → Settled job before n after
settled job before n after e f = (e, (f, rw (e, f) (promises job before)))

module _ (job before : List ℕ) where
  size-refused : (n : ℕ) → n ≡ refusal job → (n ≡ 0 → ⊥) → Settled job before n before
  size-refused n e z =
      let f : size_number job (length before) ≡ n = size-fails job (length before) (λ g. z (e ∙ g)) ∙ sym e in
      settled job before n before (sym f) (sym (buffer-refused job before (λ g. z (sym f ∙ g)) (λ g. refusal-apart job 14 (lit≤ tt) (lit≤ tt) (sym e ∙ sym f ∙ g))))

  pub size-job : (r : Refusal) → number_of r ≡ refusal job → Settled job before (number_of r) before
  size-job r e = size-refused (number_of r) e (λ f. let h = number-positive r in omega arith)

  module _ {c : Counts} (k : Checked c job) (passes : refusal job ≡ 0) where
    net-is : net_by c job ≡ net_of job
    net-is = ap (λ d. net_by d job) k.counted

    pub size-12 : length before < reply_length (net_by c job) → Settled job before 12 before
    size-12 h =
        let g : length before < reply_length (net_of job) = subst (λ n. length before < reply_length n) net-is h in
        let f : size_number job (length before) ≡ 12 = size-passes job (length before) passes ∙ rw (lt-leb _ _ g) in
        settled job before 12 before (sym f) (sym (buffer-refused job before (λ e. omega arith) (λ e. omega arith)))

    pub size-answer : (n : ℕ) (after : List ℕ) → reply_length (net_by c job) ≤ length before → n ≡ room_number (net_by c job) → after ≡ buffer_from (net_by c job) n before
        → Settled job before n after
    unfolding room_number buffer_from size_buffer
    size-answer n after h e f =
        let g : reply_length (net_of job) ≤ length before = subst (λ m. reply_length m ≤ length before) net-is h in
        let i : size_number job (length before) ≡ room_number (net_of job) = size-passes job (length before) passes ∙ rw (le-leb _ _ g) in
        let j : n ≡ size_number job (length before) = e ∙ ap room_number net-is ∙ sym i in
        settled job before n after j (f ∙ ap (λ m. buffer_from m n before) net-is ∙ ap (λ m. buffer_from (net_of job) m before) j)
