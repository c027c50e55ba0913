-- What the lines take from a reply is what the definitions say: the number, the delay, and at each place bounds, lean and wide.
use mathlib.Core.Path.{◌≡◌, refl, sym, ap, ◌∙◌}
use mathlib.Core.Logic.{inl, inr}
use mathlib.Core.Bool.{true, false, cond}
use mathlib.Core.List.{List, [], ◌++◌, flat_map, append-nil}
use Prim.Native.Nat.{ℕ, zero, suc, ◌+◌, ◌*◌, ◌≤◌, ◌<◌}
use native.Mathlib.Decide.{ℕ_discrete}
use native.Mathlib.Omega.{arith}
use borrow.Author.Tests.{le-leb, lt-ltb, le-ltb, ne_eqb}
use lib.Dec.{eqb}
use lib.ListN.{length, drop}
use Rattle.text.specs.Spelling.{ascii}
use Rattle.lattice.specs.Lists.{at, from}
use Rattle.lattice.proofs.ListLaws.{at-tabulate}
use Rattle.net.specs.Net.{Net, places, net_of}
use Rattle.net.specs.declared.Counts.{Counts}
use Rattle.net.specs.Job.{counts_of}
use Rattle.net.specs.Questions.{refusal}
use Rattle.net.specs.Answers.{reply_length, size_number, finished_reply, bounds_reply, size_buffer}
use Rattle.net.specs.Promises.{reply_delay, reply_bytes, Replied}
use Rattle.net.proofs.Questions.{checked}
use Rattle.net.proofs.Promises.{size-fails, size-passes, replied-passes, least_fits, finished-delay, finished-lean, finished-wide, finished-bounded, reply-unsearched, buffer-finished, buffer-bounds, buffer-refused, finished-long, bounds-long}
use Rattle.size.specs.Numbers.{unwritten_number, AnswerCounts}
use Rattle.size.specs.declared.Unwritten.{Unwritten}
use Rattle.size.specs.declared.Unwritten.TheVariants.{Refused, TooShort}
use Rattle.std.specs.Prelude.{Some, Err}
use Rattle.output.specs.Printed.{Figures, answer_with, kind_lines, place_lines, net_figures, net_lines, refused_line, answer_text, job_number, job_text, printed, reply_of, replied, told, Holds}
use Rattle.output.specs.Lines.{field, figures_in, lines_in}

-- A reply of the largest net has 616 bytes, so a buffer of 616 bytes holds every reply.
few-places : (job : List ℕ) → refusal job ≡ 0 → places (net_of job) ≤ 76
few-places job e = let k = checked job e in omega (arith, k.few_stages, k.few_segments, k.few_repeaters)

pub number-in-616 : (job : List ℕ) → size_number job 616 ≡ job_number job
unfolding job_number
number-in-616 job = go (ℕ_discrete (refusal job) 0)
  where
    go : Dec (refusal job ≡ 0) → size_number job 616 ≡ size_number job (reply_length (net_of job))
    go (yes e) =
        let h = few-places job e in
        size-passes job 616 e
        ∙ rw (le-leb (reply_length (net_of job)) 616 (omega arith))
        (sym (size-passes job (reply_length (net_of job)) e ∙ rw (le-leb (reply_length (net_of job)) (reply_length (net_of job)) (omega arith))))
    go (no z) = size-fails job 616 z ∙ sym (size-fails job (reply_length (net_of job)) z)

-- Lines of the same figures are the same.
map_same : (f g : ℕ → List ℕ) (k n : ℕ) → ((i : ℕ) → i < k + n → f i ≡ g i) → flat_map f (from k n) ≡ flat_map g (from k n)
unfolding flat_map from
map_same f g k zero e = refl
map_same f g k (suc n) e = rw (e k (omega arith), map_same f g (suc k) n (λ i h. e i (omega arith)))

-- Two sets of figures agree at the places below a number.
record Agree (n : ℕ) (f g : Figures) : Type 0 where
  lower : (p : ℕ) → p < n → f.lower p ≡ g.lower p
  upper : (p : ℕ) → p < n → f.upper p ≡ g.upper p
  lean : (p : ℕ) → p < n → f.lean p ≡ g.lean p
  wide : (p : ℕ) → p < n → f.wide p ≡ g.wide p

module _ (n : ℕ) (f g : Figures) (s : Agree n f g) where
  kind-same : (kind : List ℕ) (p m : ℕ) → p + m ≤ n → kind_lines f kind p m ≡ kind_lines g kind p m
  unfolding kind_lines
  kind-same kind p m h =
      map_same _ _ 0 m
      (λ i l.
      let k : p + i < n = omega arith in
      rw (s.lower (p + i) k, s.upper (p + i) k, s.lean (p + i) k, s.wide (p + i) k))

  places_same : (stages segments repeaters : ℕ) → stages + segments + repeaters ≤ n → place_lines f stages segments repeaters ≡ place_lines g stages segments repeaters
  unfolding place_lines
  places_same stages segments repeaters h = rw (kind-same (ascii "stage ") 0 stages (omega arith), kind-same (ascii "segment ") stages segments (omega arith), kind-same (ascii "repeater ") (stages + segments) repeaters h)

-- The figures in a reply.
field_is : (net : Net) (after x : List ℕ) (j : ℕ) → reply_bytes j net after ≡ x → (p : ℕ) → p < places net → field after j p ≡ at x p
unfolding reply_bytes
field_is net after x j e p h = sym (at-tabulate (places net) (λ q. at after (8 * suc q + j)) p h) ∙ ap (λ l. at l p) e

module _ (job : List ℕ) (passes : refusal job ≡ 0) (behind : List ℕ) where
  abbrev net : Net
  net = net_of job

  finished-agree : Agree (places net) (figures_in true (finished_reply net ++ behind)) (net_figures true net)
  finished-agree =
      record {
        lower = field_is net _ _ 0 (finished-bounded job passes behind).lower;
        upper = field_is net _ _ 1 (finished-bounded job passes behind).upper;
        lean = λ p h. ap Some (field_is net _ _ 2 (finished-lean net behind) p h);
        wide = λ p h. ap Some (field_is net _ _ 3 (finished-wide net behind) p h);
      }

  bounds-agree : Agree (places net) (figures_in false (bounds_reply net ++ behind)) (net_figures false net)
  bounds-agree =
      record {
        lower = field_is net _ _ 0 (reply-unsearched job passes behind).bounded.lower;
        upper = field_is net _ _ 1 (reply-unsearched job passes behind).bounded.upper;
        lean = λ p h. refl;
        wide = λ p h. refl;
      }

module _ (job before : List ℕ) where
  -- with the number 0
  pub answer-lines : size_number job (length before) ≡ 0
      → answer_with (reply_delay (size_buffer job before)) (lines_in true (size_buffer job before) (counts_of job)) ≡ answer_text (net_of job)
  unfolding answer_text net_lines
  answer-lines e =
      let net : Net = net_of job in
      let d : List ℕ = drop (reply_length net) before in
      let k = (replied-passes job (length before) (inl e)).0 in
      rw (buffer-finished job before e, finished-delay net d (least_fits job k))
      (rw (places_same (places net) (figures_in true (finished_reply net ++ d)) (net_figures true net) (finished-agree job k d) net.stages net.segments net.repeaters (omega arith)))

  -- with the number 14
  pub bounds-lines : size_number job (length before) ≡ 14 → lines_in false (size_buffer job before) (counts_of job) ≡ net_lines false (net_of job)
  unfolding net_lines
  bounds-lines e =
      let net : Net = net_of job in
      let d : List ℕ = drop (reply_length net) before in
      rw (buffer-bounds job before e)
      (places_same (places net) (figures_in false (bounds_reply net ++ d)) (net_figures false net) (bounds-agree job (replied-passes job (length before) (inr e)).0 d) net.stages net.segments net.repeaters (omega arith))

-- What an input of at most 65,536 bytes comes to, where `after` is what size has made of a buffer of 616 bytes, with the number n.
pub record Sized (input before : List ℕ) (n : ℕ) (after : List ℕ) : Type 0 where
  pub short : length input ≤ 65536
  pub long : length before ≡ 616
  pub number : n ≡ size_number input (length before)
  pub buffer : after ≡ size_buffer input before

-- what the contract of `size` gives
pub sized : {input before after : List ℕ} {n : ℕ} → length input ≤ 65536 → length before ≡ 616 → n ≡ size_number input (length before) → after ≡ size_buffer input before → Sized input before n after
sized h l e b = record { short = h; long = l; number = e; buffer = b }

-- No text, and the buffer as it was.
pub nothing_put : {before after : List ℕ} → after ≡ before → Holds [] before after 0
nothing_put e = record { long = refl; fits = omega arith; buffer = e }

-- An input that is longer.
module _ (input : List ℕ) (h : 65536 < length input) where
  pub long-printed : ascii "too long\n" ≡ printed input
  unfolding printed
  long-printed = rw (lt-ltb 65536 (length input) h)

  pub long-reply : (before : List ℕ) → Holds (replied input) before before 0
  unfolding replied
  long-reply before = rw (lt-ltb 65536 (length input) h) (nothing_put refl)

  pub long-told : ascii "too long\n" ≡ told input
  unfolding told
  long-told = rw (lt-ltb 65536 (length input) h)

-- No reply goes with a number of size that is told alone.
pub untold : (job : List ℕ) (m : ℕ) (u : Unwritten) → AnswerCounts job (Err u) → unwritten_number u ≡ size_number job m → Replied (unwritten_number u) → ⊥
untold job m (Refused r) k e t = k (replied-passes job m (rw e at t)).0
untold job m (TooShort c) k e (inl z) = absurd (omega arith)
untold job m (TooShort c) k e (inr z) = absurd (omega arith)

module _ {input before after : List ℕ} {n : ℕ} (s : Sized input before n after) where
  is_number : job_number input ≡ n
  is_number = sym (s.number ∙ ap (size_number input) s.long ∙ number-in-616 input)

  job-printed : printed input ≡ job_text input n
  unfolding printed
  job-printed = rw (le-ltb 65536 (length input) s.short, is_number)

  job-replied : replied input ≡ reply_of input n
  unfolding replied
  job-replied = rw (le-ltb 65536 (length input) s.short, is_number)

  job-told : told input ≡ cond (eqb n 0) [] (refused_line n)
  unfolding told
  job-told = rw (le-ltb 65536 (length input) s.short, is_number)

  -- where there is a reply, the counts of the job are few
  pub few : {c : Counts} → Replied n → c ≡ counts_of input → c.stages + c.segments + c.repeaters ≤ 76
  few r k = rw k (few-places input (replied-passes input (length before) (rw s.number at r)).0)

  -- where there is none
  module _ (z : Replied n → ⊥) where
    pub refused-told : refused_line n ≡ told input
    refused-told = rw (job-told, ne_eqb n 0 (λ e. z (inl e)))

    pub refused-printed : refused_line n ≡ printed input
    unfolding job_text
    refused-printed = rw (job-printed, ne_eqb n 0 (λ e. z (inl e)), ne_eqb n 14 (λ e. z (inr e))) (sym (append-nil (refused_line n)))

    pub refused-reply : Holds (replied input) before after 0
    unfolding reply_of
    refused-reply =
        rw (job-replied, ne_eqb n 0 (λ e. z (inl e)), ne_eqb n 14 (λ e. z (inr e)))
        (nothing_put (s.buffer ∙ buffer-refused input before (λ k. z (inl (s.number ∙ k))) (λ k. z (inr (s.number ∙ k)))))

-- with the number 0
module _ {input before after : List ℕ} {c : Counts} (s : Sized input before 0 after) (k : c ≡ counts_of input) where
  pub answer-printed : answer_with (reply_delay after) (lines_in true after c) ≡ printed input
  unfolding job_text
  answer-printed = rw (k, job-printed s, s.buffer) (answer-lines input before (sym s.number))

  pub answer-reply : (m : ℕ) → m ≡ 8 * suc (c.stages + c.segments + c.repeaters) → Holds (replied input) before after m
  unfolding reply_of
  answer-reply m f =
      let l : m ≡ reply_length (net_of input) = rw k at f in
      rw (job-replied s, l)
      record {
        long = sym (finished-long (net_of input));
        fits = (replied-passes input (length before) (inl (sym s.number))).1;
        buffer = s.buffer ∙ buffer-finished input before (sym s.number);
      }

  pub answer-told : [] ≡ told input
  answer-told = rw (job-told s)

-- with the number 14
module _ {input before after : List ℕ} {c : Counts} (s : Sized input before 14 after) (k : c ≡ counts_of input) where
  pub bounds-printed : refused_line 14 ++ lines_in false after c ≡ printed input
  unfolding job_text
  bounds-printed = rw (k, job-printed s, s.buffer, bounds-lines input before (sym s.number))

  pub bounds-reply : (m : ℕ) → m ≡ 8 * suc (c.stages + c.segments + c.repeaters) → Holds (replied input) before after m
  unfolding reply_of
  bounds-reply m f =
      let l : m ≡ reply_length (net_of input) = rw k at f in
      rw (job-replied s, l)
      record {
        long = sym (bounds-long (net_of input));
        fits = (replied-passes input (length before) (inr (sym s.number))).1;
        buffer = s.buffer ∙ buffer-bounds input before (sym s.number);
      }

  pub bounds-told : refused_line 14 ≡ told input
  bounds-told = rw (job-told s)
