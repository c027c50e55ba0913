-- The promises of size, of the definitions of its number and its buffer; that no byte of a reply depends on what the buffer held; that its length
-- tells P alone; and that the number 13 is not used.
use mathlib.Core.Path.{◌≡◌, ◌∙◌, refl, sym, ap}
use mathlib.Core.Logic.{◌⊎◌, inl, inr, ⊎_elim}
use mathlib.Core.Bool.{Bool, true, false, cond, ◌||◌}
use mathlib.Core.List.{List, [], ◌∷◌, ◌++◌, flat_map}
use Prim.Native.Nat.{ℕ, zero, suc, ◌+◌, ◌*◌, ◌/◌, ◌^◌, ◌≤◌, ◌<◌}
use native.Mathlib.Nat.{pow-suc}
use native.Mathlib.Decide.{ℕ_discrete}
use native.Mathlib.Omega.{arith}
use borrow.Author.Tests.{ne_eqb, leb-true}
use lib.Dec.{T, leb, ltb, ltb→lt, lit≤}
use lib.ListN.{length, take, drop, replicate, length-append, length-drop, length-replicate, get_or-replicate, get_or-append}
use lib.Seq.{take_at, drop_at, take-append-le, get_or-append-add}
use Rattle.lattice.specs.Side.{below, above}
use Rattle.lattice.specs.Lists.{at, from}
use Rattle.lattice.specs.Space.{within}
use Rattle.lattice.specs.Least.{leasts, least_envelope}
use Rattle.lattice.specs.Refine.{fixed, bound}
use Rattle.lattice.proofs.ListLaws.{or-T, ext, length-tabulate, at-tabulate}
use Rattle.lattice.proofs.Leasts.{length-envelope}
use Rattle.net.specs.Net.{Net, places, net_of}
use Rattle.net.specs.Delay.{delay}
use Rattle.net.specs.Sizings.{allowed, least_delay, lean, wide, lower_bound, upper_bound, room}
use Rattle.net.specs.Questions.{Question, ask, first_no, job_questions, refusal}
use Rattle.net.specs.Answers.{reply_length, size_number, little_endian, reply_records, finished_reply, bounds_reply, size_buffer}
use Rattle.net.specs.Promises.{value_of, reply_delay, reply_bytes, reply_lean, reply_wide, Bounded, Finished, Unsearched, Promises, Replied, written}
use Rattle.net.proofs.Questions.{job-fits}
use Rattle.net.proofs.Answers.{job-passes, job-fails}
use Rattle.net.proofs.Demands.{least-reached, least-below, lean-is-least, wide-is-least, least-between, equal-when-one, bounds-never-cross}

-- A number's bytes make the number.
little_endian-value : (n v : ℕ) → v < 256 ^ n → value_of (little_endian n v) ≡ v
unfolding value_of little_endian
little_endian-value zero v h = omega arith
little_endian-value (suc n) v h =
    let l : ◌/◌ v 256 < 256 ^ n = omega (arith, pow-suc 256 n) in
    rw (little_endian-value n (◌/◌ v 256) l) (omega arith)

little_endian-long : (n v : ℕ) → length (little_endian n v) ≡ n
unfolding little_endian
little_endian-long zero v = refl
little_endian-long (suc n) v = ap suc (little_endian-long n (◌/◌ v 256))

-- Records of eight bytes, one after the other.
module _ (row : ℕ → List ℕ) (long : (p : ℕ) → length (row p) ≡ 8) where
  rows_long : (k n : ℕ) → length (flat_map row (from k n)) ≡ 8 * n
  unfolding flat_map from
  rows_long k zero = refl
  rows_long k (suc n) = omega (arith, length-append (row k) (flat_map row (from (suc k) n)), long k, rows_long (suc k) n)

  rows-at : (k n i j : ℕ) → i < n → j < 8 → at (flat_map row (from k n)) (8 * i + j) ≡ at (row (k + i)) j
  unfolding flat_map from
  rows-at k zero i j h l = absurd (omega arith)
  rows-at k (suc n) zero j h l =
      let m : j < length (row k) = omega (arith, long k) in
      let e : 8 * 0 + j ≡ j = omega arith in
      let f : k + 0 ≡ k = omega arith in
      rw (e, f) (get_or-append (row k) (flat_map row (from (suc k) n)) 0 j m)
  rows-at k (suc n) (suc i) j h l =
      let e : 8 * suc i + j ≡ length (row k) + (8 * i + j) = omega (arith, long k) in
      let f : k + suc i ≡ suc k + i = omega arith in
      rw (e, f) (get_or-append-add (row k) (flat_map row (from (suc k) n)) (8 * i + j) 0 ∙ rows-at (suc k) n i j (omega arith) l)

-- The bytes of a reply, whatever stands behind it.
module _ (net : Net) (d : List ℕ) (long : length d ≡ 8) (lower upper lean wide : ℕ → ℕ) where
  abbrev reply : List ℕ
  reply = reply_records (places net) d lower upper lean wide

  abbrev row : ℕ → List ℕ
  row p = lower p ∷ upper p ∷ lean p ∷ wide p ∷ replicate 4 0

  abbrev rows : List ℕ
  rows = flat_map row (from 0 (places net))

  reply-long : length reply ≡ reply_length net
  unfolding reply_records
  reply-long = omega (arith, length-append d rows, rows_long row (λ p. refl) 0 (places net))

  module _ (behind : List ℕ) where
    reply-delay : take 8 (reply ++ behind) ≡ d
    unfolding reply_records
    reply-delay =
        let h : 8 ≤ length reply = omega (arith, reply-long) in
        rw (take-append-le 8 reply behind h) (take_at d rows 8 long)

    reply-byte : (p j : ℕ) → p < places net → j < 8 → at (reply ++ behind) (8 * suc p + j) ≡ at (row p) j
    unfolding reply_records
    reply-byte p j h l =
        let z : 0 + p ≡ p = omega arith in
        let m : 8 * suc p + j < length reply = omega (arith, reply-long) in
        let e : 8 * suc p + j ≡ length d + (8 * p + j) = omega arith in
        get_or-append reply behind 0 (8 * suc p + j) m
        ∙ rw e (get_or-append-add d rows (8 * p + j) 0 ∙ rows-at row (λ q. refl) 0 (places net) p j h l ∙ ap (λ q. at (row q) j) z)

    -- byte j of the records, where it is x's index
    reply-bytes : (j : ℕ) (x : List ℕ) → j < 8 → length x ≡ places net → ((p : ℕ) → p < places net → at (row p) j ≡ at x p)
        → reply_bytes j net (reply ++ behind) ≡ x
    unfolding reply_bytes
    reply-bytes j x l e f =
        ext (places net) _ x (length-tabulate (places net) _) e
        (λ p h. at-tabulate (places net) (λ q. at (reply ++ behind) (8 * suc q + j)) p h ∙ reply-byte p j h l ∙ f p h)

    -- byte j of the records, where it is the same in each
    reply-alike : (j v : ℕ) → j < 8 → ((p : ℕ) → at (row p) j ≡ v) → reply_bytes j net (reply ++ behind) ≡ replicate (places net) v
    reply-alike j v l f =
        reply-bytes j (replicate (places net) v) l (length-replicate (places net) v) (λ p h. f p ∙ sym (get_or-replicate (places net) p v 0 h))

    reply-zeros : (j : ℕ) → 4 ≤ j → j < 8 → reply_bytes j net (reply ++ behind) ≡ replicate (places net) 0
    reply-zeros zero m l = absurd (omega arith)
    reply-zeros (suc zero) m l = absurd (omega arith)
    reply-zeros (suc (suc zero)) m l = absurd (omega arith)
    reply-zeros (suc (suc (suc zero))) m l = absurd (omega arith)
    reply-zeros (suc (suc (suc (suc i)))) m l = reply-alike (suc (suc (suc (suc i)))) 0 l (λ p. get_or-replicate 4 i 0 0 (omega arith))

-- The sizings of a net have an index for each place.
module _ (net : Net) where
  lower_long : length (lower_bound net) ≡ places net
  unfolding bound within
  lower_long = length-envelope below (places net) (fixed below (allowed net) (delay net))

  upper_long : length (upper_bound net) ≡ places net
  unfolding bound within
  upper_long = length-envelope above (places net) (fixed above (allowed net) (delay net))

  lean-long : length (lean net) ≡ places net
  unfolding least_envelope within
  lean-long = length-envelope below (places net) (leasts (allowed net) (delay net))

  wide-long : length (wide net) ≡ places net
  unfolding least_envelope within
  wide-long = length-envelope above (places net) (leasts (allowed net) (delay net))

  pub finished-long : length (finished_reply net) ≡ reply_length net
  unfolding finished_reply
  finished-long = reply-long net _ (little_endian-long 8 (least_delay net)) _ _ _ _

  pub bounds-long : length (bounds_reply net) ≡ reply_length net
  unfolding bounds_reply
  bounds-long = reply-long net _ refl _ _ _ _

  -- both replies hold the bounds
  module _ (order : (p : ℕ) → p < places net → at (lower_bound net) p ≤ at (upper_bound net) p)
      (d : List ℕ) (long : length d ≡ 8) (e w : ℕ → ℕ) (behind : List ℕ) where
    reply-bounded : Bounded net (reply_records (places net) d (at (lower_bound net)) (at (upper_bound net)) e w ++ behind)
    reply-bounded =
        let l = reply-bytes net d long _ _ e w behind 0 (lower_bound net) (lit≤ tt) lower_long (λ p h. refl) in
        let u = reply-bytes net d long _ _ e w behind 1 (upper_bound net) (lit≤ tt) upper_long (λ p h. refl) in
        record { lower = l; upper = u; in_order = rw (l, u) order; zeros = reply-zeros net d long _ _ e w behind }

  -- a finished reply's delay, lean and wide
  pub finished-delay : (behind : List ℕ) → least_delay net < 256 ^ 8 → reply_delay (finished_reply net ++ behind) ≡ least_delay net
  unfolding finished_reply
  finished-delay behind h =
      ap value_of (reply-delay net _ (little_endian-long 8 (least_delay net)) _ _ _ _ behind) ∙ little_endian-value 8 (least_delay net) h

  pub finished-lean : (behind : List ℕ) → reply_lean net (finished_reply net ++ behind) ≡ lean net
  unfolding finished_reply
  finished-lean behind = reply-bytes net _ (little_endian-long 8 (least_delay net)) _ _ _ _ behind 2 (lean net) (lit≤ tt) lean-long (λ p h. refl)

  pub finished-wide : (behind : List ℕ) → reply_wide net (finished_reply net ++ behind) ≡ wide net
  unfolding finished_reply
  finished-wide behind = reply-bytes net _ (little_endian-long 8 (least_delay net)) _ _ _ _ behind 3 (wide net) (lit≤ tt) wide-long (λ p h. refl)

-- What the replies of a job that passes hold.
module _ (job : List ℕ) (e : refusal job ≡ 0) where
  pub least_fits : least_delay (net_of job) < 256 ^ 8
  least_fits = let r = least-reached job e in omega (arith, r.2, job-fits job e r.0 r.1)

  pub finished-bounded : (behind : List ℕ) → Bounded (net_of job) (finished_reply (net_of job) ++ behind)
  unfolding finished_reply
  finished-bounded behind = reply-bounded (net_of job) (bounds-never-cross job e) _ (little_endian-long 8 (least_delay (net_of job))) _ _ behind

  -- the finished reply
  reply-finished : (behind : List ℕ) → Finished (net_of job) (finished_reply (net_of job) ++ behind)
  reply-finished behind =
      let v = finished-delay (net_of job) behind least_fits in
      let l = finished-lean (net_of job) behind in
      let w = finished-wide (net_of job) behind in
      record {
        reached = rw v (least-reached job e);
        least = rw v (least-below job e);
        lean = rw l (lean-is-least job e);
        wide = rw w (wide-is-least job e);
        between = rw (l, w) (least-between job e);
        one = rw (l, w) (equal-when-one job e);
        bounded = finished-bounded behind;
      }

  -- the reply with 14
  pub reply-unsearched : (behind : List ℕ) → Unsearched (net_of job) (bounds_reply (net_of job) ++ behind)
  unfolding bounds_reply
  reply-unsearched behind =
      let net : Net = net_of job in
      let d : List ℕ = replicate 8 255 in
      record {
        delay_bytes = reply-delay net d refl _ _ _ _ behind;
        lean = reply-alike net d refl _ _ _ _ behind 2 255 (lit≤ tt) (λ p. refl);
        wide = reply-alike net d refl _ _ _ _ behind 3 255 (lit≤ tt) (λ p. refl);
        bounded = reply-bounded net (bounds-never-cross job e) d refl _ _ behind;
      }

-- The job's own questions have no number from 12 to 19: these are the operations' own.
unfoldable Apart : List Question → Type 0
Apart [] = Unit {0}
Apart (q ∷ qs) = T (ltb q.number 12 || ltb 19 q.number) × Apart qs

-- n is a number of none of the questions
first_no-apart : (n : ℕ) (qs : List Question) → 12 ≤ n → n ≤ 19 → Apart qs → first_no qs ≡ n → ⊥
unfolding first_no Apart
first_no-apart n [] l h a e = omega (arith, l, e)
first_no-apart n (q ∷ qs) l h a e = go q.passed (λ f. first_no-apart n qs l h a.1 f) e
  where
    other : q.number ≡ n → ⊥
    other f = ⊎_elim (λ t. omega (arith, l, f, ltb→lt q.number 12 t)) (λ t. omega (arith, h, f, ltb→lt 19 q.number t)) (or-T (ltb q.number 12) (ltb 19 q.number) a.0)

    go : (b : Bool) → (first_no qs ≡ n → ⊥) → cond b (first_no qs) q.number ≡ n → ⊥
    go true rest f = rest f
    go false rest f = other f

pub refusal-apart : (job : List ℕ) (n : ℕ) → 12 ≤ n → n ≤ 19 → refusal job ≡ n → ⊥
unfolding refusal job_questions Apart
refusal-apart job n l h =
    first_no-apart n (job_questions job) l h
    (tt, (tt, (tt, (tt, (tt, (tt, (tt, (tt, (tt, (tt, (tt, (tt, (tt, (tt, (tt, (tt, tt))))))))))))))))

-- The questions of size itself, 12 and 14.
module _ (job : List ℕ) (n : ℕ) where
  abbrev fits : Bool
  fits = leb (reply_length (net_of job)) n

  abbrev few : Bool
  few = leb (room (net_of job)) 65536

  pub size-fails : (refusal job ≡ 0 → ⊥) → size_number job n ≡ refusal job
  unfolding size_number
  size-fails z = job-fails job _ z

  pub size-passes : refusal job ≡ 0 → size_number job n ≡ cond fits (cond few 0 14) 12
  unfolding size_number first_no
  size-passes e = job-passes job (ask 12 fits ∷ ask 14 few ∷ []) e

  -- a reply comes only where the job passes and the buffer holds it
  pub replied-passes : Replied (size_number job n) → (refusal job ≡ 0) × (reply_length (net_of job) ≤ n)
  replied-passes a = go (ℕ_discrete (refusal job) 0)
    where
      held : (b c : Bool) → fits ≡ b → size_number job n ≡ cond b (cond c 0 14) 12 → Replied (size_number job n) → reply_length (net_of job) ≤ n
      held true c f k r = leb-true _ _ f
      held false c f k (inl z) = absurd (omega arith)
      held false c f k (inr z) = absurd (omega arith)

      go : Dec (refusal job ≡ 0) → (refusal job ≡ 0) × (reply_length (net_of job) ≤ n)
      go (yes e) = (e, held fits few refl (size-passes e) a)
      go (no z) = absurd (no-reply a)
        where
          no-reply : Replied (size_number job n) → ⊥
          no-reply (inl k) = z (sym (size-fails z) ∙ k)
          no-reply (inr k) = refusal-apart job 14 (lit≤ tt) (lit≤ tt) (sym (size-fails z) ∙ k)

  -- the number 13 is not used
  pub never-13 : size_number job n ≡ 13 → ⊥
  never-13 k = go (ℕ_discrete (refusal job) 0)
    where
      other : (b c : Bool) → size_number job n ≡ cond b (cond c 0 14) 12 → ⊥
      other true true f = omega arith
      other true false f = omega arith
      other false c f = omega arith

      go : Dec (refusal job ≡ 0) → ⊥
      go (yes e) = other fits few (size-passes e)
      go (no z) = refusal-apart job 13 (lit≤ tt) (lit≤ tt) (sym (size-fails z) ∙ k)

-- The buffer after size, by its number.
module _ (job before : List ℕ) where
  abbrev number : ℕ
  number = size_number job (length before)

  abbrev size : ℕ
  size = reply_length (net_of job)

  pub buffer-finished : number ≡ 0 → size_buffer job before ≡ finished_reply (net_of job) ++ drop size before
  unfolding size_buffer
  buffer-finished e = rw e

  pub buffer-bounds : number ≡ 14 → size_buffer job before ≡ bounds_reply (net_of job) ++ drop size before
  unfolding size_buffer
  buffer-bounds e = rw e

  pub buffer-refused : (number ≡ 0 → ⊥) → (number ≡ 14 → ⊥) → size_buffer job before ≡ before
  unfolding size_buffer
  buffer-refused z f = rw (ne_eqb number 0 z, ne_eqb number 14 f)

  -- with a reply, it is some list of the reply's length and then the rest
  buffer-replied : Replied number
      → (r : List ℕ) × (length r ≡ size) × (size_buffer job before ≡ r ++ drop size before)
  buffer-replied (inl e) = (finished_reply (net_of job), finished-long (net_of job), buffer-finished e)
  buffer-replied (inr e) = (bounds_reply (net_of job), bounds-long (net_of job), buffer-bounds e)

  buffer-long : Replied number → length (size_buffer job before) ≡ length before
  buffer-long a =
      let r = buffer-replied a in
      let h = (replied-passes job (length before) a).1 in
      rw r.2 (omega (arith, length-append r.0 (drop size before), length-drop size before, r.1))

  buffer-rest : Replied number → drop size (size_buffer job before) ≡ drop size before
  buffer-rest a = let r = buffer-replied a in rw r.2 (drop_at r.0 (drop size before) size r.1)

  reply-taken : (r : List ℕ) → length r ≡ size → size_buffer job before ≡ r ++ drop size before
      → take size (size_buffer job before) ≡ r
  reply-taken r l e = rw e (take_at r (drop size before) size l)

  -- a number comes with a reply, or with the buffer as it was
  buffer-cases : Replied number ⊎ (size_buffer job before ≡ before)
  buffer-cases = go (ℕ_discrete number 0) (ℕ_discrete number 14)
    where
      go : Dec (number ≡ 0) → Dec (number ≡ 14) → Replied number ⊎ (size_buffer job before ≡ before)
      go (yes e) d = inl (inl e)
      go (no z) (yes e) = inl (inr e)
      go (no z) (no f) = inr (buffer-refused z f)

-- The promises, of every call.
pub promises : (job before : List ℕ) → Promises job before (size_number job (length before)) (size_buffer job before)
promises job before =
    record {
      long = ⊎_elim (buffer-long job before) (λ e. ap length e) (buffer-cases job before);
      settled = refl;
      refused = buffer-refused job before;
      rest = ⊎_elim (buffer-rest job before) (λ e. ap (drop (reply_length (net_of job))) e) (buffer-cases job before);
      finished = λ e. rw (buffer-finished job before e) (reply-finished job (replied-passes job (length before) (inl e)).0 (drop (reply_length (net_of job)) before));
      unsearched = λ e. rw (buffer-bounds job before e) (reply-unsearched job (replied-passes job (length before) (inr e)).0 (drop (reply_length (net_of job)) before));
    }

-- Neither the number nor a byte of the reply depends on what the buffer held.
pub independent : (job a b : List ℕ) → length a ≡ length b
    → (size_number job (length a) ≡ size_number job (length b))
    × (Replied (size_number job (length a)) → take (reply_length (net_of job)) (size_buffer job a) ≡ take (reply_length (net_of job)) (size_buffer job b))
independent job a b e = (same, go)
  where
    same : size_number job (length a) ≡ size_number job (length b)
    same = ap (size_number job) e

    go : Replied (size_number job (length a)) → take (reply_length (net_of job)) (size_buffer job a) ≡ take (reply_length (net_of job)) (size_buffer job b)
    go (inl k) =
        let r : List ℕ = finished_reply (net_of job) in
        let l = finished-long (net_of job) in
        reply-taken job a r l (buffer-finished job a k) ∙ sym (reply-taken job b r l (buffer-finished job b (sym same ∙ k)))
    go (inr k) =
        let r : List ℕ = bounds_reply (net_of job) in
        let l = bounds-long (net_of job) in
        reply-taken job a r l (buffer-bounds job a k) ∙ sym (reply-taken job b r l (buffer-bounds job b (sym same ∙ k)))

-- As many bytes are written as the reply is long, and behind them none.
pub written-reply : (job : List ℕ) (n : ℕ) → Replied n → written job n ≡ reply_length (net_of job)
unfolding written
written-reply job n (inl e) = rw e
written-reply job n (inr e) = rw e

pub written-rest : (job before : List ℕ)
    → drop (written job (size_number job (length before))) (size_buffer job before) ≡ drop (written job (size_number job (length before))) before
written-rest job before = go (buffer-cases job before)
  where
    go : Replied (size_number job (length before)) ⊎ (size_buffer job before ≡ before)
        → drop (written job (size_number job (length before))) (size_buffer job before) ≡ drop (written job (size_number job (length before))) before
    go (inl a) = rw (written-reply job (size_number job (length before)) a) (buffer-rest job before a)
    go (inr e) = ap (drop (written job (size_number job (length before)))) e

-- How many tells P alone, at 0 and at 14.
pub reply-length : (a b : List ℕ) (m n : ℕ) → places (net_of a) ≡ places (net_of b) → Replied m → Replied n → written a m ≡ written b n
reply-length a b m n e r s = rw (written-reply a m r, written-reply b n s) (ap (λ p. 8 * suc p) e)

pub reply-places : (a b : List ℕ) (m n : ℕ) → Replied m → Replied n → written a m ≡ written b n → places (net_of a) ≡ places (net_of b)
reply-places a b m n r s e = omega (arith, written-reply a m r, written-reply b n s)
