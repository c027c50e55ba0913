-- What each operation answers, for every input: the sections 'Reply' and 'The questions' of the specification.
use Rattle.std.specs.Prelude.{Bool, cond, ◌&&◌, ℕ, zero, suc, ◌*◌, ◌/◌, ◌%◌, leb, ltb, eqb, length, set, take, drop, replicate}
use mathlib.Core.List.{List, [], ◌∷◌, ◌++◌, flat_map}
use Rattle.lattice.specs.Lists.{at, every, from}
use Rattle.lattice.specs.Refine.{best_below, best_above}
use Rattle.net.specs.Net.{Net, places, net_of}
use Rattle.net.specs.Delay.{delay, load_figure}
use Rattle.net.specs.Sizings.{allowed, least_delay, lean, wide, lower_bound, upper_bound, room}
use Rattle.net.specs.Questions.{ask, first_no, in_range, job_questions}

-- 15. Is a sizing at least P bytes?
abbrev pub question15 : Net → List ℕ → Bool
question15 net x = leb (places net) (length x)

-- 16. Is each index in its place's range?
abbrev pub question16 : Net → List ℕ → Bool
question16 net x = every (places net) (λ p. in_range (net.lowest p) (net.highest p) (at x p))

-- 17. Is the place below P?
abbrev pub question17 : Net → ℕ → Bool
question17 net p = ltb p (places net)

-- The sizing in a buffer: its first P bytes. Later bytes make no difference.
abbrev pub sizing_in : Net → List ℕ → List ℕ
sizing_in net x = take (places net) x

-- measure: the number, and with 0 the scaled delay and the load figure; a refusal has zeros.
pub record Measured : Type 0 where
  pub number : ℕ
  pub delay : ℕ
  pub load : ℕ

unfoldable pub measure_number : List ℕ → List ℕ → ℕ
measure_number job x = first_no (job_questions job ++ ask 15 (question15 (net_of job) x) ∷ ask 16 (question16 (net_of job) x) ∷ [])

unfoldable pub measured : List ℕ → List ℕ → Measured
measured job x =
    let net : Net = net_of job in
    cond (eqb (measure_number job x) 0)
    record { number = 0; delay = delay net (sizing_in net x); load = load_figure net (sizing_in net x) }
    record { number = measure_number job x; delay = 0; load = 0 }

-- refine: the number, and with 0 the smallest and the largest best index at the place, the rest held, and the scaled delay that is reached with
-- the smallest put there, or the largest: theorem `either_end` in `proofs/Ties` says that it is the same. A refusal has zeros.
pub record Refined : Type 0 where
  pub number : ℕ
  pub lowest : ℕ
  pub highest : ℕ
  pub delay : ℕ

unfoldable pub refine_number : List ℕ → List ℕ → ℕ → ℕ
refine_number job x p =
    first_no
    (job_questions job
    ++ ask 15 (question15 (net_of job) x)
    ∷ ask 16 (question16 (net_of job) x)
    ∷ ask 17 (question17 (net_of job) p)
    ∷ [])

unfoldable pub refined : List ℕ → List ℕ → ℕ → Refined
refined job x p =
    let net : Net = net_of job in
    let held : List ℕ = sizing_in net x in
    let smallest : ℕ = best_below (allowed net) (delay net) held p in
    let largest : ℕ = best_above (allowed net) (delay net) held p in
    cond (eqb (refine_number job x p) 0)
    record { number = 0; lowest = smallest; highest = largest; delay = delay net (set held p smallest) }
    record { number = refine_number job x p; lowest = 0; highest = 0; delay = 0 }

-- choose: the first P bytes of the one of two sizings that has the smaller delay, at a tie of the first; a refusal gives the empty part.
unfoldable pub choose_number : List ℕ → List ℕ → List ℕ → ℕ
choose_number job x y =
    first_no
    (job_questions job
    ++ ask 15 (question15 (net_of job) x && question15 (net_of job) y)
    ∷ ask 16 (question16 (net_of job) x && question16 (net_of job) y)
    ∷ [])

unfoldable pub first_chosen : List ℕ → List ℕ → List ℕ → Bool
first_chosen job x y = let net : Net = net_of job in leb (delay net (sizing_in net x)) (delay net (sizing_in net y))

unfoldable pub chosen : List ℕ → List ℕ → List ℕ → List ℕ
chosen job x y = cond (eqb (choose_number job x y) 0) (sizing_in (net_of job) (cond (first_chosen job x y) x y)) []

-- The length of a reply: eight bytes for the delay and for each place.
abbrev pub reply_length : Net → ℕ
reply_length net = 8 * suc (places net)

-- size: the number, where the caller's buffer holds n bytes. The number 13 is not used.
unfoldable pub size_number : List ℕ → ℕ → ℕ
size_number job n =
    let net : Net = net_of job in
    first_no
    (job_questions job
    ++ ask 12 (leb (reply_length net) n)
    ∷ ask 14 (leb (room net) 65536)
    ∷ [])

-- A number in n bytes, the lowest first.
unfoldable pub little_endian : ℕ → ℕ → List ℕ
little_endian zero v = []
little_endian (suc n) v = ◌%◌ v 256 ∷ little_endian n (◌/◌ v 256)

-- The records of a reply: the delay's eight bytes, then for each place lower, upper, lean, wide and four zero bytes.
unfoldable pub reply_records : ℕ → List ℕ → (lower upper lean wide : ℕ → ℕ) → List ℕ
reply_records n delay_bytes lower upper lean wide =
    delay_bytes ++ flat_map (λ p. lower p ∷ upper p ∷ lean p ∷ wide p ∷ replicate 4 0) (from 0 n)

-- The reply with the number 0, called finished, and the reply with 14: delay bytes, lean and wide all 255.
unfoldable pub finished_reply : Net → List ℕ
finished_reply net =
    reply_records (places net) (little_endian 8 (least_delay net)) (at (lower_bound net)) (at (upper_bound net)) (at (lean net)) (at (wide net))

unfoldable pub bounds_reply : Net → List ℕ
bounds_reply net = reply_records (places net) (replicate 8 255) (at (lower_bound net)) (at (upper_bound net)) (λ p. 255) (λ p. 255)

-- The buffer after size: at 0 and at 14 the reply and the rest as it was, at every other number all as it was.
unfoldable pub size_buffer : List ℕ → List ℕ → List ℕ
size_buffer job before =
    let net : Net = net_of job in
    let number : ℕ = size_number job (length before) in
    cond (eqb number 0) (finished_reply net ++ drop (reply_length net) before)
    (cond (eqb number 14) (bounds_reply net ++ drop (reply_length net) before) before)
