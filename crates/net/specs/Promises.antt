-- What size promises of its number and of the bytes that it leaves, whatever the buffer held: read off the buffer, and said of the job.
use Rattle.std.specs.Prelude.{◌≡◌, ◌⊎◌, ◌↔◌, cond, ◌||◌, List, [], ◌∷◌, ℕ, suc, ◌+◌, ◌*◌, ◌≤◌, ◌<◌, eqb, length, take, drop, replicate}
use Rattle.lattice.specs.Lists.{at, tabulate}
use Rattle.lattice.specs.Space.{Allowed}
use Rattle.net.specs.Net.{Net, places, net_of}
use Rattle.net.specs.Delay.{delay}
use Rattle.net.specs.Sizings.{allowed, LeastDelaySizing, lower_bound, upper_bound}
use Rattle.net.specs.Answers.{reply_length, size_number}

-- The number that bytes make, the lowest first.
unfoldable pub value_of : List ℕ → ℕ
value_of [] = 0
value_of (b ∷ bs) = b + 256 * value_of bs

-- The delay in a reply: the number in its first record, of eight bytes.
abbrev pub reply_delay : List ℕ → ℕ
reply_delay after = value_of (take 8 after)

-- Byte j of the records of the places, which stand behind the delay's.
unfoldable pub reply_bytes : ℕ → Net → List ℕ → List ℕ
reply_bytes j net after = tabulate (places net) (λ p. at after (8 * suc p + j))

-- The four sizings in a reply.
abbrev pub reply_lower : Net → List ℕ → List ℕ
reply_lower = reply_bytes 0

abbrev pub reply_upper : Net → List ℕ → List ℕ
reply_upper = reply_bytes 1

abbrev pub reply_lean : Net → List ℕ → List ℕ
reply_lean = reply_bytes 2

abbrev pub reply_wide : Net → List ℕ → List ℕ
reply_wide = reply_bytes 3

-- What both kinds of reply hold: the two bounds of the job, the lower at most the upper at each place, and zeros behind the four sizings.
pub record Bounded (net : Net) (after : List ℕ) : Type 0 where
  pub lower : reply_lower net after ≡ lower_bound net
  pub upper : reply_upper net after ≡ upper_bound net
  pub in_order : (p : ℕ) → p < places net → at (reply_lower net after) p ≤ at (reply_upper net after) p
  pub zeros : (j : ℕ) → 4 ≤ j → j < 8 → reply_bytes j net after ≡ replicate (places net) 0

-- A finished reply.
pub record Finished (net : Net) (after : List ℕ) : Type 0 where
  -- some allowed sizing has the delay, and none has a smaller one
  pub reached : (x : List ℕ) × Allowed (allowed net) x × (delay net x ≡ reply_delay after)
  pub least : (x : List ℕ) → Allowed (allowed net) x → reply_delay after ≤ delay net x
  -- lean and wide are allowed, and no allowed sizing has a smaller delay than theirs
  pub lean : LeastDelaySizing net (reply_lean net after)
  pub wide : LeastDelaySizing net (reply_wide net after)
  -- every least-delay sizing lies between them at each place
  pub between : (x : List ℕ) → LeastDelaySizing net x → (p : ℕ) → p < places net
      → (at (reply_lean net after) p ≤ at x p) × (at x p ≤ at (reply_wide net after) p)
  -- they are equal exactly when the job has one least-delay sizing
  pub one : (reply_lean net after ≡ reply_wide net after) ↔ ((x y : List ℕ) → LeastDelaySizing net x → LeastDelaySizing net y → x ≡ y)
  pub bounded : Bounded net after

-- The reply with 14: the bounds, and 255 in every byte of delay, lean and wide.
pub record Unsearched (net : Net) (after : List ℕ) : Type 0 where
  pub delay_bytes : take 8 after ≡ replicate 8 255
  pub lean : reply_lean net after ≡ replicate (places net) 255
  pub wide : reply_wide net after ≡ replicate (places net) 255
  pub bounded : Bounded net after

-- What holds of every call: of its job, the buffer before it, the number that it returns and the buffer after it.
pub record Promises (job before : List ℕ) (number : ℕ) (after : List ℕ) : Type 0 where
  pub long : length after ≡ length before
  -- the number of the first question whose answer is no, or 0
  pub settled : number ≡ size_number job (length before)
  -- at every other number than 0 and 14 nothing is written
  pub refused : (number ≡ 0 → ⊥) → (number ≡ 14 → ⊥) → after ≡ before
  -- behind the reply nothing is ever written
  pub rest : drop (reply_length (net_of job)) after ≡ drop (reply_length (net_of job)) before
  pub finished : number ≡ 0 → Finished (net_of job) after
  pub unsearched : number ≡ 14 → Unsearched (net_of job) after

-- The numbers that come with a reply.
abbrev pub Replied : ℕ → Type 0
Replied number = (number ≡ 0) ⊎ (number ≡ 14)

-- How many bytes of the buffer are written with a number.
unfoldable pub written : List ℕ → ℕ → ℕ
written job number = cond (eqb number 0 || eqb number 14) (reply_length (net_of job)) 0
