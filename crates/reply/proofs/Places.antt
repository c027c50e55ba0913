-- The records of the places written one after the other: what the loop has left to write, and that all together are the reply.
use mathlib.Core.Path.{◌≡◌, refl, sym, ap, ◌∙◌}
use mathlib.Core.List.{List, ◌++◌, flat_map}
use Prim.Native.Nat.{ℕ, zero, suc, ◌+◌, ◌*◌, ◌-◌, ◌≤◌, ◌<◌}
use native.Mathlib.Nat.{sub-zero}
use native.Mathlib.Numerals.{add-one}
use native.Mathlib.Omega.{arith}
use lib.ListN.{length, drop, replicate, length-append, get_or-replicate}
use lib.Seq.{sets, length-sets, sets-eq}
use Rattle.text.proofs.Writing.{sets-append}
use Rattle.lattice.specs.Lists.{at, from}
use Rattle.net.specs.Answers.{little_endian, reply_records}
use Rattle.positions.specs.Arranged.{Among}
use Rattle.reply.specs.Records.{place_bytes, places_bytes, of_place}
use Rattle.reply.proofs.Numbers.{number-long}

-- what is left to write of n places' records
pub record Placing (b₀ : List ℕ) (n : ℕ) (lower upper lean wide : ℕ → ℕ) (b : List ℕ) (p : ℕ) : Type 0 where
  pub up_to : p ≤ n
  pub long : length b ≡ length b₀
  pub left : sets b (8 * (1 + p)) (places_bytes p (n - p) lower upper lean wide) ≡ sets b₀ 8 (places_bytes 0 n lower upper lean wide)

module _ (b₀ : List ℕ) (n : ℕ) (lower upper lean wide : ℕ → ℕ) where
  pub placing-start : Placing b₀ n lower upper lean wide b₀ 0
  placing-start = record { up_to = omega arith; long = refl; left = rw (sub-zero n) }

  module _ (b : List ℕ) (p : ℕ) (i : Placing b₀ n lower upper lean wide b p) where
    pub placing-step : (r b' : List ℕ) → p < n → r ≡ place_bytes (lower p) (upper p) (lean p) (wide p)
        → b' ≡ sets b (8 * (1 + p)) r → Placing b₀ n lower upper lean wide b' (p + 1)
    unfolding places_bytes from flat_map
    placing-step r b' h e f =
        let more : n - p ≡ suc (n - suc p) = omega arith in
        let next : 8 * (1 + (p + 1)) ≡ 8 * (1 + p) + 8 = omega arith in
        record {
          up_to = omega arith;
          long = ap length f ∙ length-sets b (8 * (1 + p)) r ∙ i.long;
          left =
              rw (next, f, e, add-one p)
              (sym (sets-append (place_bytes (lower p) (upper p) (lean p) (wide p)) (places_bytes (suc p) (n - suc p) lower upper lean wide) b (8 * (1 + p)))
              ∙ rw more at i.left);
        }

    pub placing-end : n ≤ p → b ≡ sets b₀ 8 (places_bytes 0 n lower upper lean wide)
    unfolding places_bytes from flat_map
    placing-end h =
        let none : n - p ≡ 0 = omega arith in
        rw none at i.left

-- n records are eight times as many bytes
places-long : (k n : ℕ) (lower upper lean wide : ℕ → ℕ) → length (places_bytes k n lower upper lean wide) ≡ 8 * n
unfolding places_bytes from flat_map
places-long k zero lower upper lean wide = refl
places-long k (suc n) lower upper lean wide = omega (arith, places-long (suc k) n lower upper lean wide)

-- the delay's bytes and then the places' are a whole reply
pub whole : (b : List ℕ) (v n : ℕ) (lower upper lean wide : ℕ → ℕ) → 8 * suc n ≤ length b
    → sets (sets b 0 (little_endian 8 v)) 8 (places_bytes 0 n lower upper lean wide) ≡ reply_records n (little_endian 8 v) lower upper lean wide ++ drop (8 * suc n) b
unfolding reply_records places_bytes
whole b v n lower upper lean wide h =
    let d = little_endian 8 v in
    let l = places_bytes 0 n lower upper lean wide in
    let e : length (d ++ l) ≡ 8 * suc n = simp (length-append, number-long, places-long) (omega arith) in
    let first : 0 + length d ≡ 8 = omega (arith, number-long v) in
    let all : 0 + length (d ++ l) ≡ 8 * suc n = omega arith in
    sym (rw first at (sets-append d l b 0)) ∙ rw all at (sets-eq (d ++ l) b 0 (omega arith))

-- places that have the same indices have the same records
places_same : (k n : ℕ) (lower upper lean wide lower' upper' lean' wide' : ℕ → ℕ)
    → ((p : ℕ) → p < k + n → (lower p ≡ lower' p) × (upper p ≡ upper' p) × (lean p ≡ lean' p) × (wide p ≡ wide' p))
    → places_bytes k n lower upper lean wide ≡ places_bytes k n lower' upper' lean' wide'
unfolding places_bytes from flat_map
places_same k zero lower upper lean wide lower' upper' lean' wide' e = refl
places_same k (suc n) lower upper lean wide lower' upper' lean' wide' e =
    let f = e k (omega arith) in
    rw (f.0, f.1, f.2, f.3, places_same (suc k) n lower upper lean wide lower' upper' lean' wide' (λ p h. e p (omega arith)))

pub reply-same : (n : ℕ) (delay : List ℕ) (lower upper lean wide lower' upper' lean' wide' : ℕ → ℕ)
    → ((p : ℕ) → p < n → (lower p ≡ lower' p) × (upper p ≡ upper' p) × (lean p ≡ lean' p) × (wide p ≡ wide' p))
    → reply_records n delay lower upper lean wide ≡ reply_records n delay lower' upper' lean' wide'
unfolding reply_records places_bytes
reply-same n delay lower upper lean wide lower' upper' lean' wide' e =
    ap (λ l. delay ++ l) (places_same 0 n lower upper lean wide lower' upper' lean' wide' (λ p h. e p (omega arith)))

-- the largest number
largest : little_endian 8 18446744073709551615 ≡ replicate 8 255
unfolding little_endian
largest = refl

-- with the largest number and 255 at each place
pub none-known : (n : ℕ) (positions : List ℕ) (lower upper : ℕ → ℕ) → n ≤ 76 → Among n n positions
    → reply_records n (little_endian 8 18446744073709551615) lower upper (of_place positions (replicate 76 255)) (of_place positions (replicate 76 255))
    ≡ reply_records n (replicate 8 255) lower upper (λ p. 255) (λ p. 255)
none-known n positions lower upper h a =
    rw largest (reply-same n (replicate 8 255) lower upper (of_place positions (replicate 76 255)) (of_place positions (replicate 76 255)) lower upper (λ p. 255) (λ p. 255) (λ p l. (refl, refl, all p l, all p l)))
  where
    all : (p : ℕ) → p < n → at (replicate 76 255) (at positions p) ≡ 255
    all p l = get_or-replicate 76 (at positions p) 255 0 (omega (arith, a.among p l))
