-- The bytes of a reply behind the delay's.
use mathlib.Core.List.{List, ◌∷◌, ◌++◌, flat_map}
use Rattle.std.specs.Prelude.{ℕ, suc, ◌*◌, length, drop, replicate}
use Rattle.lattice.specs.Lists.{at, from}
use Rattle.net.specs.Answers.{reply_records}

-- The record of a place: lower, upper, lean, wide and four zero bytes.
abbrev pub place_bytes : ℕ → ℕ → ℕ → ℕ → List ℕ
place_bytes lower upper lean wide = lower ∷ upper ∷ lean ∷ wide ∷ replicate 4 0

-- The records of n places from k on.
unfoldable pub places_bytes : ℕ → ℕ → (lower upper lean wide : ℕ → ℕ) → List ℕ
places_bytes k n lower upper lean wide = flat_map (λ p. place_bytes (lower p) (upper p) (lean p) (wide p)) (from k n)

-- What a sizing by position has for place p, by the position of each place.
abbrev pub of_place : (positions sizing : List ℕ) → ℕ → ℕ
of_place positions sizing p = at sizing (at positions p)

-- The records of as many places as `lower` has.
abbrev pub records_of : (positions lower upper lean wide : List ℕ) → List ℕ
records_of positions lower upper lean wide =
    places_bytes 0 (length lower) (of_place positions lower) (of_place positions upper) (of_place positions lean) (of_place positions wide)

-- The buffer after a reply of n places with the delay's eight bytes `delay`, and after one that has the bounds and all else 255.
abbrev pub replied : ℕ → (delay positions lower upper lean wide buffer : List ℕ) → List ℕ
replied n delay positions lower upper lean wide buffer =
    reply_records n delay (of_place positions lower) (of_place positions upper) (of_place positions lean) (of_place positions wide) ++ drop (8 * suc n) buffer

abbrev pub bounds_replied : ℕ → (positions lower upper buffer : List ℕ) → List ℕ
bounds_replied n positions lower upper buffer =
    reply_records n (replicate 8 255) (of_place positions lower) (of_place positions upper) (λ p. 255) (λ p. 255) ++ drop (8 * suc n) buffer
