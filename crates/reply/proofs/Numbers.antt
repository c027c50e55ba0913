-- The bytes of a number, the lowest first.
use mathlib.Core.Path.{◌≡◌, refl}
use Prim.Native.Nat.{ℕ}
use native.Mathlib.Omega.{arith}
use lib.ListN.{length}
use Rattle.std.specs.Int.{w64, to_le_bytes}
use Rattle.net.specs.Answers.{little_endian}

-- a number of eight bytes
pub number-long : (v : ℕ) → length (little_endian 8 v) ≡ 8
unfolding little_endian
number-long v = refl

-- as std writes them
pub as-bytes : (v : ℕ) → to_le_bytes w64 v ≡ little_endian 8 v
unfolding little_endian
as-bytes v = grind arith
