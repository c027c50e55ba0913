-- What some fractions count, by computation.
use Rattle.std.proofs.Common.{◌≡◌, true, false, refl}
use lib.Ieee.{of_bits, binary64}
use Rattle.lattice.specs.Lists.{some}
use Rattle.net.specs.Weights.{last_at, counts_as, fraction_count}

-- 1/256 counts as 1.
one-256th : counts_as (of_bits binary64 0x3F70000000000000) 1 ≡ true
unfolding of_bits counts_as
one-256th = refl

-- 1/2 counts 128.
half : fraction_count (of_bits binary64 0x3FE0000000000000) ≡ 128
unfolding of_bits counts_as last_at fraction_count
half = refl

-- Minus zero counts as 0.
minus-zero : counts_as (of_bits binary64 0x8000000000000000) 0 ≡ true
unfolding of_bits counts_as
minus-zero = refl

-- -1/256 is refused.
minus-one-256th : some 256 (counts_as (of_bits binary64 0xBF70000000000000)) ≡ false
unfolding of_bits counts_as some
minus-one-256th = refl

-- 1 is refused.
one : some 256 (counts_as (of_bits binary64 0x3FF0000000000000)) ≡ false
unfolding of_bits counts_as some
one = refl

-- The number just above 1/256 is refused.
just-above : some 256 (counts_as (of_bits binary64 0x3F70000000000001)) ≡ false
unfolding of_bits counts_as some
just-above = refl

-- A NaN is refused.
not-a-number : some 256 (counts_as (of_bits binary64 0x7FF8000000000000)) ≡ false
unfolding of_bits counts_as some
not-a-number = refl

-- Infinity is refused.
infinity : some 256 (counts_as (of_bits binary64 0x7FF0000000000000)) ≡ false
unfolding of_bits counts_as some
infinity = refl
