-- `quantity::along` meets its contract: the product of two numbers of 32 bits fits in 64.
use Prim.Native.Nat.{◌≤◌}
use native.Mathlib.Nat.{mul-le-mul}
use native.Mathlib.Omega.{arith}
use Rattle.quantity.proofs.along.Goals as goal

pub overflow_mul-result : goal.overflow_mul-result
overflow_mul-result c =
    let a : c.args.row ≤ 4294967295 = omega arith in
    let b : c.args.length ≤ 4294967295 = omega arith in
    omega (arith, mul-le-mul a b)

pub returns : goal.returns
returns c =
    let a : c.args.row ≤ 4294967295 = omega arith in
    let b : c.args.length ≤ 4294967295 = omega arith in
    omega (arith, mul-le-mul a b)
