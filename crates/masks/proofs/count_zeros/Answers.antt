-- Each place is a one or a zero.
use native.Mathlib.Omega.{arith}
use Prim.Native.Nat.{◌*◌}
use Rattle.masks.specs.Masks.{mask_bit}
use Rattle.masks.proofs.Laws.{zeros-add}
use Rattle.masks.proofs.count_zeros.Goals as goal

pub overflow_sub-result : goal.overflow_sub-result
overflow_sub-result c =
    let a = c.args in
    omega (arith, zeros-add (mask_bit a.s.now a.at) (8 * a.n))

pub returns : goal.returns
returns c =
    let a = c.args in
    omega (arith, zeros-add (mask_bit a.s.now a.at) (8 * a.n))
