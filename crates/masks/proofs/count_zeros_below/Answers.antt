-- Each place is a one or a zero.
use native.Mathlib.Omega.{arith}
use Rattle.masks.specs.Masks.{mask_bit}
use Rattle.masks.proofs.Laws.{zeros-add}
use Rattle.masks.proofs.count_zeros_below.Goals as goal

pub overflow_sub-result : goal.overflow_sub-result
overflow_sub-result c =
    let a = c.args in
    omega (arith, zeros-add (mask_bit a.s.now a.at) a.p.0)

pub returns : goal.returns
returns c =
    let a = c.args in
    omega (arith, zeros-add (mask_bit a.s.now a.at) a.p.0)
