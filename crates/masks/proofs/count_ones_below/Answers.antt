-- The whole words and the part of the place's own word make the places below it.
use native.Mathlib.Omega.{arith}
use mathlib.Core.Path.{◌≡◌}
use Prim.Native.Nat.{◌+◌, ◌%◌}
use lib.Count.{ones}
use Rattle.masks.specs.Masks.{mask_bit, count_below}
use Rattle.masks.proofs.Laws.{count-le}
use Rattle.masks.proofs.Words.{count-on}
use Rattle.masks.proofs.count_ones_below.Goals.{After-low_bits}
use Rattle.masks.proofs.count_ones_below.Goals as goal

counted :
    (c : After-low_bits) → let a = c.args in
    c.count_ones-whole.result + ones c.low_bits.result ≡ count_below (mask_bit a.s.now a.at) a.p.0
counted c =
    let a = c.args in
    rw c.count_ones-whole.ensures
    (count-on (mask_bit a.s.now a.at) _ _ c.word.ensures (a.p.0 % 64) _ _ (omega arith) c.low_bits.ensures (omega arith))

pub overflow_add-result : goal.overflow_add-result
overflow_add-result c =
    let a = c.args in
    omega (arith, counted c, count-le (mask_bit a.s.now a.at) a.p.0)

pub returns : goal.returns
returns c = counted c
