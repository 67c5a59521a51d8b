use native.Mathlib.Omega.{arith}
use mathlib.Core.Path.{◌≡◌, sym, ap}
use Prim.Native.Nat.{◌+◌, ◌*◌}
use Rattle.masks.specs.Masks.{mask_bit, is_nil}
use Rattle.masks.proofs.Laws.{ones_none}
use Rattle.masks.proofs.Words.{agree_on}
use Rattle.masks.proofs.masks_equal.Goals as goal

pub loop-k-init : goal.loop-k-init
loop-k-init c = sym (ap is_nil (ones_none _ 0))

pub loop-k-preserved : goal.loop-k-preserved
loop-k-preserved c =
    let a = c.args in
    let e : 8 * (8 * (c.loop-k.k + 1)) ≡ 8 * (8 * c.loop-k.k) + 64 = omega arith in
    let o = agree_on (mask_bit a.s.now a.a) (mask_bit a.s.now a.b) (8 * (8 * c.loop-k.k)) _ _ c.word.ensures c.word-in-loop-k.ensures in
    rw (e, c.loop-k.invariant) o
