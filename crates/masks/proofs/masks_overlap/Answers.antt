use native.Mathlib.Omega.{arith}
use mathlib.Core.Path.{◌≡◌, sym, ap}
use mathlib.Core.Bool.{not}
use Prim.Native.Nat.{◌+◌, ◌*◌}
use Rattle.masks.specs.Masks.{mask_bit, is_nil}
use Rattle.masks.proofs.Laws.{ones_none}
use Rattle.masks.proofs.Words.{overlap-on, overlap-here}
use Rattle.masks.proofs.masks_overlap.Goals as goal

pub loop-k-init : goal.loop-k-init
loop-k-init c = ap (λ l. not (is_nil l)) (ones_none _ 0)

pub returns-then-word-ne0 : goal.returns-then-word-ne0
returns-then-word-ne0 c =
    let a = c.args in
    let f = mask_bit a.s.now a.a in
    let g = mask_bit a.s.now a.b in
    sym (overlap-here f g (8 * (8 * c.loop-k.k)) _ _ c.word.ensures c.word-in-loop-k.ensures (8 * a.n) (omega arith) c.if-word-ne0.true)

pub loop-k-preserved : goal.loop-k-preserved
loop-k-preserved c =
    let a = c.args in
    let f = mask_bit a.s.now a.a in
    let g = mask_bit a.s.now a.b in
    let e : 8 * (8 * (c.loop-k.k + 1)) ≡ 8 * (8 * c.loop-k.k) + 64 = omega arith in
    rw e (overlap-on f g (8 * (8 * c.loop-k.k)) _ _ c.word.ensures c.word-in-loop-k.ensures c.loop-k.invariant c.if-word-ne0.false)
