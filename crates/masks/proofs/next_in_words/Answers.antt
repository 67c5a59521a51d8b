use native.Mathlib.Omega.{arith}
use mathlib.Core.Path.{◌≡◌, sym, ◌∙◌}
use Prim.Native.Nat.{◌+◌, ◌*◌}
use native.Mathlib.Nat.{add-zero}
use Rattle.masks.specs.Masks.{mask_bit}
use Rattle.masks.proofs.Laws.{next-end}
use Rattle.masks.proofs.Words.{next-in-word, next-past-word}
use Rattle.masks.proofs.next_in_words.Goals as goal

pub returns-then-w-ne0 : goal.returns-then-w-ne0
returns-then-w-ne0 c =
    let a = c.args in
    let f = mask_bit a.s.now a.at in
    let p = 8 * (8 * c.loop-k.k) in
    let e : 64 * c.loop-k.k ≡ p = omega arith in
    let o = next-in-word f p _ c.word-w.ensures 0 _ p (omega arith) (add-zero p) c.if-w-ne0.true (8 * a.n) (omega arith) in
    rw e (sym o) ∙ c.loop-k.invariant

pub loop-k-preserved : goal.loop-k-preserved
loop-k-preserved c =
    let a = c.args in
    let f = mask_bit a.s.now a.at in
    let p = 8 * (8 * c.loop-k.k) in
    let e : 8 * (8 * (c.loop-k.k + 1)) ≡ p + 64 = omega arith in
    let o = next-past-word f p _ c.word-w.ensures 0 _ p (omega arith) (add-zero p) (8 * a.n) (omega arith) (omega arith) c.if-w-ne0.false in
    rw e (sym o ∙ c.loop-k.invariant)

pub returns : goal.returns
returns c =
    let a = c.args in
    sym (next-end (mask_bit a.s.now a.at) (8 * a.n) (8 * (8 * c.loop-k.k)) (omega arith)) ∙ c.loop-k.invariant
