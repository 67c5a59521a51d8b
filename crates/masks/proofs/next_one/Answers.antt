-- The place's own word has the next one, or what is next from the following word on is the answer.
use native.Mathlib.Omega.{arith}
use mathlib.Core.Path.{◌≡◌, sym, ◌∙◌}
use Prim.Native.Nat.{◌+◌, ◌*◌, ◌/◌, ◌%◌}
use Rattle.masks.specs.Masks.{mask_bit}
use Rattle.masks.proofs.Laws.{next-end}
use Rattle.masks.proofs.Words.{next-in-word, next-past-word}
use Rattle.masks.proofs.next_one.Goals as goal

pub returns-then-n-i : goal.returns-then-n-i
returns-then-n-i c =
    let a = c.args in
    sym (next-end (mask_bit a.s.now a.at) (8 * a.n) a.p.0 (omega arith))

pub returns-then-high-ne0 : goal.returns-then-high-ne0
returns-then-high-ne0 c =
    let a = c.args in
    let f = mask_bit a.s.now a.at in
    let q = a.p.0 in
    sym
    (next-in-word f (8 * (q / 64 * 8)) _ c.word.ensures (q % 64) _ q c.high_bits-high.ensures (omega arith)
    (λ e. omega arith) (8 * a.n) (omega arith))

pub returns : goal.returns
returns c =
    let a = c.args in
    let f = mask_bit a.s.now a.at in
    let q = a.p.0 in
    let e : 8 * (a.p.0 / 64 * 8 + 8) ≡ 8 * (a.p.0 / 64 * 8) + 64 = omega arith in
    rw e at c.next_in_words.ensures
    ∙ sym
    (next-past-word f (8 * (q / 64 * 8)) _ c.word.ensures (q % 64) _ q c.high_bits-high.ensures (omega arith)
    (8 * a.n) (omega arith) (omega arith) (omega arith))
