-- A word passed is a law of its values, and so is the end.
use mathlib.Core.List.{List, ◌++◌}
use mathlib.Core.Path.{◌≡◌, refl, sym, ap, ◌∙◌}
use Prim.Native.Nat.{ℕ, ◌+◌, ◌*◌, ◌≤◌}
use native.Mathlib.Omega.{arith}
use lib.ListN.{length, take}
use Rattle.masks.proofs.Laws.{ones_none}
use Rattle.expand.proofs.Laws.{word_more, word-last, lent, put-behind}
use Rattle.expand.proofs.fill_leaf.Goals as goal

pub loop-i-init : goal.loop-i-init
loop-i-init c = (sym (ap length (ones_none _ 0)), refl)

pub loop-i-preserved : goal.loop-i-preserved
loop-i-preserved c =
    let l = c.loop-i in
    let p : ℕ = 64 * l.i in
    let next : 64 * (l.i + 1) ≡ p + 64 = omega arith in
    let whole : length l.slots ≡ 512 = l.auto.slots ∙ c.requires.1 in
    let room : p + 64 ≤ length l.slots = omega arith in
    rw next (
      c.fill_word-k.ensures.1,
      word_more _ _ _ _ _ l.slots p l.invariant.1 (omega arith)
          (put-behind p 64 l.slots _ _ (omega arith) (c.fill_word-k.auto.slots ∙ lent p 64 l.slots room) ∙ ap (λ (v : List ℕ). take p l.slots ++ v) c.fill_word-k.ensures.0),
    )

pub returns : goal.returns
returns c =
    let l = c.loop-i in
    let e : l.i ≡ 8 = omega arith in
    word-last _ _ _ _ _ l.slots 512 (rw e at l.invariant.1) (l.auto.slots ∙ c.requires.1) (omega arith)
