-- Each way out is one law of the definition: the mask, the next place, the origin, in the order of the tests.
use borrow.Author.Tests.{leb-true, leb-false}
use native.Mathlib.Omega.{arith}
use mathlib.Core.Bool.{false≢true}
use mathlib.Core.Path.{sym, ◌∙◌}
use Rattle.cursor.proofs.Laws.{entered-outside, entered-past, entered-aligned}
use Rattle.cursor.proofs.is_entered.Goals.{then-n-s, else-n-s, then-w-s, else-w-s}
use Rattle.cursor.proofs.is_entered.Goals as goal

pub returns-then-w-n : goal.returns-then-w-n
returns-then-w-n c = elim c.if-w-s.branch [
  | then-w-s w ↦ elim c.if-n-s.branch [
    | then-n-s v ↦ entered-aligned _ _ _ _ (omega (arith, leb-true _ _ (sym v.value-is ∙ w.if-w-s.true))) (leb-true _ _ (sym w.value-is ∙ c.if-w-n.true)) c.is_aligned.ensures
    | else-n-s v ↦ absurd (omega (arith, leb-true _ _ (sym v.value-is ∙ w.if-w-s.true)))
  ]
  | else-w-s w ↦ absurd (false≢true (sym w.if-w-s.false ∙ sym w.value-is ∙ c.if-w-n.true))
]

pub returns-else-w-n : goal.returns-else-w-n
returns-else-w-n c = c.if-w-n.false ∙ elim c.if-w-s.branch [
  | then-w-s w ↦ elim c.if-n-s.branch [
    | then-n-s v ↦ entered-past _ _ _ _ (omega (arith, leb-true _ _ (sym v.value-is ∙ w.if-w-s.true))) (leb-false _ _ (sym w.value-is ∙ c.if-w-n.false))
    | else-n-s v ↦ absurd (omega (arith, leb-true _ _ (sym v.value-is ∙ w.if-w-s.true)))
  ]
  | else-w-s w ↦ entered-outside _ _ _ _ (elim c.if-n-s.branch [
    | then-n-s v ↦ omega (arith, leb-false _ _ (sym v.value-is ∙ w.if-w-s.false))
    | else-n-s v ↦ omega arith
  ])
]
