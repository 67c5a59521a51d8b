-- Checks 12 and 13 in their order, then the transform, what stands before the roots, and the tree, one after the other.
use borrow.Author.Tests.{eq-eqb, ne_eqb}
use mathlib.Core.Path.{◌≡◌, sym, ap, ◌∙◌}
use mathlib.Core.Bool.{true}
use Prim.Native.Nat.{ℕ}
use lib.Dec.{eqb}
use Rattle.fields.proofs.Laws.{then-got, then-fails, check-passes, check-fails}
use Rattle.fields.specs.Answer.{answer}
use Rattle.fields.proofs.Answers.{answer-fails}
use Rattle.fields.proofs.Steps.{handed-on-answer}
use Rattle.roots.proofs.Laws.{head-inside, head-end}
use Rattle.grid.specs.Grid.{is_float_tree, grid_field}
use Rattle.grid.specs.Inner.{read_tree, read_grid}
use Rattle.grid.proofs.Laws.{content-parts}
use Rattle.grid.proofs.read_grid.Goals as goal
use Rattle.grid.proofs.read_grid.Goals.{Else-not-is_float_tree, Else-d-ne0}

-- what the checks let through
float : (c : Else-not-is_float_tree) → true ≡ is_float_tree c.args.d.kind
float c = sym c.if-not-is_float_tree.false ∙ c.is_float_tree.ensures

no-parent : (c : Else-d-ne0) → true ≡ eqb c.args.d.instance_parent.len 0
no-parent c = sym (eq-eqb _ _ c.if-d-ne0.false)

pub returns-then-not-is_float_tree : goal.returns-then-not-is_float_tree
unfolding read_grid grid_field
returns-then-not-is_float_tree c = answer-fails (then-fails _ (check-fails _ (sym c.if-not-is_float_tree.true ∙ c.is_float_tree.ensures)))

pub returns-then-d-ne0 : goal.returns-then-d-ne0
unfolding read_grid grid_field
returns-then-d-ne0 c =
    answer-fails (then-fails _ (check-passes _ (float (goal.at.returns-then-d-ne0 c).Else-not-is_float_tree) (check-fails _ (sym (ne_eqb _ _ c.if-d-ne0.true)))))

pub returns-in_err-transform : goal.returns-in_err-transform
returns-in_err-transform c =
    let at = goal.at.returns-in_err-transform c in
    handed-on-answer _ _ c.from_residual.ensures.1
    (answer-fails (then-fails _ c.in_err-transform.ensures ∙ content-parts _ _ _ (float at.Else-not-is_float_tree) (no-parent at.Else-d-ne0)))

pub returns-in_err-head : goal.returns-in_err-head
returns-in_err-head c =
    let at = goal.at.returns-in_err-head c in
    handed-on-answer _ _ c.from_residual-in_err-head.ensures.1
    (answer-fails (then-got _ c.in_ok-transform.ensures (then-fails _ c.in_err-head.ensures)
    ∙ content-parts _ _ _ (float at.Else-not-is_float_tree) (no-parent at.Else-d-ne0)))

pub read_tree-requires : goal.read_tree-requires
read_tree-requires c = (head-inside _ _ _ _ _ c.in_ok-head.ensures).0

-- the roots stand where the words before them end
pub returns : goal.returns
returns c =
    let at = goal.at.returns c in
    let a = c.args in
    let m = c.in_ok-transform in
    let roots = ap (λ (q : ℕ). read_tree a.s.now a.h a.d m.transform m.end c.in_ok-head.head q) (sym (head-end _ _ _ _ _ c.in_ok-head.ensures)) in
    c.read_tree.ensures
    ∙ ap answer (then-got _ m.ensures (then-got _ c.in_ok-head.ensures roots) ∙ content-parts _ _ _ (float at.Else-not-is_float_tree) (no-parent at.Else-d-ne0))
