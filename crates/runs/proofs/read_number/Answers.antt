-- Where a number stands it is read, and else nothing is; the two checks of it, one after the other.
use borrow.Author.Rules.{rules}
use borrow.Author.Tests.{eq-eqb, ne_eqb}
use mathlib.Core.Path.{refl, sym, ap, ◌∙◌}
use mathlib.Core.Bool.{not}
use mir.Syntax.{w64}
use mir.Val.{SFits}
use Rattle.fields.proofs.Laws.{then-got, check-passes, check-fails}
use Rattle.fields.proofs.Steps.{steps, handed-on-end, yes}
use Rattle.runs.specs.Runs.{number_field, size_checked}
use Rattle.runs.proofs.Sizes.{at-most-0, same_size}
use Rattle.runs.proofs.read_number.Goals as goal

pub returns-then-not-is_sized : goal.returns-then-not-is_sized
unfolding number_field
returns-then-not-is_sized c = search steps

pub returns-in_err-number : goal.returns-in_err-number
unfolding number_field
returns-in_err-number c = handed-on-end _ _ c.from_residual.ensures.1 (search (steps, c.in_err-number.ensures))

pub returns-then-number-gt0 : goal.returns-then-number-gt0
unfolding number_field size_checked
returns-then-number-gt0 c =
    let fits : SFits w64 c.in_ok-number.number = search rules in
    yes _ c.is_sized.ensures c.if-not-is_sized.false
    (then-got _ c.in_ok-number.ensures (check-fails _ (ap not (sym c.if-number-gt0.true) ∙ at-most-0 fits)))

pub returns-then-number-bytes : goal.returns-then-number-bytes
unfolding number_field size_checked
returns-then-number-bytes c =
    let fits : SFits w64 c.in_ok-number.number = search rules in
    yes _ c.is_sized.ensures c.if-not-is_sized.false
    (then-got _ c.in_ok-number.ensures
    (check-passes _ (ap not (sym c.if-number-gt0.false) ∙ at-most-0 fits)
    (check-fails _ (sym (ne_eqb _ _ c.if-number-bytes.true) ∙ same_size c.requires fits))))

pub returns : goal.returns
unfolding number_field size_checked
returns c =
    let fits : SFits w64 c.in_ok-number.number = search rules in
    yes _ c.is_sized.ensures c.if-not-is_sized.false
    (then-got _ c.in_ok-number.ensures
    (check-passes _ (ap not (sym c.if-number-gt0.false) ∙ at-most-0 fits)
    (check-passes _ (sym (eq-eqb _ _ c.if-number-bytes.false) ∙ same_size c.requires fits) refl)))
