-- No byte under 222; a byte that is there selects up to 6, one that is not is check 2.
use Rattle.fields.proofs.Steps.{steps, handed-on}
use Rattle.forms.specs.Forms.{form_field}
use Rattle.forms.proofs.read_form.Goals as goal

pub returns-then-version-lt222 : goal.returns-then-version-lt222
unfolding form_field
returns-then-version-lt222 c = search steps

pub returns-in_err-b : goal.returns-in_err-b
unfolding form_field
returns-in_err-b c = handed-on _ _ c.from_residual.ensures.1 (search (steps, c.in_err-b.ensures))

pub returns : goal.returns
unfolding form_field
returns c = search (steps, c.in_ok-b.ensures)
