-- There is no mask, or it is carried.
use Rattle.fields.proofs.Steps.{steps, handed-on}
use Rattle.forms.specs.Forms.{selection_field}
use Rattle.forms.proofs.read_selection.Goals as goal

pub returns-then-not-carried : goal.returns-then-not-carried
unfolding selection_field
returns-then-not-carried c = search steps

pub returns-in_err-mask : goal.returns-in_err-mask
unfolding selection_field
returns-in_err-mask c = handed-on _ _ c.from_residual.ensures.1 (search (steps, c.in_err-mask.ensures))

pub returns : goal.returns
unfolding selection_field
returns c = search (steps, c.in_ok-mask.ensures)
