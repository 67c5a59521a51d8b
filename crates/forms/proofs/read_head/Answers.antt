-- Each way out is the fields up to it, as the calls found them: the form, and what it brings.
use Rattle.fields.proofs.Steps.{read, handed-on}
use Rattle.forms.specs.Forms.{head_field}
use Rattle.forms.proofs.read_head.Goals as goal

pub returns-in_err-form : goal.returns-in_err-form
unfolding head_field
returns-in_err-form c = handed-on _ _ c.from_residual.ensures.1 (search (read, c.in_err-form.ensures))

pub returns-in_err-inactives : goal.returns-in_err-inactives
unfolding head_field
returns-in_err-inactives c = handed-on _ _ c.from_residual-in_err-inactives.ensures.1 (search (read, c.in_ok-form.ensures, c.in_err-inactives.ensures))

pub returns : goal.returns
unfolding head_field
returns c = rw c.stored_by-stored.ensures (search (read, c.in_ok-form.ensures, c.in_ok-inactives.ensures))
