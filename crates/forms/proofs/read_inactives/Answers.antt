-- Each way out is the fields up to it, as the calls found them: the first value, the second, the selection mask.
use Rattle.fields.proofs.Steps.{read, handed-on}
use Rattle.forms.specs.Forms.{inactives_field}
use Rattle.forms.proofs.read_inactives.Goals as goal

pub returns-in_err-first : goal.returns-in_err-first
unfolding inactives_field
returns-in_err-first c = handed-on _ _ c.from_residual.ensures.1 (rw (← c.unread-other.ensures) (search (read, c.in_err-first.ensures)))

pub returns-in_err-second : goal.returns-in_err-second
unfolding inactives_field
returns-in_err-second c = handed-on _ _ c.from_residual-in_err-second.ensures.1 (rw (← c.unread-other.ensures) (search (read, c.in_ok-first.ensures, c.in_err-second.ensures)))

pub returns-in_err-selection : goal.returns-in_err-selection
unfolding inactives_field
returns-in_err-selection c = handed-on _ _ c.from_residual-in_err-selection.ensures.1
    (rw (← c.unread-other.ensures) (search (read, c.in_ok-first.ensures, c.in_ok-second.ensures, c.in_err-selection.ensures)))

pub returns : goal.returns
unfolding inactives_field
returns c = rw (← c.unread-other.ensures) (search (read, c.in_ok-first.ensures, c.in_ok-second.ensures, c.in_ok-selection.ensures))
