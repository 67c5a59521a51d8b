-- Minus the background, or the background.
use Rattle.fields.proofs.Steps.{steps}
use Rattle.forms.proofs.unread.Goals as goal

pub returns-then-form : goal.returns-then-form
returns-then-form c = search steps

pub returns : goal.returns
returns c = search steps
