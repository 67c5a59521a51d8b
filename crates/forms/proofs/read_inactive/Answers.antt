-- The value is carried, or the other one stands for it.
use native.Mathlib.Omega.{arith}
use Rattle.fields.proofs.Steps.{steps}
use Rattle.half.proofs.Laws.{stored-single}
use Rattle.forms.specs.Forms.{inactive_field}
use Rattle.forms.proofs.read_inactive.Goals as goal

pub returns-then-carried : goal.returns-then-carried
unfolding inactive_field
returns-then-carried c = rw (stored-single 4 _ _ (λ e. omega arith)) (search steps)

pub returns : goal.returns
unfolding inactive_field
returns c = search steps
