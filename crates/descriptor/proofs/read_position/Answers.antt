-- The number is read, and then check 9 compares it with the file's length.
use Rattle.fields.proofs.Steps.{read, steps, handed-on}
use Rattle.descriptor.specs.Descriptor.{position_field}
use Rattle.descriptor.proofs.read_position.Goals as goal

pub returns-in_err-v : goal.returns-in_err-v
unfolding position_field
returns-in_err-v c = handed-on _ _ c.from_residual.ensures.1 (search (read, c.in_err-v.ensures))

pub returns-then-n-v : goal.returns-then-n-v
unfolding position_field
returns-then-n-v c = search (steps, c.in_ok-v.ensures)

pub returns : goal.returns
unfolding position_field
returns c = search (steps, c.in_ok-v.ensures)
