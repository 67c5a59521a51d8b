-- The byte is read, and then check 5 says that it is 1.
use Rattle.fields.proofs.Steps.{read, steps, handed-on}
use Rattle.header.specs.Header.{offsets_field}
use Rattle.header.proofs.read_offsets.Goals as goal

pub returns-in_err-b : goal.returns-in_err-b
unfolding offsets_field
returns-in_err-b c = handed-on _ _ c.from_residual.ensures.1 (search (read, c.in_err-b.ensures))

pub returns-then-b-ne1 : goal.returns-then-b-ne1
unfolding offsets_field
returns-then-b-ne1 c = search (steps, c.in_ok-b.ensures)

pub returns : goal.returns
unfolding offsets_field
returns c = search (steps, c.in_ok-b.ensures)
