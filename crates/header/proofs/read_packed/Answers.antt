-- From version 222 on nothing is read; before it one byte is.
use Rattle.fields.proofs.Steps.{steps, handed-on}
use Rattle.header.specs.Header.{packed_field}
use Rattle.header.proofs.read_packed.Goals as goal

pub returns-then-version-ge222 : goal.returns-then-version-ge222
unfolding packed_field
returns-then-version-ge222 c = search steps

pub returns-in_err-b : goal.returns-in_err-b
unfolding packed_field
returns-in_err-b c = handed-on _ _ c.from_residual.ensures.1 (search (steps, c.in_err-b.ensures))

pub returns : goal.returns
unfolding packed_field
returns c = search (steps, c.in_ok-b.ensures)
