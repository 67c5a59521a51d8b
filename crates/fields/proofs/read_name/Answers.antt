-- The length is not whole, or as many bytes follow it as it says.
use Rattle.fields.specs.Fields.{string_field}
use Rattle.fields.proofs.Steps.{read, handed-on}
use Rattle.fields.proofs.read_name.Goals as goal

pub returns-in_err-n : goal.returns-in_err-n
unfolding string_field
returns-in_err-n c = handed-on _ _ c.from_residual.ensures.1 (search (read, c.in_err-n.ensures))

pub returns : goal.returns
unfolding string_field
returns c = search (read, c.in_ok-n.ensures)
