-- Three strings, one after the other; the first that is not whole ends the reading.
use Rattle.fields.proofs.Steps.{read, handed-on}
use Rattle.descriptor.specs.Descriptor.{names_field}
use Rattle.descriptor.proofs.read_names.Goals as goal

pub returns-in_err-name : goal.returns-in_err-name
unfolding names_field
returns-in_err-name c = handed-on _ _ c.from_residual.ensures.1 (search (read, c.in_err-name.ensures))

pub returns-in_err-grid_type : goal.returns-in_err-grid_type
unfolding names_field
returns-in_err-grid_type c = handed-on _ _ c.from_residual-in_err-grid_type.ensures.1 (search (read, c.in_ok-name.ensures, c.in_err-grid_type.ensures))

pub returns-in_err-instance_parent : goal.returns-in_err-instance_parent
unfolding names_field
returns-in_err-instance_parent c = handed-on _ _ c.from_residual-in_err-instance_parent.ensures.1 (search (read, c.in_ok-name.ensures, c.in_ok-grid_type.ensures, c.in_err-instance_parent.ensures) depth 7)

pub returns : goal.returns
unfolding names_field
returns c = search (read, c.in_ok-name.ensures, c.in_ok-grid_type.ensures, c.in_ok-instance_parent.ensures) depth 7
