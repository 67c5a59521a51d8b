-- The name is read; the kind of map is that of the bytes which the name stands for.
use Rattle.transform.specs.Transform.{map_kind_field}
use Rattle.fields.proofs.Steps.{read, handed-on}
use Rattle.transform.proofs.read_map_kind.Goals as goal

pub returns-in_err-name : goal.returns-in_err-name
unfolding map_kind_field
returns-in_err-name c = handed-on _ _ c.from_residual.ensures.1 (search (read, c.in_err-name.ensures))

pub returns : goal.returns
unfolding map_kind_field
returns c = rw (c.map_kind.ensures, c.bytes_of.ensures) (search (read, c.in_ok-name.ensures))
