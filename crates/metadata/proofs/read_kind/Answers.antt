-- The name is read; the kind is that of the bytes which the name stands for.
use Rattle.fields.proofs.Steps.{read, handed-on}
use Rattle.metadata.specs.Metadata.{kind_field}
use Rattle.metadata.proofs.read_kind.Goals as goal

pub returns-in_err-name : goal.returns-in_err-name
unfolding kind_field
returns-in_err-name c = handed-on _ _ c.from_residual.ensures.1 (search (read, c.in_err-name.ensures))

pub returns : goal.returns
unfolding kind_field
returns c = rw (c.value_kind-kind.ensures, c.bytes_of.ensures) (search (read, c.in_ok-name.ensures))
