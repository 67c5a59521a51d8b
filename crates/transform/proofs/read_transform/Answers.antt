-- The map's name is not whole, or the map that it stands for is read behind it.
use Rattle.transform.specs.Transform.{transform}
use Rattle.fields.proofs.Steps.{read, handed-on}
use Rattle.transform.proofs.read_transform.Goals as goal

pub returns-in_err-kind : goal.returns-in_err-kind
unfolding transform
returns-in_err-kind c = handed-on _ _ c.from_residual.ensures.1 (search (read, c.in_err-kind.ensures))

pub returns : goal.returns
unfolding transform
returns c = search (read, c.in_ok-kind.ensures)
