-- The bytes that a start and a length stand for, compared.
use Rattle.fields.proofs.has_bytes.Goals as goal

pub returns : goal.returns
returns c = cc
