-- The test of the name chooses between the entry and what was found before it.
use Rattle.fields.proofs.Steps.{steps}
use Rattle.metadata.proofs.newer.Goals as goal

pub returns-then-has_bytes : goal.returns-then-has_bytes
returns-then-has_bytes c = search steps

pub returns : goal.returns
returns c = search steps
