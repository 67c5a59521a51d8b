-- The test chooses between the descriptor and what was found before it.
use Rattle.fields.proofs.Steps.{steps}
use Rattle.archive.proofs.newer.Goals as goal

pub returns-then-is_asked : goal.returns-then-is_asked
returns-then-is_asked c = search steps

pub returns : goal.returns
returns c = search steps
