-- The answer's words are laid into what was lent, or nothing is.
use Rattle.outward.specs.Outward.{descriptor_words}
use Rattle.outward.proofs.Laid.{laid_as}
use Rattle.file_calls.proofs.grid_numbered.Goals as goal

pub returns : goal.returns
returns c = laid_as descriptor_words _ _ c.grid_numbered.ensures c.lay.ensures
