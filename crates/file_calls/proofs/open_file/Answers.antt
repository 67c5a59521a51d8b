-- The answer's words are laid into what was lent, or nothing is.
use Rattle.outward.specs.Outward.{header_words}
use Rattle.outward.proofs.Laid.{laid_as}
use Rattle.file_calls.proofs.open_file.Goals as goal

pub returns : goal.returns
returns c = laid_as header_words _ _ c.open_file.ensures c.lay.ensures
