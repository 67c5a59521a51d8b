-- The origin is what its three words stand for.
use Rattle.words.proofs.entered_of.Goals as goal

pub returns : goal.returns
returns c = rw (c.coords_of.ensures, c.low.ensures)
