-- The origin and each smaller number are what their words stand for.
use Rattle.words.specs.Words.{inside_by}
use Rattle.words.proofs.inside_of.Goals as goal

pub returns : goal.returns
unfolding inside_by
returns c = rw (c.coords_of.ensures, c.low.ensures, c.low-2.ensures, c.low-3.ensures)
