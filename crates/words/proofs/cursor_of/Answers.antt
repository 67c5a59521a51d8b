-- The two nodes and each smaller number are what their words stand for.
use Rattle.words.specs.Words.{cursor_by}
use Rattle.words.proofs.cursor_of.Goals as goal

pub returns : goal.returns
unfolding cursor_by
returns c = rw (c.entered_of.ensures, c.entered_of-2.ensures, c.low.ensures, c.low-2.ensures)
