-- Each part is what its own words stand for.
use Rattle.words.specs.Words.{place_by}
use Rattle.words.proofs.place_of.Goals as goal

pub returns : goal.returns
unfolding place_by
returns c = rw (c.start_of.ensures, c.cursor_of.ensures, c.inside_of.ensures)
