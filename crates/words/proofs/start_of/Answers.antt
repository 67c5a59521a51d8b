-- Each smaller number is what its word stands for.
use Rattle.words.specs.Words.{start_by}
use Rattle.words.proofs.start_of.Goals as goal

pub returns : goal.returns
unfolding start_by
returns c =
    rw (
      c.low.ensures,
      c.low-2.ensures,
      c.low-3.ensures,
      c.low-4.ensures,
      c.low-5.ensures,
    )
