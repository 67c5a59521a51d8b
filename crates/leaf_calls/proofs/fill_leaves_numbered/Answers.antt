-- The fill's own answer, as a number.
use Rattle.leaf_calls.proofs.Laws.{filled}
use Rattle.leaf_calls.proofs.fill_leaves_numbered.Goals as goal

pub returns : goal.returns
returns c = filled _ _ _ c.fill_leaves_numbered.ensures c.returned.ensures
