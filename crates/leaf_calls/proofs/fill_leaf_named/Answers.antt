-- The fill's own answer, as a number.
use Rattle.leaf_calls.proofs.Laws.{filled}
use Rattle.leaf_calls.proofs.fill_leaf_named.Goals as goal

pub returns : goal.returns
returns c = filled _ _ _ c.fill_leaf_named.ensures c.returned.ensures
