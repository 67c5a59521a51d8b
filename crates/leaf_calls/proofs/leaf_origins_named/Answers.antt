-- The answer is laid out as a fill's is.
use Rattle.leaf_calls.proofs.Laws.{filled}
use Rattle.leaf_calls.proofs.leaf_origins_named.Goals as goal

pub returns : goal.returns
returns c = filled _ _ _ c.origins_named.ensures c.returned.ensures
