-- What a read gives is what `place_value` asks.
use Rattle.std.proofs.Common.{rules}
use Rattle.runs.proofs.Laws.{values-held}
use Rattle.parts.proofs.layers.value_of.Goals as goal

pub place_value-requires : goal.place_value-requires
place_value-requires c = (values-held _ _ _ _ _ _ _ (search rules) (search rules) (search rules) c.in-Ok.ensures, search rules)
