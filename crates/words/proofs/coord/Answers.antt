-- A coordinate is the low half of its word, signed.
use mathlib.Core.Path.{ap, ◌∙◌}
use mir.Syntax.{w32}
use Rattle.fields.specs.Le.{signed}
use Rattle.fields.proofs.Laws.{kept, signed32}
use Rattle.words.proofs.coord.Goals as goal

pub returns : goal.returns
returns c = kept w32 _ c.cast_signed.type_inv ∙ c.cast_signed.ensures ∙ signed32 _ ∙ ap (signed 31) c.low.ensures
