-- The standard library's reading of a pattern is the document's.
use Rattle.std.proofs.Common.{◌∙◌}
use mir.Syntax.{w32}
use Rattle.fields.proofs.Laws.{signed32, kept}
use Rattle.fields.proofs.i32_of.Goals as goal

pub returns : goal.returns
returns c = kept w32 _ c.cast_signed.type_inv ∙ c.cast_signed.ensures ∙ signed32 c.args.x
