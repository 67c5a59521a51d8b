-- The standard library's reading of a pattern is the document's.
use Rattle.std.proofs.Common.{◌∙◌}
use mir.Syntax.{w64}
use Rattle.fields.proofs.Laws.{signed64, kept}
use Rattle.fields.proofs.i64_of.Goals as goal

pub returns : goal.returns
returns c = kept w64 _ c.cast_signed.type_inv ∙ c.cast_signed.ensures ∙ signed64 c.args.x
