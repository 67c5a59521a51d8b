-- Each coordinate is what its word stands for.
use mathlib.Core.Path.{◌∙◌}
use mir.Syntax.{w32}
use Rattle.fields.proofs.Laws.{kept}
use Rattle.words.proofs.coords_of.Goals as goal

pub returns : goal.returns
returns c =
    let x = kept w32 _ c.coord.type_inv ∙ c.coord.ensures in
    let y = kept w32 _ c.coord-2.type_inv ∙ c.coord-2.ensures in
    let z = kept w32 _ c.coord-3.type_inv ∙ c.coord-3.ensures in
    λ i. (x i, y i, z i)
