-- One more slot has the coordinate of its corner, and after 64 the run is filled.
use borrow.Author.Rules.{sfits_of}
use mathlib.Core.Path.{ap, ◌∙◌}
use native.Mathlib.Omega.{arith}
use mir.Syntax.{w32}
use mir.Facts.{to_z-of_z}
use Rattle.coordinates.specs.declared.GlobalCoord.{GlobalCoord}
use Rattle.slots.specs.Inner.{axis_of}
use Rattle.batch.proofs.Laws.{filling-none, filling-next, filling-all}
use Rattle.slots.proofs.fill_axis.Goals as goal

pub loop-k-init : goal.loop-k-init
loop-k-init c = filling-none _ _ _

pub loop-k-preserved : goal.loop-k-preserved
loop-k-preserved c = filling-next _ _ _ _ _ c.loop-k.invariant (omega arith)
    (to_z-of_z (sfits_of {w = w32} {z = c.along.result} c.along.type_inv) ∙ c.along.ensures ∙ ap (λ (o : GlobalCoord). axis_of o c.args.axis) c.corner.ensures)

pub returns : goal.returns
returns c = filling-all _ _ _ _ _ c.loop-k.invariant (omega arith)
