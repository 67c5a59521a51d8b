-- Where the origin is among those from here on, it is the next, or among those behind it.
use Rattle.roots.proofs.Laws.{among-here, among_later, among_none}
use Rattle.fields.proofs.Laws.{is_true, is_false}
use mathlib.Core.Path.{◌∙◌}
use native.Mathlib.Omega.{arith}
use Rattle.roots.proofs.is_among.Goals as goal

pub returns-then-same_coord : goal.returns-then-same_coord
returns-then-same_coord c =
    among-here c.args.o c.args.origins.now c.loop-e.e-index _ (omega arith) (is_true c.if-same_coord.true c.same_coord.ensures) ∙ c.loop-e.invariant

pub loop-e-preserved : goal.loop-e-preserved
loop-e-preserved c =
    among_later c.args.o c.args.origins.now c.loop-e.e-index _ (omega arith) (is_false c.if-same_coord.false c.same_coord.ensures) ∙ c.loop-e.invariant

pub returns : goal.returns
returns c = among_none c.args.o c.args.origins.now c.loop-e.e-index (omega arith) ∙ c.loop-e.invariant
