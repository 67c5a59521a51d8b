use native.Mathlib.Omega.{arith}
use Rattle.std.proofs.lemmas.Grind.{common_steps}
use Rattle.records.specs.Inner.{is_inside}
use Rattle.records.proofs.is_inside.Goals as goal

pub returns-then-w : goal.returns-then-w
unfolding is_inside
returns-then-w c = grind (arith, common_steps)

pub returns-else-w : goal.returns-else-w
unfolding is_inside
returns-else-w c = grind (arith, common_steps)
