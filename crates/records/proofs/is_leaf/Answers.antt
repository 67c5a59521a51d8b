use native.Mathlib.Omega.{arith}
use Rattle.std.proofs.lemmas.Grind.{common_steps}
use Rattle.records.specs.Inner.{is_leaf}
use Rattle.records.proofs.is_leaf.Goals as goal

pub returns-then-b-le1 : goal.returns-then-b-le1
unfolding is_leaf
returns-then-b-le1 c = grind (arith, common_steps)

pub returns-else-b-le1 : goal.returns-else-b-le1
unfolding is_leaf
returns-else-b-le1 c = grind (arith, common_steps)
