use native.Mathlib.Omega.{arith}
use Rattle.std.proofs.lemmas.Grind.{common_steps}
use Rattle.records.specs.Inner.{is_full}
use Rattle.records.proofs.is_full.Goals as goal

pub returns-then-fits : goal.returns-then-fits
unfolding is_full
returns-then-fits c = grind (arith, common_steps)

pub returns-else-fits : goal.returns-else-fits
unfolding is_full
returns-else-fits c = grind (arith, common_steps)
