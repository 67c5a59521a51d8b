-- The flag says whether the first k are normal.
use mathlib.Core.Path.{◌≡◌}
use Rattle.half.specs.Inner.{are_normal}
use Rattle.half.proofs.are_normal.Given as goal

abbrev pub invariant-loop-k : goal.invariant-loop-k
invariant-loop-k l = l.all ≡ are_normal l.s l.at l.k
