-- Where nothing is to be passed the walk stays.
use native.Mathlib.Omega.{arith}
use Rattle.place.proofs.Found.{steps-none}
use Rattle.place.proofs.Place.step.Goals as goal

pub returns-then-count-eq0 : goal.returns-then-count-eq0
returns-then-count-eq0 c = steps-none _ _ (omega (arith, c.min-count.ensures, c.if-count-eq0.true))
