-- All that is above the smallest normal half moves up in one.
use native.Mathlib.Omega.{arith}
use Rattle.half.proofs.Laws.{widened-above}
use Rattle.half.proofs.widen_above.Goals as goal

pub returns : goal.returns
returns c = rw (c.from.ensures, c.requires.1) (widened-above _ (omega arith) c.requires.0)
