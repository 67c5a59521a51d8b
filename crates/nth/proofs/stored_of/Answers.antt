-- A number that is neither 0 nor 1 stands for the places without a child.
use native.Mathlib.Omega.{arith}
use Rattle.nth.proofs.Laws.{stored-else}
use Rattle.nth.proofs.stored_of.Goals as goal

pub returns-in_default : goal.returns-in_default
returns-in_default c = stored-else c.args.number (omega arith)
