-- A level past the three has no places.
use native.Mathlib.Omega.{arith}
use Rattle.skip.proofs.Steps.{no-places}
use Rattle.skip.proofs.count_records.Goals as goal

pub returns-in_default : goal.returns-in_default
returns-in_default c = no-places _ c.args.level (omega arith)
