-- A turn stores the record that stands at its slot; behind the last turn the row has them all.
use Rattle.std.proofs.Common.{rules}
use native.Mathlib.Omega.{arith}
use Rattle.rows.proofs.Columns.{stores, stored}
use Rattle.rows.proofs.store.Goals as goal

pub loop-i-preserved : goal.loop-i-preserved
loop-i-preserved c = stores _ _ _ _ (omega arith) c.loop-i.invariant (search rules) (search rules) (search rules)

pub returns : goal.returns
returns c = stored _ _ _ _ (omega arith) c.loop-i.invariant
