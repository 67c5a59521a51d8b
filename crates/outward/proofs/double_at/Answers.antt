-- A double that is there is read where it stands.
use mathlib.Core.Path.{refl}
use Rattle.fields.proofs.Steps.{when-lt, when-ge}
use Rattle.outward.specs.Outward.{double_at}
use Rattle.outward.proofs.double_at.Goals as goal

pub returns-then-i-count : goal.returns-then-i-count
unfolding double_at
returns-then-i-count c = when-lt _ _ _ c.if-i-count.true c.u64_at.ensures

pub returns-else-i-count : goal.returns-else-i-count
unfolding double_at
returns-else-i-count c = when-ge _ _ _ c.if-i-count.false refl
