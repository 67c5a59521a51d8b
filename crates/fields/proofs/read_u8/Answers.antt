-- The bytes are there, or they run past the end.
use Rattle.std.proofs.Common.{refl}
use Rattle.fields.proofs.Steps.{whole-past, whole-there}
use Rattle.fields.proofs.read_u8.Goals as goal

pub returns-in_err-next : goal.returns-in_err-next
returns-in_err-next c = whole-past _ _ _ _ _ _ c.from_residual.ensures.1 c.in_err-next.ensures

pub returns : goal.returns
returns c = whole-there _ _ _ _ _ _ c.in_ok-next.ensures refl
