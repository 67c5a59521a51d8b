-- What comes of passing pieces that list nothing.
use native.Mathlib.Omega.{arith}
use Rattle.std.proofs.Common.{Ok}
use Rattle.fields.proofs.Laws.{told}
use Rattle.skip.specs.Inner.{says_skip}
use Rattle.skip.specs.declared.Skipped.{Skipped}
use Rattle.place.proofs.Laws.{listed-refused}
use Rattle.place.proofs.Listing.{found}
use Rattle.place.proofs.pass_empty.Goals as goal

pub returns-in_err-skip : goal.returns-in_err-skip
returns-in_err-skip c = listed-refused _ _ _ _ c.from_residual.ensures.1 (found _ _ c.requires _ c.in_err-skip.ensures (omega arith))

pub returns-in-End : goal.returns-in-End
returns-in-End c = found _ _ c.requires _ (told (λ (r : Skipped). says_skip (Ok r)) c.in-End.is c.in_ok-skip.ensures) (omega arith)

pub returns-in-Before : goal.returns-in-Before
returns-in-Before c = found _ _ c.requires _ (told (λ (r : Skipped). says_skip (Ok r)) c.in-Before.is c.in_ok-skip.ensures) (omega arith)
