-- None of the places is active: all are stored, or none is, or those without a child.
use borrow.Author.Tests.{ne_eqb}
use native.Mathlib.Omega.{arith}
use Rattle.fields.specs.Parse.{when}
use Rattle.bits.specs.Inner.{skipped}
use Rattle.bits.proofs.skip.Goals as goal

pub returns-in-0 : goal.returns-in-0
unfolding skipped when
returns-in-0 c = (rw c.in-0.is, omega arith)

pub returns-in-1 : goal.returns-in-1
unfolding skipped when
returns-in-1 c = (rw c.in-1.is, omega arith)

pub returns-in_default : goal.returns-in_default
unfolding skipped when
returns-in_default c = let k = c.args.stored in (rw (c.count_low.ensures.0, ne_eqb k 0 (λ e. omega arith), ne_eqb k 1 (λ e. omega arith)), omega arith)
