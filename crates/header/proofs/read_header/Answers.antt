-- Check 1, then the fields in their order. Of the metadata only the end is used, whatever name is looked for.
use native.Mathlib.Omega.{arith}
use Rattle.fields.proofs.Steps.{steps, handed-on}
use Rattle.metadata.proofs.Laws.{metadata-got, metadata-fails}
use Rattle.header.specs.Header.{header}
use Rattle.header.proofs.read_header.Goals as goal

pub returns-then-s-gt2147483647 : goal.returns-then-s-gt2147483647
unfolding header
returns-then-s-gt2147483647 c = search (steps, arith)

pub returns-in_err-front : goal.returns-in_err-front
unfolding header
returns-in_err-front c = handed-on _ _ c.from_residual.ensures.1 (search (steps, c.in_err-front.ensures))

pub returns-in_err-guid : goal.returns-in_err-guid
unfolding header
returns-in_err-guid c = handed-on _ _ c.from_residual-in_err-guid.ensures.1 (search (steps, c.in_ok-front.ensures, c.in_err-guid.ensures))

pub returns-in_err-r : goal.returns-in_err-r
unfolding header
returns-in_err-r c = handed-on _ _ c.from_residual-in_err-r.ensures.1 (search (steps, metadata-fails, c.in_ok-front.ensures, c.in_ok-guid.ensures, c.in_err-r.ensures) depth 9)

pub returns-in_err-count : goal.returns-in_err-count
unfolding header
returns-in_err-count c = handed-on _ _ c.from_residual-in_err-count.ensures.1 (search (steps, metadata-got, c.in_ok-front.ensures, c.in_ok-guid.ensures, c.in_ok-r.ensures, c.in_err-count.ensures) depth 11)

pub returns : goal.returns
unfolding header
returns c = search (steps, metadata-got, c.in_ok-front.ensures, c.in_ok-guid.ensures, c.in_ok-r.ensures, c.in_ok-count.ensures) depth 11
