-- No more bytes are read than t has.
use Rattle.std.proofs.Common.{◌≤◌, length}
use Rattle.asking.proofs.line.filled.Given as goal

abbrev pub invariant-loop : goal.invariant-loop
invariant-loop g l = l.len ≤ length l.t
