-- The entries left from here find the whole answer.
use Prim.Native.Nat.{◌-◌}
use mathlib.Core.Path.{◌≡◌}
use Rattle.metadata.proofs.Laws.{found as found_from}
use Rattle.metadata.specs.Metadata.{named, lookup}
use Rattle.metadata.proofs.read_metadata.Given as goal

abbrev pub invariant-loop : goal.invariant-loop
invariant-loop l = found_from (named l.s l.name) l.counter (l.n - l.counter) l.s l.p l.found ≡ lookup l.s l.name l.at
