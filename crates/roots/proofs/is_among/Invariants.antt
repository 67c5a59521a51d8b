-- Whether the origin is among those from here on is the whole answer.
use mathlib.Core.Path.{◌≡◌}
use lib.ListN.{drop}
use Rattle.roots.specs.Roots.{is_among}
use Rattle.roots.proofs.is_among.Given as goal

abbrev pub invariant-loop-e : goal.invariant-loop-e
invariant-loop-e l = is_among l.o (drop l.e-index l.origins) ≡ is_among l.o l.origins
