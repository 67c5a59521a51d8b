-- Whether a name is among those from here on is the whole answer.
use mathlib.Core.Path.{◌≡◌}
use lib.ListN.{drop}
use Rattle.archive.specs.Archive.{repeated}
use Rattle.archive.proofs.is_repeated.Given as goal

abbrev pub invariant-loop-w : goal.invariant-loop-w
invariant-loop-w l = repeated l.s l.name (drop l.w-index l.names) ≡ repeated l.s l.name l.names
