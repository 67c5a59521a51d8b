-- From the cursor reached the same comes of it as from the first. The loop ends because behind each piece fewer are to come.
use mathlib.Core.Path.{◌≡◌}
use Rattle.skip.specs.Inner.{skip_of, left}
use Rattle.skip.proofs.skip.Given as goal

abbrev pub invariant-loop-next : goal.invariant-loop-next
invariant-loop-next l = skip_of l.s l.c l.t ≡ skip_of l.s l.c l.initial.t

abbrev pub decreases-loop-next : goal.decreases-loop-next
decreases-loop-next l = left l.s l.c l.t
