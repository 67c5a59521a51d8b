-- The invariant: the ones before some place are set, those from there on are left, and k is the number of the next stored value. The loop ends because
-- fewer are left.
use mathlib.Core.Path.{◌≡◌}
use Prim.Native.Nat.{ℕ, ◌+◌}
use Rattle.masks.specs.Masks.{digit, count_below}
use Rattle.batch.specs.Inner.{in_order}
use Rattle.batch.proofs.Laws.{Setting}
use Rattle.batch.proofs.put_stored.Given as goal

abbrev pub invariant-loop-left : goal.invariant-loop-left
invariant-loop-left l =
    (p : ℕ) × Setting (in_order l.s l.c l.start l.number l.ones) l.ones l.initial.slots l.slots l.left p × (l.k ≡ l.number + count_below (digit l.ones) p)

abbrev pub decreases-loop-left : goal.decreases-loop-left
decreases-loop-left l = l.left
