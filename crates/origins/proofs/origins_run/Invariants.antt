-- The invariant: the origins laid down, with those to come, are the whole run.
use Prim.Native.Nat.{◌≤◌}
use lib.ListN.{length}
use Rattle.cursor.specs.Inner.{to_come}
use Rattle.skip.proofs.Laws.{records_in}
use Rattle.leaves.specs.Inner.{leaves_from, from_leaves}
use Rattle.leaves.proofs.Next.{most}
use Rattle.origins.specs.Origins.{axes}
use Rattle.origins.specs.Inner.{origin_in}
use Rattle.origins.proofs.Laws.{Laying}
use Rattle.origins.proofs.origins_run.Given as goal

abbrev pub invariant-loop-i : goal.invariant-loop-i
invariant-loop-i l =
    let c = l.fn.start.coding in
    (records_in l.s (to_come l.s c l.cursor).items ≤ most)
    × Laying (leaves_from l.s c l.cursor) l.pass l.i (axes l.x l.y l.z) (from_leaves origin_in (leaves_from l.s c l.initial.cursor) l.initial.pass (length l.initial.x))
