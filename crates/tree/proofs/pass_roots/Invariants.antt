-- Each root that is passed leaves the end of those to come as it was.
use mathlib.Core.Path.{◌≡◌}
use mathlib.Core.List.{[]}
use Prim.Native.Nat.{◌-◌}
use lib.ListN.{length, take}
use Rattle.fields.specs.Inner.{end_of}
use Rattle.tree.specs.Topology.{roots_field}
use Rattle.tree.proofs.pass_roots.Given as goal

abbrev pub invariant-loop-i : goal.invariant-loop-i
invariant-loop-i l = (length l.origins ≡ 256)
    × (end_of (roots_field l.s l.c (l.count - l.i) (take l.i l.origins) l.end) ≡ end_of (roots_field l.s l.c l.count [] l.at))
