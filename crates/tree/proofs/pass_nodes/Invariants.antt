-- Each 4-node that is passed leaves the end of those to come as it was.
use Prim.Native.Nat.{◌≤◌, ◌-◌}
use mathlib.Core.Path.{◌≡◌}
use Rattle.fields.specs.Parse.{many}
use Rattle.fields.specs.Inner.{end_of}
use Rattle.coordinates.specs.declared.GlobalCoord.{GlobalCoord}
use Rattle.masks.specs.Masks.{mask_bit, ones, ones_from}
use Rattle.tree.specs.Topology.{child_field}
use Rattle.tree.proofs.pass_nodes.Given as goal

abbrev pub invariant-loop-p : goal.invariant-loop-p
invariant-loop-p l = (l.from ≤ 32768)
    × ((o : GlobalCoord) → end_of (many (child_field l.s l.c o) (ones_from (mask_bit l.s l.child) l.from (32768 - l.from)) l.end) ≡ end_of (many (child_field l.s l.c o) (ones (mask_bit l.s l.child) 32768) l.at))

abbrev pub decreases-loop-p : goal.decreases-loop-p
decreases-loop-p l = 32768 - l.from
