-- The descriptors left from here give the whole answer.
use Prim.Native.Nat.{◌-◌}
use mathlib.Core.Path.{◌≡◌}
use mathlib.Core.List.{[]}
use Rattle.std.proofs.Common.{None}
use lib.ListN.{length, take}
use Rattle.archive.specs.Inner.{grids_field}
use Rattle.archive.proofs.read_grids.Given as goal

abbrev pub invariant-loop-i : goal.invariant-loop-i
invariant-loop-i l =
    record {
      long : length l.names ≡ 64;
      rest : grids_field l.s l.h (l.h.grid_count - l.i) (take l.i l.names) l.i l.asked l.name l.found l.p ≡ grids_field l.s l.h l.h.grid_count [] 0 l.asked l.name None l.at;
    }
