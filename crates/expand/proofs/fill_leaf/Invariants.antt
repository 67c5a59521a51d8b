-- The words passed are filled, what is left from here fills the rest, and k is the number of the next stored value.
use mathlib.Core.List.{◌++◌}
use mathlib.Core.Path.{◌≡◌}
use Prim.Native.Nat.{◌-◌, ◌*◌}
use lib.ListN.{take}
use Rattle.runs.specs.Runs.{number_of}
use Rattle.values.specs.Values.{values_from, leaf_values}
use Rattle.expand.proofs.fill_leaf.Given as goal

abbrev pub invariant-loop-i : goal.invariant-loop-i
invariant-loop-i l = (l.k ≡ number_of l.s l.v.stored l.value l.value (64 * l.i))
    × (take (64 * l.i) l.slots ++ values_from l.s l.c l.value l.value l.v (64 * l.i) (512 - 64 * l.i) ≡ leaf_values l.s l.c l.value l.v)
