-- The five slices are filled one by one, and together they are the 64 records.
use mathlib.Core.Path.{sym, ◌∙◌}
use native.Mathlib.Omega.{arith}
use Rattle.slots.specs.Slots.{slots_of}
use Rattle.slots.proofs.Levels.{masked}
use Rattle.slots.proofs.Runs.{laid-ranged, room-in-file}
use Rattle.slots.proofs.fill_full.Goals as goal

pub fill_values-requires : goal.fill_values-requires
fill_values-requires c =
    let m = masked c.args.w.level in
    (room-in-file _ _ _ _ c.requires.0 (omega (arith, c.requires.1, m.small, m.bits)) c.requires.2, c.requires.3.in-value)

-- slice by slice
pub returns : goal.returns
returns c =
    (
    λ q. slots_of (c.fill_axis.ensures q) (c.fill_axis-2.ensures q) (c.fill_axis-3.ensures q) (c.fill_same.ensures q) (c.fill_values.ensures q)
    ) ∙ sym (laid-ranged _ _ _ _ _ 64)
