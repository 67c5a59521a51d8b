-- A normal half is not below the smallest one.
use mathlib.Core.Path.{ap}
use Prim.Native.Nat.{ℕ, ◌-◌, ◌%◌}
use Rattle.half.proofs.widen_normal.Goals as goal

pub widen_above-requires : goal.widen_above-requires
widen_above-requires c = (c.requires, ap (λ (n : ℕ). n % 32768 - 1024) c.from.ensures)
