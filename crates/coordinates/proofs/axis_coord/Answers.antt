-- `coordinates::axis_coord` meets its contract: the sum is a voxel of the cube of a node that starts at a multiple of its span, so it fits.
use mathlib.Core.Path.{◌≡◌}
use Prim.Native.Nat.{◌*◌, ◌<◌}
use native.Mathlib.Nat.{mul-lt-mul_of_pos_right}
use native.Mathlib.Omega.{arith}
use lib.IntN.{pos, ◌+ℤ◌}
use mir.Syntax.{w32}
use mir.Val.{SFits, to_z, of_z}
use mir.Facts.{to_z-of_z, to_z_pos}
use Rattle.coordinates.proofs.Axis.{above-in-range}
use Rattle.coordinates.proofs.axis_coord.Goals.{Start}
use Rattle.coordinates.proofs.axis_coord.Goals as goal

below : (c : Start) → c.args.x * c.args.step < c.args.side * c.args.step
below c = mul-lt-mul_of_pos_right c.requires.1 c.requires.0.step-positive

sum_fits : (c : Start) → SFits w32 (c.args.o +ℤ pos (c.args.x * c.args.step))
sum_fits c = above-in-range c.args.o (c.args.x * c.args.step) (c.args.side * c.args.step) c.requires.0.whole-spans c.ranges.o c.requires.2 (below c)

-- the machine adds what it reads back from the bits of the two numbers
sum : (c : Start) → to_z w32 (of_z w32 c.args.o) +ℤ to_z w32 (c.args.x * c.args.step) ≡ c.args.o +ℤ pos (c.args.x * c.args.step)
sum c =
    let b = below c in
    let e = to_z-of_z c.ranges.o in
    let f = to_z_pos w32 {n = c.args.x * c.args.step} (omega arith) in
    λ i. e i +ℤ f i

pub overflow_mul-result : goal.overflow_mul-result
overflow_mul-result c = omega (arith, below (goal.at.overflow_mul-result c).Start)

pub overflow_cast-result : goal.overflow_cast-result
overflow_cast-result c = omega (arith, below (goal.at.overflow_cast-result c).Start)

pub overflow_add-result : goal.overflow_add-result
overflow_add-result c = rw (sum (goal.at.overflow_add-result c).Start) (sum_fits (goal.at.overflow_add-result c).Start)

pub returns : goal.returns
returns c = rw (sum (goal.at.returns c).Start) (to_z-of_z (sum_fits (goal.at.returns c).Start))
