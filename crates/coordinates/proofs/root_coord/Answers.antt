-- `coordinates::root_coord` meets its contract: what is left is at least -2147483648, a multiple of 4096.
use mathlib.Core.Path.{◌≡◌, refl, ap, ◌∙◌}
use native.Mathlib.Omega.{arith}
use lib.Dec.{lit<}
use lib.IntN.{ℤ, pos, ◌-ℤ◌}
use mir.Syntax.{w32}
use mir.Val.{SFits, to_z, of_z}
use mir.Facts.{to_z-of_z, to_z_pos}
use Rattle.coordinates.specs.Coordinates.{remainder}
use Rattle.coordinates.proofs.Axis.{taken-in-range}
use Rattle.coordinates.proofs.Remainder.{remainder-lt}
use Rattle.coordinates.proofs.root_coord.Goals.{After-remainder_by}
use Rattle.coordinates.proofs.root_coord.Goals as goal

found : (c : After-remainder_by) → c.remainder_by.result ≡ remainder c.args.v 4096
found c = c.remainder_by.ensures ∙ ap (λ (z : ℤ). remainder z 4096) (to_z-of_z c.ranges.v)

-- the machine subtracts what it reads back from the bits of the two numbers
difference : (c : After-remainder_by) → to_z w32 (of_z w32 c.args.v) -ℤ to_z w32 c.remainder_by.result ≡ c.args.v -ℤ pos (remainder c.args.v 4096)
difference c =
    let r = remainder-lt c.args.v 4096 (lit< tt) in
    let e = to_z-of_z c.ranges.v in
    let f = ap (to_z w32) (found c) ∙ to_z_pos w32 {n = remainder c.args.v 4096} (omega arith) in
    λ i. e i -ℤ f i

fits : (c : After-remainder_by) → SFits w32 (c.args.v -ℤ pos (remainder c.args.v 4096))
fits c = taken-in-range c.args.v 4096 (lit< tt) refl c.ranges.v

pub overflow_cast-result : goal.overflow_cast-result
overflow_cast-result c = omega (arith, found (goal.at.overflow_cast-result c).After-remainder_by, remainder-lt c.args.v 4096 (lit< tt))

pub overflow_sub-result : goal.overflow_sub-result
overflow_sub-result c = rw (difference (goal.at.overflow_sub-result c).After-remainder_by) (fits (goal.at.overflow_sub-result c).After-remainder_by)

pub returns : goal.returns
returns c = rw (difference (goal.at.returns c).After-remainder_by) (to_z-of_z (fits (goal.at.returns c).After-remainder_by))
