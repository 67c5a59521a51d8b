-- `coordinates::global_coord_to_offset` meets its contract: the digits x, y and z are below the side, so every sum is below the number of places.
use borrow.Author.Rules.{rules}
use mathlib.Core.Path.{◌≡◌, sym, ap, ◌∙◌}
use Prim.Native.Nat.{ℕ, ◌+◌, ◌*◌, ◌<◌, ◌≤◌}
use native.Mathlib.Nat.{mul-le-mul_left, mul-one}
use native.Mathlib.Omega.{arith}
use lib.Arith.{digits_lt}
use mir.Syntax.{w32}
use mir.Val.{to_z, of_z}
use Rattle.coordinates.specs.Coordinates.{index, place_of, places}
use Rattle.coordinates.proofs.Laws.{nested}
use Rattle.coordinates.proofs.global_coord_to_offset.Goals.{After-axis_place-z}
use Rattle.coordinates.proofs.global_coord_to_offset.Goals as goal

module _ (c : After-axis_place-z) where
  abbrev x : ℕ
  x = c.axis_place-x.result

  abbrev y : ℕ
  y = c.axis_place-y.result

  abbrev z : ℕ
  z = c.axis_place-z.result

  abbrev side : ℕ
  side = c.args.side

  below : (x * side + y) * side + z < places side
  below = digits_lt (digits_lt c.axis_place-x.ensures.1 c.axis_place-y.ensures.1) c.axis_place-z.ensures.1

  -- the first sum is no more than the second
  first : x * side + y ≤ (x * side + y) * side
  first = omega (arith, mul-le-mul_left (x * side + y) c.requires.side-positive, mul-one (x * side + y))

pub overflow_mul-result : goal.overflow_mul-result
overflow_mul-result c = omega (arith, below c, first c)

pub overflow_add-result : goal.overflow_add-result
overflow_add-result c = omega (arith, below c, first c)

pub overflow_mul-result-2 : goal.overflow_mul-result-2
overflow_mul-result-2 c = omega (arith, below c)

pub overflow_add-result-2 : goal.overflow_add-result-2
overflow_add-result-2 c = omega (arith, below c)

-- each coordinate is read back from its bits
pub returns : goal.returns
unfolding place_of
returns c =
    let v = c.args.v in
    let x₁ : to_z w32 (of_z w32 v.0) ≡ v.0 = search rules in
    let y₁ : to_z w32 (of_z w32 v.1) ≡ v.1 = search rules in
    let z₁ : to_z w32 (of_z w32 v.2) ≡ v.2 = search rules in
    (ap index (sym (nested (side c) (x c) (y c) (z c)) ∙ (cc)), below c)
