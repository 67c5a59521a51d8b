-- `coordinates::offset_to_global_coord` meets its contract: axis by axis, each digit is below the side.
use borrow.Author.Rules.{rules}
use mathlib.Core.Path.{◌≡◌}
use Prim.Native.Nat.{◌*◌, ◌<◌}
use mir.Syntax.{w32}
use mir.Val.{to_z, of_z}
use Rattle.coordinates.specs.Coordinates.{global_of, local_of, remainder}
use Rattle.coordinates.specs.declared.GlobalCoord.{GlobalCoord}
use Rattle.coordinates.proofs.Laws.{aligned-axes, child-aligned, digits-below}
use Rattle.coordinates.proofs.offset_to_global_coord.Goals.{Start}
use Rattle.coordinates.proofs.offset_to_global_coord.Goals as goal

module _ (a : Start) where
  below : ((local_of a.args.side a.args.p).0 < a.args.side) × ((local_of a.args.side a.args.p).1 < a.args.side) × ((local_of a.args.side a.args.p).2 < a.args.side)
  below = digits-below a.args.side a.args.p a.requires.1

  multiples :
      let span = a.args.side * a.args.step in
      (remainder a.args.origin.0 span ≡ 0) × (remainder a.args.origin.1 span ≡ 0) × (remainder a.args.origin.2 span ≡ 0)
  multiples = aligned-axes (a.args.side * a.args.step) a.args.origin a.requires.2

pub axis_coord-x-requires : goal.axis_coord-x-requires
axis_coord-x-requires c =
    let e : to_z w32 (of_z w32 c.args.origin.0) ≡ c.args.origin.0 = search rules in
    (c.requires.0, rw c.offset_to_local_coord-l.ensures (below (goal.at.axis_coord-x-requires c).Start).0, rw e (multiples (goal.at.axis_coord-x-requires c).Start).0)

pub axis_coord-y-requires : goal.axis_coord-y-requires
axis_coord-y-requires c =
    let e : to_z w32 (of_z w32 c.args.origin.1) ≡ c.args.origin.1 = search rules in
    (c.requires.0, rw c.offset_to_local_coord-l.ensures (below (goal.at.axis_coord-y-requires c).Start).1, rw e (multiples (goal.at.axis_coord-y-requires c).Start).1)

pub axis_coord-z-requires : goal.axis_coord-z-requires
axis_coord-z-requires c =
    let e : to_z w32 (of_z w32 c.args.origin.2) ≡ c.args.origin.2 = search rules in
    (c.requires.0, rw c.offset_to_local_coord-l.ensures (below (goal.at.axis_coord-z-requires c).Start).2, rw e (multiples (goal.at.axis_coord-z-requires c).Start).2)

-- each signed number is read back from its bits
pub returns : goal.returns
unfolding global_of
returns c =
    let x = c.axis_coord-x.result in
    let y = c.axis_coord-y.result in
    let z = c.axis_coord-z.result in
    let o = c.args.origin in
    let x₁ : to_z w32 (of_z w32 x) ≡ x = search rules in
    let y₁ : to_z w32 (of_z w32 y) ≡ y = search rules in
    let z₁ : to_z w32 (of_z w32 z) ≡ z = search rules in
    let x₂ : to_z w32 (of_z w32 o.0) ≡ o.0 = search rules in
    let y₂ : to_z w32 (of_z w32 o.1) ≡ o.1 = search rules in
    let z₂ : to_z w32 (of_z w32 o.2) ≡ o.2 = search rules in
    let e : ◌≡◌ {A = GlobalCoord} (to_z w32 (of_z w32 x), to_z w32 (of_z w32 y), to_z w32 (of_z w32 z)) (global_of c.args.side c.args.step o c.args.p) = cc in
    (e, rw e (child-aligned c.args.side c.args.step o c.args.p c.requires.0.side-positive c.requires.0.step-positive c.requires.2))
