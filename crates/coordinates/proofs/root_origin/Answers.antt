-- `coordinates::root_origin` meets its contract, axis by axis. Each coordinate and each result is read back from its bits.
use borrow.Author.Rules.{rules}
use mathlib.Core.Path.{◌≡◌}
use mir.Syntax.{w32}
use mir.Val.{to_z, of_z}
use Rattle.coordinates.specs.Coordinates.{root_origin}
use Rattle.coordinates.proofs.root_origin.Goals as goal

pub returns : goal.returns
unfolding root_origin
returns c =
    let v = c.args.v in
    let x : to_z w32 (of_z w32 c.root_coord-x.result) ≡ c.root_coord-x.result = search rules in
    let y : to_z w32 (of_z w32 c.root_coord-y.result) ≡ c.root_coord-y.result = search rules in
    let z : to_z w32 (of_z w32 c.root_coord-z.result) ≡ c.root_coord-z.result = search rules in
    let x₁ : to_z w32 (of_z w32 v.0) ≡ v.0 = search rules in
    let x₂ : to_z w32 (of_z w32 v.1) ≡ v.1 = search rules in
    let x₃ : to_z w32 (of_z w32 v.2) ≡ v.2 = search rules in
    cc
