-- Inner matter: only contracts of inner functions cite it, and nothing here has to be believed.
-- What the place formulas ask of their arguments, so that no i32 is left.
use Rattle.std.specs.Prelude.{ℕ, ◌*◌, ◌%◌, ◌<◌, ◌≤◌, ◌≡◌}
use Rattle.std.specs.Int.{w32}
use Rattle.std.proofs.Common.{SFits}
use Rattle.coordinates.specs.Coordinates.{places}
use Rattle.coordinates.specs.declared.GlobalCoord.{GlobalCoord}

-- an i32 holds each coordinate
abbrev pub InRange : GlobalCoord → Type 0
InRange v = SFits w32 v.0 × SFits w32 v.1 × SFits w32 v.2

-- m divides 2147483648, as 8, 128 and 4096 do
pub record Divides (m : ℕ) : Type 0 where
  pub positive : 0 < m
  pub whole : 2147483648 % m ≡ 0

-- what the formulas need of a node's side and step, and all three nodes have: 32 and 128, 16 and 8, 8 and 1
pub record Node (side step : ℕ) : Type 0 where
  pub side-positive : 0 < side
  pub step-positive : 0 < step
  pub few-places : places side ≤ 32768
  pub small-span : side * step ≤ 4096
  pub whole-spans : 2147483648 % (side * step) ≡ 0
