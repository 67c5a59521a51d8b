-- Inner matter: only contracts of inner functions cite it, and nothing here has to be believed.
use Rattle.std.specs.Prelude.{ℕ, ◌*◌, ◌≤◌, List, length}
use Rattle.grid.specs.declared.OpenedGrid.{OpenedGrid}
use Rattle.outward.specs.Outward.{double_count}

-- the doubles before a transform's end lie in the file
pub record DoublesHeld (s : List ℕ) (g : OpenedGrid) : Type 0 where
  pub before : 8 * double_count g.transform ≤ g.transform_end
  pub inside : g.transform_end ≤ length s
