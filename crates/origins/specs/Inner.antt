-- Inner matter: only contracts of inner functions cite it, and nothing here has to be believed.
use Rattle.std.specs.Prelude.{ℕ, List, [], ◌∷◌}
use Rattle.coordinates.specs.declared.GlobalCoord.{GlobalCoord}
use Rattle.tree.specs.Active.{Piece}
use Rattle.leaves.specs.Inner.{start_cursor, leaves_from, from_leaves}
use Rattle.place.specs.declared.Start.{Start}

-- the origin of a leaf, and of n of the leaves from a start on, but for the first ones
abbrev pub origin_in : Piece → List GlobalCoord
origin_in q = q.origin ∷ []

abbrev pub origins_from : List ℕ → Start → ℕ → ℕ → List GlobalCoord
origins_from s t first n = from_leaves origin_in (leaves_from s t.coding (start_cursor t)) first n
