-- Section 6: the origins of a run of leaves, with one opening of the grid. A fill of the same leaves gives their values; the origins say where these lie.
use Rattle.std.specs.Prelude.{ℕ, ◌-◌, List, [], map, Bool, ◌&&◌, eqb, leb, ℤ, length, take, drop}
use Rattle.fields.specs.Parse.{when}
use Rattle.coordinates.specs.declared.GlobalCoord.{GlobalCoord}
use Rattle.fields.specs.Answer.{Answer, gives, refuses, with}
use Rattle.archive.specs.declared.Asked.{Asked}
use Rattle.archive.specs.declared.Asked.TheVariants as A
use Rattle.tree.specs.Active.{all_blocks}
use Rattle.grid.specs.Grid.{Grid, grid}

-- three slices of numbers, one for each axis
pub record Axes : Type 0 where
  pub x : List ℤ
  pub y : List ℤ
  pub z : List ℤ

abbrev pub axes : List ℤ → List ℤ → List ℤ → Axes
axes x y z = record { x = x; y = y; z = z }

-- coordinates laid into them, in order
abbrev pub axes_of : List GlobalCoord → Axes
axes_of l = axes (map (λ o. o.0) l) (map (λ o. o.1) l) (map (λ o. o.2) l)

-- three lengths are the same
abbrev pub same_lengths : ℕ → ℕ → ℕ → Bool
same_lengths nx ny nz = eqb nx ny && eqb nx nz

-- the origins of n leaves from a number on, in the order of the topology
abbrev pub run_origins : Grid → ℕ → ℕ → List GlobalCoord
run_origins g first n = map (λ b. b.origin) (take n (drop first (all_blocks g.filled)))

-- The call opens the grid, then comes check 21: the slices, of these lengths, have the same length, and as many leaves are there from a number on. It
-- leaves the coordinates of their origins in the slices.
unfoldable pub leaf_origins : List ℕ → Asked → List ℕ → ℕ → ℕ → ℕ → ℕ → Answer Axes
leaf_origins s asked name first nx ny nz =
    with (grid s asked name) λ g.
    when (same_lengths nx ny nz && leb nx (length (all_blocks g.filled) - first)) (gives (axes_of (run_origins g first nx))) (refuses 21)

abbrev pub leaf_origins_named : List ℕ → List ℕ → ℕ → ℕ → ℕ → ℕ → Answer Axes
leaf_origins_named s name first nx ny nz = leaf_origins s A.ByName name first nx ny nz

abbrev pub leaf_origins_numbered : List ℕ → ℕ → ℕ → ℕ → ℕ → ℕ → Answer Axes
leaf_origins_numbered s n first nx ny nz = leaf_origins s (A.ByNumber n) [] first nx ny nz
