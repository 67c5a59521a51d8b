-- Section 6: the values of a leaf, and of a run of leaves that are filled with one opening of the grid.
use Rattle.std.specs.Prelude.{ℕ, ◌-◌, ◌/◌, ◌%◌, ◌&&◌, Option, None, Some, eqb, leb, length, take, drop, slice_get}
use mathlib.Core.List.{List, [], flat_map}
use Rattle.fields.specs.Parse.{when}
use Rattle.fields.specs.Answer.{Answer, gives, refuses, with}
use Rattle.archive.specs.declared.Asked.{Asked}
use Rattle.archive.specs.declared.Asked.TheVariants as A
use Rattle.values.specs.Values.{leaf_values}
use Rattle.nodes.specs.declared.Block.{Block}
use Rattle.tree.specs.Blocks.{Filled5}
use Rattle.tree.specs.Active.{all_blocks}
use Rattle.grid.specs.Grid.{Grid, grid}

-- a leaf by its number from 0, in the order of the topology
abbrev pub leaf_numbered : ℕ → List Filled5 → Option Block
leaf_numbered k filled = slice_get (all_blocks filled) k

-- check 21: there is such a leaf
unfoldable pub present_leaf : Option Block → Answer Block
present_leaf (Some b) = gives b
present_leaf None = refuses 21

-- section 6: the fill opens the grid, then comes check 21, for the leaf and for the number of slots; it leaves the leaf's values in these
unfoldable pub fill_leaf : List ℕ → Asked → List ℕ → ℕ → ℕ → Answer (List ℕ)
fill_leaf s asked name k slots =
    with (grid s asked name) λ g.
    with (present_leaf (leaf_numbered k g.filled)) λ b.
    when (eqb slots 512) (gives (leaf_values s g.coding b.mask b.values)) (refuses 21)

abbrev pub fill_leaf_named : List ℕ → List ℕ → ℕ → ℕ → Answer (List ℕ)
fill_leaf_named s name k slots = fill_leaf s A.ByName name k slots

abbrev pub fill_leaf_numbered : List ℕ → ℕ → ℕ → ℕ → Answer (List ℕ)
fill_leaf_numbered s n k slots = fill_leaf s (A.ByNumber n) [] k slots

-- the values of n leaves from a number on, one after the other
abbrev pub run_values : List ℕ → Grid → ℕ → ℕ → List ℕ
run_values s g first n = flat_map (λ b. leaf_values s g.coding b.mask b.values) (take n (drop first (all_blocks g.filled)))

-- check 21: the slots are for whole leaves, and these are all there
unfoldable pub fill_leaves : List ℕ → Asked → List ℕ → ℕ → ℕ → Answer (List ℕ)
fill_leaves s asked name first slots =
    with (grid s asked name) λ g.
    when (eqb (slots % 512) 0 && leb (slots / 512) (length (all_blocks g.filled) - first)) (gives (run_values s g first (slots / 512))) (refuses 21)

abbrev pub fill_leaves_named : List ℕ → List ℕ → ℕ → ℕ → Answer (List ℕ)
fill_leaves_named s name first slots = fill_leaves s A.ByName name first slots

abbrev pub fill_leaves_numbered : List ℕ → ℕ → ℕ → ℕ → Answer (List ℕ)
fill_leaves_numbered s n first slots = fill_leaves s (A.ByNumber n) [] first slots
