-- Inner matter: only contracts of inner functions and proofs cite it, and nothing here has to be believed.
use Rattle.std.specs.Prelude.{ℕ, List, [], ◌∷◌, Bool, eqb}
use Rattle.fields.specs.Parse.{when}
use Rattle.coordinates.specs.Coordinates.{places}
use Rattle.coordinates.specs.declared.GlobalCoord.{GlobalCoord}
use Rattle.masks.specs.Masks.{mask_bit, count_below}
use Rattle.tree.specs.Active.{Record, Spot, Piece, edge_of, covered_by}

-- how many records a piece lists, and how many leaves it is: one, or none
abbrev pub record_count : List ℕ → Piece → ℕ
record_count s q = count_below (mask_bit s q.value) (places (edge_of q.level))

abbrev pub leaf_count : Piece → ℕ
leaf_count q = when (eqb q.level 0) 1 0

-- those of a list that pass a test, in order; of a list of records, those that cover the voxel
unfoldable pub kept : {A : Type 0} → (A → Bool) → List A → List A
kept test [] = []
kept test (a ∷ rest) = when (test a) (a ∷ kept test rest) (kept test rest)

abbrev pub covering : GlobalCoord → List Record → List Record
covering v l = kept (λ r. covered_by r v) l

-- the record that a spot names, where it is active
abbrev pub record_named : Spot → List Record
record_named t = when t.active (t.place ∷ []) []
