-- Inner matter: only contracts of inner functions cite it, and nothing here has to be believed.
use Rattle.std.specs.Prelude.{ℕ, ◌-◌, ◌%◌, ◌≤◌, Bool, eqb, length, take, drop}
use mathlib.Core.List.{List, [], ◌∷◌, flat_map}
use Rattle.fields.specs.Parse.{when}
use Rattle.half.specs.Inner.{IsWidth}
use Rattle.values.specs.Values.{leaf_values}
use Rattle.forms.specs.declared.Coding.{Coding}
use Rattle.tree.specs.Active.{Piece}
use Rattle.cursor.specs.Inner.{Stop, between_roots, to_come}
use Rattle.cursor.specs.declared.Cursor.{Cursor}
use Rattle.place.specs.declared.Start.{Start}

-- so many slots are those of one leaf, or those of whole leaves
abbrev pub right_slots : Bool → ℕ → Bool
right_slots single n = when single (eqb n 512) (eqb (n % 512) 0)

-- the cursor before all of a tree's roots
abbrev pub start_cursor : Start → Cursor
start_cursor t = between_roots t.root_count t.roots_pos t.block_pos

-- the leaves among pieces, and those that a cursor still hands out
unfoldable pub leaves_among : List Stop → List Piece
leaves_among [] = []
leaves_among (t ∷ ts) = when (eqb t.piece.level 0) (t.piece ∷ leaves_among ts) (leaves_among ts)

abbrev pub leaves_from : List ℕ → Coding → Cursor → List Piece
leaves_from s c x = leaves_among (to_come s c x).items

-- what n of these leaves give, but for the first ones: a list for each, one after the other
abbrev pub from_leaves : {A : Type 0} → (Piece → List A) → List Piece → ℕ → ℕ → List A
from_leaves f l first n = flat_map f (take n (drop first l))

-- the values of a leaf, and of n of these leaves, but for the first ones
abbrev pub values_in : List ℕ → Coding → Piece → List ℕ
values_in s c q = leaf_values s c q.value q.values

abbrev pub values_of : List ℕ → Coding → List Piece → ℕ → ℕ → List ℕ
values_of s c l first n = from_leaves (values_in s c) l first n

-- from this start on there are n leaves, but for the first ones
pub record HasLeaves (s : List ℕ) (t : Start) (first n : ℕ) : Type 0 where
  pub width : IsWidth t.coding.width
  pub few : t.root_count ≤ 256
  pub there : n ≤ length (leaves_from s t.coding (start_cursor t)) - first
