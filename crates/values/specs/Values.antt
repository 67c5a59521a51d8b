-- Section 5: the value of each place of a node, and the values of a leaf.
-- A node is given by its child mask's position `child` and its value mask's position `value`. A leaf has no child mask, and none of its values
-- depends on `child`.
use Rattle.std.specs.Prelude.{ℕ, zero, suc, ◌+◌, ◌*◌, List, [], ◌∷◌, Bool, false, Option, Some, None}
use Rattle.fields.specs.Parse.{when}
use Rattle.masks.specs.Masks.{mask_bit}
use Rattle.half.specs.Half.{stored_value}
use Rattle.forms.specs.declared.Coding.{Coding}
use Rattle.forms.specs.declared.Inactives.{Inactives}
use Rattle.runs.specs.Runs.{is_stored, number_of}
use Rattle.runs.specs.declared.Values.{Values}

-- the selection bit of place p
unfoldable pub is_selected : List ℕ → Option ℕ → ℕ → Bool
is_selected s (Some at) p = mask_bit s at p
is_selected s None p = false

-- what an inactive place holds: the second inactive value where it is selected, else the first
unfoldable pub inactive_value : List ℕ → Inactives → ℕ → ℕ
inactive_value s v p = when (is_selected s v.selection p) v.second v.first

-- The value of place p: the stored value with its number, or an inactive value. Before version 222 a place with a child has neither, and is
-- never asked for.
unfoldable pub place_value : List ℕ → Coding → ℕ → ℕ → Values → ℕ → ℕ
place_value s c child value v p =
    when (is_stored s v.stored child value p)
    (stored_value s c.width (v.start + number_of s v.stored child value p * c.width))
    (inactive_value s v.inactives p)

-- the values of the k places from p on
unfoldable pub values_from : List ℕ → Coding → ℕ → ℕ → Values → ℕ → ℕ → List ℕ
values_from s c child value v p zero = []
values_from s c child value v p (suc k) = place_value s c child value v p ∷ values_from s c child value v (suc p) k

-- the 512 values of a leaf, place 0 first; for the child mask that it lacks stands its value mask, which no stored kind of a leaf looks at there
abbrev pub leaf_values : List ℕ → Coding → ℕ → Values → List ℕ
leaf_values s c value v = values_from s c value value v 0 512
