-- Section 7: a row of record slots, in its core form: five slices of numbers.
use Rattle.std.specs.Prelude.{ℕ, suc, min, List, [], ◌∷◌, ℤ, length, set}
use Rattle.tree.specs.Active.{Record}

-- the five slices
pub record Slots : Type 0 where
  pub x : List ℤ
  pub y : List ℤ
  pub z : List ℤ
  pub level : List ℕ
  pub value : List ℕ

abbrev pub slots_of : List ℤ → List ℤ → List ℤ → List ℕ → List ℕ → Slots
slots_of x y z level value = record { x = x; y = y; z = z; level = level; value = value }

-- as many slots as the shortest of them has
abbrev pub slot_count : Slots → ℕ
slot_count t = min (length t.x) (min (length t.y) (min (length t.z) (min (length t.level) (length t.value))))

-- a record put into slot i, and records from slot i on, one after the other; all other slots keep their content
abbrev pub put : Slots → ℕ → Record → Slots
put t i r = slots_of (set t.x i r.corner.0) (set t.y i r.corner.1) (set t.z i r.corner.2) (set t.level i r.level) (set t.value i r.value)

unfoldable pub laid_from : Slots → ℕ → List Record → Slots
laid_from t i [] = t
laid_from t i (r ∷ rs) = laid_from (put t i r) (suc i) rs
