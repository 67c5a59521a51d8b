-- A row and its columns.
use mathlib.Core.Path.{◌≡◌, refl, ap, ◌∙◌}
use mathlib.Core.List.{List, [], ◌∷◌, ◌++◌, map, append-nil}
use Prim.Native.Nat.{ℕ, zero, suc, ◌+◌, ◌-◌, ◌≤◌, ◌<◌}
use native.Mathlib.Nat.{add-zero}
use native.Mathlib.Numerals.{add-one}
use native.Mathlib.Omega.{arith}
use lib.IntN.{ℤ, pos}
use lib.ListN.{length, get_or, set, drop, length-map, drop_of_length-le}
use lib.Seq.{sets, sets-eq}
use Rattle.tree.specs.Active.{Record}
use Rattle.slots.specs.Slots.{Slots, slot_count, laid_from}
use Rattle.walk.specs.Demand3.{rows}
use Rattle.rows.specs.Rows.{row_of, columns}
use Rattle.rows.specs.declared.Record.{Record as Row}

map-set : {A B : Type 0} (f : A → B) (l : List A) (i : ℕ) (a : A) → map f (set l i a) ≡ set (map f l) i (f a)
map-set f [] i a = refl
map-set f (x ∷ l) zero a = refl
map-set f (x ∷ l) (suc i) a = ap (λ (t : List _). f x ∷ t) (map-set f l i a)

-- one run of stores, and then another behind it
pub sets-append : {A : Type 0} (l : List A) (i : ℕ) (xs ys : List A) → sets l i (xs ++ ys) ≡ sets (sets l i xs) (i + length xs) ys
sets-append l i [] ys = rw add-zero
sets-append l i (x ∷ xs) ys =
    let e : i + suc (length xs) ≡ suc i + length xs = omega arith in
    rw e (sets-append (set l i x) (suc i) xs ys)

-- as many slots as the row has
pub columns-count : (row : List Row) → slot_count (columns row) ≡ length row
columns-count row = simp length-map (omega arith)

-- records that are stored in the row are laid into its columns
pub columns-sets : (row : List Row) (i : ℕ) (rs : List Record) → columns (sets row i (map row_of rs)) ≡ laid_from (columns row) i rs
unfolding laid_from
columns-sets row i [] = refl
columns-sets row i (r ∷ rs) = columns-sets (set row i (row_of r)) (suc i) rs ∙ ap (λ (t : _). laid_from t (suc i) rs) (simp map-set)

pub rows-length : (t : Slots) (i n : ℕ) → length (rows t i n) ≡ n
unfolding rows
rows-length t i zero = refl
rows-length t i (suc n) = ap suc (rows-length t (suc i) n)

-- The first slots of the columns are stored in the row, which was row₀: i of them are, and what is left to store comes to the whole.
pub record Storing (t : Slots) (row₀ row : List Row) (i : ℕ) : Type 0 where
  pub all : sets row i (map row_of (rows t i (length row₀ - i))) ≡ sets row₀ 0 (map row_of (rows t 0 (length row₀)))

module _ (t : Slots) (row₀ : List Row) where
  pub stores : (row : List Row) (i : ℕ) {x y z : ℤ} → i < length row₀ → Storing t row₀ row i → x ≡ get_or t.x i (pos 0) → y ≡ get_or t.y i (pos 0) → z ≡ get_or t.z i (pos 0) →
      Storing t row₀ (set row i (record { x = x; y = y; z = z; level = get_or t.level i 0; value = get_or t.value i 0 })) (i + 1)
  unfolding rows
  stores row i h q a b c =
      let e : length row₀ - i ≡ suc (length row₀ - suc i) = omega arith in
      record { all = rw (a, b, c, add-one) (rw e at q.all) }

  pub stored : (row : List Row) (i : ℕ) → length row₀ ≤ i → Storing t row₀ row i → row ≡ map row_of (rows t 0 (length row₀))
  unfolding rows
  stored row i h q =
      let rs = map row_of (rows t 0 (length row₀)) in
      let e : length row₀ - i ≡ 0 = omega arith in
      let k : length rs ≡ length row₀ = length-map (rows t 0 (length row₀)) row_of ∙ rows-length t 0 (length row₀) in
      let f : row ≡ sets row₀ 0 rs = rw e at q.all in
      let d : drop (0 + length rs) row₀ ≡ [] = drop_of_length-le row₀ (omega arith) in
      f ∙ sets-eq rs row₀ 0 (omega arith) ∙ rw (d, append-nil)
