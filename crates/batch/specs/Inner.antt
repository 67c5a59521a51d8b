-- Inner matter: only contracts of inner functions cite it, and nothing here has to be believed.
use Rattle.std.specs.Prelude.{◌≡◌, List, true, false, ℕ, zero, suc, ◌+◌, ◌*◌, ◌≤◌, ◌<◌, length, get_or, set}
use Rattle.masks.specs.Masks.{digit, count_below}
use Rattle.half.specs.Inner.{IsWidth}
use Rattle.half.specs.Half.{stored_value}
use Rattle.forms.specs.declared.Coding.{Coding}

-- n elements from i on set, the k-th to f k
unfoldable pub ranged : {A : Type 0} → List A → ℕ → ℕ → (ℕ → A) → List A
ranged xs i zero f = xs
ranged xs i (suc n) f = set (ranged xs i n f) (i + n) (f n)

-- the stored value with the number `number + k`, of a run that starts at a position
abbrev pub numbered : List ℕ → Coding → ℕ → ℕ → ℕ → ℕ
numbered s c start number k = stored_value s c.width (start + (number + k) * c.width)

-- n stored values of a run from a number on lie in the file
pub record InFile (s : List ℕ) (c : Coding) (start number n : ℕ) : Type 0 where
  pub width : IsWidth c.width
  pub few : number + n ≤ 32768
  pub within : start + (number + n) * c.width ≤ length s

-- the stored value of place i of a word, the word's ones having those of a run from a number on, in their order
abbrev pub in_order : List ℕ → Coding → ℕ → ℕ → ℕ → ℕ → ℕ
in_order s c start number ones i = numbered s c start number (count_below (digit ones) i)

-- of 64 slots those of a word's ones are set, that of place i to f i; the others stay
pub record OnesSet (f : ℕ → ℕ) (ones : ℕ) (before after : List ℕ) : Type 0 where
  pub many : length after ≡ 64
  pub set : (i : ℕ) → i < 64 → digit ones i ≡ true → get_or after i 0 ≡ f i
  pub kept : (i : ℕ) → i < 64 → digit ones i ≡ false → get_or after i 0 ≡ get_or before i 0
