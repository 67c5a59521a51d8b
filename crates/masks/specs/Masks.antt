-- Masks (sections 4, 5, 7 and 8). But for `mask_bit`, a mask is a truth value for each place, and nothing is said of bytes.
use Rattle.std.specs.Prelude.{ℕ, zero, suc, ◌+◌, ◌/◌, ◌%◌, ◌^◌, Bool, true, false, not, ◌&&◌, List, [], ◌∷◌, length, eqb}
use Rattle.std.specs.Bool.{beq}
use Rattle.fields.specs.Le.{byte_at}

-- bit q of a number, bit 0 being the lowest
unfoldable pub digit : ℕ → ℕ → Bool
digit w q = eqb (w / 2 ^ q % 2) 1

-- Section 4: a mask is a row of u64 words that starts with bit 0. As words are little-endian, the bit of place p is bit p mod 8 of byte p / 8.
unfoldable pub mask_bit : List ℕ → ℕ → ℕ → Bool
mask_bit s at p = digit (byte_at s (at + p / 8)) (p % 8)

-- the ones among the k places from p on, rising
abbrev pub cons_if : Bool → ℕ → List ℕ → List ℕ
cons_if true p l = p ∷ l
cons_if false p l = l

unfoldable pub ones_from : (ℕ → Bool) → ℕ → ℕ → List ℕ
ones_from f p zero = []
ones_from f p (suc k) = cons_if (f p) p (ones_from f (suc p) k)

-- the ones of a mask of n places
abbrev pub ones : (ℕ → Bool) → ℕ → List ℕ
ones f n = ones_from f 0 n

-- section 5: how many ones a mask has at the places before p
abbrev pub count_below : (ℕ → Bool) → ℕ → ℕ
count_below f p = length (ones f p)

-- section 8, check 18: whether two masks of n places have a one at the same place
abbrev pub is_nil : List ℕ → Bool
is_nil [] = true
is_nil (p ∷ l) = false

abbrev pub overlap : (ℕ → Bool) → (ℕ → Bool) → ℕ → Bool
overlap f g n = not (is_nil (ones (λ p. f p && g p) n))

-- section 8, check 20: whether two masks of n places are the same, so that they differ at none
abbrev pub agree : (ℕ → Bool) → (ℕ → Bool) → ℕ → Bool
agree f g n = is_nil (ones (λ p. not (beq (f p) (g p))) n)
