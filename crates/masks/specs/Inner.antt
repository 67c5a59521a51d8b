-- Inner matter: only contracts of inner functions cite it, and nothing here has to be believed.
use Rattle.std.specs.Prelude.{ℕ, ◌+◌, ◌-◌, ◌*◌, ◌/◌, ◌%◌, ◌^◌, ◌≤◌, ◌<◌, ◌≡◌, Bool, not, List, [], ◌∷◌, length, Option, Some, None}
use Rattle.coordinates.specs.Coordinates.{index}
use Rattle.coordinates.specs.declared.Index.{Index}
use Rattle.masks.specs.Masks.{digit, ones_from, count_below}

-- What the functions ask of a mask of n bytes at a position: it lies in the file and is whole words, a 5-node's at most.
pub record IsMask (s : List ℕ) (at n : ℕ) : Type 0 where
  pub within : at + n ≤ length s
  pub words : n % 8 ≡ 0
  pub small : n ≤ 4096

-- how many zeros a mask has at the places before p
abbrev pub zeros_below : (ℕ → Bool) → ℕ → ℕ
zeros_below f p = count_below (λ q. not (f q)) p

-- the first of some places, if there is one
abbrev pub first : List ℕ → Option Index
first [] = None
first (p ∷ l) = Some (index p)

-- the next one at or after p in a mask of n places, if there is one
abbrev pub next_one : (ℕ → Bool) → ℕ → ℕ → Option Index
next_one f n p = first (ones_from f p (n - p))

-- w is a u64 whose bits are those of the 64 places from p on
pub record IsWord (f : ℕ → Bool) (p w : ℕ) : Type 0 where
  pub below : w < 2 ^ 64
  pub bits : (q : ℕ) → q < 64 → digit w q ≡ f (p + q)

-- the ones of w from bit p on, each where it was
abbrev pub ones_past : ℕ → ℕ → ℕ
ones_past w p = w / 2 ^ p * 2 ^ p
