-- Inner matter: only contracts of inner functions cite it, and nothing here has to be believed.
use Rattle.std.specs.Prelude.{◌≡◌, Bool, true, ◌&&◌, List, ℕ, zero, suc, ◌+◌, ◌*◌, ◌%◌, ◌≤◌, ltb}
use Rattle.fields.specs.Le.{u16_at}
use Rattle.half.specs.Half.{exponent}

-- a half that is neither subnormal (zero among them) nor an infinity nor a NaN
abbrev pub is_normal : ℕ → Bool
is_normal h = ltb 0 (exponent h) && ltb (exponent h) 31

-- a test passes at all numbers below n
abbrev pub all_below : (ℕ → Bool) → ℕ → Bool
all_below f zero = true
all_below f (suc n) = f n && all_below f n

-- n halves from a position on are normal
unfoldable pub are_normal : List ℕ → ℕ → ℕ → Bool
are_normal s at n = all_below (λ k. is_normal (u16_at s (at + k * 2))) n

-- a width of stored values: an even number from 2 to 4, so 2 or 4
abbrev pub IsWidth : ℕ → Type 0
IsWidth width = (2 ≤ width) × (width ≤ 4) × (width % 2 ≡ 0)
