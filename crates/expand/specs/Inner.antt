-- Inner matter: only contracts of inner functions cite it, and nothing here has to be believed.
-- Of the 64 places of a mask word, from place p on, and as many slots.
use Rattle.std.specs.Prelude.{◌≡◌, List, false, ℕ, ◌+◌, ◌<◌, length, get_or}
use Rattle.masks.specs.Masks.{digit}
use Rattle.forms.specs.declared.Inactives.{Inactives}
use Rattle.values.specs.Values.{inactive_value}

-- a word's zeros hold their inactive values; what its ones hold is free
pub record ZerosHeld (s : List ℕ) (v : Inactives) (p ones : ℕ) (slots : List ℕ) : Type 0 where
  pub many : length slots ≡ 64
  pub zeros : (i : ℕ) → i < 64 → digit ones i ≡ false → get_or slots i 0 ≡ inactive_value s v (p + i)
