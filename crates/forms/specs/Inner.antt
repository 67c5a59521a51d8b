-- Inner matter: only contracts of inner functions cite it, and nothing here has to be believed.
use Rattle.std.specs.Prelude.{ℕ, List, Option, Some, None}
use Rattle.masks.specs.Inner.{IsMask}

-- a selection mask lies in the file, where there is one
abbrev pub SelectionHeld : List ℕ → ℕ → Option ℕ → Type 0
SelectionHeld s n (Some at) = IsMask s at n
SelectionHeld s n None = Unit {0}
