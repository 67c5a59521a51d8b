-- Inner matter: only contracts of inner functions cite it, and nothing here has to be believed.
use Rattle.std.specs.Prelude.{ℕ, ◌+◌, ◌*◌, ◌≤◌, List, length}
use Rattle.masks.specs.Inner.{IsMask}
use Rattle.half.specs.Inner.{IsWidth}
use Rattle.forms.specs.Inner.{SelectionHeld}
use Rattle.forms.specs.declared.Coding.{Coding}
use Rattle.runs.specs.Runs.{count_of}
use Rattle.runs.specs.declared.Values.{Values}

-- What the readers of a place ask, and values that were read have: the width is 2 or 4, and masks and run lie in the file.
pub record Held (s : List ℕ) (c : Coding) (n child value : ℕ) (v : Values) : Type 0 where
  pub width : IsWidth c.width
  pub child-mask : IsMask s child n
  pub value-mask : IsMask s value n
  pub selection-mask : SelectionHeld s n v.inactives.selection
  pub run : v.start + count_of s v.stored n child value * c.width ≤ length s
