-- Inner matter: only contracts of inner functions cite it, and nothing here has to be believed.
use Rattle.std.specs.Prelude.{ℕ, ◌+◌, ◌*◌, ◌≤◌, ◌<◌, List, length}
use Rattle.forms.specs.declared.Coding.{Coding}

-- the stored value with the number k, of a run that starts at a position, lies in the file
abbrev pub InRun : List ℕ → Coding → ℕ → ℕ → Type 0
InRun s c start k = (k < 32768) × (start + k * c.width + c.width ≤ length s)
