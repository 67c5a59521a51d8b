-- A step from a place of a grid leads to the place that a walk over as many records gives.
use mathlib.Core.Path.{◌≡◌, refl, sym}
use mathlib.Core.List.{List}
use Prim.Native.Nat.{ℕ, ◌+◌, ◌≤◌, min}
use lib.ListN.{length}
use Rattle.std.proofs.Common.{Result, Ok}
use Rattle.fields.specs.Answer.{gives}
use Rattle.fields.specs.declared.ParseError.{ParseError}
use Rattle.archive.specs.declared.Asked.{Asked}
use Rattle.place.specs.Inner.{Steps}
use Rattle.place.specs.declared.Place.{Place}
use Rattle.place.proofs.Stands.{step_after}
use Rattle.grid.specs.Grid.{Grid, grid, active_of, start_of, place_after}
use Rattle.grid.proofs.Coverage.{grid-read}

pub step-placed :
    (s : List ℕ) (asked : Asked) (name : List ℕ) (g : Grid) → gives g ≡ grid s asked name → (m n : ℕ) {r : Result Place ParseError} → m ≤ length (active_of s g) →
    (let p = place_after s g m in Steps s p (min n p.left) r) → r ≡ Ok (place_after s g (min (m + n) (length (active_of s g))))
unfolding place_after
step-placed s asked name g e m n l h = let d = grid-read s asked name e in step_after (start_of s g) d.parsed d.width (sym d.start) refl m n l h
