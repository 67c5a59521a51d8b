-- What the call reads: two files that are the same there give the same origins.
use mathlib.Core.Path.{◌≡◌}
use mathlib.Core.List.{List}
use Prim.Native.Nat.{ℕ}
use Rattle.fields.specs.Answer.{gives}
use Rattle.archive.specs.declared.Asked.{Asked}
use Rattle.fields.proofs.Answers.{with-gives, with-back}
use Rattle.grid.specs.Grid.{grid}
use Rattle.grid.proofs.Agree.{SameAsked, grid-again}
use Rattle.origins.specs.Origins.{Axes, leaf_origins}

pub origins-again :
    (s t : List ℕ) (asked : Asked) (name : List ℕ) → SameAsked s t asked name → (first nx ny nz : ℕ) (x : Axes) → gives x ≡ leaf_origins s asked name first nx ny nz →
    gives x ≡ leaf_origins t asked name first nx ny nz
unfolding leaf_origins
origins-again s t asked name u first nx ny nz x e =
    let y = with-back (grid s asked name) _ e in
    with-gives _ (grid-again s t asked name u y.0 y.1).0 y.2
