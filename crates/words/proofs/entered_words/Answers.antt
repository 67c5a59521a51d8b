-- The origin comes back from its own words, the place from its low half.
use mathlib.Core.List.{[], ◌∷◌}
use Rattle.words.specs.Words.{at}
use Rattle.words.proofs.entered_words.Goals as goal

pub returns : goal.returns
returns c =
    let e = c.args.e in
    let o = c.coord_words-o.ensures in
    let next = c.word.ensures in (
      λ i. at (o.0 i) 0 ∷ at (o.0 i) 1 ∷ at (o.0 i) 2 ∷ e.pos ∷ next.0 i ∷ [],
      λ i. record { origin = o.1 i; pos = e.pos; next = next.1 i },
    )
