-- The origin and each smaller number come back from their words.
use mathlib.Core.List.{[], ◌∷◌}
use Rattle.words.specs.Words.{at, inside_by}
use Rattle.words.proofs.inside_words.Goals as goal

pub returns : goal.returns
unfolding inside_by
returns c =
    let w = c.args.w in
    let o = c.coord_words-o.ensures in
    let level = c.word.ensures in
    let stored = c.word-2.ensures in
    let from = c.word-3.ensures in (
      λ i.
          level.0 i ∷ at (o.0 i) 0 ∷ at (o.0 i) 1 ∷ at (o.0 i) 2 ∷ w.child_mask ∷ w.value_mask ∷ stored.0 i ∷ w.start ∷ from.0 i ∷ w.number ∷ [],
      λ i. record {
        level = level.1 i;
        origin = o.1 i;
        child_mask = w.child_mask;
        value_mask = w.value_mask;
        stored = stored.1 i;
        start = w.start;
        from = from.1 i;
        number = w.number;
      },
    )
