-- Each coordinate is read back from its bits.
use borrow.Author.Rules.{rules}
use mathlib.Core.Path.{◌≡◌, ap, ◌∙◌}
use mathlib.Core.List.{[], ◌∷◌}
use mir.Syntax.{w32}
use mir.Val.{to_z, of_z}
use Rattle.words.specs.Words.{pattern}
use Rattle.words.proofs.coord_words.Goals as goal

pub returns : goal.returns
returns c =
    let o = c.args.o in
    let x₁ : to_z w32 (of_z w32 o.0) ≡ o.0 = search rules in
    let y₁ : to_z w32 (of_z w32 o.1) ≡ o.1 = search rules in
    let z₁ : to_z w32 (of_z w32 o.2) ≡ o.2 = search rules in
    let x = c.coord_word.ensures in
    let y = c.coord_word-2.ensures in
    let z = c.coord_word-3.ensures in (
      λ i. (x.0 ∙ ap pattern x₁) i ∷ (y.0 ∙ ap pattern y₁) i ∷ (z.0 ∙ ap pattern z₁) i ∷ [],
      λ i. ((x.1 ∙ x₁) i, (y.1 ∙ y₁) i, (z.1 ∙ z₁) i),
    )
