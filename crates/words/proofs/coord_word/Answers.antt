-- A coordinate made wider has the same pattern, and comes back from the low half.
use mathlib.Core.Path.{ap, ◌∙◌}
use Prim.Native.Nat.{ℕ}
use Rattle.fields.specs.Le.{signed}
use Rattle.words.specs.Words.{pattern, low32}
use Rattle.words.proofs.Laws.{widened, pattern-back}
use Rattle.words.proofs.coord_word.Goals as goal

pub returns : goal.returns
returns c =
    let fits = c.ranges.x in
    let e = c.pattern_of.ensures ∙ ap pattern (widened fits c.from.ensures) in
    (e, ap (λ (n : ℕ). signed 31 (low32 n)) e ∙ pattern-back c.args.x fits)
