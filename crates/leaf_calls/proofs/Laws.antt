-- What a fill's answer leaves, by which the functions' proofs go.
use mathlib.Core.Path.{◌≡◌, ap, ◌∙◌}
use Prim.Native.Nat.{ℕ}
use Rattle.std.proofs.Common.{Result, Ok, Err, MatchResult}
use Rattle.fields.specs.Answer.{Answer}
use Rattle.fields.specs.Says.{number}
use Rattle.fields.specs.declared.ParseError.{ParseError}
use Rattle.leaves.specs.Answers.{says_fill, KeptBy}
use Rattle.outward.specs.Outward.{laid}

-- the answer r of a fill, or of another call with such an answer, and the number that is returned for it
pub filled :
    {A : Type 0} {m : Answer A} (before after : A) (r : Result (Unit {0}) ParseError) {k : ℕ} → (says_fill r after ≡ m) × KeptBy r before after →
    MatchResult r (λ u. k ≡ 0) (λ e. k ≡ number e) → (k, after) ≡ laid m (λ values. values) before
unfolding laid
filled before after (Ok u) h e = (λ i. (e i, after)) ∙ ap (λ (m : Answer _). laid m (λ values. values) before) h.0
filled before after (Err d) h e = (λ i. (e i, h.1 i)) ∙ ap (λ (m : Answer _). laid m (λ values. values) before) h.0
