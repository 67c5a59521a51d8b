-- What a call leaves, by which the calls' proofs go.
use mathlib.Core.Path.{◌≡◌, ap, ◌∙◌}
use Prim.Native.Nat.{ℕ}
use Rattle.std.proofs.Common.{Result, Ok, Err, MatchResult}
use Rattle.fields.specs.Answer.{Answer}
use Rattle.fields.specs.Says.{number, says_answer}
use Rattle.fields.specs.declared.ParseError.{ParseError}
use Rattle.outward.specs.Outward.{laid}

-- a call's answer r, which says m, and what is returned for it and left of what was lent
pub laid_as :
    {A B : Type 0} {m : Answer A} (words : A → B) (lent : B) (r : Result A ParseError) {k : ℕ} {left : B} → says_answer r ≡ m →
    MatchResult r (λ a. (k ≡ 0) × (left ≡ words a)) (λ e. (k ≡ number e) × (left ≡ lent)) → (k, left) ≡ laid m words lent
unfolding laid
laid_as words lent (Ok a) e h = (λ i. (h.0 i, h.1 i)) ∙ ap (λ (m : Answer _). laid m words lent) e
laid_as words lent (Err d) e h = (λ i. (h.0 i, h.1 i)) ∙ ap (λ (m : Answer _). laid m words lent) e
