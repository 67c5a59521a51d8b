-- The bits of a word, each byte of the slice being below 256.
use Rattle.masks.proofs.Words.{is_word}
use Rattle.masks.proofs.word.Goals as goal

pub returns : goal.returns
returns c = rw c.u64_at.ensures (is_word _ (λ i. (c.type_inv.s i).fits) _ _)
