-- The bit of a place, by the definition.
use borrow.Author.Rules.{rules}
use Rattle.masks.specs.Masks.{digit, mask_bit}
use Rattle.masks.proofs.bit.Goals as goal

pub returns : goal.returns
unfolding digit mask_bit
returns c = search rules
