-- A word and the number one below it have in common the word's ones above its lowest.
use Prim.Native.Nat.{◌-◌}
use native.Mathlib.Numerals.{add-one}
use native.Mathlib.Omega.{arith}
use lib.Bits.{and_le_r}
use Rattle.masks.proofs.Ones.{lowest-off}
use Rattle.masks.proofs.past_lowest.Goals as goal

pub returns : goal.returns
returns c = let w = c.args.w in (rw add-one (lowest-off 64 w c.requires.1 c.requires.0), omega (arith, and_le_r w (w - 1), c.requires.1))
