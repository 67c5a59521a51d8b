-- The ones of the lowest z bits are the digits below z; at 64 nothing has to be cut off.
use mathlib.Core.Path.{◌≡◌, sym, ap, ◌∙◌}
use Prim.Native.Nat.{ℕ, ◌^◌, ◌<◌}
use native.Mathlib.Nat.{mod-eq_of_lt}
use lib.Count.{ones}
use Rattle.masks.specs.Masks.{digit, count_below}
use Rattle.masks.proofs.Laws.{count-le}
use Rattle.masks.proofs.Digits.{count-digits}
use Rattle.bits.proofs.count_low.Goals as goal

all-bits : (b : ℕ) → b < 2 ^ 64 → ones b ≡ count_below (digit b) 64
all-bits b h = ap ones (sym (mod-eq_of_lt h)) ∙ count-digits 64 b

pub returns-then-z-eq64 : goal.returns-then-z-eq64
returns-then-z-eq64 c = let e = all-bits c.args.b c.requires.1 in (rw c.if-z-eq64.true e, rw (c.if-z-eq64.true, e) (count-le _ 64))

pub returns : goal.returns
returns c = let e = ap ones c.low_bits.ensures ∙ count-digits _ _ in (e, rw e (count-le _ _))
