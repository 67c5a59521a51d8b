-- The top bit is put in, or taken out.
use native.Mathlib.Omega.{arith}
use native.Mathlib.Decide.{dec_lt}
use mathlib.Core.Path.{◌≡◌, refl, ◌∙◌}
use Prim.Native.Nat.{ℕ, ◌+◌, ◌-◌, ◌*◌, ◌^◌, ◌<◌, ◌≤◌}
use lib.Bits.{bit_xor}
use Rattle.std.proofs.lemmas.Nat.{xor_block, pow_pos}
use Rattle.std.specs.Int.Bits.{xor_zero_r}
use Rattle.fields.proofs.Steps.{when-lt, when-ge}
use Rattle.forms.specs.Forms.{minus}
use Rattle.forms.proofs.minus.Goals as goal

put-in : (v : ℕ) → v < 2147483648 → bit_xor v 2147483648 ≡ v + 2147483648
put-in v h =
    let k : 0 * 2 ^ 31 + v ≡ v = omega arith in
    let e = rw (k, xor_zero_r v) at (xor_block 31 0 1 v 0 h (pow_pos 31)) in
    omega (arith, e)

taken-out : (v : ℕ) → 2147483648 ≤ v → v < 4294967296 → bit_xor v 2147483648 ≡ v - 2147483648
taken-out v l h =
    let r = v - 2147483648 in
    let k : 1 * 2 ^ 31 + r ≡ v = omega arith in
    let low : r < 2 ^ 31 = omega arith in
    let e = rw (k, xor_zero_r r) at (xor_block 31 1 1 r 0 low (pow_pos 31)) in
    omega (arith, e)

pub returns : goal.returns
unfolding minus
returns c = go (dec_lt c.args.v 2147483648)
  where
    go : Dec (c.args.v < 2147483648) → bit_xor c.args.v 2147483648 ≡ minus c.args.v
    go (yes l) = put-in c.args.v l ∙ when-lt _ _ _ l refl
    go (no l) = taken-out c.args.v (omega arith) (omega (arith, c.ranges.v.fits)) ∙ when-ge _ _ _ (omega arith) refl
