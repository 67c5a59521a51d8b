-- The sum of v and 2147483648 is a natural number k below 4294967296 with the same remainder.
use mathlib.Core.Path.{◌≡◌, ap, sym, ◌∙◌}
use native.Mathlib.Omega.{arith}
use lib.IntN.{ℤ, pos, ◌+ℤ◌}
use mir.Syntax.{w64}
use mir.Val.{SFits, to_z, of_z}
use mir.Facts.{to_z-of_z, to_z_pos, sfits_widen}
use Rattle.coordinates.proofs.Axis.{lifted-in, remainder-lifted}
use Rattle.coordinates.proofs.remainder_by.Goals as goal

pub returns : goal.returns
returns c =
    let k = lifted-in c.args.v c.ranges.v in
    let same : c.from.result ≡ c.args.v = c.from.ensures ∙ to_z-of_z c.ranges.v in
    let wide : SFits w64 c.args.v = sfits_widen tt c.ranges.v in
    let sum : to_z w64 (of_z w64 c.args.v) +ℤ pos 2147483648 ≡ pos k.0 = ap (λ (z : ℤ). z +ℤ pos 2147483648) (to_z-of_z wide) ∙ k.2 in
    rw (same, sum, to_z_pos w64 {n = k.0} (omega arith)) (sym (remainder-lifted c.args.v k.0 c.args.m c.requires.positive c.requires.whole k.2))
