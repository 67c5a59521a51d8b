-- Before version 222 nothing is read; from 222 on the flags are read, and then comes check 7.
use native.Mathlib.Omega.{arith}
use mathlib.Core.Path.{◌≡◌, refl, ap, ◌∙◌}
use mathlib.Core.Bool.{Bool, true, false}
use mir.Val.{bool_byte}
use Rattle.fields.specs.Parse.{got, when}
use Rattle.fields.proofs.Steps.{steps, handed-on, when-lt}
use Rattle.descriptor.specs.Descriptor.{flags_field}
use Rattle.descriptor.proofs.read_flags.Goals as goal

as-flag : (b : Bool) → bool_byte b ≡ when b 1 0
unfolding when
as-flag true = refl
as-flag false = refl

pub returns-then-version-lt222 : goal.returns-then-version-lt222
unfolding flags_field
returns-then-version-lt222 c = when-lt _ _ _ c.if-version-lt222.true (ap (λ f. got f c.args.at) (c.from.ensures ∙ as-flag _))

pub returns-in_err-f : goal.returns-in_err-f
unfolding flags_field
returns-in_err-f c = handed-on _ _ c.from_residual.ensures.1 (search (steps, c.in_err-f.ensures))

pub returns-then-f-gt7 : goal.returns-then-f-gt7
unfolding flags_field
returns-then-f-gt7 c = search (steps, arith, c.in_ok-f.ensures)

pub returns : goal.returns
unfolding flags_field
returns c = search (steps, c.in_ok-f.ensures)
