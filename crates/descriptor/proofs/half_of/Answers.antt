-- There is no entry, or the entry's value tells.
use mathlib.Core.Path.{◌≡◌, refl}
use mathlib.Core.Bool.{Bool}
use Rattle.std.proofs.Common.{None}
use Rattle.descriptor.specs.Descriptor.{half_by, half_entry}
use Rattle.metadata.specs.declared.MetadataValue.{MetadataValue}
use Rattle.metadata.specs.declared.MetadataValue.TheVariants as Value
use Rattle.descriptor.proofs.half_of.Goals as goal

no-bool : (v : MetadataValue) → ((b : Bool) → v ≡ Value.Bool b → ⊥) → None ≡ half_by v
unfolding half_by
no-bool (Value.String w) h = refl
no-bool (Value.Bool b) h = absurd (h b refl)
no-bool (Value.I32 v) h = refl
no-bool (Value.I64 v) h = refl
no-bool (Value.Float v) h = refl
no-bool (Value.Vec3i v) h = refl
no-bool (Value.Unknown k w) h = refl

pub returns-in_err-b : goal.returns-in_err-b
unfolding half_entry
returns-in_err-b c = rw c.in_err-b.was c.from_residual.ensures

pub returns-in-Bool : goal.returns-in-Bool
unfolding half_entry half_by
returns-in-Bool c = rw (c.in_ok-b.was, c.in-Bool.is) refl

pub returns-in-I32 : goal.returns-in-I32
unfolding half_entry half_by
returns-in-I32 c = rw (c.in_ok-b.was, c.in-I32.is) refl

pub returns-in_default : goal.returns-in_default
unfolding half_entry
returns-in_default c = rw c.in_ok-b.was (no-bool _ c.in_default.not-Bool)
