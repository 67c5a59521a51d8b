-- The width is 2 where the entry says true, and 4 where it says false; where it says nothing the type's ending decides. Both are widths.
use mathlib.Core.Path.{◌≡◌, refl, ap, ◌∙◌}
use mathlib.Core.Bool.{Bool}
use Prim.Native.Nat.{ℕ}
use Rattle.std.proofs.Common.{Option, Some, inl, inr}
use Rattle.descriptor.specs.declared.TreeKind.{TreeKind}
use Rattle.half.specs.Inner.{IsWidth}
use Rattle.grid.specs.Grid.{width_of}
use Rattle.grid.proofs.Coverage.{width_is}
use Rattle.grid.proofs.width_of.Goals as goal

-- the width of an entry and a type of which it is known what they say
by_both : {e e' : Option Bool} {k k' : TreeKind} (n : ℕ) → e ≡ e' → k ≡ k' → n ≡ width_of e' k' → (n ≡ width_of e k) × IsWidth n
by_both {e} {e'} {k} n h j w = let v : n ≡ width_of e k = rw h (rw j w) in (v, rw v (width_is e k))

pub returns-in-Some-true : goal.returns-in-Some-true
unfolding width_of
returns-in-Some-true c = by_both 2 (c.in-Some-true.is ∙ ap Some c.in-Some-true.field-0-test) refl refl

pub returns-in-Some-false : goal.returns-in-Some-false
unfolding width_of
returns-in-Some-false c = by_both 4 (c.in-Some-false.is ∙ ap Some c.in-Some-false.field-0-test) refl refl

pub returns-in-HalfFloat : goal.returns-in-HalfFloat
unfolding width_of
returns-in-HalfFloat c = by_both 2 c.in-None.is c.in-HalfFloat.is refl

pub returns-in-Float : goal.returns-in-Float
unfolding width_of
returns-in-Float c = elim c.in-Float.is [ inl e ↦ by_both 4 c.in-None.is e refl | inr e ↦ by_both 4 c.in-None.is e refl ]
