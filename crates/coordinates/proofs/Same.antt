-- Two coordinates that are compared: by their bits in the code, and what follows where they are the same.
use mathlib.Core.Path.{◌≡◌, refl, sym, ap, ◌∙◌}
use mathlib.Core.Bool.{Bool, true, false, false≢true}
use Prim.Native.Nat.{◌^◌, ◌<◌}
use lib.Dec.{eqb}
use lib.IntN.{ℤ, pos, negsuc}
use lib.Signed.{mag}
use mir.Syntax.{Width}
use mir.Val.{to_z, of_z, hbits}
use borrow.Author.Tests.{eq-eqb, ne_eqb, eqb-true}
use Rattle.std.specs.Ordering.{int_eq}
use Rattle.std.proofs.lemmas.Bool.Decides.{Decides-int_eq, same_from_decides}
use Rattle.fields.proofs.Laws.{kept}
use Rattle.coordinates.specs.Coordinates.{same_int, same_coord}
use Rattle.coordinates.specs.declared.GlobalCoord.{GlobalCoord}
use Rattle.coordinates.proofs.Axis.{and_both}

same_int_lem : (a b : ℤ) → same_int a b ≡ true → a ≡ b
unfolding same_int
same_int_lem (pos a) (pos b) e = ap pos (eqb-true a b e)
same_int_lem (pos a) (negsuc b) e = absurd (false≢true e)
same_int_lem (negsuc a) (pos b) e = absurd (false≢true e)
same_int_lem (negsuc a) (negsuc b) e = ap negsuc (eqb-true a b e)

int_same : (a : ℤ) → same_int a a ≡ true
unfolding same_int
int_same (pos a) = eq-eqb a a refl
int_same (negsuc a) = eq-eqb a a refl

-- the code's `==` of two numbers
pub int_eq-same : (a b : ℤ) → int_eq a b ≡ same_int a b
int_eq-same a b = same_from_decides _ _ (Decides-int_eq a b) (same_int_lem a b, λ e. rw e (int_same b))

-- two numbers of one signed type are the same when their bits are, from which each comes back
pub same_bits : (w : Width) (a b : ℤ) → mag a < 2 ^ hbits w → mag b < 2 ^ hbits w → eqb (of_z w a) (of_z w b) ≡ same_int a b
same_bits w a b h k = go (same_int a b) refl
  where
    go : (t : Bool) → same_int a b ≡ t → eqb (of_z w a) (of_z w b) ≡ t
    go true e = eq-eqb _ _ (ap (of_z w) (same_int_lem a b e))
    go false e = ne_eqb _ _ λ f.
        let c : a ≡ b = sym (kept w a h) ∙ ap (to_z w) f ∙ kept w b k in
        false≢true (sym e ∙ rw c (int_same b))

pub same-coord : (a b : GlobalCoord) → same_coord a b ≡ true → a ≡ b
unfolding same_coord
same-coord a b e =
    let f = and_both _ _ e in
    let g = and_both _ _ f.1 in
    let x = same_int_lem a.0 b.0 f.0 in
    let y = same_int_lem a.1 b.1 g.0 in
    let z = same_int_lem a.2 b.2 g.1 in
    λ i. (x i, y i, z i)

pub coord-same : (a : GlobalCoord) → same_coord a a ≡ true
unfolding same_coord
coord-same a = rw (int_same a.0, int_same a.1, int_same a.2)
