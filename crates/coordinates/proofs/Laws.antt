-- Laws of places and cubes, over any side d and step s: a node's places part its cube, and the way back finds the place.
-- Each goes axis by axis (`Axis`).
use mathlib.Core.Path.{◌≡◌, sym, ap, ◌∙◌}
use mathlib.Core.Logic.{◌↔◌}
use mathlib.Core.Bool.{Bool, true, ◌&&◌}
use Prim.Native.Nat.{ℕ, zero, suc, ◌+◌, ◌*◌, ◌/◌, ◌%◌, ◌<◌}
use native.Mathlib.Nat.{mod-lt, mul-pos, mul_assoc, add-mul, div-add-mod', div-div-eq-div-mul, div-lt_iff_lt-mul, not-suc-le-zero}
use native.Mathlib.Omega.{arith}
use lib.Arith.{digits_lt, digits_div, digits_mod}
use lib.Dec.{lit<}
use lib.IntN.{ℤ}
use borrow.Author.Tests.{eqb-true, eq-eqb}
use Rattle.coordinates.specs.Inner.{InRange}
use Rattle.coordinates.specs.Coordinates.{aligned, coord_of, covers, global_of, index, local_of, place_along, place_of, places, remainder, root_origin, within}
use Rattle.coordinates.specs.declared.Index.{Index}
use Rattle.coordinates.specs.declared.GlobalCoord.{GlobalCoord}
use Rattle.coordinates.proofs.Axis as axis
use Rattle.coordinates.proofs.Remainder.{remainder-lt, taken-off}

-- ---- three tests at once

and-three : {a b c : Bool} → (a && b && c) ≡ true → (a ≡ true) × (b ≡ true) × (c ≡ true)
and-three {a} {b} {c} h =
    let x = axis.and_both (a && b) c h in
    let y = axis.and_both a b x.0 in
    (y.0, y.1, x.1)

three : {a b c : Bool} → a ≡ true → b ≡ true → c ≡ true → (a && b && c) ≡ true
three h i j = axis.and-join (axis.and-join h i) j

pub covers-axes : (c : GlobalCoord) (s : ℕ) (v : GlobalCoord) → covers c s v ≡ true → (within c.0 s v.0 ≡ true) × (within c.1 s v.1 ≡ true) × (within c.2 s v.2 ≡ true)
unfolding covers
covers-axes c s v h = and-three h

pub axes-cover : (c : GlobalCoord) (s : ℕ) (v : GlobalCoord) → within c.0 s v.0 ≡ true → within c.1 s v.1 ≡ true → within c.2 s v.2 ≡ true → covers c s v ≡ true
unfolding covers
axes-cover c s v x y z = three x y z

pub aligned-axes : (m : ℕ) (o : GlobalCoord) → aligned m o ≡ true → (remainder o.0 m ≡ 0) × (remainder o.1 m ≡ 0) × (remainder o.2 m ≡ 0)
unfolding aligned
aligned-axes m o h = let t = and-three h in (eqb-true _ _ t.0, eqb-true _ _ t.1, eqb-true _ _ t.2)

pub axes-aligned : (m : ℕ) (o : GlobalCoord) → remainder o.0 m ≡ 0 → remainder o.1 m ≡ 0 → remainder o.2 m ≡ 0 → aligned m o ≡ true
unfolding aligned
axes-aligned m o x y z = three (eq-eqb _ _ x) (eq-eqb _ _ y) (eq-eqb _ _ z)

-- ---- a place number by its digits

pub nested : (d x y z : ℕ) → x * (d * d) + y * d + z ≡ (x * d + y) * d + z
nested d x y z = omega (arith, add-mul (x * d) y d, mul_assoc x d d)

-- p is x * d² + y * d + z
pub by_digits : (d : ℕ) (p : Index) → (local_of d p).0 * (d * d) + (local_of d p).1 * d + (local_of d p).2 ≡ p.0
unfolding local_of
by_digits d p =
    nested d (p.0 / (d * d)) (p.0 / d % d) (p.0 % d)
    ∙ ap (λ (n : ℕ). (n * d + p.0 / d % d) * d + p.0 % d) (sym (div-div-eq-div-mul p.0 d d))
    ∙ ap (λ (n : ℕ). n * d + p.0 % d) (div-add-mod' (p.0 / d) d) ∙ div-add-mod' p.0 d

pub digits-below : (d : ℕ) (p : Index) → p.0 < places d → ((local_of d p).0 < d) × ((local_of d p).1 < d) × ((local_of d p).2 < d)
unfolding local_of
digits-below zero p h = absurd (not-suc-le-zero h)
digits-below (suc k) p h =
    let d = suc k in
    let q : 0 < d = omega arith in
    ((div-lt_iff_lt-mul {k = d * d} (mul-pos q q)).1 (rw (sym (mul_assoc d d d)) h), mod-lt (p.0 / d) q, mod-lt p.0 q)

-- the digits of x * d² + y * d + z are x, y and z
module _ (d x y z : ℕ) (hx : x < d) (hy : y < d) (hz : z < d) where
  pub digits_of : local_of d (index (x * (d * d) + y * d + z)) ≡ (x, y, z)
  unfolding local_of
  digits_of =
      let n = nested d x y z in
      let q : (x * (d * d) + y * d + z) / d ≡ x * d + y = ap (λ (k : ℕ). k / d) n ∙ digits_div (x * d + y) hz in
      let e = sym (div-div-eq-div-mul (x * (d * d) + y * d + z) d d) ∙ ap (λ (k : ℕ). k / d) q ∙ digits_div x hy in
      let f = ap (λ (k : ℕ). k % d) q ∙ digits_mod x hy in
      let g = ap (λ (k : ℕ). k % d) n ∙ digits_mod (x * d + y) hz in
      λ i. (e i, f i, g i)

  pub digits-place : x * (d * d) + y * d + z < places d
  digits-place = rw (nested d x y z) (digits_lt (digits_lt hx hy) hz)

-- ---- a node's places and its cube

module _ (d s : ℕ) (o v : GlobalCoord) where
  -- a place's cube lies inside its node's cube
  pub inside-parent : (p : Index) → p.0 < places d → covers (global_of d s o p) s v ≡ true → covers o (d * s) v ≡ true
  unfolding global_of
  inside-parent p h c =
      let x = local_of d p in
      let b = digits-below d p h in
      let w = covers-axes (global_of d s o p) s v c in
      axes-cover o (d * s) v
      (axis.inside d s x.0 o.0 v.0 b.0 w.0)
      (axis.inside d s x.1 o.1 v.1 b.1 w.1)
      (axis.inside d s x.2 o.2 v.2 b.2 w.2)

  -- the cubes of two places of one node have no voxel in common
  pub one_place : (p q : Index) → covers (global_of d s o p) s v ≡ true → covers (global_of d s o q) s v ≡ true → p ≡ q
  unfolding global_of
  one_place p q c e =
      let w = covers-axes (global_of d s o p) s v c in
      let u = covers-axes (global_of d s o q) s v e in
      let x = axis.one s (local_of d p).0 (local_of d q).0 o.0 v.0 w.0 u.0 in
      let y = axis.one s (local_of d p).1 (local_of d q).1 o.1 v.1 w.1 u.1 in
      let z = axis.one s (local_of d p).2 (local_of d q).2 o.2 v.2 w.2 u.2 in
      ap index (sym (by_digits d p) ∙ (λ i. x i * (d * d) + y i * d + z i) ∙ by_digits d q)

  at-digits :
      (x y z : ℕ) → x < d → y < d → z < d → within (coord_of s o.0 x) s v.0 ≡ true → within (coord_of s o.1 y) s v.1 ≡ true →
      within (coord_of s o.2 z) s v.2 ≡ true → covers (global_of d s o (index (x * (d * d) + y * d + z))) s v ≡ true
  unfolding global_of
  at-digits x y z hx hy hz a b c =
      let e = digits_of d x y z hx hy hz in
      axes-cover (global_of d s o (index (x * (d * d) + y * d + z))) s v (rw e a) (rw e b) (rw e c)

  -- each voxel of a node's cube lies in the cube of one of its places
  pub some-place : 0 < s → covers o (d * s) v ≡ true → (p : Index) × (p.0 < places d) × (covers (global_of d s o p) s v ≡ true)
  some-place h c =
      let w = covers-axes o (d * s) v c in
      let x = axis.some d s o.0 v.0 h w.0 in
      let y = axis.some d s o.1 v.1 h w.1 in
      let z = axis.some d s o.2 v.2 h w.2 in (
        index (x.0 * (d * d) + y.0 * d + z.0),
        digits-place d x.0 y.0 z.0 x.1 y.1 z.1,
        at-digits x.0 y.0 z.0 x.1 y.1 z.1 x.2 y.2 z.2,
      )

  place-digit : 0 < d → 0 < s → (c : ℤ) → place_along d s c < d
  place-digit h k c = (div-lt_iff_lt-mul k).1 (remainder-lt c (d * s) (mul-pos h k))

  -- the way back gives a place of the node
  pub place-below : 0 < d → 0 < s → (place_of d s v).0 < places d
  unfolding place_of
  place-below h k = digits-place d _ _ _ (place-digit h k v.0) (place-digit h k v.1) (place-digit h k v.2)

  -- the way back finds that place, from a node whose origin is a multiple of its span
  pub way_back : 0 < s → aligned (d * s) o ≡ true → covers o (d * s) v ≡ true → ((place_of d s v).0 < places d) × (covers (global_of d s o (place_of d s v)) s v ≡ true)
  unfolding place_of
  way_back h a c =
      let m = aligned-axes (d * s) o a in
      let w = covers-axes o (d * s) v c in
      let x = axis.way_back d s o.0 v.0 h m.0 w.0 in
      let y = axis.way_back d s o.1 v.1 h m.1 w.1 in
      let z = axis.way_back d s o.2 v.2 h m.2 w.2 in
      (digits-place d _ _ _ x.0 y.0 z.0, at-digits _ _ _ x.0 y.0 z.0 x.1 y.1 z.1)

  -- and it is the only one
  pub way-back-only : (p : Index) → p.0 < places d → 0 < s → aligned (d * s) o ≡ true → covers (global_of d s o p) s v ≡ true → p ≡ place_of d s v
  way-back-only p h k a c = one_place p (place_of d s v) c (way_back k a (inside-parent p h c)).1

-- a place's corner is a multiple of the step: a 4-node's origin of 128, a leaf's of 8
pub child-aligned : (d s : ℕ) (o : GlobalCoord) (p : Index) → 0 < d → 0 < s → aligned (d * s) o ≡ true → aligned s (global_of d s o p) ≡ true
unfolding global_of
child-aligned d s o p h k a =
    let m = aligned-axes (d * s) o a in
    let x = local_of d p in
    axes-aligned s (global_of d s o p)
    (axis.multiple d s x.0 o.0 (mul-pos h k) k m.0)
    (axis.multiple d s x.1 o.1 (mul-pos h k) k m.1)
    (axis.multiple d s x.2 o.2 (mul-pos h k) k m.2)

-- ---- roots

pub root-aligned : (v : GlobalCoord) → aligned 4096 (root_origin v) ≡ true
unfolding root_origin
root-aligned v = axes-aligned 4096 (root_origin v) (taken-off v.0 4096 (lit< tt)) (taken-off v.1 4096 (lit< tt)) (taken-off v.2 4096 (lit< tt))

pub root-covers : (v : GlobalCoord) → covers (root_origin v) 4096 v ≡ true
unfolding root_origin
root-covers v =
    axes-cover (root_origin v) 4096 v (axis.taken-within v.0 4096 (lit< tt)) (axis.taken-within v.1 4096 (lit< tt)) (axis.taken-within v.2 4096 (lit< tt))

-- the only root that can have the voxel
pub root-only : (o v : GlobalCoord) → aligned 4096 o ≡ true → covers o 4096 v ≡ true → o ≡ root_origin v
unfolding root_origin
root-only o v a c =
    let m = aligned-axes 4096 o a in
    let w = covers-axes o 4096 v c in
    let x = axis.taken-only o.0 v.0 4096 m.0 w.0 in
    let y = axis.taken-only o.1 v.1 4096 m.1 w.1 in
    let z = axis.taken-only o.2 v.2 4096 m.2 w.2 in
    λ i. (x i, y i, z i)

-- two roots with different origins have no voxel in common
pub one-root : (o q v : GlobalCoord) → aligned 4096 o ≡ true → aligned 4096 q ≡ true → covers o 4096 v ≡ true → covers q 4096 v ≡ true → o ≡ q
one-root o q v a b c e = root-only o v a c ∙ sym (root-only q v b e)

-- ---- single voxels

pub corner-covered : (c : GlobalCoord) (s : ℕ) → 0 < s → covers c s c ≡ true
corner-covered c s h = axes-cover c s c (axis.corner c.0 s h) (axis.corner c.1 s h) (axis.corner c.2 s h)

-- a cube of side 1 is its corner
pub voxel-covers : (c v : GlobalCoord) → (covers c 1 v ≡ true) ↔ (v ≡ c)
voxel-covers c v = (
  (λ h.
      let w = covers-axes c 1 v h in
      let x = axis.side-one c.0 v.0 w.0 in
      let y = axis.side-one c.1 v.1 w.1 in
      let z = axis.side-one c.2 v.2 w.2 in
      λ i. (x i, y i, z i)),
  (λ e. ap (λ (u : GlobalCoord). covers c 1 u) e ∙ corner-covered c 1 (lit< tt)),
)

-- a leaf's place covers one voxel
pub leaf-voxel : (o v : GlobalCoord) (p : Index) → (covers (global_of 8 1 o p) 1 v ≡ true) ↔ (v ≡ global_of 8 1 o p)
leaf-voxel o v p = voxel-covers (global_of 8 1 o p) v

-- ---- the range of an i32

-- from an origin that is a multiple of m, in range, every voxel of the cube of side m is in range: also at 2147479552 and
-- at -2147483648 for m = 4096
pub cube-in-range : (m : ℕ) (o v : GlobalCoord) → 2147483648 % m ≡ 0 → InRange o → aligned m o ≡ true → covers o m v ≡ true → InRange v
cube-in-range m o v h f a c =
    let r = aligned-axes m o a in
    let w = covers-axes o m v c in (
      axis.within-in-range o.0 v.0 m h f.0 r.0 w.0,
      axis.within-in-range o.1 v.1 m h f.1 r.1 w.1,
      axis.within-in-range o.2 v.2 m h f.2 r.2 w.2,
    )

-- so every place's corner is in range
pub place-in-range : (d s : ℕ) (o : GlobalCoord) (p : Index) → p.0 < places d → 0 < s → 2147483648 % (d * s) ≡ 0 → InRange o → aligned (d * s) o ≡ true → InRange (global_of d s o p)
place-in-range d s o p h k w f a =
    let q = global_of d s o p in
    cube-in-range (d * s) o q w f a (inside-parent d s o q p h (corner-covered q s k))
