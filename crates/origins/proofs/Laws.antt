-- Laws of origins that are being laid into three slices, by which the functions' proofs go.
use mathlib.Core.Path.{◌≡◌, refl, sym, ap, ◌∙◌}
use mathlib.Core.List.{List, [], ◌∷◌, ◌++◌, map, map-append, flat_map}
use Prim.Native.Nat.{ℕ, ◌+◌, ◌-◌, ◌≤◌, ◌<◌}
use native.Mathlib.Numerals.{add-one}
use native.Mathlib.Omega.{arith}
use mathlib.Core.Bool.{true, ◌&&◌}
use lib.Dec.{leb}
use lib.IntN.{ℤ}
use lib.ListN.{length, take, drop, set, length-set}
use lib.Seq.{take_all, take-suc-set}
use borrow.Author.Tests.{eqb-true}
use Rattle.fields.specs.Parse.{when}
use Rattle.fields.specs.Answer.{gives, refuses, with}
use Rattle.archive.specs.declared.Asked.{Asked}
use Rattle.coordinates.proofs.Axis.{and_both}
use Rattle.coordinates.specs.declared.GlobalCoord.{GlobalCoord}
use Rattle.tree.specs.Active.{Piece, all_blocks}
use Rattle.grid.specs.Grid.{grid}
use Rattle.leaves.specs.Inner.{from_leaves}
use Rattle.leaves.proofs.Laws as L
use Rattle.leaves.proofs.Laws.{Filling}
use Rattle.leaves.proofs.Tree.{Runs}
use Rattle.origins.specs.Origins.{Axes, axes, axes_of, same_lengths, leaf_origins}
use Rattle.origins.specs.Inner.{origin_in}

-- Slices of one length that are being filled: the slots before `at` hold the origins that are done, and with those of the leaves l to come, but for the
-- first ones, these are all.
pub record Laying (l : List Piece) (first at : ℕ) (a : Axes) (all : List GlobalCoord) : Type 0 where
  pub as-y : length a.x ≡ length a.y
  pub as-z : length a.x ≡ length a.z
  pub inside : at ≤ length a.x
  pub done : List GlobalCoord
  pub laid : axes (take at a.x) (take at a.y) (take at a.z) ≡ axes_of done
  pub filling : Filling origin_in l first (length a.x - at) done all

module _ {l : List Piece} {first : ℕ} {a : Axes} where
  pub starts : length a.x ≡ length a.y → length a.x ≡ length a.z → length a.x ≤ length l - first → Laying l first 0 a (from_leaves origin_in l first (length a.x))
  starts y z h =
      let e : length a.x - 0 ≡ length a.x = omega arith in
      record { as-y = y; as-z = z; inside = omega arith; done = []; laid = refl; filling = rw e (L.starts h) }

  module _ {at : ℕ} {all : List GlobalCoord} (f : Laying l first at a all) where
    pub full : length a.x ≤ at → a ≡ axes_of all
    full h =
        let e = L.full f.filling (omega arith) in
        let x = take_all at a.x h in
        let y = take_all at a.y (omega (arith, f.as-y)) in
        let z = take_all at a.z (omega (arith, f.as-z)) in
        sym (λ i. axes (x i) (y i) (z i)) ∙ f.laid ∙ ap axes_of e

    -- a leaf is left as long as a slot is
    pub one_more : at < length a.x → first < length l
    one_more h = L.one_more f.filling (omega arith)

    -- the first ones are passed, and the origin of a leaf is laid down
    pub filled :
        (front : List Piece) (q : Piece) (m : List Piece) → l ≡ front ++ (q ∷ m) → length front ≡ first → at < length a.x → {next : Axes} →
        next ≡ axes (set a.x at q.origin.0) (set a.y at q.origin.1) (set a.z at q.origin.2) → Laying m 0 (at + 1) next all
    filled front q m e p h {next} n =
        let x = put a.x q.origin.0 h in
        let y = put a.y q.origin.1 (omega (arith, f.as-y)) in
        let z = put a.z q.origin.2 (omega (arith, f.as-z)) in
        rw n (record {
          as-y = simp length-set f.as-y;
          as-z = simp length-set f.as-z;
          inside = simp length-set (omega arith);
          done = f.done ++ q.origin ∷ [];
          laid = (λ i. axes (x i) (y i) (z i)) ∙ ap (λ (a : Axes). axes (a.x ++ q.origin.0 ∷ []) (a.y ++ q.origin.1 ∷ []) (a.z ++ q.origin.2 ∷ [])) f.laid ∙ simp map-append;
          filling = L.filled f.filling front q m e p _ (simp length-set (omega arith)) refl;
        })
      where
        put : (l : List ℤ) (v : ℤ) → at < length l → take (at + 1) (set l at v) ≡ take at l ++ v ∷ []
        put l v h = rw add-one (take-suc-set l at v h)

-- ---- The call is a run of leaves.
as-map : {A B : Type 0} (f : A → B) (l : List A) → map f l ≡ flat_map (λ a. f a ∷ []) l
unfolding flat_map
as-map f [] = refl
as-map f (a ∷ l) = ap (λ (x : List _). f a ∷ x) (as-map f l)

pub origins-run :
    (s : List ℕ) (asked : Asked) (name : List ℕ) (first nx ny nz : ℕ) →
    Runs s asked name (same_lengths nx ny nz) first nx (λ c. origin_in) axes_of (leaf_origins s asked name first nx ny nz)
unfolding leaf_origins
origins-run s asked name first nx ny nz = record {
  is = ap (with (grid s asked name)) (λ i g.
      when (same_lengths nx ny nz && leb nx (length (all_blocks g.filled) - first))
      (gives (axes_of (as-map (λ b. b.origin) (take nx (drop first (all_blocks g.filled))) i))) (refuses 21));
}

pub one-length : (nx ny nz : ℕ) → same_lengths nx ny nz ≡ true → (nx ≡ ny) × (nx ≡ nz)
one-length nx ny nz h = let b = and_both _ _ h in (eqb-true nx ny b.0, eqb-true nx nz b.1)
