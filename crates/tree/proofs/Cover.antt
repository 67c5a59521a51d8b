-- The active list against the descent: the records that cover a voxel are the one that the descent names, or none.
use mathlib.Core.Path.{◌≡◌, refl, sym, ap, ◌∙◌}
use mathlib.Core.List.{List, [], ◌∷◌, ◌++◌, map, append-nil, Memᴰ, flat_map}
use mathlib.Core.Bool.{Bool, true, false, ◌||◌, true≢false}
use Prim.Native.Nat.{ℕ, zero, suc, ◌+◌, ◌-◌, ◌*◌, ◌<◌, ◌≤◌}
use native.Mathlib.Nat.{sub-zero}
use native.Mathlib.Omega.{arith}
use lib.Dec.{lit<, lit≤}
use lib.ListN.{length, get_or, get_or-map}
use Rattle.fields.specs.Parse.{when}
use Rattle.coordinates.specs.Coordinates.{index, places, global_of, root_origin, covers, aligned, same_coord}
use Rattle.coordinates.specs.declared.Index.{Index}
use Rattle.coordinates.specs.declared.GlobalCoord.{GlobalCoord}
use Rattle.coordinates.proofs.Laws.{inside-parent, place-below, way_back, way-back-only, child-aligned, root-covers, root-only}
use Rattle.masks.specs.Masks.{mask_bit, ones, count_below, overlap}
use Rattle.masks.proofs.Laws.{ones-mem, ones_split, one-nth, overlap-apart}
use Rattle.forms.specs.declared.Coding.{Coding}
use Rattle.coordinates.proofs.Same.{same-coord, coord-same}
use Rattle.nodes.specs.declared.Block.{Block}
use Rattle.roots.specs.Roots.{is_among}
use Rattle.roots.proofs.Laws.{among-more}
use Rattle.tree.specs.Topology.{Node5}
use Rattle.tree.specs.Blocks.{Filled4, Filled5}
use Rattle.tree.specs.Active.{Record, place_in, Piece, Spot, side_of, edge_of, covered_by, inactive, leaf_piece, piece4}
use Rattle.tree.specs.Active.{piece5, pieces4, pieces5, record_at, records_of, spot_at, below, spot3, spot4, spot5, spot}
use Rattle.tree.specs.Inner.{record_named, kept, covering}
use Rattle.tree.proofs.Read.{Read4, Read5, Roots, FillsLeaf, Fills4, Fills5}
use Rattle.tree.proofs.Lists.{Paired, paired-self, paired-through, flat_map-append, flat_map-map, flat_map-flat_map, kept-flat_map}

-- 1. Of lists that are paired with a mask's ones, at most one gives something: that of the only place that is hit.
module _ {A : Type 0} (hit : ℕ → Bool) (gives : A → List Record) (says : A → Spot) where
  abbrev Given : ℕ → A → Type 0
  Given p a = gives a ≡ when (hit p) (record_named (says a)) []

  none-hit : (l : List ℕ) (ys : List A) → Paired Given l ys → ((p : ℕ) → Memᴰ p l → hit p ≡ false) → flat_map gives ys ≡ []
  unfolding flat_map when
  none-hit [] [] r f = refl
  none-hit [] (y ∷ ys) r f = absurd r
  none-hit (p ∷ l) [] r f = absurd r
  none-hit (p ∷ l) (y ∷ ys) r f = rw (r.0, f p (Memᴰ.head refl)) (none-hit l ys r.1 (λ q m. f q (Memᴰ.tail m)))

  one_hit : (l m : List ℕ) (p : ℕ) (ys : List A) (x : Spot) → Paired Given (l ++ p ∷ m) ys → ((q : ℕ) → Memᴰ q l → hit q ≡ false) → ((q : ℕ) → Memᴰ q m → hit q ≡ false) → hit p ≡ true →
      flat_map gives ys ≡ record_named (get_or (map says ys) (length l) x)
  unfolding flat_map when
  one_hit [] m p [] x r f g e = absurd r
  one_hit [] m p (y ∷ ys) x r f g e = rw (r.0, e, none-hit m ys r.1 g) (append-nil (record_named (says y)))
  one_hit (q ∷ l) m p [] x r f g e = absurd r
  one_hit (q ∷ l) m p (y ∷ ys) x r f g e = rw (r.0, f q (Memᴰ.head refl)) (one_hit l m p ys x r.1 (λ q m. f q (Memᴰ.tail m)) g e)

-- 2. The places of a node.
pub side-positive : (level : ℕ) → level ≤ 2 → 0 < side_of level
side-positive zero h = lit< tt
side-positive (suc zero) h = lit< tt
side-positive (suc (suc zero)) h = lit< tt
side-positive (suc (suc (suc n))) h = absurd (omega arith)

pub edge-positive : (level : ℕ) → level ≤ 2 → 0 < edge_of level
edge-positive zero h = lit< tt
edge-positive (suc zero) h = lit< tt
edge-positive (suc (suc zero)) h = lit< tt
edge-positive (suc (suc (suc n))) h = absurd (omega arith)

refute : (b : Bool) → (b ≡ true → ⊥) → b ≡ false
refute true n = absurd (n refl)
refute false n = refl

-- a child's part and the node's own, of which at most one gives something
parts : (b t : Bool) (child own : Spot) → (t ≡ true → own.active ≡ false) → when b (when t (record_named child) []) [] ++ when b (record_named own) [] ≡ when b (record_named (when t child own)) []
unfolding when
parts true true child own h = rw (h refl) (append-nil (record_named child))
parts true false child own h = refl
parts false t child own h = refl

-- a piece's records that cover the voxel
abbrev pub records : List ℕ → Coding → GlobalCoord → Piece → List Record
records s c v q = covering v (records_of s c q)

module _ (s : List ℕ) (c : Coding) (v : GlobalCoord) where
  -- whether the node's cube has the voxel, and whether the cube of place p has it
  abbrev holds : Piece → Bool
  holds q = covers q.origin (edge_of q.level * side_of q.level) v

  abbrev hits : Piece → ℕ → Bool
  hits q p = covers (global_of (edge_of q.level) (side_of q.level) q.origin (index p)) (side_of q.level) v

  abbrev size : Piece → ℕ
  size q = places (edge_of q.level)

  abbrev Aligned : Piece → Type 0
  Aligned q = (q.level ≤ 2) × (aligned (edge_of q.level * side_of q.level) q.origin ≡ true)

  module _ (q : Piece) (a : Aligned q) where
    in_size : place_in q v < size q
    in_size = place-below (edge_of q.level) (side_of q.level) q.origin v (edge-positive q.level a.0) (side-positive q.level a.0)

    elsewhere : (p : ℕ) → p < size q → (p ≡ place_in q v → ⊥) → hits q p ≡ false
    elsewhere p h n = refute _ λ e. n (ap (λ (i : Index). i.0) (way-back-only (edge_of q.level) (side_of q.level) q.origin v (index p) h (side-positive q.level a.0) a.1 e))

    outside : holds q ≡ false → (p : ℕ) → p < size q → hits q p ≡ false
    outside n p h = refute _ λ e. true≢false (sym (inside-parent (edge_of q.level) (side_of q.level) q.origin v (index p) h e) ∙ n)

    -- of what is paired with the ones of a mask, the voxel meets what stands at its place
    at-place :
        {A : Type 0} (gives : A → List Record) (says : A → Spot) (f : ℕ → Bool) (ys : List A) (x : Spot) → Paired (Given (hits q) gives says) (ones f (size q)) ys →
        flat_map gives ys ≡ when (holds q) (when (f (place_in q v)) (record_named (get_or (map says ys) (count_below f (place_in q v)) x)) []) []
    unfolding when
    at-place gives says f ys x r = go (holds q) refl (f (place_in q v)) refl
      where
        one : (p : ℕ) → Memᴰ p (ones f (size q)) → (p < size q) × (f p ≡ true)
        one p m = let o = (ones-mem f 0 (size q) p).0 m in (omega arith, o.2)

        go : (b : Bool) → holds q ≡ b → (t : Bool) → f (place_in q v) ≡ t → flat_map gives ys ≡ when b (when t (record_named (get_or (map says ys) (count_below f (place_in q v)) x)) []) []
        go true e true h =
            let w = way_back (edge_of q.level) (side_of q.level) q.origin v (side-positive q.level a.0) a.1 e in
            let split = rw sub-zero at (ones_split f 0 (size q) (place_in q v) (omega arith, omega (arith, w.0), h)) in
            one_hit (hits q) gives says (ones f (place_in q v)) _ (place_in q v) ys x (rw split at r)
            (λ p m. let o = (ones-mem f 0 (place_in q v) p).0 m in elsewhere p (omega arith) (λ e. omega arith))
            (λ p m. let o = (ones-mem f (suc (place_in q v)) (0 + size q - suc (place_in q v)) p).0 m in elsewhere p (omega arith) (λ e. omega arith))
            w.1
        go true e false h = none-hit (hits q) gives says _ ys r (λ p m. elsewhere p (one p m).0 (λ i. true≢false (sym (one p m).1 ∙ ap f i ∙ h)))
        go false e t h = none-hit (hits q) gives says _ ys r (λ p m. outside e p (one p m).0)

    -- the records of the piece's own places
    piece-cover : covering v (records_of s c q) ≡ when (holds q) (record_named (spot_at s c q v)) []
    unfolding records_of spot_at record_at kept when
    piece-cover =
        ap (covering v) (sym (flat_map-map (record_at s c q) (ones f (size q))))
        ∙ kept-flat_map (λ r. covered_by r v) (λ p. record_at s c q p ∷ []) (ones f (size q))
        ∙ at-place gives says f (ones f (size q)) (says 0) (paired-self _ _ λ p m. given p ((ones-mem f 0 (size q) p).0 m).2)
        ∙ ap (λ (l : List Record). when (holds q) l []) (own (f (place_in q v)) refl)
      where
        f : ℕ → Bool
        f p = mask_bit s q.value p

        gives : ℕ → List Record
        gives p = covering v (record_at s c q p ∷ [])

        says : ℕ → Spot
        says p = record { active = f p; place = record_at s c q p }

        given : (p : ℕ) → f p ≡ true → gives p ≡ when (hits q p) (record_named (says p)) []
        given p e = rw e

        own : (t : Bool) → f (place_in q v) ≡ t → when t (record_named (get_or (map says (ones f (size q))) (count_below f (place_in q v)) (says 0))) [] ≡ record_named (says (place_in q v))
        own true e = ap record_named (get_or-map says (ones f (size q)) (count_below f (place_in q v)) 0 ∙ ap says (one-nth f (size q) (place_in q v) 0 e in_size))
        own false e = rw e

    -- a node with its children: those of `ys` are paired with its child bits, each with the pieces `of` it and what it says of the voxel
    node-cover :
        {A : Type 0} (of : A → List Piece) (says : A → Spot) (ys : List A) → overlap (mask_bit s q.child) (mask_bit s q.value) (size q) ≡ false →
        Paired (Given (hits q) (λ y. flat_map (records s c v) (of y)) says) (ones (mask_bit s q.child) (size q)) ys →
        flat_map (records s c v) (flat_map of ys ++ q ∷ []) ≡ when (holds q) (record_named (below s c q v (map says ys))) []
    unfolding flat_map below spot_at when
    node-cover of says ys apart r =
        flat_map-append (records s c v) (flat_map of ys) (q ∷ [])
        ∙ rw (
          flat_map-flat_map (records s c v) of ys,
          at-place (λ y. flat_map (records s c v) (of y)) says (mask_bit s q.child) ys (inactive (record_at s c q (place_in q v))) r,
          append-nil (records s c v q),
          piece-cover,
        )
        (parts (holds q) (mask_bit s q.child (place_in q v)) _ (spot_at s c q v) λ e.
        overlap-apart (mask_bit s q.child) (mask_bit s q.value) (size q) (place_in q v) apart in_size e)

-- 3. The tree, node by node: of the pieces of a node with origin o and this span, the records that cover the voxel are what the descent names.
module _ (s : List ℕ) (c : Coding) (v : GlobalCoord) where
  abbrev Covered : ℕ → GlobalCoord → List Piece → Spot → Type 0
  Covered span o ps t = flat_map (records s c v) ps ≡ when (covers o span v) (record_named t) []

  block-cover : (b : Block) (o : GlobalCoord) → b.origin ≡ o → aligned 8 o ≡ true → Covered 8 o (leaf_piece b ∷ []) (spot3 s c v b)
  unfolding flat_map
  block-cover b o e a = append-nil (records s c v (leaf_piece b)) ∙ rw (← e) (piece-cover s c v (leaf_piece b) (lit≤ tt, rw e a))

  filled4-cover : (f : Filled4) (o : GlobalCoord) → Read4 s o f.node → Paired (FillsLeaf s) f.node.leaves f.blocks → aligned 128 o ≡ true → Covered 128 o (pieces4 f) (spot4 s c v f)
  unfolding pieces4 spot4
  filled4-cover f o r same a =
      let b : aligned 128 f.node.origin ≡ true = rw r.origin a in
      rw (← r.origin)
      (rw (flat_map-map leaf_piece f.blocks) at (node-cover s c v (piece4 f.node) (lit≤ tt, b) (λ y. leaf_piece y ∷ []) (spot3 s c v) f.blocks r.apart
      (paired-through _ _ _ (λ p l x e i. block-cover x _ (i.0 ∙ e) (child-aligned 16 8 f.node.origin (index p) (lit< tt) (lit< tt) b))
      (ones (mask_bit s f.node.header.child) 4096) f.node.leaves f.blocks r.children same)))

  filled5-cover : (f : Filled5) → Read5 s f.node.origin f.node → Paired (Fills4 s) f.node.nodes f.nodes → aligned 4096 f.node.origin ≡ true → Covered 4096
      f.node.origin (pieces5 f) (spot5 s c v f)
  unfolding pieces5 spot5
  filled5-cover f r same a =
      node-cover s c v (piece5 f.node) (lit≤ tt, a) pieces4 (spot4 s c v) f.nodes r.apart
      (paired-through _ _ _ (λ p m g e i. filled4-cover g _ (rw i.0 e) i.1 (child-aligned 32 128 f.node.origin (index p) (lit< tt) (lit< tt) a))
      (ones (mask_bit s f.node.header.child) 32768) f.node.nodes f.nodes r.children same)

-- 4. The roots.
module _ (s : List ℕ) (c : Coding) (v : GlobalCoord) where
  -- a root's cube has the voxel exactly when its origin is that of the voxel's root
  root-holds : (o : GlobalCoord) → aligned 4096 o ≡ true → covers o 4096 v ≡ same_coord o (root_origin v)
  root-holds o a = go (same_coord o (root_origin v)) refl (covers o 4096 v) refl
    where
      go : (t : Bool) → same_coord o (root_origin v) ≡ t → (b : Bool) → covers o 4096 v ≡ b → b ≡ t
      go true e b d = sym d ∙ ap (λ (o : GlobalCoord). covers o 4096 v) (same-coord _ _ e) ∙ root-covers v
      go false e true d = sym (coord-same (root_origin v)) ∙ ap (λ (o : GlobalCoord). same_coord o (root_origin v)) (sym (root-only o v a d)) ∙ e
      go false e false d = refl

  -- a root's part and that of the later ones: nothing where the voxel's root came earlier
  root-parts : (among same : Bool) (here later : Spot) → (same ≡ true → among ≡ false) →
      when same (record_named here) [] ++ when (among || same) [] (record_named later) ≡ when among [] (record_named (when same here later))
  unfolding when
  root-parts true true here later h = absurd (true≢false (h refl))
  root-parts true false here later h = refl
  root-parts false true here later h = append-nil (record_named here)
  root-parts false false here later h = refl

  pub roots-cover : (background : ℕ) (ns : List Node5) (fs : List Filled5) (earlier : List GlobalCoord) → Roots s ns earlier → Paired (Fills5 s) ns fs →
      flat_map (records s c v) (flat_map pieces5 fs) ≡ when (is_among (root_origin v) earlier) [] (record_named (spot s c background fs v))
  unfolding flat_map spot when
  roots-cover background [] [] earlier r same = go (is_among (root_origin v) earlier)
    where
      go : (b : Bool) → [] ≡ when {A = List Record} b [] []
      go true = refl
      go false = refl
  roots-cover background [] (f ∷ fs) earlier r same = absurd same
  roots-cover background (n ∷ ns) [] earlier r same = absurd same
  roots-cover background (n ∷ ns) (f ∷ fs) earlier r same =
      let e : f.node ≡ n = same.0.0 in
      let a : aligned 4096 f.node.origin ≡ true = rw e r.0 in
      let new : is_among f.node.origin earlier ≡ false = rw e r.1 in
      let read : Read5 s f.node.origin f.node = rw e r.2 in
      flat_map-append (records s c v) (pieces5 f) (flat_map pieces5 fs)
      ∙ rw (filled5-cover s c v f read same.0.1 a, root-holds f.node.origin a, roots-cover background ns fs _ r.3 same.1, among-more (root_origin v) n.origin earlier, ← e)
      (root-parts (is_among (root_origin v) earlier) (same_coord f.node.origin (root_origin v)) (spot5 s c v f) (spot s c background fs v) λ i.
      ap (λ (o : GlobalCoord). is_among o earlier) (sym (same-coord _ _ i)) ∙ new)
