-- What the parses of a tree and of its blocks read: two files that are the same there give the same.
use mathlib.Core.Path.{◌≡◌, refl, ap, ap₂, ◌∙◌}
use mathlib.Core.Bool.{Bool, true, false}
use mathlib.Core.List.{List, [], ◌∷◌, map, flat_map}
use Prim.Native.Nat.{ℕ, zero, suc, ◌+◌, ◌*◌, ◌≤◌, ◌<◌}
use native.Mathlib.Omega.{arith}
use lib.Dec.{lit≤}
use lib.ListN.{length}
use Rattle.fields.specs.Parse.{when, many}
use Rattle.fields.proofs.Agree.{Each, each_append, Tells, got-tells, then-tells, then-plain, swap-tells, each_tells, many-tells, part-tells, keep, SameFor}
use Rattle.coordinates.specs.declared.GlobalCoord.{GlobalCoord}
use Rattle.coordinates.specs.Coordinates.{index, places, global_of, root_origin, same_coord}
use Rattle.coordinates.proofs.Laws.{place-below}
use Rattle.masks.specs.Masks.{mask_bit, ones_from, cons_if, count_below}
use Rattle.masks.proofs.Laws.{ones-ext}
use Rattle.masks.proofs.Agree.{bit-same, ones-same}
use Rattle.forms.specs.declared.Coding.{Coding}
use Rattle.runs.proofs.Agree.{SameValues}
use Rattle.values.proofs.Agree.{place_same}
use Rattle.half.specs.Inner.{IsWidth}
use Rattle.nodes.proofs.Agree.{SameNode, SameLeaf, SameBlock, node-tells, block-tells}
use Rattle.roots.proofs.Agree.{origin-reads}
use Rattle.tree.specs.Active.{Record, side_of, edge_of, Piece, leaf_piece, piece4, piece5, pieces4, pieces5, pieces}
use Rattle.tree.specs.Active.{record_at, records_of, active_list, all_blocks, Spot, place_in, spot_at, below, spot4, spot5, spot}
use Rattle.tree.specs.Topology.{Node4, Node5, leaf_field, node4_field, child_field, node5_field, root_field, roots_field}
use Rattle.tree.specs.Blocks.{Filled4, Filled5, filled4, filled5, blocks_field}
use Rattle.tree.proofs.Lists.{each_map, each-flat_map, map_same, flat_map-same}
use Rattle.tree.proofs.Cover.{side-positive, edge-positive}

-- a 4-node and its leaves' masks are the same in both files, a 5-node and all below it
abbrev pub Same4 : List ℕ → List ℕ → Coding → Node4 → Type 0
Same4 s t c n = SameNode s t c 512 n.header × Each (SameLeaf s t) n.leaves

abbrev pub Same5 : List ℕ → List ℕ → Coding → Node5 → Type 0
Same5 s t c n = SameNode s t c 4096 n.header × Each (Same4 s t c) n.nodes

pub leaf-tells : {s t : List ℕ} {lo at : ℕ} (origin : GlobalCoord) (p : ℕ) → Tells s t lo at (SameLeaf s t) (leaf_field s origin p at) (leaf_field t origin p at)
unfolding leaf_field
leaf-tells {s} {t} origin p = then-tells (part-tells 64) λ mask q e x. got-tells (SameLeaf s t) x

pub node4-tells : {s t : List ℕ} {lo at : ℕ} (c : Coding) (origin : GlobalCoord) → Tells s t lo at (Same4 s t c) (node4_field s c origin at) (node4_field t c origin at)
unfolding node4_field
node4-tells {s} {t} c origin =
    then-tells (node-tells 512 c) λ h p e x.
    then-tells (swap-tells (λ l k. ap (λ (ones : List ℕ). many (leaf_field t origin) ones p) (ones-same 512 (x l k).child-mask)) (many-tells _ (λ i at. leaf-tells origin i))) λ leaves q f y.
    got-tells (Same4 s t c) λ l k. (keep f x l k, y l k)

node5-tells : {s t : List ℕ} {lo at : ℕ} (c : Coding) (origin : GlobalCoord) → Tells s t lo at (Same5 s t c) (node5_field s c origin at) (node5_field t c origin at)
unfolding node5_field
node5-tells {s} {t} c origin =
    then-tells (node-tells 4096 c) λ h p e x.
    then-tells (swap-tells (λ l k. ap (λ (ones : List ℕ). many (child_field t c origin) ones p) (ones-same 4096 (x l k).child-mask)) (many-tells _ (λ i at. node4-tells c _))) λ nodes q f y.
    got-tells (Same5 s t c) λ l k. (keep f x l k, y l k)

pub root-tells : {s t : List ℕ} {lo at : ℕ} (earlier : List GlobalCoord) (c : Coding) → Tells s t lo at (Same5 s t c) (root_field s c earlier at) (root_field t c earlier at)
unfolding root_field
root-tells earlier c = then-plain (origin-reads earlier) λ o p e. node5-tells c o

pub roots-tells :
    {s t : List ℕ} {lo at : ℕ} (k : ℕ) (earlier : List GlobalCoord) (c : Coding) → Tells s t lo at (Each (Same5 s t c)) (roots_field s c k earlier at) (roots_field t c k earlier at)
unfolding roots_field
roots-tells {s} {t} zero earlier c = got-tells (Each (Same5 s t c)) λ l h. tt
roots-tells {s} {t} (suc k) earlier c =
    then-tells (root-tells earlier c) λ n p e x. then-tells (roots-tells k _ c) λ ns q f y. got-tells (Each (Same5 s t c)) λ l h. (keep f x l h, y l h)

-- The blocks, of a tree that is the same.
abbrev pub SameFilled4 : List ℕ → List ℕ → Coding → Filled4 → Type 0
SameFilled4 s t c f = Same4 s t c f.node × Each (SameBlock s t c) f.blocks

abbrev pub SameFilled5 : List ℕ → List ℕ → Coding → Filled5 → Type 0
SameFilled5 s t c f = Same5 s t c f.node × Each (SameFilled4 s t c) f.nodes

filled4-tells : {s t : List ℕ} {lo at : ℕ} (c : Coding) (n : Node4) → Same4 s t c n → Tells s t lo at (SameFilled4 s t c) (filled4 s c n at) (filled4 t c n at)
unfolding filled4
filled4-tells {s} {t} c n h = then-tells (each_tells (SameLeaf s t) _ h.1 λ l p k. block-tells c l k) λ bs p e x. got-tells (SameFilled4 s t c) λ l k. (h, x l k)

filled5-tells : {s t : List ℕ} {lo at : ℕ} (c : Coding) (n : Node5) → Same5 s t c n → Tells s t lo at (SameFilled5 s t c) (filled5 s c n at) (filled5 t c n at)
unfolding filled5
filled5-tells {s} {t} c n h = then-tells (each_tells (Same4 s t c) _ h.1 λ m p k. filled4-tells c m k) λ fs p e x. got-tells (SameFilled5 s t c) λ l k. (h, x l k)

pub blocks-tells :
    {s t : List ℕ} {lo at : ℕ} (c : Coding) (roots : List Node5) → Each (Same5 s t c) roots →
    Tells s t lo at (Each (SameFilled5 s t c)) (blocks_field s c roots at) (blocks_field t c roots at)
blocks-tells {s} {t} c roots h = each_tells (Same5 s t c) roots h λ n p k. filled5-tells c n k

-- A piece whose masks and values are the same. Its level says how many bytes a mask has.
abbrev pub mask_bytes : ℕ → ℕ
mask_bytes zero = 64
mask_bytes (suc zero) = 512
mask_bytes (suc (suc zero)) = 4096
mask_bytes (suc (suc (suc n))) = 0

pub mask-places : (level : ℕ) → places (edge_of level) ≡ 8 * mask_bytes level
mask-places zero = refl
mask-places (suc zero) = refl
mask-places (suc (suc zero)) = refl
mask-places (suc (suc (suc n))) = refl

abbrev pub SamePiece : List ℕ → List ℕ → Coding → Piece → Type 0
SamePiece s t c q = (q.level ≤ 2) × SameValues s t c (mask_bytes q.level) q.child q.value q.values

count_same : {s t : List ℕ} {m : ℕ} (n p : ℕ) → SameFor s t n m → p ≤ 8 * n → count_below (mask_bit s m) p ≡ count_below (mask_bit t m) p
count_same n p h l = ap length (ones-ext _ _ p 0 λ q x y. bit-same n q h (omega arith))

map-ones : {A : Type 0} (f g : ℕ → A) (b : ℕ → Bool) (p k : ℕ) → ((q : ℕ) → q < p + k → f q ≡ g q) → map f (ones_from b p k) ≡ map g (ones_from b p k)
unfolding ones_from
map-ones f g b p zero h = refl
map-ones f g b p (suc k) h = go (b p) (map-ones f g b (suc p) k (λ q l. h q (omega arith)))
  where
    go : (x : Bool) → map f (ones_from b (suc p) k) ≡ map g (ones_from b (suc p) k) → map f (cons_if x p (ones_from b (suc p) k)) ≡ map g (cons_if x p (ones_from b (suc p) k))
    go true e = ap₂ ◌∷◌ (h p (omega arith)) e
    go false e = e

-- Its records, and what a voxel meets in it.
module _ (s t : List ℕ) (c : Coding) (w : IsWidth c.width) (q : Piece) (h : SamePiece s t c q) where
  pub record_same : (p : ℕ) → p < 8 * mask_bytes q.level → record_at s c q p ≡ record_at t c q p
  unfolding record_at
  record_same p l =
      ap (λ (x : ℕ). record { corner = global_of (edge_of q.level) (side_of q.level) q.origin (index p); level = q.level; value = x }) (place_same p w h.1 l)

  pub records-same : records_of s c q ≡ records_of t c q
  unfolding records_of
  records-same =
      rw (mask-places q.level)
      (map-ones _ _ (mask_bit s q.value) 0 (8 * mask_bytes q.level) (λ p l. record_same p (omega arith)) ∙ ap (map _) (ones-same (mask_bytes q.level) h.1.value-mask))

  module _ (v : GlobalCoord) where
    in-mask : place_in q v < 8 * mask_bytes q.level
    in-mask = rw (← mask-places q.level) (place-below (edge_of q.level) (side_of q.level) q.origin v (edge-positive q.level h.0) (side-positive q.level h.0))

    pub spot-at-same : spot_at s c q v ≡ spot_at t c q v
    unfolding spot_at
    spot-at-same =
        ap₂ (λ (b : Bool) (r : Record). record { active = b; place = r }) (bit-same (mask_bytes q.level) (place_in q v) h.1.value-mask in-mask)
        (record_same (place_in q v) in-mask)

    pub below-same : (x y : List Spot) → x ≡ y → below s c q v x ≡ below t c q v y
    unfolding below
    below-same x y e = rw (
      e,
      count_same (mask_bytes q.level) (place_in q v) h.1.child-mask (omega (arith, in-mask)),
      bit-same (mask_bytes q.level) (place_in q v) h.1.child-mask in-mask,
      record_same (place_in q v) in-mask,
      spot-at-same,
    )

-- The active list of a tree that is the same, and what a voxel meets on its way down.
module _ (s t : List ℕ) (c : Coding) where
  pieces4-same : (f : Filled4) → SameFilled4 s t c f → Each (SamePiece s t c) (pieces4 f)
  unfolding pieces4
  pieces4-same f h =
      each_append (SamePiece s t c) (map leaf_piece f.blocks) (piece4 f.node ∷ [])
      (each_map (SameBlock s t c) (SamePiece s t c) leaf_piece f.blocks h.1 λ b k. (lit≤ tt, k)) ((lit≤ tt, h.0.0), tt)

  pieces5-same : (f : Filled5) → SameFilled5 s t c f → Each (SamePiece s t c) (pieces5 f)
  unfolding pieces5
  pieces5-same f h =
      each_append (SamePiece s t c) (flat_map pieces4 f.nodes) (piece5 f.node ∷ [])
      (each-flat_map (SameFilled4 s t c) (SamePiece s t c) pieces4 f.nodes h.1 pieces4-same) ((lit≤ tt, h.0.0), tt)

  pub pieces-same : (filled : List Filled5) → Each (SameFilled5 s t c) filled → Each (SamePiece s t c) (pieces filled)
  unfolding pieces
  pieces-same filled h = each-flat_map (SameFilled5 s t c) (SamePiece s t c) pieces5 filled h pieces5-same

  module _ (w : IsWidth c.width) where
    pub active-same : (filled : List Filled5) → Each (SameFilled5 s t c) filled → active_list s c filled ≡ active_list t c filled
    active-same filled h = flat_map-same (SamePiece s t c) _ _ (pieces filled) (pieces-same filled h) (records-same s t c w)

    module _ (v : GlobalCoord) where
      spot4-same : (f : Filled4) → SameFilled4 s t c f → spot4 s c v f ≡ spot4 t c v f
      unfolding spot4
      spot4-same f h =
          below-same s t c w (piece4 f.node) (lit≤ tt, h.0.0) v _ _
          (map_same (SameBlock s t c) _ _ f.blocks h.1 λ b k. spot-at-same s t c w (leaf_piece b) (lit≤ tt, k) v)

      spot5-same : (f : Filled5) → SameFilled5 s t c f → spot5 s c v f ≡ spot5 t c v f
      unfolding spot5
      spot5-same f h =
          below-same s t c w (piece5 f.node) (lit≤ tt, h.0.0) v _ _
          (map_same (SameFilled4 s t c) _ _ f.nodes h.1 spot4-same)

      pub spot-same : (background : ℕ) (filled : List Filled5) → Each (SameFilled5 s t c) filled → spot s c background filled v ≡ spot t c background filled v
      unfolding spot
      spot-same background [] h = refl
      spot-same background (f ∷ rest) h = ap₂ (when (same_coord f.node.origin (root_origin v))) (spot5-same f h.0) (spot-same background rest h.1)

-- A leaf by its number.
pub blocks-same : (s t : List ℕ) (c : Coding) (filled : List Filled5) → Each (SameFilled5 s t c) filled → Each (SameBlock s t c) (all_blocks filled)
unfolding all_blocks
blocks-same s t c filled h = each-flat_map (SameFilled5 s t c) (SameBlock s t c) _ filled h λ f k. each-flat_map (SameFilled4 s t c) (SameBlock s t c) _ f.nodes k.1 λ g m. m.1
