-- What a parse that succeeded says of the tree: checks 17, 18 and 20, as facts.
use mathlib.Core.Path.{◌≡◌, refl}
use mathlib.Core.List.{List, [], ◌∷◌, ◌++◌}
use mathlib.Core.Bool.{true, false}
use Prim.Native.Nat.{ℕ, zero, suc}
use lib.Dec.{lit≤}
use Rattle.fields.proofs.Laws.{Always, then-always, got-always, then-back}
use Rattle.coordinates.specs.Coordinates.{index, global_of, aligned}
use Rattle.coordinates.specs.declared.GlobalCoord.{GlobalCoord}
use Rattle.masks.specs.Masks.{mask_bit, ones, overlap, agree}
use Rattle.forms.specs.declared.Coding.{Coding}
use Rattle.nodes.specs.Nodes.{block_field}
use Rattle.nodes.specs.declared.Leaf.{Leaf}
use Rattle.nodes.specs.declared.Block.{Block}
use Rattle.nodes.proofs.Laws.{node-back, block_back}
use Rattle.roots.specs.Roots.{is_among, origin_field}
use Rattle.roots.proofs.Laws.{origin-new}
use Rattle.tree.specs.Topology.{Node4, Node5, leaf_field, node4_field, child_field, node5_field, root_field, roots_field}
use Rattle.tree.specs.Blocks.{Filled4, Filled5, filled4, filled5, blocks_field}
use Rattle.tree.proofs.Lists.{Paired, many-each}

-- Each node has the origin that it was read for, no place with both bits, and a child for each child bit.
pub record Read4 (s : List ℕ) (o : GlobalCoord) (n : Node4) : Type 0 where
  pub origin : n.origin ≡ o
  pub apart : overlap (mask_bit s n.header.child) (mask_bit s n.header.value) 4096 ≡ false
  pub children : Paired (λ p l. l.origin ≡ global_of 16 8 n.origin (index p)) (ones (mask_bit s n.header.child) 4096) n.leaves

pub record Read5 (s : List ℕ) (o : GlobalCoord) (n : Node5) : Type 0 where
  pub origin : n.origin ≡ o
  pub apart : overlap (mask_bit s n.header.child) (mask_bit s n.header.value) 32768 ≡ false
  pub children : Paired (λ p m. Read4 s (global_of 32 128 n.origin (index p)) m) (ones (mask_bit s n.header.child) 32768) n.nodes

node4-read : (s : List ℕ) (c : Coding) (o : GlobalCoord) (at : ℕ) → Always (λ n q. Read4 s o n) (node4_field s c o at)
unfolding node4_field leaf_field
node4-read s c o at = then-always _ _ _ λ h p e. then-always _ _ _ λ ls q f. got-always _ _ _ (record {
  origin = refl;
  apart = (node-back 512 s c at refl (lit≤ tt) h p e).apart;
  children = many-each _ (leaf_field s o) (λ x at. then-always _ _ _ λ mask r g. got-always _ _ _ refl) _ p ls q f;
})

node5-read : (s : List ℕ) (c : Coding) (o : GlobalCoord) (at : ℕ) → Always (λ n q. Read5 s o n) (node5_field s c o at)
unfolding node5_field
node5-read s c o at = then-always _ _ _ λ h p e. then-always _ _ _ λ ms q f. got-always _ _ _ (record {
  origin = refl;
  apart = (node-back 4096 s c at refl (lit≤ tt) h p e).apart;
  children = many-each _ (child_field s c o) (λ x at. node4-read s c (global_of 32 128 o (index x)) at) _ p ms q f;
})

-- The roots' origins are multiples of 4096, and each is new.
abbrev pub Roots : List ℕ → List Node5 → List GlobalCoord → Type 0
Roots s [] earlier = Unit {0}
Roots s (n ∷ ns) earlier = (aligned 4096 n.origin ≡ true) × (is_among n.origin earlier ≡ false) × Read5 s n.origin n × Roots s ns (earlier ++ n.origin ∷ [])

pub roots-read : (k : ℕ) (earlier : List GlobalCoord) (s : List ℕ) (c : Coding) (at : ℕ) → Always (λ ns q. Roots s ns earlier) (roots_field s c k earlier at)
unfolding roots_field root_field
roots-read zero earlier s c at = got-always _ _ _ tt
roots-read (suc k) earlier s c at =
    then-always _ _ _ λ n p e. then-always _ _ _ λ ns q f. got-always _ _ _
    (let b = then-back (origin_field s earlier at) (node5_field s c) e in
    let new = origin-new earlier s at b.0 b.1 b.2 in
    let r = node5-read s c b.0 b.1 n p b.3 in
    (rw r.origin new.0, rw r.origin new.1, record { origin = refl; apart = r.apart; children = r.children }, roots-read k (earlier ++ n.origin ∷ []) s c p ns q f))

-- The filled tree's nodes are the topology's nodes; its blocks have the topology's origins and masks.
abbrev pub FillsLeaf : List ℕ → Leaf → Block → Type 0
FillsLeaf s l b = (b.origin ≡ l.origin) × (agree (mask_bit s b.mask) (mask_bit s l.mask) 512 ≡ true)

abbrev pub Fills4 : List ℕ → Node4 → Filled4 → Type 0
Fills4 s n f = (f.node ≡ n) × Paired (FillsLeaf s) f.node.leaves f.blocks

abbrev pub Fills5 : List ℕ → Node5 → Filled5 → Type 0
Fills5 s n f = (f.node ≡ n) × Paired (Fills4 s) f.node.nodes f.nodes

module _ (s : List ℕ) (c : Coding) where
  same3 : (l : Leaf) (at : ℕ) → Always (λ b q. FillsLeaf s l b) (block_field s c l at)
  same3 l at b q d = let r = block_back s c l at b q d in (r.origin, r.agrees)

  same4 : (n : Node4) (at : ℕ) → Always (λ f q. Fills4 s n f) (filled4 s c n at)
  unfolding filled4
  same4 n at = then-always _ _ _ λ bs p d. got-always _ _ _ (refl, many-each _ (block_field s c) same3 n.leaves at bs p d)

  same5 : (n : Node5) (at : ℕ) → Always (λ f q. Fills5 s n f) (filled5 s c n at)
  unfolding filled5
  same5 n at = then-always _ _ _ λ fs p d. got-always _ _ _ (refl, many-each _ (filled4 s c) same4 n.nodes at fs p d)

  pub same-tree : (roots : List Node5) (at : ℕ) → Always (λ fs q. Paired (Fills5 s) roots fs) (blocks_field s c roots at)
  same-tree = many-each _ (filled5 s c) same5
