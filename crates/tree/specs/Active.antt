-- Section 7: the active list, and what a voxel meets on the way down its tree.
use Rattle.std.specs.Prelude.{ℕ, zero, suc, Bool, false, get_or}
use mathlib.Core.List.{List, [], ◌∷◌, ◌++◌, map, flat_map}
use Rattle.fields.specs.Parse.{when}
use Rattle.coordinates.specs.Coordinates.{index, places, global_of, root_origin, place_of, covers, same_coord}
use Rattle.coordinates.specs.declared.GlobalCoord.{GlobalCoord}
use Rattle.masks.specs.Masks.{mask_bit, ones, count_below}
use Rattle.values.specs.Values.{place_value}
use Rattle.forms.specs.declared.Coding.{Coding}
use Rattle.runs.specs.declared.Values.{Values}
use Rattle.nodes.specs.declared.Block.{Block}
use Rattle.tree.specs.Topology.{Node4, Node5}
use Rattle.tree.specs.Blocks.{Filled4, Filled5}

-- Section 7: a record is a cube, given by the corner of smallest coordinates and by its level, with the value that the cube holds.
pub record Record : Type 0 where
  pub corner : GlobalCoord
  pub level : ℕ
  pub value : ℕ

-- Section 7: how many voxels long a level's cubes are: 0 is a place of a leaf, 1 of a 4-node, 2 of a 5-node. Level 3, a root's whole cube, is ours;
-- no listed record has it. There is no other level, and a cube of none covers nothing.
abbrev pub side_of : ℕ → ℕ
side_of zero = 1
side_of (suc zero) = 8
side_of (suc (suc zero)) = 128
side_of (suc (suc (suc zero))) = 4096
side_of (suc (suc (suc (suc n)))) = 0

-- section 4: how many places of that side a leaf, a 4-node and a 5-node have along an edge; nothing else has any
abbrev pub edge_of : ℕ → ℕ
edge_of zero = 8
edge_of (suc zero) = 16
edge_of (suc (suc zero)) = 32
edge_of (suc (suc (suc n))) = 0

-- Section 7: a record covers the voxels of its cube, on each axis from the corner on, the far end left out.
abbrev pub covered_by : Record → GlobalCoord → Bool
covered_by r v = covers r.corner (side_of r.level) v

-- A leaf, a 4-node or a 5-node: level 0, 1 or 2, origin, positions of child mask and value mask, values. A leaf has no child mask; its value
-- mask stands there.
pub record Piece : Type 0 where
  pub level : ℕ
  pub origin : GlobalCoord
  pub child : ℕ
  pub value : ℕ
  pub values : Values

abbrev pub leaf_piece : Block → Piece
leaf_piece b = record { level = 0; origin = b.origin; child = b.mask; value = b.mask; values = b.values }

abbrev pub piece4 : Node4 → Piece
piece4 n = record { level = 1; origin = n.origin; child = n.header.child; value = n.header.value; values = n.header.values }

abbrev pub piece5 : Node5 → Piece
piece5 n = record { level = 2; origin = n.origin; child = n.header.child; value = n.header.value; values = n.header.values }

-- Section 7, the order: a node comes after all that is below it. A 4-node follows its leaves, a 5-node its 4-nodes with theirs.
unfoldable pub pieces4 : Filled4 → List Piece
pieces4 f = map leaf_piece f.blocks ++ piece4 f.node ∷ []

unfoldable pub pieces5 : Filled5 → List Piece
pieces5 f = flat_map pieces4 f.nodes ++ piece5 f.node ∷ []

unfoldable pub pieces : List Filled5 → List Piece
pieces roots = flat_map pieces5 roots

-- the record of place p
unfoldable pub record_at : List ℕ → Coding → Piece → ℕ → Record
record_at s c q p = record {
  corner = global_of (edge_of q.level) (side_of q.level) q.origin (index p);
  level = q.level;
  value = place_value s c q.child q.value q.values p;
}

-- Section 7: a piece lists one record for each bit that is set in its value mask, in the order of the places.
unfoldable pub records_of : List ℕ → Coding → Piece → List Record
records_of s c q = map (record_at s c q) (ones (mask_bit s q.value) (places (edge_of q.level)))

-- Section 7: the records of all pieces, in the order of the roots and, in a root, of its pieces.
abbrev pub active_list : List ℕ → Coding → List Filled5 → List Record
active_list s c roots = flat_map (records_of s c) (pieces roots)

-- all blocks of a filled tree, in topology order
unfoldable pub all_blocks : List Filled5 → List Block
all_blocks roots = flat_map (λ f. flat_map (λ g. g.blocks) f.nodes) roots

-- What a voxel meets where its way down the tree ends: the record of that place, and whether the place is active.
pub record Spot : Type 0 where
  pub active : Bool
  pub place : Record

abbrev pub inactive : Record → Spot
inactive r = record { active = false; place = r }

-- the number of the voxel's place in a piece, and what it meets there
abbrev pub place_in : Piece → GlobalCoord → ℕ
place_in q v = (place_of (edge_of q.level) (side_of q.level) v).0

unfoldable pub spot_at : List ℕ → Coding → Piece → GlobalCoord → Spot
spot_at s c q v = record { active = mask_bit s q.value (place_in q v); place = record_at s c q (place_in q v) }

-- Section 7, by masks: where the voxel's place has a child, the way goes on in that child, else it ends at the place. The children stand in the
-- order of the set child bits (section 4), so the set bits before a place give the number of the child there.
unfoldable pub below : List ℕ → Coding → Piece → GlobalCoord → List Spot → Spot
below s c q v children =
    when (mask_bit s q.child (place_in q v))
    (get_or children (count_below (mask_bit s q.child) (place_in q v)) (inactive (record_at s c q (place_in q v))))
    (spot_at s c q v)

-- a leaf has no children: the way ends in it
abbrev pub spot3 : List ℕ → Coding → GlobalCoord → Block → Spot
spot3 s c v b = spot_at s c (leaf_piece b) v

unfoldable pub spot4 : List ℕ → Coding → GlobalCoord → Filled4 → Spot
spot4 s c v f = below s c (piece4 f.node) v (map (spot3 s c v) f.blocks)

unfoldable pub spot5 : List ℕ → Coding → GlobalCoord → Filled5 → Spot
spot5 s c v f = below s c (piece5 f.node) v (map (spot4 s c v) f.nodes)

-- Section 7, by masks: the way starts at the root whose origin is the voxel rounded down, on each axis, to a multiple of 4096. Where the tree has
-- none, the voxel is not active; it meets the background, in the cube where that root would stand.
unfoldable pub spot : List ℕ → Coding → ℕ → List Filled5 → GlobalCoord → Spot
spot s c background [] v = inactive (record { corner = root_origin v; level = 3; value = background })
spot s c background (f ∷ rest) v = when (same_coord f.node.origin (root_origin v)) (spot5 s c v f) (spot s c background rest v)
