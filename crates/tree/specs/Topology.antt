-- Section 4: the topology. The tree stands here on paper: nodes with their positions in the file.
use Rattle.std.specs.Prelude.{ℕ, zero, suc, List, [], ◌∷◌, ◌++◌}
use Rattle.fields.specs.Parse.{Parse, got, then, many}
use Rattle.fields.specs.Fields.{bytes_field}
use Rattle.coordinates.specs.Coordinates.{index, global_of}
use Rattle.coordinates.specs.declared.GlobalCoord.{GlobalCoord}
use Rattle.masks.specs.Masks.{mask_bit, ones}
use Rattle.forms.specs.declared.Coding.{Coding}
use Rattle.nodes.specs.Nodes.{node_field}
use Rattle.nodes.specs.declared.NodeHeader.{NodeHeader}
use Rattle.nodes.specs.declared.Leaf.{Leaf}
use Rattle.roots.specs.Roots.{origin_field}

pub record Node4 : Type 0 where
  pub origin : GlobalCoord
  pub header : NodeHeader
  pub leaves : List Leaf

pub record Node5 : Type 0 where
  pub origin : GlobalCoord
  pub header : NodeHeader
  pub nodes : List Node4

-- the leaf at place p of the 4-node with this origin: its value mask, 64 bytes
unfoldable pub leaf_field : List ℕ → GlobalCoord → ℕ → ℕ → Parse Leaf
leaf_field s origin p at =
    then (bytes_field s 64 at) λ mask q.
    got (record { origin = global_of 16 8 origin (index p); mask = mask.start }) q

-- a 4-node, and behind it its leaves' masks, one for each one of its child mask
unfoldable pub node4_field : List ℕ → Coding → GlobalCoord → ℕ → Parse Node4
node4_field s c origin at =
    then (node_field s c 512 at) λ h p.
    then (many (leaf_field s origin) (ones (mask_bit s h.child) 4096) p) λ leaves q.
    got (record { origin = origin; header = h; leaves = leaves }) q

-- the 4-node at place p of the 5-node with this origin
abbrev pub child_field : List ℕ → Coding → GlobalCoord → ℕ → ℕ → Parse Node4
child_field s c origin p at = node4_field s c (global_of 32 128 origin (index p)) at

-- a 5-node, and behind it its 4-nodes, each with its leaves, one for each one of its child mask
unfoldable pub node5_field : List ℕ → Coding → GlobalCoord → ℕ → Parse Node5
node5_field s c origin at =
    then (node_field s c 4096 at) λ h p.
    then (many (child_field s c origin) (ones (mask_bit s h.child) 32768) p) λ nodes q.
    got (record { origin = origin; header = h; nodes = nodes }) q

-- a root: its origin, and a 5-node
unfoldable pub root_field : List ℕ → Coding → List GlobalCoord → ℕ → Parse Node5
root_field s c earlier at =
    then (origin_field s earlier at) λ o p.
    node5_field s c o p

-- k roots behind those with the earlier origins
unfoldable pub roots_field : List ℕ → Coding → ℕ → List GlobalCoord → ℕ → Parse (List Node5)
roots_field s c zero earlier at = got [] at
roots_field s c (suc k) earlier at =
    then (root_field s c earlier at) λ n p.
    then (roots_field s c k (earlier ++ (n.origin ∷ [])) p) λ ns q.
    got (n ∷ ns) q
