-- Section 9: case A and the marked cases, all in one statement, `Cases`. Each row starts from bytes and goes through the definitions that the public
-- calls' contracts cite.
use Rattle.std.specs.Prelude.{ℕ, zero, suc, ◌/◌, ◌%◌, ◌^◌, ◌≡◌, false, List, [], ◌∷◌, ◌++◌, length, replicate, set, pos, negsuc}
use Prim.Native.String.{String}
use Rattle.std.specs.Float.{fin}
use Rattle.fields.specs.Parse.{got}
use Rattle.fields.specs.Fields.{ascii}
use Rattle.fields.specs.declared.DVec3.{DVec3}
use Rattle.fields.specs.Answer.{gives}
use Rattle.archive.specs.declared.Asked.TheVariants as A
use Rattle.transform.specs.declared.Map.{Map}
use Rattle.transform.specs.declared.Map.TheVariants as M
use Rattle.header.specs.Header.{magic}
use Rattle.values.specs.Values.{place_value, values_from}
use Rattle.forms.specs.declared.Coding.{Coding}
use Rattle.nodes.specs.Nodes.{node_field, block_field}
use Rattle.nodes.specs.declared.NodeHeader.{NodeHeader}
use Rattle.nodes.specs.declared.Block.{Block}
use Rattle.tree.specs.Active.{Record}
use Rattle.grid.specs.Grid.{Grid, grid, active_of, place_after, open_grid_named, open_grid_numbered}
use Rattle.leaves.specs.Leaves.{fill_leaf_named}
use Rattle.grid.specs.declared.OpenedGrid.{OpenedGrid}

-- ---- bytes

-- the k lowest bytes of a number, little-endian
abbrev pub le : ℕ → ℕ → List ℕ
le zero n = []
le (suc k) n = n % 256 ∷ le k (n / 256)

abbrev pub zeros : ℕ → List ℕ
zeros n = replicate n 0

-- a string: its length, its bytes
abbrev pub text : String → List ℕ
text t = le 4 (length (ascii t)) ++ ascii t

-- a mask of n bytes that has one one, at place p
abbrev pub lone : ℕ → ℕ → List ℕ
lone n p = set (zeros n) (p / 8) (2 ^ (p % 8))

-- fields in a row
abbrev pub row : List (List ℕ) → List ℕ
row [] = []
row (a ∷ rest) = a ++ row rest

-- ---- files

-- A file of version 224 with the one grid "d", whose flags are 2 and whose tree has one root: all that stands before that. Given are the block
-- position and the end. What section 9 leaves free is zero, but for the library's numbers.
unfoldable pub front : ℕ → ℕ → List ℕ
front block end = row
    (magic
    -- version, library numbers, offsets byte, identity, metadata, grid count
    ∷ le 4 224 ∷ le 4 10 ∷ le 4 1 ∷ le 1 1 ∷ zeros 36 ∷ le 4 0 ∷ le 4 1
    -- name, type, parent, positions
    ∷ text "d" ∷ text "Tree_float_5_4_3" ∷ text "" ∷ le 8 118 ∷ le 8 block ∷ le 8 end
    -- flags, metadata, transform
    ∷ le 4 2 ∷ le 4 0 ∷ text "ScaleMap" ∷ zeros 120
    -- buffer count, background, tile count, root count
    ∷ le 4 1 ∷ le 4 0 ∷ le 4 0 ∷ le 4 1 ∷ [])

-- a node with masks of n bytes: one child, at place p; the value mask, the node byte 0 and the stored values
abbrev pub one_child : ℕ → ℕ → List ℕ → List ℕ → List ℕ
one_child n p value stored = row (lone n p ∷ value ∷ le 1 0 ∷ stored ∷ [])

-- The whole file: the root's origin, its 5-node, the 4-node in that, the leaf in this with the one active place p, and its block with the node byte 0
-- and the value v.
unfoldable pub cloud : ℕ → ℕ → List ℕ → List ℕ → List ℕ → ℕ → ℕ → List ℕ
unfolding front
cloud block end origin node5 node4 p v = row (front block end ∷ origin ∷ node5 ∷ node4 ∷ lone 64 p ∷ lone 64 p ∷ le 1 0 ∷ le 4 v ∷ [])

-- case A; -4096 has the pattern fffff000 (hexadecimal)
unfoldable pub case_a : List ℕ
unfolding cloud
case_a = cloud 9568 9637
    (le 4 0xfffff000 ++ le 4 0 ++ le 4 4096)
    (one_child 4096 1057 (zeros 4096) [])
    (one_child 512 4095 (zeros 512) [])
    74 0x3f800000

-- the same with the last root and, in each node and in the leaf, the last place
unfoldable pub last_voxel : List ℕ
unfolding cloud
last_voxel = cloud 9568 9637
    (le 4 2147479552 ++ le 4 2147479552 ++ le 4 2147479552)
    (one_child 4096 32767 (zeros 4096) [])
    (one_child 512 4095 (zeros 512) [])
    511 0x3f800000

-- the same with a root at origin 0 and, in each node and in the leaf, the first place; the 5-node has an active place too, 1057, and so has the 4-node, 3
unfoldable pub tiles : List ℕ
unfolding cloud
tiles = cloud 9576 9645
    (zeros 12)
    (one_child 4096 0 (lone 4096 1057) (le 4 0x40400000))
    (one_child 512 0 (lone 512 3) (le 4 0x40000000))
    0 0x3f800000

-- ---- leaves and a node

-- a leaf's block: ones 2, 5 and 9, node byte 0, three stored values
abbrev pub three_ones : List ℕ
three_ones = row ((0x24 ∷ 0x02 ∷ zeros 62) ∷ le 1 0 ∷ le 4 0x3f800000 ∷ le 4 0x40000000 ∷ le 4 0x40400000 ∷ [])

-- a leaf's block: ones 2, 5 and 9, node byte 5, two inactive values, a selection mask with place 4, three stored values
abbrev pub selected : List ℕ
selected = row
    ((0x24 ∷ 0x02 ∷ zeros 62) ∷ le 1 5 ∷ le 4 0xbf800000 ∷ le 4 0xc0000000 ∷ lone 64 4
    ∷ le 4 0x3f800000 ∷ le 4 0x40000000 ∷ le 4 0x40400000 ∷ [])

-- a 4-node of version 220: children 0 and 2, no active place, 4,094 stored values, of which the first four are not zero
abbrev pub two_children : List ℕ
two_children = row ((0x05 ∷ zeros 511) ∷ zeros 512 ∷ le 4 0x3f800000 ∷ le 4 0x40000000 ∷ le 4 0x40400000 ∷ le 4 0x40800000 ∷ zeros 16360 ∷ [])

-- a leaf's block: ones 0 to 4, node byte 0, five stored halves
abbrev pub halves : List ℕ
halves = row ((0x1f ∷ zeros 63) ∷ le 1 0 ∷ le 2 0x0001 ∷ le 2 0x03ff ∷ le 2 0x0400 ∷ le 2 0x7c01 ∷ le 2 0x8000 ∷ [])

-- ---- what is said of them

-- a ScaleMap whose doubles are all zero
abbrev pub zero_vec : DVec3
zero_vec = record { x = fin false 0 (pos 0); y = fin false 0 (pos 0); z = fin false 0 (pos 0) }

abbrev pub zero_map : Map
zero_map = M.UniformScaleMap
    (record { scale_values = zero_vec; voxel_size = zero_vec; scale_values_inverse = zero_vec; inv_scale_sqr = zero_vec; inv_twice_scale = zero_vec })

-- what opening hands out, where the transform is the zero map and ends at 258, the background is zero, and there is one leaf
abbrev pub opened_with : List ℕ → Grid → List Record → OpenedGrid
opened_with s g list = record {
  transform = zero_map;
  transform_end = 258;
  background = 0;
  active_count = length list;
  leaf_count = 1;
  place = place_after s g 0;
}

-- The file's grid is found by its name, "d", and by its number, 0; it has this active list; and opening it, either way, hands this out.
pub record Opens (s : List ℕ) (list : List Record) : Type 0 where
  pub found : Grid
  pub named : gives found ≡ grid s A.ByName (ascii "d")
  pub numbered : gives found ≡ grid s (A.ByNumber 0) []
  pub active : active_of s found ≡ list
  pub opened-named : gives (opened_with s found list) ≡ open_grid_named s (ascii "d")
  pub opened-numbered : gives (opened_with s found list) ≡ open_grid_numbered s 0

-- The leaf whose block starts at 0, its mask being the topology's too, has these values from place p on.
pub record InLeaf (s : List ℕ) (c : Coding) (p : ℕ) (values : List ℕ) : Type 0 where
  pub block : Block
  pub end : ℕ
  pub read : got block end ≡ block_field s c (record { origin = (pos 0, pos 0, pos 0); mask = 0 }) 0
  pub holds : values_from s c block.mask block.mask block.values p (length values) ≡ values

-- The node that starts at 0, with masks of n bytes, has the value v at place p.
pub record InNode (s : List ℕ) (c : Coding) (n p v : ℕ) : Type 0 where
  pub node : NodeHeader
  pub end : ℕ
  pub read : got node end ≡ node_field s c n 0
  pub holds : place_value s c node.child node.value node.values p ≡ v

-- how values are stored: a version, flags, a width; the background is not read
abbrev pub coded : ℕ → ℕ → ℕ → Coding
coded version flags width = record { version = version; flags = flags; width = width; background = 0 }

-- The table of section 9.
pub record Cases : Type 0 where
  -- case A
  pub case_a-opens : Opens case_a (record { corner = (negsuc 3846, pos 249, pos 4346); level = 0; value = 0x3f800000 } ∷ [])
  -- its one leaf, filled into 512 slots
  pub case_a-fills : gives (zeros 74 ++ 0x3f800000 ∷ zeros 437) ≡ fill_leaf_named case_a (ascii "d") 0 512
  -- † 4-node place 3 from origin 0: (0,0,24). † 5-node place 1057: (128,128,128)
  pub tiles-open :
      Opens tiles
      (record { corner = (pos 0, pos 0, pos 0); level = 0; value = 0x3f800000 }
      ∷ record { corner = (pos 0, pos 0, pos 24); level = 1; value = 0x40000000 }
      ∷ record { corner = (pos 128, pos 128, pos 128); level = 2; value = 0x40400000 }
      ∷ [])
  -- † origin 2147479552, last voxel 2147483647
  pub last-opens : Opens last_voxel (record { corner = (pos 2147483647, pos 2147483647, pos 2147483647); level = 0; value = 0x3f800000 } ∷ [])
  -- † ones 2, 5, 9: place 5 is stored value 1
  pub ones-259 : InLeaf three_ones (coded 224 2 4) 5 (0x40000000 ∷ [])
  -- † form 5, flag 0x2, place 4 inactive and selected: second inactive value
  pub form-5 : InLeaf selected (coded 224 2 4) 4 (0xc0000000 ∷ [])
  -- † version 220, children 0 and 2: place 3 is stored value 1
  pub version-220 : InNode two_children (coded 220 0 4) 512 3 0x40000000
  -- halves: † 0x0001 is 0x33800000, † 0x03ff 0x387fc000, † 0x0400 0x38800000, † 0x7c01 0x7fc02000, † 0x8000 0x80000000
  pub halves-widen : InLeaf halves (coded 224 2 2) 0 (0x33800000 ∷ 0x387fc000 ∷ 0x38800000 ∷ 0x7fc02000 ∷ 0x80000000 ∷ [])
