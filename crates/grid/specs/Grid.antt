-- Sections 7 and 8: opening a grid.
use Rattle.std.specs.Prelude.{ℕ, List, [], Bool, true, false, Option, None, Some, eqb, length}
use Rattle.fields.specs.Parse.{Parse, got, then, check}
use Rattle.fields.specs.Answer.{Answer, gives, answer, with}
use Rattle.archive.specs.Archive.{present, file_asked}
use Rattle.header.specs.declared.ArchiveHeader.{ArchiveHeader}
use Rattle.descriptor.specs.declared.GridDescriptor.{GridDescriptor}
use Rattle.descriptor.specs.declared.TreeKind.{TreeKind}
use Rattle.descriptor.specs.declared.TreeKind.TheVariants as Kind
use Rattle.archive.specs.declared.Asked.{Asked}
use Rattle.archive.specs.declared.Asked.TheVariants as A
use Rattle.transform.specs.Transform.{transform}
use Rattle.transform.specs.declared.Map.{Map}
use Rattle.coordinates.specs.declared.GlobalCoord.{GlobalCoord}
use Rattle.forms.specs.declared.Coding.{Coding}
use Rattle.roots.specs.Roots.{tree_head_field}
use Rattle.roots.specs.declared.TreeHead.{TreeHead}
use Rattle.tree.specs.Topology.{Node5, roots_field}
use Rattle.tree.specs.Blocks.{Filled5, blocks_field}
use Rattle.tree.specs.Active.{Record, Spot, active_list, all_blocks, spot}
use Rattle.place.specs.Inner.{place_from}
use Rattle.place.specs.declared.Start.{Start}
use Rattle.place.specs.declared.Place.{Place}
use Rattle.grid.specs.declared.OpenedGrid.{OpenedGrid}

-- check 12: a tree of floats, whichever way its type's name says how they are stored
abbrev pub is_float_tree : TreeKind → Bool
is_float_tree Kind.Float = true
is_float_tree Kind.HalfFloat = true
is_float_tree Kind.Other = false

-- Section 5 and N4, how many bytes a stored value takes: the grid's half entry says it where it is a bool; where there is none, or it is of another kind,
-- the ending of the type's name does. Of another tree, which check 12 refuses, no value is read.
unfoldable pub width_of : Option Bool → TreeKind → ℕ
width_of (Some true) kind = 2
width_of (Some false) kind = 4
width_of None Kind.Float = 4
width_of None Kind.HalfFloat = 2
width_of None Kind.Other = 4

-- how the grid's values are stored, and the background that they stand out from
abbrev pub coding_of : ArchiveHeader → GridDescriptor → TreeHead → Coding
coding_of h d head = record { version = h.file_version; flags = d.compression; width = width_of d.half d.kind; background = head.background }

-- check 16: how many roots a tree may have
abbrev pub root_limit : ℕ
root_limit = 256

-- A grid, opened: the file's header, the grid's own descriptor and that of the grid whose tree it has, which are the same; its transform, what stands
-- before its roots, how its values are stored, its roots, and these with their blocks; and where transform, topology and blocks end.
pub record Grid : Type 0 where
  pub header : ArchiveHeader
  pub own : GridDescriptor
  pub tree : GridDescriptor
  pub map : Map
  pub map_end : ℕ
  pub head : TreeHead
  pub coding : Coding
  pub roots : List Node5
  pub tree_end : ℕ
  pub filled : List Filled5
  pub blocks_end : ℕ

-- section 8, the order: the transform, the topology, all blocks
unfoldable pub content_field : List ℕ → ArchiveHeader → GridDescriptor → Parse Grid
content_field s h d =
    then (transform s d.tree_pos) λ map p.
    then (tree_head_field s root_limit p) λ head q.
    then (roots_field s (coding_of h d head) head.root_count [] q) λ roots r.
    then (blocks_field s (coding_of h d head) roots d.block_pos) λ filled v.
    got (record {
      header = h;
      own = d;
      tree = d;
      map = map;
      map_end = p;
      head = head;
      coding = coding_of h d head;
      roots = roots;
      tree_end = r;
      filled = filled;
      blocks_end = v;
    }) v

-- and before these checks 12 and 13, of the descriptor
unfoldable pub grid_field : List ℕ → ArchiveHeader → GridDescriptor → Parse Grid
grid_field s h d =
    check (is_float_tree d.kind) 12
    (check (eqb d.instance_parent.len 0) 13
    (content_field s h d))

-- the grid that is asked for, by its name or its number from 0: the file is opened first, then comes check 11
unfoldable pub grid : List ℕ → Asked → List ℕ → Answer Grid
grid s asked name =
    with (file_asked s asked name) λ o.
    with (present o.grid) λ d.
    answer (grid_field s o.header d)

-- section 7: a grid's active list, and what a voxel meets on the way down its tree
abbrev pub active_of : List ℕ → Grid → List Record
active_of s g = active_list s g.coding g.filled

abbrev pub spot_of : List ℕ → Grid → GlobalCoord → Spot
spot_of s g v = spot s g.coding g.coding.background g.filled v

-- What a walk over a grid starts from: how values are stored, where root tiles, roots and blocks stand and how many tiles and roots there are, and the
-- length of the active list.
abbrev pub start_of : List ℕ → Grid → Start
start_of s g = record {
  coding = g.coding;
  tiles_pos = g.head.tiles_pos;
  tile_count = g.head.tile_count;
  roots_pos = g.head.roots_pos;
  root_count = g.head.root_count;
  block_pos = g.tree.block_pos;
  length = length (active_of s g);
}

-- Section 7: the place of a walk after so many records of the active list, right behind the last of them. All that has to be believed of it is that the
-- grid and the number of records fix it; its words are inner matter.
unfoldable pub place_after : List ℕ → Grid → ℕ → Place
place_after s g m = place_from s (start_of s g) m

-- Section 7: what opening a grid hands out: the transform, the background, the length of the active list, and the place of a walk before its first
-- record; and where the transform ends, whose doubles stand before that, and how many leaves there are to fill from.
abbrev pub opened_of : List ℕ → Grid → OpenedGrid
opened_of s g = record {
  transform = g.map;
  transform_end = g.map_end;
  background = g.coding.background;
  active_count = length (active_of s g);
  leaf_count = length (all_blocks g.filled);
  place = place_after s g 0;
}

unfoldable pub open_grid : List ℕ → Asked → List ℕ → Answer OpenedGrid
open_grid s asked name = with (grid s asked name) λ g. gives (opened_of s g)

abbrev pub open_grid_named : List ℕ → List ℕ → Answer OpenedGrid
open_grid_named s name = open_grid s A.ByName name

abbrev pub open_grid_numbered : List ℕ → ℕ → Answer OpenedGrid
open_grid_numbered s n = open_grid s (A.ByNumber n) []
