-- Inner matter: only contracts of inner functions cite it, and nothing here has to be believed.
use Rattle.std.specs.Prelude.{ℕ, List, [], length}
use Rattle.fields.specs.Parse.{Parse, got, then}
use Rattle.fields.specs.Answer.{Answer, gives, with}
use Rattle.header.specs.declared.ArchiveHeader.{ArchiveHeader}
use Rattle.descriptor.specs.declared.GridDescriptor.{GridDescriptor}
use Rattle.archive.specs.declared.Asked.{Asked}
use Rattle.transform.specs.declared.Map.{Map}
use Rattle.roots.specs.declared.TreeHead.{TreeHead}
use Rattle.tree.specs.Topology.{roots_field}
use Rattle.tree.specs.Blocks.{blocks_field}
use Rattle.tree.specs.Active.{active_list, all_blocks}
use Rattle.place.specs.Inner.{fresh_place}
use Rattle.grid.specs.Grid.{Grid, coding_of, grid_field, grid, start_of}
use Rattle.grid.specs.declared.Content.{Content}
use Rattle.grid.specs.declared.OpenedGrid.{OpenedGrid}

-- all that opening a grid finds, which a walk starts from
abbrev pub content_of : List ℕ → Grid → Content
content_of s g = record {
  header = g.header;
  own = g.own;
  tree = g.tree;
  transform = g.map;
  transform_end = g.map_end;
  topology_end = g.tree_end;
  leaf_count = length (all_blocks g.filled);
  start = start_of s g;
}

-- the same from what is known once topology and blocks are passed
abbrev pub content_with : ArchiveHeader → GridDescriptor → Map → ℕ → TreeHead → ℕ → ℕ → ℕ → Content
content_with h d map map_end head tree_end records leaves = record {
  header = h;
  own = d;
  tree = d;
  transform = map;
  transform_end = map_end;
  topology_end = tree_end;
  leaf_count = leaves;
  start = record {
    coding = coding_of h d head;
    tiles_pos = head.tiles_pos;
    tile_count = head.tile_count;
    roots_pos = head.roots_pos;
    root_count = head.root_count;
    block_pos = d.block_pos;
    length = records;
  };
}

-- what is found from the roots on, and from the descriptor on
unfoldable pub read_tree : List ℕ → ArchiveHeader → GridDescriptor → Map → ℕ → TreeHead → ℕ → Parse Content
read_tree s h d map map_end head at =
    then (roots_field s (coding_of h d head) head.root_count [] at) λ roots r.
    then (blocks_field s (coding_of h d head) roots d.block_pos) λ filled v.
    got (content_with h d map map_end head r (length (active_list s (coding_of h d head) filled)) (length (all_blocks filled))) v

unfoldable pub read_grid : List ℕ → ArchiveHeader → GridDescriptor → Parse Content
read_grid s h d = then (grid_field s h d) λ g n. got (content_of s g) n

unfoldable pub look : List ℕ → Asked → List ℕ → Answer Content
look s asked name = with (grid s asked name) λ g. gives (content_of s g)

-- the opened grid of this content
abbrev pub opened_by : Content → OpenedGrid
opened_by c = record {
  transform = c.transform;
  transform_end = c.transform_end;
  background = c.start.coding.background;
  active_count = c.start.length;
  leaf_count = c.leaf_count;
  place = fresh_place c.start;
}
