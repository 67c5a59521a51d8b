-- What opening a grid reads: two files that are the same there give the same grid.
use mathlib.Core.Path.{◌≡◌, refl, sym, ap, ◌∙◌}
use mathlib.Core.List.{List, []}
use Prim.Native.Nat.{ℕ, ◌≤◌}
use native.Mathlib.Omega.{arith}
use lib.ListN.{length}
use Rattle.fields.specs.Parse.{Parse, got, then}
use Rattle.fields.proofs.Laws.{then-got, check-passes, Always, then-always, got-always, check-always}
use Rattle.fields.proofs.Agree.{Same, Reads, Each, Tells, part}
use Rattle.fields.specs.Answer.{gives}
use Rattle.archive.specs.Archive.{present, file_asked}
use Rattle.archive.specs.declared.AskedFile.{AskedFile}
use Rattle.header.specs.declared.ArchiveHeader.{ArchiveHeader}
use Rattle.descriptor.specs.declared.GridDescriptor.{GridDescriptor}
use Rattle.archive.specs.declared.Asked.{Asked}
use Rattle.fields.proofs.Answers.{with-gives, with-back, answer-got, answer_back}
use Rattle.archive.proofs.Agree.{SameOpening, opened-again}
use Rattle.transform.specs.Transform.{transform}
use Rattle.transform.proofs.Agree.{transform-reads}
use Rattle.half.specs.Inner.{IsWidth}
use Rattle.roots.specs.Roots.{tree_head_field}
use Rattle.roots.proofs.Agree.{head-reads}
use Rattle.coordinates.specs.declared.GlobalCoord.{GlobalCoord}
use Rattle.tree.specs.Topology.{roots_field}
use Rattle.tree.specs.Blocks.{blocks_field}
use Rattle.tree.specs.Active.{all_blocks}
use Rattle.tree.proofs.Agree.{Same5, SameFilled5, roots-tells, blocks-tells, active-same, spot-same}
use Rattle.grid.specs.Grid.{coding_of, root_limit, content_field, grid_field, Grid, active_of, spot_of, grid, open_grid}
use Rattle.grid.specs.Inner.{content_of, opened_by}
use Rattle.grid.proofs.Coverage.{width_is}
use Rattle.grid.proofs.Laws.{opened-so}
use Rattle.grid.specs.declared.OpenedGrid.{OpenedGrid}

-- the two files are the same on the bytes that p goes over from `at` on
abbrev pub SameOver : {A : Type 0} → List ℕ → List ℕ → ℕ → Parse A → Type 0
SameOver s t at p = (a : _) (n : ℕ) → got a n ≡ p → Same s t at n

-- what opening the grid d reads is the same in both files: its transform and topology, and its blocks
pub record SameContent (s t : List ℕ) (h : ArchiveHeader) (d : GridDescriptor) : Type 0 where
  pub tree : SameOver s t d.tree_pos (then (transform s d.tree_pos) λ map p. then (tree_head_field s root_limit p) λ head q. roots_field s (coding_of h d head) head.root_count [] q)
  pub blocks : SameOver s t d.block_pos (content_field s h d)

-- a grid whose tree and blocks are the same
abbrev pub SameGrid : List ℕ → List ℕ → Grid → Type 0
SameGrid s t g = IsWidth g.coding.width × Each (Same5 s t g.coding) g.roots × Each (SameFilled5 s t g.coding) g.filled

pub content-again :
    (s t : List ℕ) (h : ArchiveHeader) (d : GridDescriptor) → SameContent s t h d → Always (λ g v. (got g v ≡ content_field t h d) × SameGrid s t g) (content_field s h d)
unfolding content_field
content-again s t h d u = then-always _ _ _ λ map q e. then-always _ _ _ λ head p f. then-always _ _ _ λ roots r g. then-always _ _ _ λ filled v i. got-always _ _ _
    (let c = coding_of h d head in
    let here : Same s t d.tree_pos r = u.tree roots r (then-got _ e (then-got _ f g)) in
    let blocks : Same s t d.block_pos v = u.blocks _ v (then-got _ e (then-got _ f (then-got _ g (then-got _ i refl)))) in
    let maps : Reads s t d.tree_pos d.tree_pos (transform s d.tree_pos) (transform t d.tree_pos) = transform-reads in
    let heads : Reads s t d.tree_pos q (tree_head_field s root_limit q) (tree_head_field t root_limit q) = head-reads root_limit in
    let trees : Tells s t d.tree_pos p (Each (Same5 s t c)) (roots_field s c head.root_count [] p) (roots_field t c head.root_count [] p) = roots-tells head.root_count [] c in
    let l = maps.after map q e (omega arith) in
    let k = heads.after head p f l in
    let m : d.tree_pos ≤ p = omega arith in
    let n = trees.reads.after roots r g m in
    let same = trees.tells roots r g m here in
    let fills : Tells s t d.block_pos d.block_pos (Each (SameFilled5 s t c)) (blocks_field s c roots d.block_pos) (blocks_field t c roots d.block_pos) =
    blocks-tells c roots same in (
      then-got _ (maps.again map q e (omega arith) (part here (omega arith) (omega arith)))
          (then-got _ (heads.again head p f l (part here (omega arith) n))
          (then-got _ (trees.reads.again roots r g m here) (then-got _ (fills.reads.again filled v i (omega arith) blocks) refl))),
      (width_is d.half d.kind, same, fills.tells filled v i (omega arith) blocks),
    ))

pub grid-field-again :
    (s t : List ℕ) (h : ArchiveHeader) (d : GridDescriptor) → SameContent s t h d → Always (λ g v. (got g v ≡ grid_field t h d) × SameGrid s t g) (grid_field s h d)
unfolding grid_field
grid-field-again s t h d u = check-always _ _ _ _ λ x. check-always _ _ _ _ λ y g v e.
    let w = content-again s t h d u g v e in
    (check-passes 12 (sym x) (check-passes 13 (sym y) w.0), w.1)

-- what opening the grid that is asked for reads is the same in both files
pub record SameAsked (s t : List ℕ) (asked : Asked) (name : List ℕ) : Type 0 where
  pub opening : SameOpening s t
  pub content : (o : AskedFile) (d : GridDescriptor) → gives o ≡ file_asked s asked name → gives d ≡ present o.grid → SameContent s t o.header d

module _ (s t : List ℕ) (asked : Asked) (name : List ℕ) (u : SameAsked s t asked name) where
  pub grid-again : (g : Grid) → gives g ≡ grid s asked name → (gives g ≡ grid t asked name) × SameGrid s t g
  unfolding grid
  grid-again g e =
      let y = with-back (file_asked s asked name) _ e in
      let z = with-back (present y.0.grid) _ y.2 in
      let a = answer_back (grid_field s y.0.header z.0) z.2 in
      let o = opened-again s t asked name u.opening y.1 in
      let w = grid-field-again s t y.0.header z.0 (u.content y.0 z.0 y.1 z.1) g a.0 a.1 in
      (with-gives _ o.0 (with-gives _ z.1 (answer-got w.0)), w.1)

  -- the active list of a grid that was opened, and what a voxel meets on its way down
  module _ (g : Grid) (e : gives g ≡ grid s asked name) where
    pub active-again : active_of s g ≡ active_of t g
    active-again = let w = (grid-again g e).1 in active-same s t g.coding w.0 g.filled w.2

    pub spot-again : (v : GlobalCoord) → spot_of s g v ≡ spot_of t g v
    spot-again v = let w = (grid-again g e).1 in spot-same s t g.coding w.0 v g.coding.background g.filled w.2

  pub open-again : (x : OpenedGrid) → gives x ≡ open_grid s asked name → gives x ≡ open_grid t asked name
  unfolding open_grid
  open-again x e =
      let y = with-back (grid s asked name) _ e in
      let w = grid-again y.0 y.1 in
      let g = y.0 in
      let same : content_of s g ≡ content_of t g = λ i. record {
        header = g.header;
        own = g.own;
        tree = g.tree;
        transform = g.map;
        transform_end = g.map_end;
        topology_end = g.tree_end;
        leaf_count = length (all_blocks g.filled);
        start = record {
          coding = g.coding;
          tiles_pos = g.head.tiles_pos;
          tile_count = g.head.tile_count;
          roots_pos = g.head.roots_pos;
          root_count = g.head.root_count;
          block_pos = g.tree.block_pos;
          length = length (active-again g y.1 i);
        };
      } in
      with-gives _ w.0 (y.2 ∙ ap gives (opened-so s g ∙ ap opened_by same ∙ sym (opened-so t g)))
