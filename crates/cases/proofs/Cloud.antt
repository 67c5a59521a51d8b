-- Laws for section 9: files of version 224 with flag 0x2 and node bytes 0, whose tree has one root, one 4-node and one leaf. What the definitions
-- say of such a file follows from a few facts of its bytes, which `IsCloud` lists and which are then computed.
use mathlib.Core.Path.{◌≡◌, refl, sym, ap, ◌∙◌}
use mathlib.Core.Bool.{Bool, true, false, not}
use mathlib.Core.List.{List, [], ◌∷◌, ◌++◌, map, flat_map}
use Prim.Native.Nat.{ℕ, zero, suc, ◌+◌, ◌*◌, ◌≤◌, ◌<◌}
use native.Mathlib.Omega.{arith}
use lib.ListN.{length}
use Rattle.std.specs.Prelude.{None}
use Rattle.fields.specs.Le.{byte_at, u32_at}
use Rattle.fields.specs.Parse.{Parse, got, then, when, check, many}
use Rattle.fields.specs.Fields.{same_bytes, ascii}
use Rattle.fields.proofs.Laws.{then-got, check-passes, field-whole, when_true}
use Rattle.coordinates.specs.Coordinates.{index, places, global_of}
use Rattle.coordinates.specs.declared.GlobalCoord.{GlobalCoord}
use Rattle.masks.specs.Masks.{mask_bit, cons_if, ones_from, ones, count_below}
use Rattle.masks.proofs.Laws.{ones_none, count-suc-one, count-suc-zero}
use Rattle.half.specs.Half.{stored_value}
use Rattle.forms.specs.Forms.{may_pack, form_field, form_selected, inactive_field, selection_field, inactives_field, stored_by, head_field}
use Rattle.runs.specs.Runs.{is_stored, is_sized, number_field, run_field, values_field}
use Rattle.values.specs.Values.{is_selected, inactive_value, place_value, values_from}
use Rattle.forms.specs.declared.Coding.{Coding}
use Rattle.forms.specs.declared.Stored.{Stored}
use Rattle.forms.specs.declared.Stored.TheVariants.{Every, Active, Childless}
use Rattle.runs.specs.declared.Values.{Values}
use Rattle.nodes.specs.Nodes.{node_field, old_field, block_field}
use Rattle.nodes.specs.declared.NodeHeader.{NodeHeader}
use Rattle.nodes.specs.declared.Leaf.{Leaf}
use Rattle.nodes.specs.declared.Block.{Block}
use Rattle.roots.specs.Roots.{tree_head_field, origin_field}
use Rattle.roots.specs.declared.TreeHead.{TreeHead}
use Rattle.tree.specs.Topology.{Node4, Node5, leaf_field, node4_field, child_field, node5_field, root_field, roots_field}
use Rattle.tree.specs.Blocks.{filled4, filled5, blocks_field}
use Rattle.tree.specs.Active.{Record, Piece, edge_of, side_of, pieces4, pieces5, pieces, record_at, records_of, all_blocks}
use Rattle.tree.specs.Inner.{kept}
use Rattle.metadata.specs.Metadata.{latest}
use Rattle.header.specs.declared.ArchiveHeader.{ArchiveHeader}
use Rattle.descriptor.specs.declared.GridDescriptor.{GridDescriptor}
use Rattle.descriptor.specs.declared.TreeKind.TheVariants as Kind
use Rattle.fields.specs.Answer.{gives}
use Rattle.archive.specs.Archive.{present, File, file, is_asked, file_asked}
use Rattle.archive.specs.declared.Asked.{Asked}
use Rattle.archive.specs.declared.Asked.TheVariants as A
use Rattle.fields.proofs.Answers.{with-gives, answer-got}
use Rattle.transform.specs.Transform.{transform}
use Rattle.grid.specs.Grid.{Grid, width_of, content_field, grid_field, grid, active_of, open_grid}
use Rattle.leaves.specs.Leaves.{present_leaf, fill_leaf, fill_leaf_named}
use Rattle.cases.specs.Cases.{coded, zero_map, opened_with, Opens}
use Rattle.cases.proofs.Laws.{part, passed, bit-part, mask-ones, parts-agree, no-overlap}

-- ---- a file with flag 0x2, node bytes 0 and values of four bytes

abbrev pub coding : Coding
coding = coded 224 2 4

-- a run that starts at a position: only active places are stored, and the others are zero
abbrev pub run : ℕ → Values
run at = record { stored = Active; inactives = record { first = 0; second = 0; selection = None }; start = at }

-- a node with masks of n bytes at a position
abbrev pub node : ℕ → ℕ → NodeHeader
node n at = record { child = at; value = at + n; values = run (at + n + n + 1) }

-- What a node's bytes say, its masks of n bytes standing at a position: its children, its active places, that no place is both, the node byte 0.
abbrev pub IsNode : List ℕ → ℕ → ℕ → List ℕ → List ℕ → Type 0
IsNode s n at children actives =
    (passed 0 (part s at n) ≡ children) × (passed 0 (part s (at + n) n) ≡ actives) × (kept (mask_bit s (at + n)) children ≡ []) × (byte_at s (at + n + n) ≡ 0)

-- what a block's bytes say: its mask is that at another position, its active places, the node byte 0
abbrev pub IsBlock : List ℕ → ℕ → ℕ → List ℕ → Type 0
IsBlock s mask at actives = (part s at 64 ≡ part s mask 64) × (passed 0 (part s at 64) ≡ actives) × (byte_at s (at + 64) ≡ 0)

module _ (s : List ℕ) where
  -- Such values, nodes and blocks are read, and the masks have the ones that their bytes say.
  values-read :
      (old : Stored) (n child value at : ℕ) {l : List ℕ} → ones (mask_bit s value) (8 * n) ≡ l → byte_at s at ≡ 0 → at + 1 + length l * 4 ≤ length s →
      got (run (at + 1)) (at + 1 + length l * 4) ≡ values_field s coding old n child value at
  unfolding values_field head_field form_field form_selected inactives_field inactive_field selection_field stored_by may_pack is_sized number_field run_field is_stored when check then
  values-read old n child value at e z h =
      rw (← e)
      (then-got _ (then-got _ (then-got _ (field-whole s at 1 0 (byte_at s at) (omega arith) (sym z)) refl) refl)
      (then-got _ (field-whole s (at + 1) _ _ _ (omega (arith, ap length e)) refl) refl))

  module _ (n at : ℕ) {children actives : List ℕ} (f : IsNode s n at children actives) (whole : at + n + n + 1 + length actives * 4 ≤ length s) where
    children-are : ones (mask_bit s at) (8 * n) ≡ children
    children-are = mask-ones s at n (omega arith) ∙ f.0

    actives-are : ones (mask_bit s (at + n)) (8 * n) ≡ actives
    actives-are = mask-ones s (at + n) n (omega arith) ∙ f.1

    node-read : got (node n at) (at + n + n + 1 + length actives * 4) ≡ node_field s coding n at
    unfolding node_field
    node-read =
        then-got _ (field-whole s at n _ _ (omega arith) refl)
        (then-got _ (field-whole s (at + n) n _ _ (omega arith) refl)
        (check-passes 18 (ap not (sym (no-overlap _ _ (8 * n) children children-are f.2)))
        (then-got _ (values-read Childless n at (at + n) (at + n + n) actives-are f.3 whole) refl)))

  module _ (leaf : Leaf) (at : ℕ) {actives : List ℕ} (f : IsBlock s leaf.mask at actives) (whole : at + 64 + 1 + length actives * 4 ≤ length s) where
    voxels-are : ones (mask_bit s at) 512 ≡ actives
    voxels-are = mask-ones s at 64 (omega arith) ∙ f.1

    block_read : got (record { origin = leaf.origin; mask = at; values = run (at + 64 + 1) }) (at + 64 + 1 + length actives * 4) ≡ block_field s coding leaf at
    unfolding block_field old_field when
    block_read =
        then-got _ (field-whole s at 64 _ _ (omega arith) refl)
        (check-passes 20 (sym (parts-agree s at leaf.mask 64 f.0))
        (then-got _ refl
        (then-got _ (values-read Every 64 at at (at + 64) voxels-are f.2 whole) refl)))

  -- The records of a piece with these active places, and the values of k places from p on where g says which are active: the stored values stand in a
  -- row, the next one at x.
  unfoldable pub listed : ℕ → GlobalCoord → ℕ → List ℕ → List Record
  listed level origin x [] = []
  listed level origin x (p ∷ l) =
      record { corner = global_of (edge_of level) (side_of level) origin (index p); level = level; value = u32_at s x } ∷ listed level origin (x + 4) l

  unfoldable pub filled : (ℕ → Bool) → ℕ → ℕ → ℕ → List ℕ
  filled g x p zero = []
  filled g x p (suc k) = elim (g p) [ true ↦ u32_at s x ∷ filled g (x + 4) (suc p) k | false ↦ 0 ∷ filled g x (suc p) k ]

  -- The definitions number a stored value by the ones below its place; going from place to place, that is the next value of the row.
  module _ (child value at : ℕ) where
    -- x is where the stored value of place p stands, or that of the next active place
    abbrev Next : ℕ → ℕ → Type 0
    Next p x = x ≡ at + count_below (mask_bit s value) p * 4

    first : Next 0 at
    first = omega (arith, ap length (ones_none (mask_bit s value) 0))

    module _ (p x : ℕ) (h : Next p x) where
      one-next : mask_bit s value p ≡ true → Next (suc p) (x + 4)
      one-next e = omega (arith, count-suc-one (mask_bit s value) p e)

      zero-next : mask_bit s value p ≡ false → Next (suc p) x
      zero-next e = omega (arith, count-suc-zero (mask_bit s value) p e)

      one_value : mask_bit s value p ≡ true → place_value s coding child value (run at) p ≡ u32_at s x
      unfolding place_value is_stored stored_value when
      one_value e = rw (e, h)

      zero-value : mask_bit s value p ≡ false → place_value s coding child value (run at) p ≡ 0
      unfolding place_value is_stored is_selected inactive_value when
      zero-value e = rw e

    module _ (level : ℕ) (origin : GlobalCoord) where
      abbrev piece : Piece
      piece = record { level = level; origin = origin; child = child; value = value; values = run at }

      records-from : (k p x : ℕ) → Next p x → map (record_at s coding piece) (ones_from (mask_bit s value) p k) ≡ listed level origin x (ones_from (mask_bit s value) p k)
      unfolding ones_from listed record_at
      records-from zero p x h = refl
      records-from (suc k) p x h = go (records-from k (suc p)) (mask_bit s value p) refl
        where
          rest : List ℕ
          rest = ones_from (mask_bit s value) (suc p) k

          go : ((y : ℕ) → Next (suc p) y → map (record_at s coding piece) rest ≡ listed level origin y rest) → (b : Bool) → mask_bit s value p ≡ b →
              map (record_at s coding piece) (cons_if b p rest) ≡ listed level origin x (cons_if b p rest)
          go more true e = rw (one_value p x h e, more (x + 4) (one-next p x h e))
          go more false e = more x (zero-next p x h e)

      records-are : {l : List ℕ} → ones (mask_bit s value) (places (edge_of level)) ≡ l → records_of s coding piece ≡ listed level origin at l
      unfolding records_of
      records-are e = records-from (places (edge_of level)) 0 at first ∙ ap (listed level origin at) e

    values-from :
        (g : ℕ → Bool) (k p x : ℕ) → ((q : ℕ) → p ≤ q → q < p + k → mask_bit s value q ≡ g q) → Next p x →
        values_from s coding child value (run at) p k ≡ filled g x p k
    unfolding values_from filled
    values-from g zero p x same h = refl
    values-from g (suc k) p x same h = go (λ y. values-from g k (suc p) y (λ q a b. same q (omega arith) (omega arith))) (g p) refl
      where
        here : mask_bit s value p ≡ g p
        here = same p (omega arith) (omega arith)

        go : ((y : ℕ) → Next (suc p) y → values_from s coding child value (run at) (suc p) k ≡ filled g y (suc p) k) → (b : Bool) → g p ≡ b →
            values_from s coding child value (run at) p (suc k) ≡ filled g x p (suc k)
        go more true e = rw (e, filled, one_value p x h (here ∙ e), more (x + 4) (one-next p x h (here ∙ e)))
        go more false e = rw (e, filled, zero-value p x h (here ∙ e), more x (zero-next p x h (here ∙ e)))

-- one parse after another for a list with one member
many-one : {A B : Type 0} (f : A → ℕ → Parse B) {l : List A} {at : ℕ} {a : A} {b : B} {n : ℕ} → l ≡ a ∷ [] → got b n ≡ f a at → got (b ∷ []) n ≡ many f l at
unfolding many then
many-one f e h = rw e (then-got _ h refl)

-- ---- a file whose tree has one root, one 4-node and one leaf

abbrev pub head : TreeHead
head = record { background = 0; tiles_pos = 274; tile_count = 0; roots_pos = 274; root_count = 1 }

-- where the 4-node and the leaf's mask stand, when this many places of the 5-node and of the 4-node are active
abbrev pub at4 : List ℕ → ℕ
at4 v5 = 8479 + length v5 * 4

abbrev pub at3 : List ℕ → List ℕ → ℕ
at3 v5 v4 = at4 v5 + 512 + 512 + 1 + length v4 * 4

-- what stands in header and descriptor
abbrev pub archive_header : ArchiveHeader
archive_header = record {
  file_version = 224;
  library_version_major = 10;
  library_version_minor = 1;
  packed = false;
  guid = record { start = 21; len = 36 };
  meta_pos = 57;
  grid_count = 1;
}

abbrev pub descriptor_of : ℕ → ℕ → GridDescriptor
descriptor_of block end = record {
  name = record { start = 69; len = 1 };
  grid_type = record { start = 74; len = 16 };
  instance_parent = record { start = 94; len = 0 };
  grid_pos = 118;
  block_pos = block;
  end_pos = end;
  compression = 2;
  kind = Kind.Float;
  half = None;
  meta_pos = 122;
  tree_pos = 126;
}

abbrev pub file_of : ℕ → ℕ → File
file_of block end = record { header = archive_header; grids = descriptor_of block end ∷ [] }

-- what the bytes before the root say, with the end of the file: header and descriptor, by which name the grid is known, map, tree head
abbrev pub IsFront : List ℕ → ℕ → ℕ → Type 0
IsFront s block end =
    (length s ≡ end) × (got (file_of block end) end ≡ file s) × (same_bytes (part s 69 1) (ascii "d") ≡ true)
    × (got zero_map 258 ≡ transform s 126) × (got head 274 ≡ tree_head_field s 256 258)

-- what the whole file's bytes say: the root's origin, child and active places of the two nodes, the leaf's active place
pub record IsCloud (s : List ℕ) (o : GlobalCoord) (p5 : ℕ) (v5 : List ℕ) (p4 : ℕ) (v4 : List ℕ) (p3 : ℕ) : Type 0 where
  pub front-is : IsFront s (at3 v5 v4 + 64) (at3 v5 v4 + 133)
  pub origin-read : got o 286 ≡ origin_field s [] 274
  pub node5-is : IsNode s 4096 286 (p5 ∷ []) v5
  pub node4-is : IsNode s 512 (at4 v5) (p4 ∷ []) v4
  pub block-is : IsBlock s (at3 v5 v4) (at3 v5 v4 + 64) (p3 ∷ [])

module _ {s : List ℕ} {o : GlobalCoord} {p5 : ℕ} {v5 : List ℕ} {p4 : ℕ} {v4 : List ℕ} {p3 : ℕ} (f : IsCloud s o p5 v5 p4 v4 p3) where
  abbrev pub leaf : Leaf
  leaf = record { origin = global_of 16 8 (global_of 32 128 o (index p5)) (index p4); mask = at3 v5 v4 }

  abbrev pub block : Block
  block = record { origin = leaf.origin; mask = at3 v5 v4 + 64; values = run (at3 v5 v4 + 64 + 64 + 1) }

  abbrev pub node4 : Node4
  node4 = record { origin = global_of 32 128 o (index p5); header = node 512 (at4 v5); leaves = leaf ∷ [] }

  abbrev pub node5 : Node5
  node5 = record { origin = o; header = node 4096 286; nodes = node4 ∷ [] }

  abbrev pub found : Grid
  found = record {
    header = archive_header;
    own = descriptor_of (at3 v5 v4 + 64) (at3 v5 v4 + 133);
    tree = descriptor_of (at3 v5 v4 + 64) (at3 v5 v4 + 133);
    map = zero_map;
    map_end = 258;
    head = head;
    coding = coding;
    roots = node5 ∷ [];
    tree_end = at3 v5 v4 + 64;
    filled = record { node = node5; nodes = record { node = node4; blocks = block ∷ [] } ∷ [] } ∷ [];
    blocks_end = at3 v5 v4 + 64 + 64 + 1 + 4;
  }

  -- the ones of the five masks
  ones5 : ones (mask_bit s 286) 32768 ≡ p5 ∷ []
  ones5 = children-are s 4096 286 f.node5-is (omega arith)

  actives5 : ones (mask_bit s 4382) 32768 ≡ v5
  actives5 = actives-are s 4096 286 f.node5-is (omega arith)

  ones4 : ones (mask_bit s (at4 v5)) 4096 ≡ p4 ∷ []
  ones4 = children-are s 512 (at4 v5) f.node4-is (omega arith)

  actives4 : ones (mask_bit s (at4 v5 + 512)) 4096 ≡ v4
  actives4 = actives-are s 512 (at4 v5) f.node4-is (omega arith)

  actives3 : ones (mask_bit s (at3 v5 v4 + 64)) 512 ≡ p3 ∷ []
  actives3 = voxels-are s leaf (at3 v5 v4 + 64) f.block-is (omega arith)

  -- the tree, its blocks, the grid
  leaf-read : got leaf (at3 v5 v4 + 64) ≡ leaf_field s node4.origin p4 (at3 v5 v4)
  unfolding leaf_field
  leaf-read = then-got _ (field-whole s (at3 v5 v4) 64 _ _ (omega arith) refl) refl

  node4-read : got node4 (at3 v5 v4 + 64) ≡ child_field s coding o p5 (at4 v5)
  unfolding node4_field
  node4-read = then-got _ (node-read s 512 (at4 v5) f.node4-is (omega arith)) (then-got _ (many-one _ ones4 leaf-read) refl)

  roots-read : got (node5 ∷ []) (at3 v5 v4 + 64) ≡ roots_field s coding 1 [] 274
  unfolding roots_field root_field node5_field then
  roots-read =
      then-got _
      (then-got _ f.origin-read (then-got _ (node-read s 4096 286 f.node5-is (omega arith)) (then-got _ (many-one _ ones5 node4-read) refl)))
      refl

  blocks-read : got found.filled found.blocks_end ≡ blocks_field s coding (node5 ∷ []) (at3 v5 v4 + 64)
  unfolding filled5 filled4
  blocks-read =
      many-one _ refl
      (then-got _ (many-one _ refl (then-got _ (many-one _ refl (block_read s leaf (at3 v5 v4 + 64) f.block-is (omega arith))) refl)) refl)

  content-read : got found found.blocks_end ≡ content_field s archive_header (descriptor_of (at3 v5 v4 + 64) (at3 v5 v4 + 133))
  unfolding content_field width_of
  content-read = then-got _ f.front-is.3 (then-got _ f.front-is.4 (then-got _ roots-read (then-got _ blocks-read refl)))

  opened : (asked : Asked) (name : List ℕ) → is_asked s asked name 0 (descriptor_of (at3 v5 v4 + 64) (at3 v5 v4 + 133)) ≡ true → gives found ≡ grid s asked name
  unfolding grid file_asked latest when present grid_field width_of check
  opened asked name h =
      with-gives _ (with-gives _ (answer-got f.front-is.1) refl)
      (with-gives _ (ap present (when_true _ (sym h) refl))
      (answer-got content-read))

  -- its active list: the leaf's record, the 4-node's, the 5-node's
  abbrev pub list : List Record
  list =
      listed s 0 leaf.origin (at3 v5 v4 + 64 + 64 + 1) (p3 ∷ [])
      ++ (listed s 1 node4.origin (at4 v5 + 512 + 512 + 1) v4 ++ (listed s 2 o 8479 v5 ++ []))

  active : active_of s found ≡ list
  unfolding flat_map pieces pieces5 pieces4
  active =
      rw (
        records-are s (at3 v5 v4 + 64) (at3 v5 v4 + 64) (at3 v5 v4 + 64 + 64 + 1) 0 leaf.origin actives3,
        records-are s (at4 v5) (at4 v5 + 512) (at4 v5 + 512 + 512 + 1) 1 node4.origin actives4,
        records-are s 286 4382 8479 2 o actives5,
      )

  -- opening it, by name and by number
  pub opens : Opens s list
  unfolding open_grid is_asked all_blocks flat_map
  opens =
      let named = opened A.ByName (ascii "d") f.front-is.2 in
      let numbered = opened (A.ByNumber 0) [] refl in
      let handed = ap (λ (l : List Record). gives (opened_with s found l)) (sym active) in
      record { found = found; named = named; numbered = numbered; active = active; opened-named = with-gives _ named handed; opened-numbered = with-gives _ numbered handed }

  -- its leaf, filled
  pub fills : gives (filled s (mask_bit (part s (at3 v5 v4 + 64) 64) 0) (at3 v5 v4 + 64 + 64 + 1) 0 512) ≡ fill_leaf_named s (ascii "d") 0 512
  unfolding fill_leaf present_leaf all_blocks flat_map when is_asked
  fills =
      let m = at3 v5 v4 + 64 in
      let v = values-from s m m (m + 64 + 1) (mask_bit (part s m 64) 0) 512 0 (m + 64 + 1) (λ q a b. bit-part s m 64 q (omega arith)) (first s m m (m + 64 + 1)) in
      with-gives _ (opened A.ByName (ascii "d") f.front-is.2) (with-gives _ refl (ap gives (sym v)))
