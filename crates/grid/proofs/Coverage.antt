-- Demand 3, of a grid that opening accepts: a voxel that is active by masks (section 7) lies in one record of the active list, any other voxel in
-- none. Root tiles are in neither.
use mathlib.Core.Path.{◌≡◌, ap}
use mathlib.Core.Logic.{◌↔◌}
use mathlib.Core.List.{List, Memᴰ}
use mathlib.Core.Bool.{Bool, true, false}
use Rattle.std.proofs.Common.{Option, None, Some}
use Prim.Native.Nat.{ℕ, ◌≤◌, ◌<◌}
use native.Mathlib.Omega.{arith}
use lib.ListN.{length, get_or}
use Rattle.fields.proofs.Laws.{Always, then-always, check-always, got-always}
use Rattle.fields.specs.Answer.{gives}
use Rattle.archive.specs.declared.Asked.{Asked}
use Rattle.header.specs.declared.ArchiveHeader.{ArchiveHeader}
use Rattle.descriptor.specs.declared.GridDescriptor.{GridDescriptor}
use Rattle.descriptor.specs.declared.TreeKind.{TreeKind}
use Rattle.descriptor.specs.declared.TreeKind.TheVariants as Kind
use Rattle.fields.proofs.Answers.{with-back, answer_back}
use Rattle.coordinates.specs.declared.GlobalCoord.{GlobalCoord}
use Rattle.half.specs.Inner.{IsWidth}
use Rattle.roots.proofs.Laws.{head-end, head-inside}
use Rattle.tree.specs.Active.{Record, covered_by}
use Rattle.tree.proofs.Coverage.{Parsed, listed-covers, covered-spot, records-apart}
use Rattle.cursor.specs.Inner.{between_roots}
use Rattle.cursor.proofs.Whole.{fresh}
use Rattle.grid.specs.Grid.{Grid, width_of, root_limit, content_field, grid_field, grid, active_of, spot_of}

-- A grid that was opened: its roots were read with their blocks, from where its walks find them, and its values have 2 bytes or 4.
pub record GridRead (s : List ℕ) (g : Grid) : Type 0 where
  pub parsed : Parsed s g.coding g.roots g.filled
  pub start : fresh parsed ≡ between_roots g.head.root_count g.head.roots_pos g.tree.block_pos
  pub few : g.head.root_count ≤ 256
  pub width : IsWidth g.coding.width

-- the width is 2 or 4
pub width_is : (e : Option Bool) (k : TreeKind) → IsWidth (width_of e k)
unfolding width_of
width_is (Some true) k = omega arith
width_is (Some false) k = omega arith
width_is None Kind.Float = omega arith
width_is None Kind.HalfFloat = omega arith
width_is None Kind.Other = omega arith

grid-field : (s : List ℕ) (h : ArchiveHeader) (d : GridDescriptor) → Always (λ g p. GridRead s g) (grid_field s h d)
unfolding grid_field content_field
grid-field s h d =
    check-always _ _ _ _ λ x. check-always _ _ _ _ λ y.
    then-always _ _ _ λ map p e. then-always _ _ _ λ head q e. then-always _ _ _ λ roots r f. then-always _ _ _ λ filled v i. got-always _ _ _
    (record {
      parsed = record { count = head.root_count; start = q; end = r; block = d.block_pos; past = v; roots-read = f; blocks-read = i };
      start = ap (λ (at : ℕ). between_roots head.root_count at d.block_pos) (head-end s root_limit p head q e);
      few = (head-inside s root_limit p head q e).0;
      width = width_is d.half d.kind;
    })

pub grid-read : (s : List ℕ) (asked : Asked) (name : List ℕ) {g : Grid} → gives g ≡ grid s asked name → GridRead s g
unfolding grid
grid-read s asked name {g} e =
    let a = with-back _ _ e in
    let b = with-back _ _ a.2 in
    let c = answer_back _ b.2 in
    grid-field s a.0.header b.0 g c.0 c.1

abbrev pub grid-parsed : (s : List ℕ) (asked : Asked) (name : List ℕ) {g : Grid} → gives g ≡ grid s asked name → Parsed s g.coding g.roots g.filled
grid-parsed s asked name e = (grid-read s asked name e).parsed

module _ (s : List ℕ) (asked : Asked) (name : List ℕ) {g : Grid} (opened : gives g ≡ grid s asked name) where
  -- a record is listed and covers the voxel exactly when the voxel is active and meets this record on its way down
  pub listed : (r : Record) (v : GlobalCoord) → (Memᴰ r (active_of s g) × (covered_by r v ≡ true)) ↔ (((spot_of s g v).active ≡ true) × ((spot_of s g v).place ≡ r))
  listed = listed-covers (grid-parsed s asked name opened) g.coding.background

  -- the voxels that the list covers are those that the masks make active
  pub covered : (v : GlobalCoord) → ((r : Record) × Memᴰ r (active_of s g) × (covered_by r v ≡ true)) ↔ ((spot_of s g v).active ≡ true)
  covered = covered-spot (grid-parsed s asked name opened) g.coding.background

  -- records at two places of the list have no voxel in common
  pub apart : (v : GlobalCoord) (i j : ℕ) (d : Record) → i < j → j < length (active_of s g) → covered_by (get_or (active_of s g) i d) v ≡ true → covered_by (get_or (active_of s g) j d) v ≡ true → ⊥
  apart = records-apart (grid-parsed s asked name opened) g.coding.background
