-- Section 2: a descriptor, with checks 7 and 9 of section 8 in their places.
use Rattle.std.specs.Prelude.{ℕ, List, Bool, leb, ltb, length, Option, None, Some}
use Rattle.fields.specs.Parse.{Parse, got, then, when, check}
use Rattle.fields.specs.Fields.{u32_field, u64_field, string_field, bytes_of, same_bytes, ascii}
use Rattle.metadata.specs.Metadata.{lookup}
use Rattle.metadata.specs.declared.Entry.{Entry}
use Rattle.metadata.specs.declared.MetadataValue.{MetadataValue}
use Rattle.metadata.specs.declared.MetadataValue.TheVariants as Value
use Rattle.header.specs.declared.ArchiveHeader.{ArchiveHeader}
use Rattle.descriptor.specs.declared.GridNames.{GridNames}
use Rattle.descriptor.specs.declared.GridPositions.{GridPositions}
use Rattle.descriptor.specs.declared.TreeKind.{TreeKind}
use Rattle.descriptor.specs.declared.TreeKind.TheVariants as Tree
use Rattle.descriptor.specs.declared.GridDescriptor.{GridDescriptor}

-- a descriptor's three names: of the grid, of its type, of its parent
unfoldable pub names_field : List ℕ → ℕ → Parse GridNames
names_field s at =
    then (string_field s at) λ name p.
    then (string_field s p) λ type q.
    then (string_field s q) λ parent n.
    got (record { name = name; grid_type = type; instance_parent = parent }) n

-- a position, counted from the file's start: check 9 when it is read
unfoldable pub position_field : List ℕ → ℕ → Parse ℕ
position_field s at =
    then (u64_field s at) λ v p.
    check (leb v (length s)) 9
    (got v p)

-- a descriptor's three positions: of the grid, of its blocks, of its end
unfoldable pub positions_field : List ℕ → ℕ → Parse GridPositions
positions_field s at =
    then (position_field s at) λ grid p.
    then (position_field s p) λ block q.
    then (position_field s q) λ end n.
    got (record { grid_pos = grid; block_pos = block; end_pos = end }) n

-- the flags, check 7; before version 222 there are none, and a packed file has 0x1
unfoldable pub flags_field : List ℕ → ℕ → Bool → ℕ → Parse ℕ
flags_field s version packed at =
    when (ltb version 222)
    (got (when packed 1 0) at)
    (then (u32_field s at) λ f p.
    check (leb f 7) 7
    (got f p))

-- section 5: what a grid's entry `is_saved_as_half_float` says: a bool, or nothing where there is none or it is of another kind
unfoldable pub half_by : MetadataValue → Option Bool
half_by (Value.String w) = None
half_by (Value.Bool b) = Some b
half_by (Value.I32 v) = None
half_by (Value.I64 v) = None
half_by (Value.Float v) = None
half_by (Value.Vec3i v) = None
half_by (Value.Unknown k w) = None

unfoldable pub half_entry : Option Entry → Option Bool
half_entry None = None
half_entry (Some e) = half_by e.value

-- Check 12, and section 5 with N4, ask which tree a type's name stands for: one of floats, one of floats with the ending that tells of halves, or
-- another.
unfoldable pub tree_kind : List ℕ → TreeKind
tree_kind name = when (same_bytes name (ascii "Tree_float_5_4_3")) Tree.Float (when (same_bytes name (ascii "Tree_float_5_4_3_HalfFloat")) Tree.HalfFloat Tree.Other)

-- A descriptor: names and positions in a row; flags and metadata at the grid position; `tree_pos` is behind these. The next descriptor stands at the
-- end position.
unfoldable pub descriptor : List ℕ → ArchiveHeader → ℕ → Parse GridDescriptor
descriptor s h at =
    then (names_field s at) λ names p.
    then (positions_field s p) λ places q.
    then (flags_field s h.file_version h.packed places.grid_pos) λ flags m.
    then (lookup s (ascii "is_saved_as_half_float") m) λ half n.
    got (record {
      name = names.name;
      grid_type = names.grid_type;
      instance_parent = names.instance_parent;
      grid_pos = places.grid_pos;
      block_pos = places.block_pos;
      end_pos = places.end_pos;
      compression = flags;
      kind = tree_kind (bytes_of s names.grid_type);
      half = half_entry half;
      meta_pos = m;
      tree_pos = n;
    }) places.end_pos
