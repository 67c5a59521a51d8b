-- Sections 4 and 6: a node's masks and stored values, and a leaf's block, with checks 18 and 20 of section 8.
use Rattle.std.specs.Prelude.{ℕ, ◌*◌, List, not, ltb, eqb}
use Rattle.fields.specs.Parse.{Parse, got, then, when, check}
use Rattle.fields.specs.Fields.{u8_field, i_vec3_field, bytes_field}
use Rattle.coordinates.specs.Coordinates.{same_coord, origin_of}
use Rattle.coordinates.specs.declared.GlobalCoord.{GlobalCoord}
use Rattle.masks.specs.Masks.{mask_bit, overlap, agree}
use Rattle.runs.specs.Runs.{values_field}
use Rattle.forms.specs.declared.Coding.{Coding}
use Rattle.forms.specs.declared.Stored.TheVariants.{Every, Childless}
use Rattle.nodes.specs.declared.NodeHeader.{NodeHeader}
use Rattle.nodes.specs.declared.Leaf.{Leaf}
use Rattle.nodes.specs.declared.Block.{Block}

-- A node, with masks of n bytes: the child mask, the value mask, check 18 when both are whole, then the stored values; before version 222 these
-- are one for each place without a child.
unfoldable pub node_field : List ℕ → Coding → ℕ → ℕ → Parse NodeHeader
node_field s c n at =
    then (bytes_field s n at) λ child p.
    then (bytes_field s n p) λ value q.
    check (not (overlap (mask_bit s child.start) (mask_bit s value.start) (8 * n))) 18
    (then (values_field s c Childless n child.start value.start q) λ values r.
    got (record { child = child.start; value = value.start; values = values }) r)

-- What a block has before version 222 only: its leaf's origin, and a count of buffers, which is 1; check 20 on each.
unfoldable pub leaf_buffers_field : List ℕ → ℕ → Parse Unit
leaf_buffers_field s at =
    then (u8_field s at) λ buffers p.
    check (eqb buffers 1) 20
    (got tt p)

unfoldable pub old_field : List ℕ → ℕ → GlobalCoord → ℕ → Parse Unit
old_field s version origin at =
    when (ltb version 222)
    (then (i_vec3_field s at) λ v p.
    check (same_coord (origin_of v) origin) 20
    (leaf_buffers_field s p))
    (got tt at)

-- A leaf's block: its value mask once more, which has to be the topology's (check 20); what stands there before version 222; the stored values,
-- before version 222 all 512.
unfoldable pub block_field : List ℕ → Coding → Leaf → ℕ → Parse Block
block_field s c leaf at =
    then (bytes_field s 64 at) λ mask p.
    check (agree (mask_bit s mask.start) (mask_bit s leaf.mask) 512) 20
    (then (old_field s c.version leaf.origin p) λ u q.
    then (values_field s c Every 64 mask.start mask.start q) λ values r.
    got (record { origin = leaf.origin; mask = mask.start; values = values }) r)
