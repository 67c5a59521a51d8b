-- Section 9: the proof of `Cases`. All that is left is computed: of the three files the facts of `IsCloud`, of the leaves and the node everything.
use mathlib.Core.Path.{refl}
use mathlib.Core.List.{[], ◌∷◌}
use lib.IntN.{pos, negsuc}
use lib.Ieee.{of_bits}
use Rattle.fields.specs.Le.{u64_at, signed}
use Rattle.fields.specs.Parse.{then, when, check, field, many}
use Rattle.fields.specs.Fields.{string_field, same_bytes}
use Rattle.coordinates.specs.Coordinates.{local_of, global_of, remainder, aligned}
use Rattle.masks.specs.Masks.{digit, mask_bit, ones_from}
use Rattle.half.specs.Half.{stored_value}
use Rattle.forms.specs.Forms.{may_pack, form_field, form_selected, inactive_field, selection_field, inactives_field, stored_by, head_field}
use Rattle.runs.specs.Runs.{is_stored, is_sized, number_field, run_field, values_field}
use Rattle.values.specs.Values.{is_selected, inactive_value, place_value, values_from}
use Rattle.nodes.specs.Nodes.{node_field, old_field, block_field}
use Rattle.roots.specs.Roots.{buffers_field, root_count_field, tiles_field, tree_head_field, is_among, origin_field}
use Rattle.tree.specs.Inner.{kept}
use Rattle.metadata.specs.Metadata.{metadata, latest, lookup}
use Rattle.header.specs.Header.{magic_field, version_field, offsets_field, packed_field, front_field, count_field, header}
use Rattle.descriptor.specs.Descriptor.{names_field, position_field, positions_field, flags_field, half_entry, tree_kind, descriptor}
use Rattle.archive.specs.Archive.{repeated, descriptors, file}
use Rattle.transform.specs.Transform.{map_kind, map_kind_field, scale_field, map_field, transform}
use Rattle.cases.specs.Cases.{case_a, last_voxel, tiles, Cases}
use Rattle.cases.proofs.Cloud.{listed, filled, IsCloud, opens, fills}
use Rattle.cases.proofs.Laws.{passed}

-- ---- the three files

-- what is computed of a file's bytes: its header and descriptor, and its tree
unfoldable reads-front : Unit {0}
unfolding
    when then check field many u64_at string_field same_bytes metadata latest lookup magic_field version_field offsets_field packed_field front_field count_field
    header names_field position_field positions_field flags_field half_entry tree_kind descriptor repeated descriptors file
reads-front = tt

unfoldable reads-tree : Unit {0}
unfolding
    of_bits map_kind map_kind_field scale_field map_field transform buffers_field root_count_field tiles_field tree_head_field signed remainder aligned is_among
    origin_field mask_bit passed kept
reads-tree = tt

case_a-is : IsCloud case_a (negsuc 4095, pos 0, pos 4096) 1057 [] 4095 [] 74
unfolding case_a reads-front reads-tree
case_a-is = record { front-is = (refl, refl, refl, refl, refl); origin-read = refl; node5-is = (refl, refl, refl, refl); node4-is = (refl, refl, refl, refl); block-is = (refl, refl, refl) }

last_voxel-is : IsCloud last_voxel (pos 2147479552, pos 2147479552, pos 2147479552) 32767 [] 4095 [] 511
unfolding last_voxel reads-front reads-tree
last_voxel-is = record { front-is = (refl, refl, refl, refl, refl); origin-read = refl; node5-is = (refl, refl, refl, refl); node4-is = (refl, refl, refl, refl); block-is = (refl, refl, refl) }

tiles-is : IsCloud tiles (pos 0, pos 0, pos 0) 0 (1057 ∷ []) 0 (3 ∷ []) 0
unfolding tiles reads-front reads-tree
tiles-is = record { front-is = (refl, refl, refl, refl, refl); origin-read = refl; node5-is = (refl, refl, refl, refl); node4-is = (refl, refl, refl, refl); block-is = (refl, refl, refl) }

-- what is computed of a leaf's or a node's bytes
unfoldable reads-values : Unit {0}
unfolding
    when then check field digit mask_bit ones_from old_field form_field form_selected inactive_field selection_field inactives_field stored_by head_field is_stored may_pack is_sized number_field run_field
    values_field is_selected inactive_value place_value values_from stored_value block_field node_field
reads-values = tt

pub cases : Cases
unfolding case_a last_voxel tiles global_of local_of listed filled reads-values
cases = record {
  case_a-opens = opens case_a-is;
  case_a-fills = fills case_a-is;
  tiles-open = opens tiles-is;
  last-opens = opens last_voxel-is;
  ones-259 = record { block = _; end = _; read = refl; holds = refl };
  form-5 = record { block = _; end = _; read = refl; holds = refl };
  version-220 = record { node = _; end = _; read = refl; holds = refl };
  halves-widen = record { block = _; end = _; read = refl; holds = refl };
}
