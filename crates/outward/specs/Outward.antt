-- What an answer looks like as plain words, and what a call from another language leaves.
use Rattle.std.specs.Prelude.{ℕ, zero, suc, ◌+◌, ◌-◌, ◌*◌, List, [], ◌∷◌, ◌++◌, Bool, true, false, Option, None, Some, ltb}
use Rattle.fields.specs.Le.{u64_at}
use Rattle.fields.specs.Parse.{when}
use Rattle.fields.specs.Answer.{Answer, gives, refuses}
use Rattle.header.specs.declared.ArchiveHeader.{ArchiveHeader}
use Rattle.descriptor.specs.declared.GridDescriptor.{GridDescriptor}
use Rattle.metadata.specs.declared.MetadataValue.{MetadataValue}
use Rattle.metadata.specs.declared.MetadataValue.TheVariants as Value
use Rattle.transform.specs.declared.Map.{Map}
use Rattle.transform.specs.declared.Map.TheVariants as M
use Rattle.grid.specs.Grid.{width_of}
use Rattle.grid.specs.declared.OpenedGrid.{OpenedGrid}
use Rattle.words.specs.Words.{pattern}

-- Section 8: 0, and the words of what the answer gives in the place of what was lent; or the check's number, and what was lent as it was.
unfoldable pub laid : {A B : Type 0} → Answer A → (A → B) → B → ℕ × B
laid (gives a) words lent = (0, words a)
laid (refuses k) words lent = (k, lent)

abbrev pub flag : Bool → ℕ
flag true = 1
flag false = 0

-- section 2: version, library numbers, whether packed, the identity's start and length, where the metadata starts, grid count
abbrev pub header_words : ArchiveHeader → List ℕ
header_words h =
    h.file_version ∷ h.library_version_major ∷ h.library_version_minor ∷ flag h.packed ∷ h.guid.start ∷ h.guid.len
    ∷ h.meta_pos ∷ h.grid_count ∷ []

-- section 2: what the entry that tells of halves says, 2 or 1 for true and false, 0 where it says nothing
abbrev pub half_number : Option Bool → ℕ
half_number (Some true) = 2
half_number (Some false) = 1
half_number None = 0

-- section 2: name, type and parent by start and length, the three positions, the flags, the half entry, where metadata and tree start; section 5: how
-- many bytes a stored value takes; the last two are 0, room for what may be told later
abbrev pub descriptor_words : GridDescriptor → List ℕ
descriptor_words d =
    d.name.start ∷ d.name.len ∷ d.grid_type.start ∷ d.grid_type.len ∷ d.instance_parent.start ∷ d.instance_parent.len
    ∷ d.grid_pos ∷ d.block_pos ∷ d.end_pos ∷ d.compression ∷ half_number d.half ∷ d.meta_pos ∷ d.tree_pos
    ∷ width_of d.half d.kind ∷ 0 ∷ 0 ∷ []

-- section 2: an entry's kind, by its number, and its value; strings and raw values by start and length, a raw value's kind behind it
abbrev pub entry_words : MetadataValue → List ℕ
entry_words (Value.String w) = 0 ∷ w.start ∷ w.len ∷ 0 ∷ 0 ∷ []
entry_words (Value.Bool b) = 1 ∷ flag b ∷ 0 ∷ 0 ∷ 0 ∷ []
entry_words (Value.I32 n) = 2 ∷ pattern n ∷ 0 ∷ 0 ∷ 0 ∷ []
entry_words (Value.I64 n) = 3 ∷ pattern n ∷ 0 ∷ 0 ∷ 0 ∷ []
entry_words (Value.Float n) = 4 ∷ n ∷ 0 ∷ 0 ∷ 0 ∷ []
entry_words (Value.Vec3i v) = 5 ∷ pattern v.x ∷ pattern v.y ∷ pattern v.z ∷ 0 ∷ []
entry_words (Value.Unknown kind w) = 6 ∷ w.start ∷ w.len ∷ kind.start ∷ kind.len ∷ []

-- section 3: how many doubles a map has; and the pattern of the one with the number i of `count` doubles from `start` on, 0 past them
abbrev pub double_count : Map → ℕ
double_count (M.UniformScaleMap v) = 15
double_count (M.ScaleTranslateMap v) = 18

unfoldable pub double_at : List ℕ → ℕ → ℕ → ℕ → ℕ
double_at s start count i = when (ltb i count) (u64_at s (start + 8 * i)) 0

-- the values of f at the first n numbers
unfoldable pub table : (ℕ → ℕ) → ℕ → List ℕ
table f zero = []
table f (suc n) = table f n ++ f n ∷ []

-- section 7: background, length of the active list, number of leaves, number of root tiles, number of doubles, where these stand, which is right before
-- the transform's end, and 26 words with their patterns
abbrev pub doubles_start : OpenedGrid → ℕ
doubles_start g = g.transform_end - 8 * double_count g.transform

unfoldable pub opened_words : List ℕ → OpenedGrid → List ℕ
opened_words s g =
    g.background ∷ g.active_count ∷ g.leaf_count ∷ g.place.start.tile_count ∷ double_count g.transform ∷ doubles_start g
    ∷ table (double_at s (doubles_start g) (double_count g.transform)) 26
