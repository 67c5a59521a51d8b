-- Section 2: the whole file, with checks 10 and 11 of section 8 in their places.
use Rattle.std.specs.Prelude.{ℕ, zero, suc, List, [], ◌∷◌, ◌++◌, Bool, false, not, ◌||◌, eqb, Option, None, Some}
use Rattle.fields.specs.Parse.{Parse, got, then, check}
use Rattle.fields.specs.Fields.{bytes_of, same_bytes}
use Rattle.fields.specs.declared.Span.{Span}
use Rattle.metadata.specs.Metadata.{latest, lookup}
use Rattle.metadata.specs.declared.MetadataValue.{MetadataValue}
use Rattle.header.specs.Header.{header}
use Rattle.header.specs.declared.ArchiveHeader.{ArchiveHeader}
use Rattle.descriptor.specs.Descriptor.{descriptor}
use Rattle.descriptor.specs.declared.GridDescriptor.{GridDescriptor}
use Rattle.fields.specs.Answer.{Answer, gives, refuses, answer, with}
use Rattle.archive.specs.declared.Asked.{Asked}
use Rattle.archive.specs.declared.Asked.TheVariants as A
use Rattle.archive.specs.declared.AskedFile.{AskedFile}

-- check 11: what is asked for is there
unfoldable pub present : {A : Type 0} → Option A → Answer A
present (Some a) = gives a
present None = refuses 11

-- whether one of the names has these bytes
unfoldable pub repeated : List ℕ → List ℕ → List Span → Bool
repeated s name [] = false
repeated s name (w ∷ ws) = same_bytes (bytes_of s w) name || repeated s name ws

-- k descriptors behind those of the earlier names: check 10 when the grid's metadata is read
unfoldable pub descriptors : List ℕ → ArchiveHeader → ℕ → List Span → ℕ → Parse (List GridDescriptor)
descriptors s h zero earlier at = got [] at
descriptors s h (suc k) earlier at =
    then (descriptor s h at) λ d p.
    check (not (repeated s (bytes_of s d.name) earlier)) 10
    (then (descriptors s h k (earlier ++ (d.name ∷ [])) p) λ ds q.
    got (d ∷ ds) q)

-- the whole file, opened
pub record File : Type 0 where
  pub header : ArchiveHeader
  pub grids : List GridDescriptor

unfoldable pub file : List ℕ → Parse File
file s =
    then (header s) λ h p.
    then (descriptors s h h.grid_count [] p) λ ds q.
    got (record { header = h; grids = ds }) q

-- opening a file hands out its header
unfoldable pub open_file : List ℕ → Answer ArchiveHeader
open_file s = with (answer (file s)) λ f. gives f.header

-- which grid is asked for: one by its name, one by its number from 0 in the file's order, or none
unfoldable pub is_asked : List ℕ → Asked → List ℕ → ℕ → GridDescriptor → Bool
is_asked s A.Nothing name i d = false
is_asked s A.ByName name i d = same_bytes (bytes_of s d.name) name
is_asked s (A.ByNumber n) name i d = eqb i n

-- an opened file, of which a grid may be asked for
abbrev pub asked_of : List ℕ → Asked → List ℕ → File → AskedFile
asked_of s asked name f = record { header = f.header; grid = latest (is_asked s asked name) 0 f.grids None }

unfoldable pub file_asked : List ℕ → Asked → List ℕ → Answer AskedFile
file_asked s asked name = with (answer (file s)) λ f. gives (asked_of s asked name f)

-- a descriptor, by name or by number
unfoldable pub grid_asked : List ℕ → Asked → List ℕ → Answer GridDescriptor
grid_asked s asked name = with (file_asked s asked name) λ o. present o.grid

abbrev pub grid_named : List ℕ → List ℕ → Answer GridDescriptor
grid_named s name = grid_asked s A.ByName name

abbrev pub grid_numbered : List ℕ → ℕ → Answer GridDescriptor
grid_numbered s n = grid_asked s (A.ByNumber n) []

-- an entry by its name, in the metadata at a position: the file's, or a grid's
unfoldable pub entry_at : List ℕ → List ℕ → ℕ → Answer MetadataValue
entry_at s name at =
    with (answer (lookup s name at)) λ e.
    with (present e) λ found.
    gives found.value

unfoldable pub file_entry : List ℕ → List ℕ → Answer MetadataValue
file_entry s name = with (open_file s) λ h. entry_at s name h.meta_pos

unfoldable pub grid_entry : List ℕ → Asked → List ℕ → List ℕ → Answer MetadataValue
grid_entry s asked grid name = with (grid_asked s asked grid) λ d. entry_at s name d.meta_pos

abbrev pub grid_entry_named : List ℕ → List ℕ → List ℕ → Answer MetadataValue
grid_entry_named s grid name = grid_entry s A.ByName grid name

abbrev pub grid_entry_numbered : List ℕ → ℕ → List ℕ → Answer MetadataValue
grid_entry_numbered s n name = grid_entry s (A.ByNumber n) [] name
