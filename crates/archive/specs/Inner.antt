-- Inner matter: only contracts of inner functions cite it, and nothing here has to be believed.
use Rattle.std.specs.Prelude.{ℕ, List, not, Option}
use Rattle.fields.specs.Parse.{Parse, got, then, check}
use Rattle.fields.specs.Fields.{bytes_of}
use Rattle.fields.specs.declared.Span.{Span}
use Rattle.metadata.specs.Metadata.{latest}
use Rattle.header.specs.declared.ArchiveHeader.{ArchiveHeader}
use Rattle.descriptor.specs.Descriptor.{descriptor}
use Rattle.descriptor.specs.declared.GridDescriptor.{GridDescriptor}
use Rattle.archive.specs.Archive.{repeated, descriptors, is_asked}
use Rattle.archive.specs.declared.Asked.{Asked}

-- a descriptor behind those of the earlier names, with check 10
abbrev pub next_field : List ℕ → ArchiveHeader → List Span → ℕ → Parse GridDescriptor
next_field s h earlier at =
    then (descriptor s h at) λ d p.
    check (not (repeated s (bytes_of s d.name) earlier)) 10
    (got d p)

-- the descriptors that are left from the number i on, with what was found before them
unfoldable pub grids_field : List ℕ → ArchiveHeader → ℕ → List Span → ℕ → Asked → List ℕ → Option GridDescriptor → ℕ → Parse (Option GridDescriptor)
grids_field s h k earlier i asked name best at =
    then (descriptors s h k earlier at) λ ds n.
    got (latest (is_asked s asked name) i ds best) n
