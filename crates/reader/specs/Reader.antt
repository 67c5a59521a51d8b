-- Section 1: a reader is the file's bytes with a reading position. A field is read where it stands, and it is moved on.
use Rattle.std.specs.Prelude.{ℕ, List}
use Rattle.std.specs.Borrow.{Bor}
use Rattle.fields.specs.Parse.{Parse, got, fails, then}
use Rattle.fields.specs.Fields.{u32_field}
use Rattle.reader.specs.declared.Reader.{Reader}
use Rattle.reader.specs.declared.Versions.{Versions}

-- a reader of these bytes at this position
abbrev pub reader_at : Bor (List ℕ) → ℕ → Reader
reader_at s at = record { src = s; at = at }

-- where a reader that stood at `at` stands after a field: behind it, or where it stood if the field is refused
abbrev pub next_at : {A : Type 0} → Parse A → ℕ → ℕ
next_at (got a n) at = n
next_at (fails k) at = at

-- a field read by a reader: what stands at its position, and the reader over the same bytes, moved on
abbrev pub reading : {A : Type 0} → (List ℕ → ℕ → Parse A) → Reader → Parse A × Reader
reading field r = (field r.src.now r.at, reader_at r.src (next_at (field r.src.now r.at) r.at))

-- the header's numbers from three values
abbrev pub versions : ℕ → ℕ → ℕ → Versions
versions version major minor = record { file_version = version; library_version_major = major; library_version_minor = minor }

-- section 2: what stands behind the header's magic, the version first, then two numbers of the library; only check 2 is made
unfoldable pub versions_field : List ℕ → ℕ → Parse Versions
versions_field s at =
    then (u32_field s at) λ version p.
    then (u32_field s p) λ major q.
    then (u32_field s q) λ minor n.
    got (versions version major minor) n
