-- Section 2: the header, with checks 1 to 5 and 8 of section 8 in their places.
use Rattle.std.specs.Prelude.{ℕ, List, [], ◌∷◌, Bool, false, not, ◌&&◌, leb, ltb, eqb, length}
use Rattle.fields.specs.Parse.{Parse, got, then, when, check}
use Rattle.fields.specs.Fields.{u8_field, u32_field, bytes_field, bytes_of, same_bytes}
use Rattle.metadata.specs.Metadata.{metadata}
use Rattle.header.specs.declared.Front.{Front}
use Rattle.header.specs.declared.ArchiveHeader.{ArchiveHeader}

-- the eight bytes that a file starts with, check 3
abbrev pub magic : List ℕ
magic = 0x20 ∷ 0x42 ∷ 0x44 ∷ 0x56 ∷ 0 ∷ 0 ∷ 0 ∷ 0 ∷ []

unfoldable pub magic_field : List ℕ → ℕ → Parse Unit
magic_field s at =
    then (bytes_field s 8 at) λ m p.
    check (same_bytes (bytes_of s m) magic) 3
    (got tt p)

-- the version, check 4
unfoldable pub version_field : List ℕ → ℕ → Parse ℕ
version_field s at =
    then (u32_field s at) λ v p.
    check (leb 220 v && leb v 224) 4
    (got v p)

-- the offsets byte, check 5
unfoldable pub offsets_field : List ℕ → ℕ → Parse ℕ
offsets_field s at =
    then (u8_field s at) λ b p.
    check (eqb b 1) 5
    (got b p)

-- a byte of versions 220 and 221 alone: whether the file is packed
unfoldable pub packed_field : List ℕ → ℕ → ℕ → Parse Bool
packed_field s version at =
    when (ltb version 222)
    (then (u8_field s at) λ b p. got (not (eqb b 0)) p)
    (got false at)

-- what stands before the identity: magic, version, the two numbers of the library that wrote the file, offsets byte, packed byte
unfoldable pub front_field : List ℕ → ℕ → Parse Front
front_field s at =
    then (magic_field s at) λ u o.
    then (version_field s o) λ version p.
    then (u32_field s p) λ major q.
    then (u32_field s q) λ minor r.
    then (offsets_field s r) λ one t.
    then (packed_field s version t) λ packed n.
    got (record { version = version; major = major; minor = minor; packed = packed }) n

-- how many grids there are, check 8
unfoldable pub count_field : List ℕ → ℕ → Parse ℕ
count_field s at =
    then (u32_field s at) λ n p.
    check (leb n 64) 8
    (got n p)

-- The header, check 1 before anything is read. It keeps where the file's metadata stands; behind it stand the descriptors.
unfoldable pub header : List ℕ → Parse ArchiveHeader
header s =
    check (leb (length s) 2147483647) 1
    (then (front_field s 0) λ front p.
    then (bytes_field s 36 p) λ identity q.
    then (metadata s q) λ entries r.
    then (count_field s r) λ count n.
    got (record {
      file_version = front.version;
      library_version_major = front.major;
      library_version_minor = front.minor;
      packed = front.packed;
      guid = identity;
      meta_pos = q;
      grid_count = count;
    }) n)
