-- What the parse of a header reads: two files that are the same there give the same.
use mathlib.Core.Path.{◌≡◌, ap}
use mathlib.Core.List.{List}
use Prim.Native.Nat.{ℕ}
use native.Mathlib.Omega.{arith}
use lib.Dec.{leb}
use Rattle.fields.specs.Parse.{got}
use Rattle.fields.specs.Fields.{same_bytes}
use Rattle.fields.proofs.Agree.{Same, Reads, reads, got-reads, check-reads, bytes-reads, bytes_same, Tells, got-tells, then-knows, then-tells, then-plain, check-tells, bytes-tells, part}
use Rattle.metadata.specs.Metadata.{metadata}
use Rattle.metadata.specs.declared.Entry.{Entry}
use Rattle.metadata.proofs.Agree.{metadata-tells}
use Rattle.header.specs.Header.{magic, magic_field, version_field, offsets_field, packed_field, front_field, count_field, header}

magic-reads : {s t : List ℕ} {lo at : ℕ} → Reads s t lo at (magic_field s at) (magic_field t at)
unfolding magic_field
magic-reads = then-knows (bytes-tells 8) λ m p e x. check-reads 3 (λ l h. ap (λ (b : List ℕ). same_bytes b magic) (bytes_same m (x l h))) got-reads

version-reads : {s t : List ℕ} {lo at : ℕ} → Reads s t lo at (version_field s at) (version_field t at)
unfolding version_field
version-reads = search reads

offsets-reads : {s t : List ℕ} {lo at : ℕ} → Reads s t lo at (offsets_field s at) (offsets_field t at)
unfolding offsets_field
offsets-reads = search reads

packed-reads : {s t : List ℕ} {lo at : ℕ} (version : ℕ) → Reads s t lo at (packed_field s version at) (packed_field t version at)
unfolding packed_field
packed-reads version = search reads

front_reads : {s t : List ℕ} {lo at : ℕ} → Reads s t lo at (front_field s at) (front_field t at)
unfolding front_field
front_reads = search (reads, magic-reads, version-reads, offsets-reads, packed-reads) depth 8

count-reads : {s t : List ℕ} {lo at : ℕ} → Reads s t lo at (count_field s at) (count_field t at)
unfolding count_field
count-reads = search reads

-- the metadata at a position is the same in both files
abbrev pub SameMetadata : List ℕ → List ℕ → ℕ → Type 0
SameMetadata s t at = (es : List Entry) (n : ℕ) → got es n ≡ metadata s at → Same s t at n

pub header-tells : {s t : List ℕ} → Tells s t 0 0 (λ h. SameMetadata s t h.meta_pos) (header s) (header t)
unfolding header
header-tells {s} {t} =
    check-tells 1 (λ l h. ap (λ (n : ℕ). leb n 2147483647) h.long)
    (then-plain front_reads λ front p e. then-plain (bytes-reads 36) λ identity q e. then-tells metadata-tells λ entries r f x. then-plain count-reads λ count n g.
    got-tells (λ h. SameMetadata s t h.meta_pos) λ l h es m i.
    let k : m ≡ r = (let j = f.is in cc) in
    part h (omega arith) (omega arith))
