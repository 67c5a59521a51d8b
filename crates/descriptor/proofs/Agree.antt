-- What the parse of a descriptor reads: two files that are the same there give the same.
use mathlib.Core.Path.{◌≡◌, refl, ap}
use mathlib.Core.List.{List}
use mathlib.Core.Bool.{Bool}
use Prim.Native.Nat.{ℕ, ◌+◌}
use native.Mathlib.Omega.{arith}
use lib.Dec.{leb}
use Rattle.fields.specs.Parse.{got}
use Rattle.fields.proofs.Laws.{then-got, field_back, Always, then-always, got-always, check-always}
use Rattle.fields.proofs.Agree.{Same, Reads, reads, then-reads, got-reads, check-reads, u64-reads, SameBytes, bytes_same}
use Rattle.fields.proofs.Agree.{Tells, got-tells, then-tells, string-tells, string-end, keep, part}
use Rattle.metadata.proofs.Agree.{lookup-reads}
use Rattle.header.specs.declared.ArchiveHeader.{ArchiveHeader}
use Rattle.descriptor.specs.Descriptor.{names_field, position_field, positions_field, flags_field, descriptor}
use Rattle.descriptor.specs.declared.GridNames.{GridNames}
use Rattle.descriptor.specs.declared.GridDescriptor.{GridDescriptor}

-- the names of a grid, of its type and of its parent are the same in both files
abbrev SameGridNames : List ℕ → List ℕ → GridNames → Type 0
SameGridNames s t d = SameBytes s t d.name × SameBytes s t d.grid_type × SameBytes s t d.instance_parent

names-tells : {s t : List ℕ} {lo at : ℕ} → Tells s t lo at (SameGridNames s t) (names_field s at) (names_field t at)
unfolding names_field
names-tells {s} {t} =
    then-tells string-tells λ name p e x. then-tells string-tells λ type q f y. then-tells string-tells λ parent n g z.
    got-tells (SameGridNames s t) λ l h. (keep g (keep f x) l h, keep g y l h, z l h)

position-reads : {s t : List ℕ} {lo at : ℕ} → Reads s t lo at (position_field s at) (position_field t at)
unfolding position_field
position-reads = then-reads u64-reads λ v p e. check-reads 9 (λ l h. ap (leb v) h.long) got-reads

positions-reads : {s t : List ℕ} {lo at : ℕ} → Reads s t lo at (positions_field s at) (positions_field t at)
unfolding positions_field
positions-reads = search (reads, position-reads)

flags-reads : {s t : List ℕ} {lo at : ℕ} (version : ℕ) (packed : Bool) → Reads s t lo at (flags_field s version packed at) (flags_field t version packed at)
unfolding flags_field
flags-reads version packed = search reads

-- where a descriptor's names end, and its positions
names-end : (s : List ℕ) (at : ℕ) → Always (λ x n. n ≡ x.instance_parent.start + x.instance_parent.len) (names_field s at)
unfolding names_field
names-end s at = then-always _ _ _ λ name p e. then-always _ _ _ λ type q e. then-always _ _ _ λ parent n f. got-always _ _ _ (string-end s q f)

position-end : (s : List ℕ) (at : ℕ) → Always (λ v p. p ≡ at + 8) (position_field s at)
unfolding position_field
position-end s at = then-always _ _ _ λ v p e. check-always _ _ _ _ λ ok. got-always _ _ _ (field_back s at 8 _ e).2

positions-end : (s : List ℕ) (at : ℕ) → Always (λ x n. n ≡ at + 24) (positions_field s at)
unfolding positions_field
positions-end s at = then-always _ _ _ λ grid p e. then-always _ _ _ λ block q f. then-always _ _ _ λ end n g.
    got-always _ _ _ (omega (arith, position-end s at grid p e, position-end s p block q f, position-end s q end n g))

-- What a descriptor at `at` reads is the same in both files: names and positions in a row there, flags and metadata at its grid position.
pub record SameDescriptor (s t : List ℕ) (at : ℕ) (d : GridDescriptor) : Type 0 where
  pub row : Same s t at (d.instance_parent.start + d.instance_parent.len + 24)
  pub content : Same s t d.grid_pos d.tree_pos

abbrev pub SameNames : List ℕ → List ℕ → GridDescriptor → Type 0
SameNames s t d = SameBytes s t d.name × SameBytes s t d.instance_parent

pub descriptor-again :
    (s t : List ℕ) (h : ArchiveHeader) (at : ℕ) →
    Always (λ d e. SameDescriptor s t at d → (got d e ≡ descriptor t h at) × SameNames s t d × (e ≡ d.end_pos)) (descriptor s h at)
unfolding descriptor
descriptor-again s t h at = then-always _ _ _ λ names p e. then-always _ _ _ λ places q f. then-always _ _ _ λ flags m g. then-always _ _ _ λ half n i. got-always _ _ _ λ u.
    let a = (names-tells {t = t} {lo = at}).reads.after names p e (omega arith) in
    let b = (positions-reads {t = t} {lo = at}).after places q f a in
    let c = (flags-reads {t = t} {lo = places.grid_pos} _ _).after flags m g (omega arith) in
    let d = (lookup-reads {t = t} {lo = places.grid_pos} _).after half n i c in
    let row : Same s t at q = rw (positions-end s p places q f, names-end s at names p e) u.row in
    let start : Same s t at p = part row (omega arith) b in
    let near : Same s t places.grid_pos m = part u.content (omega arith) d in
    let same = (names-tells {t = t}).tells names p e (omega arith) start in (
      then-got _ (names-tells.reads.again names p e (omega arith) start) (then-got _ (positions-reads.again places q f a row)
          (then-got _ ((flags-reads _ _).again flags m g (omega arith) near) (then-got _ ((lookup-reads _).again half n i c u.content) (rw (bytes_same names.grid_type same.1))))),
      (same.0, same.2),
      refl,
    )
