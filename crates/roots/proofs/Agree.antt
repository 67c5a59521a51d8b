-- What the parses of what stands before a tree's roots, and of a root's origin, read: two files that are the same there give the same.
use mathlib.Core.List.{List}
use Prim.Native.Nat.{ℕ}
use Rattle.fields.proofs.Agree.{Reads, reads, then-reads, got-reads, bytes-reads, u32-reads, plain-tells, many-tells}
use Rattle.coordinates.specs.declared.GlobalCoord.{GlobalCoord}
use Rattle.roots.specs.Roots.{origin_field, buffers_field, root_count_field, tiles_field, tree_head_field}

buffers-reads : {s t : List ℕ} {lo at : ℕ} → Reads s t lo at (buffers_field s at) (buffers_field t at)
unfolding buffers_field
buffers-reads = search reads

root-count-reads : {s t : List ℕ} {lo at : ℕ} (limit : ℕ) → Reads s t lo at (root_count_field s limit at) (root_count_field t limit at)
unfolding root_count_field
root-count-reads limit = search reads

tiles-reads : {s t : List ℕ} {lo at : ℕ} (n : ℕ) → Reads s t lo at (tiles_field s n at) (tiles_field t n at)
unfolding tiles_field
tiles-reads n = then-reads (many-tells _ (λ i at. plain-tells (bytes-reads 17))).reads λ tiles p e. got-reads

pub head-reads : {s t : List ℕ} {lo at : ℕ} (limit : ℕ) → Reads s t lo at (tree_head_field s limit at) (tree_head_field t limit at)
unfolding tree_head_field
head-reads limit =
    then-reads buffers-reads λ one p e. then-reads u32-reads λ background q e. then-reads u32-reads λ tiles r e. then-reads (root-count-reads limit) λ roots u e.
    then-reads (tiles-reads tiles) λ passed n e. got-reads

pub origin-reads : {s t : List ℕ} {lo at : ℕ} (earlier : List GlobalCoord) → Reads s t lo at (origin_field s earlier at) (origin_field t earlier at)
unfolding origin_field
origin-reads earlier = search reads
