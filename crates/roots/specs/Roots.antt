-- Section 4: what stands before a tree's roots, and a root's origin, with checks 15 to 17 of section 8 in their places.
use Rattle.std.specs.Prelude.{ℕ, List, [], ◌∷◌, Bool, false, not, ◌&&◌, ◌||◌, leb, eqb}
use Rattle.fields.specs.Parse.{Parse, got, then, check, times}
use Rattle.fields.specs.Fields.{u32_field, i_vec3_field, bytes_field}
use Rattle.coordinates.specs.Coordinates.{aligned, same_coord, origin_of}
use Rattle.coordinates.specs.declared.GlobalCoord.{GlobalCoord}
use Rattle.roots.specs.declared.TreeHead.{TreeHead}

-- a count of buffers, which is 1: check 15
unfoldable pub buffers_field : List ℕ → ℕ → Parse ℕ
buffers_field s at =
    then (u32_field s at) λ n p.
    check (eqb n 1) 15
    (got n p)

-- how many roots there are, no more than a limit: check 16
unfoldable pub root_count_field : List ℕ → ℕ → ℕ → Parse ℕ
root_count_field s limit at =
    then (u32_field s at) λ n p.
    check (leb n limit) 16
    (got n p)

-- root tiles, 17 bytes each, which are not looked at
unfoldable pub tiles_field : List ℕ → ℕ → ℕ → Parse Unit
tiles_field s n at = then (times (bytes_field s 17) n at) λ tiles p. got tt p

-- what stands before the roots: buffers, the background's pattern, how many root tiles and how many roots there are, the root tiles
unfoldable pub tree_head_field : List ℕ → ℕ → ℕ → Parse TreeHead
tree_head_field s limit at =
    then (buffers_field s at) λ one p.
    then (u32_field s p) λ background q.
    then (u32_field s q) λ tiles r.
    then (root_count_field s limit r) λ roots t.
    then (tiles_field s tiles t) λ passed n.
    got (record { background = background; tiles_pos = t; tile_count = tiles; roots_pos = n; root_count = roots }) n

-- whether a coordinate is among others
unfoldable pub is_among : GlobalCoord → List GlobalCoord → Bool
is_among o [] = false
is_among o (e ∷ rest) = same_coord e o || is_among o rest

-- a root's origin, which no earlier root has and whose coordinates are multiples of 4096: check 17
unfoldable pub origin_field : List ℕ → List GlobalCoord → ℕ → Parse GlobalCoord
origin_field s earlier at =
    then (i_vec3_field s at) λ v p.
    check (aligned 4096 (origin_of v) && not (is_among (origin_of v) earlier)) 17
    (got (origin_of v) p)
