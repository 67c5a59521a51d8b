-- Places and voxel coordinates (section 4), and the voxels that a cube covers (section 7).
-- A coordinate is an integer, ℤ; a place number and a place's x, y and z are natural numbers.
use Rattle.std.specs.Prelude.{ℕ, suc, ◌+◌, ◌-◌, ◌*◌, ◌/◌, ◌%◌, Bool, false, ◌&&◌, eqb, ℤ, pos, negsuc, ◌+ℤ◌, ◌-ℤ◌}
use Rattle.std.specs.Int.Signed.{le_z, lt_z}
use Rattle.fields.specs.declared.IVec3.{IVec3}
use Rattle.coordinates.specs.declared.Index.{Index}
use Rattle.coordinates.specs.declared.LocalCoord.{LocalCoord}
use Rattle.coordinates.specs.declared.GlobalCoord.{GlobalCoord}

-- place number p
abbrev pub index : ℕ → Index
index p = record { 0 = p }

-- section 4: the number of places of a node with side d: 32,768, 4,096 and 512 for 32, 16 and 8
abbrev pub places : ℕ → ℕ
places d = d * d * d

-- section 4: the place in its node that place number p of a node with side d is; z changes fastest, x slowest
unfoldable pub local_of : ℕ → Index → LocalCoord
local_of d p = (p.0 / (d * d), p.0 / d % d, p.0 % d)

-- section 4: the voxel coordinate of a place: the place times the node's step (128, 8 or 1) from the origin on, first along one axis
abbrev pub coord_of : ℕ → ℤ → ℕ → ℤ
coord_of step o x = o +ℤ pos (x * step)

unfoldable pub global_of : ℕ → ℕ → GlobalCoord → Index → GlobalCoord
global_of d step o p = (coord_of step o.0 (local_of d p).0, coord_of step o.1 (local_of d p).1, coord_of step o.2 (local_of d p).2)

-- section 7: a coordinate's remainder by m, from 0 to m - 1 also for a negative one; that of -(n + 1) is m - 1 less n mod m
unfoldable pub remainder : ℤ → ℕ → ℕ
remainder (pos n) m = n % m
remainder (negsuc n) m = m - suc (n % m)

-- section 7: the origin of a voxel's root: each coordinate less its remainder by 4096
abbrev pub root_coord : ℤ → ℤ
root_coord c = c -ℤ pos (remainder c 4096)

unfoldable pub root_origin : GlobalCoord → GlobalCoord
root_origin v = (root_coord v.0, root_coord v.1, root_coord v.2)

-- section 7, on the way down: the place of voxel v in the node of side d that holds it. Along each axis it goes by the coordinate's
-- remainder by the node's whole span
abbrev pub place_along : ℕ → ℕ → ℤ → ℕ
place_along d step c = remainder c (d * step) / step

unfoldable pub place_of : ℕ → ℕ → GlobalCoord → Index
place_of d step v = index (place_along d step v.0 * (d * d) + place_along d step v.1 * d + place_along d step v.2)

-- section 7: from c on, for `side` voxels
unfoldable pub within : ℤ → ℕ → ℤ → Bool
within c side v = le_z c v && lt_z v (c +ℤ pos side)

-- section 7: the cube with this lowest corner and side covers a voxel that lies in it on all three axes
unfoldable pub covers : GlobalCoord → ℕ → GlobalCoord → Bool
covers c side v = within c.0 side v.0 && within c.1 side v.1 && within c.2 side v.2

-- section 8, check 17: all three are multiples of m
unfoldable pub aligned : ℕ → GlobalCoord → Bool
aligned m o = eqb (remainder o.0 m) 0 && eqb (remainder o.1 m) 0 && eqb (remainder o.2 m) 0

-- whether two integers, and two coordinates, are the same
unfoldable pub same_int : ℤ → ℤ → Bool
same_int (pos a) (pos b) = eqb a b
same_int (pos a) (negsuc b) = false
same_int (negsuc a) (pos b) = false
same_int (negsuc a) (negsuc b) = eqb a b

unfoldable pub same_coord : GlobalCoord → GlobalCoord → Bool
same_coord a b = same_int a.0 b.0 && (same_int a.1 b.1 && same_int a.2 b.2)

-- an origin read from the file
abbrev pub origin_of : IVec3 → GlobalCoord
origin_of v = (v.x, v.y, v.z)
