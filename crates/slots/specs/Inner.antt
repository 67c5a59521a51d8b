-- Inner matter: only contracts of inner functions cite it, and nothing here has to be believed.
-- Where a walk stands in a piece, what a reader of its values asks, and the records of places that are all active.
use Rattle.std.specs.Prelude.{◌≡◌, List, [], ◌∷◌, ◌++◌, true, ℕ, zero, suc, ◌+◌, ◌-◌, ◌*◌, ◌/◌, ◌≤◌, length, ℤ}
use Rattle.forms.specs.declared.Coding.{Coding}
use Rattle.half.specs.Inner.{IsWidth}
use Rattle.coordinates.specs.Coordinates.{index, global_of, aligned, places}
use Rattle.coordinates.specs.declared.GlobalCoord.{GlobalCoord}
use Rattle.batch.specs.Inner.{numbered}
use Rattle.tree.specs.Active.{Record, side_of, edge_of}
use Rattle.slots.specs.declared.Axis.{Axis}
use Rattle.slots.specs.declared.Axis.TheVariants.{X, Y, Z}
use Rattle.slots.specs.Slots.{Slots}
use Rattle.slots.specs.declared.Inside.{Inside}

-- all five have slots up to n
pub record Room (n : ℕ) (t : Slots) : Type 0 where
  pub in-x : n ≤ length t.x
  pub in-y : n ≤ length t.y
  pub in-z : n ≤ length t.z
  pub in-level : n ≤ length t.level
  pub in-value : n ≤ length t.value

abbrev pub record_of : GlobalCoord → ℕ → ℕ → Record
record_of o l v = record { corner = o; level = l; value = v }

-- How many bytes a piece's masks have, by its level.
abbrev pub mask_bytes : ℕ → ℕ
mask_bytes level = places (edge_of level) / 8

-- how many stored values of a run that starts here can lie in the file
abbrev pub room_of : List ℕ → Coding → ℕ → ℕ
room_of s c start = (length s - start) / c.width

-- a walk behind the places before p, k of which are stored
abbrev pub standing : Inside → ℕ → ℕ → Inside
standing w p k = record {
  level = w.level;
  origin = w.origin;
  child_mask = w.child_mask;
  value_mask = w.value_mask;
  stored = w.stored;
  start = w.start;
  from = p;
  number = k;
}

-- What a reader of a piece's values asks: a width of 2 or 4, how many values the file has room for, and an origin that is a multiple of the piece's
-- span; and no more stored places are passed than places.
pub record Readable (s : List ℕ) (c : Coding) (room : ℕ) (w : Inside) : Type 0 where
  pub width : IsWidth c.width
  pub values : room ≡ room_of s c w.start
  pub multiple : aligned (edge_of w.level * side_of w.level) w.origin ≡ true
  pub number : w.number ≤ w.from

-- the corner of the k-th place from the next one on
abbrev pub corner_at : Inside → ℕ → GlobalCoord
corner_at w k = global_of (edge_of w.level) (side_of w.level) w.origin (index (w.from + k))

-- the records of the next n places, if all are active
unfoldable pub run_of : List ℕ → Coding → Inside → ℕ → List Record
run_of s c w zero = []
run_of s c w (suc n) = run_of s c w n ++ record_of (corner_at w n) w.level (numbered s c w.start w.number n) ∷ []

-- a coordinate along an axis
abbrev pub axis_of : GlobalCoord → Axis → ℤ
axis_of o X = o.0
axis_of o Y = o.1
axis_of o Z = o.2
