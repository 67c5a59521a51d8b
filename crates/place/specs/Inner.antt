-- Inner matter: only contracts of inner functions cite it, and nothing here has to be believed.
-- What a walk hands out from where it stands, whatever its words are, piece after piece. That from a grid's start on this is the grid's active list,
-- and that it does not matter how the calls are cut, is proved in proofs/List.antt and proofs/Cut.antt.
use Rattle.std.specs.Prelude.{ℕ, ◌+◌, ◌-◌, ◌*◌, ◌≤◌, ◌≡◌, List, [], ◌∷◌, ◌++◌, Bool, ◌&&◌, eqb, ltb, pos, length, Option, None, Some, Result, Ok, Err}
use Rattle.fields.specs.Parse.{when}
use Rattle.fields.specs.declared.ParseError.{ParseError}
use Rattle.fields.specs.declared.ParseError.TheVariants.{ForeignPlace}
use Rattle.half.specs.Inner.{IsWidth}
use Rattle.runs.specs.Runs.{number_of}
use Rattle.forms.specs.declared.Coding.{Coding}
use Rattle.forms.specs.declared.Stored.{Stored}
use Rattle.forms.specs.declared.Stored.TheVariants.{Every, Active, Childless}
use Rattle.tree.specs.Active.{Record, Piece}
use Rattle.tree.specs.Inner.{record_count}
use Rattle.slots.specs.Slots.{Slots, laid_from}
use Rattle.slots.specs.Inner.{mask_bytes, standing}
use Rattle.bits.specs.Inner.{Handed}
use Rattle.records.specs.Inner.{hand_piece}
use Rattle.slots.specs.declared.Inside.{Inside}
use Rattle.cursor.specs.Inner.{Stop, between_roots, to_come, piece_of, HeldPiece}
use Rattle.cursor.specs.declared.Cursor.{Cursor}
use Rattle.cursor.specs.declared.Piece.{Piece as CodePiece}
use Rattle.skip.specs.Inner.{Skip, before, ended, refused}
use Rattle.place.specs.declared.Start.{Start}
use Rattle.place.specs.declared.Place.{Place}
use Rattle.place.specs.declared.Stand.{Stand}

-- which places of a piece are stored, as the number that a walk keeps
abbrev pub stored_number : Stored → ℕ
stored_number Every = 0
stored_number Active = 1
stored_number Childless = 2

-- a walk before a piece's first place
abbrev pub entered : Piece → Inside
entered q = record {
  level = q.level;
  origin = q.origin;
  child_mask = q.child;
  value_mask = q.value;
  stored = stored_number q.values.stored;
  start = q.values.start;
  from = 0;
  number = 0;
}

-- a walk in no piece: it stands as if behind the last place of a leaf, and nothing of it is read
abbrev pub nowhere : Inside
nowhere = record { level = 0; origin = (pos 0, pos 0, pos 0); child_mask = 0; value_mask = 0; stored = 0; start = 0; from = 512; number = 0 }

-- What is handed out, and where the walk stands behind it.
pub record Course : Type 0 where
  pub records : List Record
  pub cursor : Cursor
  pub inside : Inside

abbrev pub stopped : Handed → Cursor → Course
stopped h x = record { records = h.records; cursor = x; inside = h.inside }

abbrev pub join : List Record → Course → Course
join rs a = record { records = rs ++ a.records; cursor = a.cursor; inside = a.inside }

-- h was handed out of the piece before the cursor x, of which ts is to come. Where more is wanted and nothing lay past the end, the next piece follows.
unfoldable pub course : List ℕ → Coding → ℕ → Handed → Cursor → List Stop → Course
course s c want h x [] = stopped h x
course s c want h x (t ∷ ts) =
    when (h.whole && ltb (length h.records) want)
    (join h.records
    (course s c (want - length h.records) (hand_piece s c (want - length h.records) (entered t.piece)) t.behind ts))
    (stopped h x)

-- the stops whose pieces list a record, all and those that a cursor still hands out
unfoldable pub listing : List ℕ → List Stop → List Stop
listing s [] = []
listing s (t ∷ ts) = when (eqb (record_count s t.piece) 0) (listing s ts) (t ∷ listing s ts)

abbrev pub listing_from : List ℕ → Coding → Cursor → List Stop
listing_from s c x = listing s (to_come s c x).items

-- so many records from here on
abbrev pub hand_on : List ℕ → Coding → ℕ → Cursor → Inside → Course
hand_on s c want x w = course s c want (hand_piece s c want w) x (listing_from s c x)

-- a walk before its first record
abbrev pub fresh_place : Start → Place
fresh_place t = record { start = t; left = t.length; cursor = between_roots t.root_count t.roots_pos t.block_pos; inside = nowhere }

-- the same walk, with this many records left, standing there
abbrev pub moved : Place → ℕ → Cursor → Inside → Place
moved p left x w = record { start = p.start; left = left; cursor = x; inside = w }

-- what the code's answer says: the next piece that lists a record, and what the cursor behind it still hands out; or nothing, refused or not
abbrev pub says_listed : List ℕ → Coding → Result (Option (CodePiece × Cursor)) ParseError → List Stop
says_listed s c (Ok (Some (q, x))) = record { piece = piece_of q; behind = x } ∷ listing_from s c x
says_listed s c (Ok None) = []
says_listed s c (Err e) = []

-- where the walk stands in the next piece, if it goes on: all was whole, slots are left, and a piece is to come
unfoldable pub next_stand : Bool → ℕ → ℕ → List Stop → Option Stand
next_stand whole filled limit [] = None
next_stand whole filled limit (t ∷ ts) = when (whole && ltb filled limit) (Some (record { cursor = t.behind; inside = entered t.piece; filled = filled })) None

-- what the code's answer says: the slots hold what is handed out, from the first one on
pub record HandedOn (a : Course) (before after : Slots) (r : Stand) : Type 0 where
  pub cursor : r.cursor ≡ a.cursor
  pub inside : r.inside ≡ a.inside
  pub filled : r.filled ≡ length a.records
  pub slots : after ≡ laid_from before 0 a.records

-- The place of a walk after m records.
unfoldable pub place_from : List ℕ → Start → ℕ → Place
place_from s t m = moved (fresh_place t) (t.length - m) a.cursor a.inside
  where
    a : Course
    a = hand_on s t.coding m (fresh_place t).cursor nowhere

-- Where a walk can stand: behind the places of a piece, as one in no piece does, or at a place of a piece that can be read from, and as many stored
-- places are passed as the piece has before that place.
abbrev pub at_place : List ℕ → Piece → ℕ → Inside
at_place s q p = standing (entered q) p (number_of s q.values.stored q.child q.value p)

pub data Stands (s : List ℕ) (c : Coding) : Inside → Type 0 where
  behind : {w : Inside} → 8 * mask_bytes w.level ≤ w.from → Stands s c w
  within : {w : Inside} (q : Piece) (p : ℕ) → HeldPiece s c q → w ≡ at_place s q p → Stands s c w

-- where a course ends
abbrev pub stand_of : Course → Cursor × Inside
stand_of a = (a.cursor, a.inside)

-- Behind the next record, when pieces were passed: it is in the first piece that did not fit, and of its records so many come before it.
abbrev pub behind_of : List ℕ → Coding → Skip → Option (Cursor × Inside)
behind_of s c (before t n k) = Some (t.behind, (hand_piece s c (n + 1) (entered t.piece)).inside)
behind_of s c (ended n k) = None
behind_of s c (refused j) = None

-- b is where a walk that can stand so, and has k records before it, ends behind them
abbrev pub EndsAt : List ℕ → Coding → ℕ → Cursor → Inside → Option (Cursor × Inside) → Type 0
EndsAt s c k x w b = Stands s c w → k ≤ length (hand_on s c k x w).records → b ≡ Some (stand_of (hand_on s c k x w))

-- The walk of a place over the bytes s stands, and has k records before it.
pub record Walking (s : List ℕ) (p : Place) (k : ℕ) : Type 0 where
  pub width : IsWidth p.start.coding.width
  pub stands : Stands s p.start.coding p.inside
  pub listed : k ≤ length (hand_on s p.start.coding k p.cursor p.inside).records

-- k more records are passed, and the walk stands behind them
abbrev pub walked_on : List ℕ → Place → ℕ → Place
walked_on s p k = moved p (p.left - k) a.cursor a.inside
  where
    a : Course
    a = hand_on s p.start.coding k p.cursor p.inside

-- whatever the words are: the same walk with k fewer records left, or 22
abbrev pub StepsOr22 : Place → ℕ → Result Place ParseError → Type 0
StepsOr22 p k (Ok q) = q ≡ moved p (p.left - k) q.cursor q.inside
StepsOr22 p k (Err e) = e ≡ ForeignPlace

-- A step over k records from the place p.
pub record Steps (s : List ℕ) (p : Place) (k : ℕ) (r : Result Place ParseError) : Type 0 where
  pub reached : Walking s p k → r ≡ Ok (walked_on s p k)
  pub any : StepsOr22 p k r
