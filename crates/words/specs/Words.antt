-- Section 7: a walk's place as 40 words of 64 bits.
use Rattle.std.specs.Prelude.{ℕ, ◌+◌, ◌-◌, ◌%◌, ◌≡◌, Bool, true, List, [], ◌∷◌, ◌++◌, eqb, ℤ, pos, negsuc, get_or}
use Rattle.fields.specs.Le.{signed}
use Rattle.coordinates.specs.declared.GlobalCoord.{GlobalCoord}
use Rattle.cursor.specs.declared.Cursor.{Cursor}
use Rattle.cursor.specs.declared.Entered.{Entered}
use Rattle.slots.specs.declared.Inside.{Inside}
use Rattle.place.specs.declared.Start.{Start}
use Rattle.place.specs.declared.Place.{Place}

-- a signed number's pattern of 64 bits in two's complement
abbrev pub pattern : ℤ → ℕ
pattern (pos n) = n
pattern (negsuc n) = 0xffff_ffff_ffff_ffff - n

-- The place that 40 words stand for. A position or a length is a whole word, a smaller number the low 32 bits of one, a coordinate these in two's
-- complement.
abbrev pub low32 : ℕ → ℕ
low32 w = w % 0x1_0000_0000

abbrev pub coords_by : ℕ → ℕ → ℕ → GlobalCoord
coords_by x y z = (signed 31 (low32 x), signed 31 (low32 y), signed 31 (low32 z))

abbrev pub entered_by : ℕ → ℕ → ℕ → ℕ → ℕ → Entered
entered_by x y z at next = record { origin = coords_by x y z; pos = at; next = low32 next }

abbrev pub at : List ℕ → ℕ → ℕ
at w i = get_or w i 0

-- The first word is the number of the words' layout, so that words that a library of another layout wrote can be told apart.
abbrev pub layout : ℕ
layout = 1

abbrev pub has_layout : List ℕ → Bool
has_layout w = eqb (at w 0) layout

-- what a walk starts from, by the ten words from word k on
unfoldable pub start_by : List ℕ → ℕ → Start
start_by w k = record {
  coding = record { version = low32 (at w k); flags = low32 (at w (k + 1)); width = at w (k + 2); background = low32 (at w (k + 3)) };
  tiles_pos = at w (k + 4);
  tile_count = low32 (at w (k + 5));
  roots_pos = at w (k + 6);
  root_count = low32 (at w (k + 7));
  block_pos = at w (k + 8);
  length = at w (k + 9);
}

-- the cursor from word k on, and the place in a piece
unfoldable pub cursor_by : List ℕ → ℕ → Cursor
cursor_by w k = record {
  depth = low32 (at w k);
  roots_left = low32 (at w (k + 1));
  node5 = entered_by (at w (k + 2)) (at w (k + 3)) (at w (k + 4)) (at w (k + 5)) (at w (k + 6));
  node4 = entered_by (at w (k + 7)) (at w (k + 8)) (at w (k + 9)) (at w (k + 10)) (at w (k + 11));
  topology_pos = at w (k + 12);
  block_pos = at w (k + 13);
}

unfoldable pub inside_by : List ℕ → ℕ → Inside
inside_by w k = record {
  level = low32 (at w k);
  origin = coords_by (at w (k + 1)) (at w (k + 2)) (at w (k + 3));
  child_mask = at w (k + 4);
  value_mask = at w (k + 5);
  stored = low32 (at w (k + 6));
  start = at w (k + 7);
  from = low32 (at w (k + 8));
  number = at w (k + 9);
}

unfoldable pub place_by : List ℕ → Place
place_by w = record { start = start_by w 1; left = at w 11; cursor = cursor_by w 12; inside = inside_by w 26 }

-- words of this layout stand for a place
abbrev pub StandFor : List ℕ → Place → Type 0
StandFor w p = (has_layout w ≡ true) × (place_by w ≡ p)

-- A place's words, in the same order.
abbrev pub start_words : Start → List ℕ
start_words t =
    t.coding.version ∷ t.coding.flags ∷ t.coding.width ∷ t.coding.background ∷ t.tiles_pos ∷ t.tile_count ∷ t.roots_pos ∷ t.root_count
    ∷ t.block_pos ∷ t.length ∷ []

abbrev pub coord_words : GlobalCoord → List ℕ
coord_words o = pattern o.0 ∷ pattern o.1 ∷ pattern o.2 ∷ []

abbrev pub entered_words : Entered → List ℕ
entered_words e = coord_words e.origin ++ e.pos ∷ e.next ∷ []

abbrev pub cursor_words : Cursor → List ℕ
cursor_words c = c.depth ∷ c.roots_left ∷ entered_words c.node5 ++ entered_words c.node4 ++ c.topology_pos ∷ c.block_pos ∷ []

abbrev pub inside_words : Inside → List ℕ
inside_words w = w.level ∷ coord_words w.origin ++ w.child_mask ∷ w.value_mask ∷ w.stored ∷ w.start ∷ w.from ∷ w.number ∷ []

-- the last four are 0: room for what a later place may hold
unfoldable pub words_of : Place → List ℕ
words_of p = layout ∷ start_words p.start ++ p.left ∷ cursor_words p.cursor ++ inside_words p.inside ++ 0 ∷ 0 ∷ 0 ∷ 0 ∷ []
