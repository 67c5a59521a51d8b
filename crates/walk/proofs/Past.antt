-- Past the file's end nothing is handed out.
use mathlib.Core.Path.{◌≡◌, refl}
use mathlib.Core.List.{List, [], ◌∷◌}
use mathlib.Core.Bool.{Bool, true, false}
use Prim.Native.Nat.{ℕ, zero, suc, ◌+◌, ◌<◌}
use lib.Dec.{ltb, eqb}
use lib.ListN.{length}
use borrow.Author.Tests.{ltb-true, ltb-false, lt-leb, le-leb}
use Rattle.fields.specs.Parse.{when}
use Rattle.fields.specs.Fields.{i_vec3_at}
use Rattle.fields.proofs.Laws.{field_past}
use Rattle.coordinates.specs.Coordinates.{places}
use Rattle.forms.specs.declared.Coding.{Coding}
use Rattle.tree.specs.Active.{edge_of}
use Rattle.bits.specs.Inner.{cut_off}
use Rattle.records.specs.Inner.{hand_piece}
use Rattle.slots.specs.declared.Inside.{Inside}
use Rattle.records.proofs.Pieces.{no-value-mask}
use Rattle.slots.proofs.Levels.{masked}
use Rattle.cursor.specs.Inner.{Stop, Onward, after, children_of, rest4, rest5, roots_rest, to_come}
use Rattle.cursor.specs.declared.Cursor.{Cursor}
use Rattle.cursor.specs.declared.Entered.{Entered}
use Rattle.cursor.proofs.Laws.{entered-outside}
use Rattle.place.specs.Inner.{course, listing}
use Rattle.place.specs.declared.Place.{Place}
use Rattle.walk.specs.Walk.{needed_next}
use Rattle.walk.specs.Inner.{course_from}

-- between roots nothing is to come where the next root's origin does not lie in the file
no-roots : (s : List ℕ) (c : Coding) (left at block : ℕ) → length s < at + 12 → (roots_rest s c left at block).items ≡ []
unfolding roots_rest after
no-roots s c zero at block h = refl
no-roots s c (suc n) at block h = rw (← field_past s at 12 (i_vec3_at s at) h)

-- nor in a node whose child mask does not lie in the file
no-children :
    (s : List ℕ) (m n : ℕ) (f : ℕ → Onward → Onward) (w : Entered) (k : Onward) (at block : ℕ) → length s < w.pos + n → (children_of s m n f w k at block).items ≡ []
unfolding children_of when
no-children s m n f w k at block h = rw (← entered-outside s m n w h)

-- behind a piece that is cut off nothing follows
cut-there : (s : List ℕ) (c : Coding) (want : ℕ) (w : Inside) (x : Cursor) (ts : List Stop) → (course s c want (cut_off w) x ts).records ≡ []
unfolding course when
cut-there s c want w x [] = refl
cut-there s c want w x (t ∷ ts) = refl

-- A place from which the field that is needed next lies past the file's end.
module _ (s : List ℕ) (p : Place) (k : ℕ) (past : length s < (needed_next p).start + (needed_next p).bytes) where
  -- whether the piece that the walk stands in has places left
  abbrev more : Bool
  more = ltb p.inside.from (places (edge_of p.inside.level))

  -- where it has none, no piece is to come
  none-to-come : more ≡ false → (to_come s p.start.coding p.cursor).items ≡ []
  unfolding needed_next to_come rest5 rest4 when
  none-to-come e = go (eqb p.cursor.depth 0) (eqb p.cursor.depth 1) refl refl
    where
      go : (a b : Bool) → eqb p.cursor.depth 0 ≡ a → eqb p.cursor.depth 1 ≡ b → (to_come s p.start.coding p.cursor).items ≡ []
      go true b d f = rw d (no-roots s _ _ _ _ (rw (e, d) at past))
      go false true d f = rw (d, f) (no-children s _ _ _ _ _ _ _ (rw (e, d, f) at past))
      go false false d f = rw (d, f) (no-children s _ _ _ _ _ _ _ (rw (e, d, f) at past))

  -- no record is handed out
  pub nothing-there : (course_from s p k).records ≡ []
  unfolding needed_next hand_piece course listing when
  nothing-there = go more refl
    where
      go : (t : Bool) → more ≡ t → (course_from s p k).records ≡ []
      go true e = rw ((masked p.inside.level).bits, lt-leb _ _ (ltb-true _ _ e), ← no-value-mask s p.inside (rw e at past), cut-there)
      go false e = rw (none-to-come e, (masked p.inside.level).bits, le-leb _ _ (ltb-false _ _ e))
