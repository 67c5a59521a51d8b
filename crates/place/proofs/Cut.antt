-- A walk may be cut anywhere: m records and then k hand out what m + k do, and end at the same place.
use mathlib.Core.Path.{◌≡◌, refl}
use mathlib.Core.List.{List, [], ◌∷◌, ◌++◌, append_assoc}
use mathlib.Core.Bool.{Bool, true, false, ◌&&◌, and-false}
use Prim.Native.Nat.{ℕ, ◌+◌, ◌-◌, ◌≤◌}
use native.Mathlib.Omega.{arith}
use lib.Dec.{ltb}
use lib.ListN.{length, length-append}
use borrow.Author.Tests.{lt-ltb, le-ltb, ltb-true, ltb-false}
use Rattle.fields.specs.Parse.{when}
use Rattle.half.specs.Inner.{IsWidth}
use Rattle.forms.specs.declared.Coding.{Coding}
use Rattle.bits.specs.Inner.{Handed}
use Rattle.records.specs.Inner.{follow, hand_piece}
use Rattle.slots.specs.declared.Inside.{Inside}
use Rattle.records.proofs.Cut.{Cut, full, short, piece_cut}
use Rattle.cursor.specs.Inner.{Stop}
use Rattle.cursor.specs.declared.Cursor.{Cursor}
use Rattle.place.specs.Inner.{Course, entered, stopped, join, listing_from, course, hand_on}
use Rattle.place.proofs.Listing.{first-listed}

-- the same added to both sides changes no test
less-on : (m a b : ℕ) → ltb (m + a) (m + b) ≡ ltb a b
less-on m a b = go (ltb a b) refl
  where
    go : (t : Bool) → ltb a b ≡ t → ltb (m + a) (m + b) ≡ t
    go true e = lt-ltb (m + a) (m + b) (omega (arith, ltb-true a b e))
    go false e = le-ltb (m + a) (m + b) (omega (arith, ltb-false a b e))

module _ (s : List ℕ) (c : Coding) where
  -- a walk stops where no more is wanted
  pub course-full : (m : ℕ) (h : Handed) (x : Cursor) (ts : List Stop) → length h.records ≡ m → course s c m h x ts ≡ stopped h x
  unfolding course when
  course-full m h x [] l = refl
  course-full m h x (t ∷ ts) l = rw (le-ltb (length h.records) m (omega arith), and-false)

  -- m records that are handed out first stand in front, and the walk goes on as if k were wanted
  course-join : (m k : ℕ) (h g : Handed) (x : Cursor) (ts : List Stop) → length h.records ≡ m → course s c (m + k) (follow h g) x ts ≡ join h.records (course s c k g x ts)
  unfolding course when
  course-join m k h g x [] l = refl
  course-join m k h g x (t ∷ ts) l =
      let n : m + k - (m + length g.records) ≡ k - length g.records = omega arith in
      rw (length-append, l, less-on m, n) (go (g.whole && ltb (length g.records) k) _)
    where
      go : (b : Bool) (a : Course) → when b (join (h.records ++ g.records) a) (stopped (follow h g) x) ≡ join h.records (when b (join g.records a) (stopped g x))
      go true a = rw append_assoc
      go false a = refl

module _ (s : List ℕ) (c : Coding) (wide : IsWidth c.width) (k : ℕ) where
  -- cut behind m records that are all of the piece before the cursor x
  cut-here :
      (ts : List Stop) (m : ℕ) (x : Cursor) (h : Handed) → length h.records ≡ m → ts ≡ listing_from s c x → let a = course s c m h x ts in
      course s c (m + k) (follow h (hand_piece s c k h.inside)) x ts ≡ join a.records (hand_on s c k a.cursor a.inside)
  cut-here ts m x h l d = rw (course-full s c m h x ts l, ← d) (course-join s c m k h _ x ts l)

  -- cut in this piece or in a later one
  course-cut :
      (ts : List Stop) (m : ℕ) (x : Cursor) (h H : Handed) → Cut (hand_piece s c k) m h H → ts ≡ listing_from s c x → let a = course s c m h x ts in
      length a.records ≡ m → course s c (m + k) H x ts ≡ join a.records (hand_on s c k a.cursor a.inside)
  unfolding course when
  course-cut [] m x h H (full l e) d n = rw e (cut-here [] m x h l d)
  course-cut [] m x h H (short l e) d n = absurd (omega arith)
  course-cut (t ∷ ts) m x h H (full l e) d n = rw e (cut-here (t ∷ ts) m x h l d)
  course-cut (t ∷ ts) m x h H (short l e) d n = rw e (go (course-cut ts i t.behind _ _ (piece_cut s c k i (entered t.piece)) (first-listed s c wide x d).1) h.whole refl)
    where
      i : ℕ
      i = m - length h.records

      go : let g = course s c i (hand_piece s c i (entered t.piece)) t.behind ts in
          (length g.records ≡ i → course s c (i + k) (hand_piece s c (i + k) (entered t.piece)) t.behind ts ≡ join g.records (hand_on s c k g.cursor g.inside)) →
          (b : Bool) → h.whole ≡ b → let a = course s c m h x (t ∷ ts) in course s c (m + k) h x (t ∷ ts) ≡ join a.records (hand_on s c k a.cursor a.inside)
      go later false f = absurd (omega (arith, rw f at n))
      go later true f =
          let j : m + k - length h.records ≡ i + k = omega arith in
          let z = simp (f, lt-ltb _ _ l, length-append) at n in
          rw (f, lt-ltb _ _ l, lt-ltb (length h.records) (m + k) (omega arith), j, later (omega arith), append_assoc)

-- A walk that is cut in two hands out the same and ends at the same place.
pub cut : (s : List ℕ) (c : Coding) → IsWidth c.width → (m k : ℕ) (x : Cursor) (w : Inside) → let a = hand_on s c m x w in
    length a.records ≡ m → hand_on s c (m + k) x w ≡ join a.records (hand_on s c k a.cursor a.inside)
cut s c wide m k x w = course-cut s c wide k (listing_from s c x) m x _ _ (piece_cut s c k m w) refl

-- No more is handed out than is wanted.
module _ (s : List ℕ) (c : Coding) where
  piece-most : (m : ℕ) (w : Inside) → length (hand_piece s c m w).records ≤ m
  piece-most m w = go (piece_cut s c 0 m w)
    where
      go : Cut (hand_piece s c 0) m (hand_piece s c m w) (hand_piece s c (m + 0) w) → length (hand_piece s c m w).records ≤ m
      go (full e d) = omega (arith, e)
      go (short l d) = omega (arith, l)

  course-most : (ts : List Stop) (want : ℕ) (h : Handed) (x : Cursor) → length h.records ≤ want → length (course s c want h x ts).records ≤ want
  unfolding course when
  course-most [] want h x l = l
  course-most (t ∷ ts) want h x l =
      go _ (h.whole && ltb (length h.records) want) (course-most ts (want - length h.records) _ t.behind (piece-most _ (entered t.piece)))
    where
      go : (a : Course) (b : Bool) → length a.records ≤ want - length h.records → length (when b (join h.records a) (stopped h x)).records ≤ want
      go a true k = rw (length-append h.records a.records) (omega (arith, k, l))
      go a false k = l

  pub hand-most : (m : ℕ) (x : Cursor) (w : Inside) → length (hand_on s c m x w).records ≤ m
  hand-most m x w = course-most (listing_from s c x) m _ x (piece-most m w)
