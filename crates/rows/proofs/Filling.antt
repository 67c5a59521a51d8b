-- A row that is filled call by call of the core: what stands in its first slots, and what the whole call says.
use mathlib.Core.Path.{◌≡◌, refl, sym, ap, ◌∙◌}
use mathlib.Core.List.{List, [], ◌++◌, map, map-append, append_assoc}
use Prim.Native.Nat.{ℕ, zero, suc, ◌+◌, ◌-◌, ◌≤◌, ◌<◌, min}
use native.Mathlib.Nat.{zero-add}
use native.Mathlib.Omega.{arith}
use lib.IntN.{ℤ}
use borrow.Rule.Slice.PartMut.{put_mid, post_of, Post-is}
use lib.ListN.{length, take, drop, length-map, length-take, length-drop, length-append, get_or-append}
use lib.Seq.{sets, sets-eq, length-sets, length_front}
use borrow.Author.Tests.{eq-eqb, ne_eqb}
use Rattle.std.proofs.Common.{Result, Ok, Err}
use Rattle.fields.specs.Parse.{when}
use Rattle.fields.specs.declared.ParseError.{ParseError}
use Rattle.tree.specs.Active.{Record}
use Rattle.slots.specs.Slots.{Slots, slots_of, slot_count}
use Rattle.place.specs.declared.Place.{Place}
use Rattle.walk.specs.Walk.{Promise}
use Rattle.walk.specs.Demand3.{rows}
use Rattle.walk.specs.declared.Walked.{Walked}
use Rattle.rows.specs.Rows.{row_of, columns}
use Rattle.rows.specs.Inner.{Says, counted, together}
use Rattle.rows.specs.declared.Record.{Record as Row}
use Rattle.rows.proofs.Columns.{sets-append, columns-count, columns-sets, rows-length}
use Rattle.rows.proofs.Says.{says_of, promise-of, start, Whole, whole-start, over, onward, filled-up}

-- the first slots are the same where a slice goes on behind them
rows-front : (x y z : List ℤ) (level value more : List ℕ) (i n : ℕ) → i + n ≤ length value → rows (slots_of x y z level (value ++ more)) i n ≡ rows (slots_of x y z level value) i n
unfolding rows
rows-front x y z level value more i zero h = refl
rows-front x y z level value more i (suc n) h =
    let l : i < length value = omega arith in
    rw (get_or-append value more 0 i l, rows-front x y z level value more (suc i) n (omega arith))

-- The row xs while it is filled; it is ys now. The call would answer w if the walk were over here, and rs are the records in the filled slots.
pub record Filling (s : List ℕ) (p : Place) (xs : List Row) (w : Walked) (ys : List Row) : Type 0 where
  pub rs : List Record
  pub many : w.filled ≡ length rs
  pub few : w.filled ≤ length xs
  pub left : w.left ≡ w.place.left
  pub stored : ys ≡ sets xs 0 (map row_of rs)
  pub whole : Whole s p (length xs) w rs

pub begin : (s : List ℕ) (p : Place) (xs : List Row) → Filling s p xs (start p) xs
begin s p xs = record { rs = []; many = refl; few = omega arith; left = refl; stored = refl; whole = whole-start s p (length xs) }

module _ {s : List ℕ} {p : Place} {xs : List Row} {w : Walked} {ys : List Row} (f : Filling s p xs w ys) where
  -- what is said of the records in the filled slots is promised of the row
  promised : {r : Result Walked ParseError} → Says s p (length xs) r f.rs → Promise s p (columns xs) r (columns ys)
  promised q = promise-of {rs = f.rs} (rw columns-count q) (rw f.stored (columns-sets xs 0 f.rs))

  long : length ys ≡ length xs
  long = ap length f.stored ∙ length-sets xs 0 (map row_of f.rs)

  -- no slot is left
  pub full : length ys ≤ w.filled → Promise s p (columns xs) (Ok w) (columns ys)
  full h = promised (filled-up s p (length xs) w f.rs f.whole (omega (arith, long)) f.left)

  -- One more call of the core, for as many slots as are left, but no more than 64.
  module _ (t : Slots) (more : w.filled < length ys) (lent : slot_count t ≡ min (length ys - w.filled) 64) where
    abbrev k : ℕ
    k = slot_count t

    some : 0 < k
    some = omega (arith, lent)

    few : k ≤ length xs - w.filled
    few = omega (arith, lent, long)

    module _ {t' : Slots} {x : ParseError} (q : Promise s w.place t (Err x) t') where
      refused : Promise s p (columns xs) (together w (Err x)) (columns ys)
      refused = promised (over s p (length xs) w f.rs f.whole some few (Err x) [] (says_of s w.place t (Err x) t' q) refl)

      -- where nothing is filled, and where something is
      pub refused-first : w.filled ≡ 0 → Promise s p (columns xs) (Err x) (columns ys)
      unfolding when
      refused-first z = rw (eq-eqb w.filled 0 z) at refused

      pub refused-later : (w.filled ≡ 0 → ⊥) → Promise s p (columns xs) (Ok w) (columns ys)
      unfolding when
      refused-later n = rw (ne_eqb w.filled 0 n) at refused

    module _ {t' : Slots} {v : Walked} (q : Promise s w.place t (Ok v) t') where
      says : Says s w.place k (Ok v) (rows t' 0 v.filled)
      says = says_of s w.place t (Ok v) t' q

      pub no_more : v.filled ≤ min (length ys - w.filled) 64
      no_more = let d = says.some-records v refl in omega (arith, d.1, lent)

      -- the records are stored behind the first ones
      module _ {ys' : List Row} (stored : ys' ≡ sets ys w.filled (map row_of (rows t' 0 v.filled))) where
        all : ys' ≡ sets xs 0 (map row_of (f.rs ++ rows t' 0 v.filled))
        all = stored ∙ rw (f.stored, f.many, map-append, sets-append, length-map, zero-add)

        pub goes_on : (v.filled ≡ 0 → ⊥) → Filling s p xs (counted w v) ys'
        goes_on n =
            record {
              rs = f.rs ++ rows t' 0 v.filled;
              many = rw length-append (omega (arith, f.many, rows-length t' 0 v.filled));
              few = omega (arith, no_more, long);
              left = sym (q.left_behind v refl).in_place;
              stored = all;
              whole = onward s p (length xs) w f.rs f.whole some few says (omega (arith, n));
            }

        pub ended : v.filled ≡ 0 → Promise s p (columns xs) (Ok (counted w v)) (columns ys')
        unfolding rows
        ended z =
            let e : ys' ≡ ys = rw z at stored in
            rw e (promised (over s p (length xs) w f.rs f.whole some few (Ok v) _ says (rows-length t' 0 v.filled ∙ z)))

-- The five slices of 64 numbers that the core fills.
pub record Scratch (t : Slots) : Type 0 where
  pub in-x : length t.x ≡ 64
  pub in-y : length t.y ≡ 64
  pub in-z : length t.z ≡ 64
  pub in-level : length t.level ≡ 64
  pub in-value : length t.value ≡ 64

-- the last is cut to as many as are wanted
pub lent-count : (t : Slots) (k m : ℕ) → Scratch t → k ≡ min m 64 → slot_count (slots_of t.x t.y t.z t.level (take k t.value)) ≡ min m 64
lent-count t k m s e = omega (arith, s.in-x, s.in-y, s.in-z, s.in-level, s.in-value, length-take k t.value)

pub lent-long : (k m : ℕ) (v v' : List ℕ) → k ≡ min m 64 → length v ≡ 64 → length v' ≡ length (take k v) → min m 64 ≤ length v'
lent-long k m v v' e l h = omega (arith, length-take k v)

pub scratch-back :
    (t : Slots) (k : ℕ) (x y z : List ℤ) (level value : List ℕ) → Scratch t → length x ≡ length t.x → length y ≡ length t.y → length z ≡ length t.z →
    length level ≡ length t.level → length value ≡ length (take k t.value) → Scratch (slots_of x y z level (value ++ drop k t.value))
scratch-back t k x y z level value s a b c d e =
    record { in-x = a ∙ s.in-x; in-y = b ∙ s.in-y; in-z = c ∙ s.in-z; in-level = d ∙ s.in-level; in-value = length_front t.value value k e ∙ s.in-value }

pub scratch-room : (t : Slots) (n : ℕ) → Scratch t → n ≤ 64 → n ≤ slot_count t
scratch-room t n s h = omega (arith, s.in-x, s.in-y, s.in-z, s.in-level, s.in-value)

-- records that are stored in a part of the row
stored-behind : (ys : List Row) (at n : ℕ) (rs : List Row) → at + n ≤ length ys → length rs ≡ n → put_mid at (at + n - at) ys rs ≡ sets ys at rs
stored-behind ys at n rs h l =
    let e : at + n ≡ at + length rs = omega arith in
    let d : post_of at (at + n - at) ys ≡ drop (at + length rs) ys = Post-is at (at + n) ys (omega arith) ∙ ap (λ (k : ℕ). drop k ys) e in
    ap (λ (r : List Row). take at ys ++ (rs ++ r)) d ∙ sym (append_assoc (take at ys) rs (drop (at + length rs) ys)) ∙ sym (sets-eq rs ys at (omega arith))

pub behind :
    (ys : List Row) (at n : ℕ) (x y z : List ℤ) (level value more : List ℕ) {row : List Row} → at + n ≤ length ys → n ≤ length value →
    row ≡ map row_of (rows (slots_of x y z level (value ++ more)) 0 (length (take (at + n - at) (drop at ys)))) →
    put_mid at (at + n - at) ys row ≡ sets ys at (map row_of (rows (slots_of x y z level value) 0 n))
behind ys at n x y z level value more h l e =
    let m : length (take (at + n - at) (drop at ys)) ≡ n = omega (arith, length-take (at + n - at) (drop at ys), length-drop at ys) in
    let f = e ∙ ap (λ (k : ℕ). map row_of (rows (slots_of x y z level (value ++ more)) 0 k)) m ∙ ap (map row_of) (rows-front x y z level value more 0 n (omega arith)) in
    rw f (stored-behind ys at n _ h (length-map (rows (slots_of x y z level value) 0 n) row_of ∙ rows-length (slots_of x y z level value) 0 n))
