-- Laws of handing out: what is left to hand out from here is the whole; the next active place of a word, and the word behind it.
use mathlib.Core.Path.{◌≡◌, refl, sym, ap, ap₂, subst, ◌∙◌}
use mathlib.Core.List.{List, []}
use mathlib.Core.Bool.{Bool, true, false, not, cond, true≢false}
use Prim.Native.Nat.{ℕ, zero, suc, ◌+◌, ◌-◌, ◌*◌, ◌/◌, ◌^◌, ◌≤◌, ◌<◌}
use native.Mathlib.Nat.{add-zero, add-suc, suc-add, zero-add, lt_of_not-le, lt_of_lt_of_le}
use native.Mathlib.Numerals.{add-one}
use native.Mathlib.Omega.{arith}
use lib.Count.{count_trailing_zeros}
use lib.Dec.{eqb}
use lib.ListN.{length}
use lib.Pow.{pow_mono, shr_lt}
use borrow.Author.Tests.{lt-ltb, le-ltb}
use Rattle.fields.specs.Parse.{when}
use Rattle.masks.specs.Masks.{digit, mask_bit, ones_from, count_below}
use Rattle.masks.proofs.Laws.{ones_none, ones-nil, ones-ext, length-suc, length_shift, length-zeros}
use Rattle.masks.proofs.Digits.{digit_shift, digit-past, trailing-zero, trailing-one, trailing_lt}
use Rattle.forms.specs.declared.Coding.{Coding}
use Rattle.half.specs.Half.{stored_value}
use Rattle.coordinates.specs.Coordinates.{index, global_of}
use Rattle.coordinates.specs.declared.GlobalCoord.{GlobalCoord}
use Rattle.tree.specs.Active.{Record, side_of, edge_of}
use Rattle.slots.specs.Slots.{Slots, put, laid_from}
use Rattle.slots.specs.Inner.{record_of, room_of, standing, Readable}
use Rattle.bits.specs.Inner.{is_kept, record_here, Handed, nothing, cut_off, and_then, hand_out, skipped, Fills, AreBits, InWord, passed, shifted, past, hand_word, SumsFit, past_active}
use Rattle.slots.specs.declared.Inside.{Inside}
use Rattle.bits.specs.declared.Bits.{Bits}
use Rattle.bits.specs.declared.Run.{Run}
use Rattle.slots.proofs.Levels.{masked}
use Rattle.slots.proofs.Laws.{readable-on, Same, laid_same}

-- Handing out h from slot i on, into slots t, comes to the whole, H from slot j on into t₀.
pub record Going (i : ℕ) (h : Handed) (t : Slots) (j : ℕ) (H : Handed) (t₀ : Slots) : Type 0 where
  pub inside : h.inside ≡ H.inside
  pub filled : i + length h.records ≡ j + length H.records
  pub whole : h.whole ≡ H.whole
  pub slots : laid_from t i h.records ≡ laid_from t₀ j H.records

pub starts : (j : ℕ) (H : Handed) (t₀ : Slots) → Going j H t₀ j H t₀
starts j H t₀ = record { inside = refl; filled = refl; whole = refl; slots = refl }

module _ {i : ℕ} {h : Handed} {t : Slots} {j : ℕ} {H : Handed} {t₀ : Slots} (g : Going i h t j H t₀) where
  -- one more record
  pub goes : {r : Record} {h' : Handed} {t' : Slots} → h ≡ and_then r h' → t' ≡ put t i r → Going (i + 1) h' t' j H t₀
  unfolding laid_from
  goes {r} {h'} {t'} e d = go (rw e at g)
    where
      go : Going i (and_then r h') t j H t₀ → Going (i + 1) h' t' j H t₀
      go k =
          let n : i + 1 ≡ suc i = omega arith in
          record {
            inside = k.inside;
            filled = omega (arith, k.filled);
            whole = k.whole;
            slots = rw (d, n) k.slots;
          }

  -- the end
  pub ends : {w : Inside} {b : Bool} {r : Run} → h ≡ record { records = []; inside = w; whole = b } → r ≡ record { inside = w; filled = i; whole = b } → Fills j H t₀ t r
  unfolding laid_from
  ends {w} {b} {r} e d = rw d (go (rw e at g))
    where
      go : Going i (record { records = []; inside = w; whole = b }) t j H t₀ → Fills j H t₀ t (record { inside = w; filled = i; whole = b })
      go k =
          record {
            inside = k.inside;
            filled = omega (arith, k.filled);
            whole = k.whole;
            slots = k.slots;
          }

-- Nothing is wanted.
pub hand-full : (s : List ℕ) (c : Coding) (limit i : ℕ) (w : Inside) (j : ℕ) → limit ≤ i → hand_out s c (limit - i) w j ≡ nothing w
unfolding hand_out
hand-full s c limit i w zero h = refl
hand-full s c limit i w (suc j) h =
    let e : limit - i ≡ 0 = omega arith in
    rw e

-- Places that are not active are passed.
module _ (s : List ℕ) (c : Coding) (want : ℕ) where
  step-on : (w : Inside) (j : ℕ) → mask_bit s w.value_mask w.from ≡ false →
      hand_out s c (suc want) w (suc j) ≡ hand_out s c (suc want) (standing w (suc w.from) (w.number + cond (is_kept s w w.from) 1 0)) j
  unfolding hand_out when
  step-on w j e = rw e

  pub hand-gap :
      (z : ℕ) (w : Inside) (j : ℕ) → ((q : ℕ) → q < z → mask_bit s w.value_mask (w.from + q) ≡ false) →
      hand_out s c (suc want) w (z + j) ≡ hand_out s c (suc want) (standing w (w.from + z) (w.number + length (ones_from (is_kept s w) w.from z))) j
  unfolding is_kept
  hand-gap zero w j h = rw (zero-add, add-zero, ones_none (is_kept s w) w.from, add-zero)
  hand-gap (suc z) w j h =
      let k = w.number + cond (is_kept s w w.from) 1 0 in
      let later = hand-gap z (standing w (suc w.from) k) j (λ q l. rw (suc-add, ← add-suc) (h (suc q) (omega arith))) in
      let e : k + length (ones_from (is_kept s w) (suc w.from) z) ≡ w.number + length (ones_from (is_kept s w) w.from (suc z)) =
      omega (arith, length-suc (is_kept s w) w.from z) in
      let f : suc w.from + z ≡ w.from + suc z = omega arith in
      rw suc-add (step-on w (z + j) (rw add-zero at (h 0 (omega arith))) ∙ later ∙ ap₂ (λ (p n : ℕ). hand_out s c (suc want) (standing w p n) j) f e)

-- how many of them are stored
module _ (s : List ℕ) (w : Inside) (b z : ℕ) (none-active : (q : ℕ) → q < z → mask_bit s w.value_mask (w.from + q) ≡ false)
    (bits : (q : ℕ) → q < z → digit b q ≡ mask_bit s w.child_mask (w.from + q)) where
  pub skips : length (ones_from (is_kept s w) w.from z) ≡ skipped w.stored b z
  unfolding is_kept skipped when
  skips = go (eqb w.stored 0) (eqb w.stored 1)
    where
      child : ℕ → Bool
      child = mask_bit s w.child_mask

      all-kept : length (ones_from (λ p. true) w.from z) ≡ z
      all-kept = omega (arith, length-zeros (λ p. true) z w.from, ap length (ones-nil (λ p. false) z w.from (λ q l h. refl)))

      none_kept : length (ones_from (mask_bit s w.value_mask) w.from z) ≡ 0
      none_kept = ap length (ones-nil (mask_bit s w.value_mask) z w.from (λ q l h.
          let e : w.from + (q - w.from) ≡ q = omega arith in
          rw e at (none-active (q - w.from) (omega arith))))

      childless : length (ones_from (λ p. not (child p)) w.from z) ≡ z - count_below (digit b) z
      childless =
          let e : count_below (digit b) z ≡ length (ones_from child w.from z) =
          ap length (ones-ext (digit b) (λ q. child (w.from + q)) z 0 (λ q l h. bits q (omega arith))) ∙ rw add-zero at (length_shift child w.from z 0) in
          omega (arith, length-zeros child z w.from, e)

      go : (x y : Bool) → length (ones_from (λ p. when x true (when y (mask_bit s w.value_mask p) (not (child p)))) w.from z) ≡ when x z (when y 0 (z - count_below (digit b) z))
      go true y = all-kept
      go false true = none_kept
      go false false = childless

-- An active place: its record, or its value lies past the end.
module _ (s : List ℕ) (c : Coding) (want : ℕ) (w : Inside) (j : ℕ) (active : mask_bit s w.value_mask w.from ≡ true) where
  pub handed-one :
      w.number < room_of s c w.start →
      hand_out s c (suc want) w (suc j) ≡ and_then (record_here s c w) (hand_out s c want (standing w (suc w.from) (suc w.number)) j)
  unfolding hand_out when
  handed-one l = rw (active, lt-ltb _ _ l)

  pub handed-cut : room_of s c w.start ≤ w.number → hand_out s c (suc want) w (suc j) ≡ cut_off w
  unfolding hand_out when
  handed-cut l = rw (active, le-ltb _ _ l)

-- the lowest bit that is set is one of the bits that there are
pub inside-word : (j b : ℕ) → b < 2 ^ j → b < 2 ^ 64 → (b ≡ 0 → ⊥) → count_trailing_zeros 64 b < j
inside-word j b h g some-set = lt_of_not-le (λ l. true≢false (sym (trailing-one 64 b (trailing_lt 64 b g some-set)) ∙ digit-past j b _ h l))

-- bits shifted down by z
pub bits-past : {f : ℕ → Bool} {p j b : ℕ} (z : ℕ) → z ≤ j → AreBits f p j b → AreBits f (p + z) (j - z) (b / 2 ^ z)
bits-past {f} {p} {j} {b} z l h =
    let k : j ≡ j - z + z = omega arith in
    record {
      below = shr_lt (j - z) z (subst (λ (x : ℕ). b < 2 ^ x) k h.below);
      bits = λ q i.
          let e : p + (z + q) ≡ p + z + q = omega arith in
          digit_shift b z q ∙ rw e at (h.bits (z + q) (omega arith));
    }

-- A word: no place is active, or the lowest bit that is set is that of the next active place.
module _ (s : List ℕ) (b : Bits) (word : InWord s b) where
  -- z places, none of which is active, and then the others
  hand-past :
      (c : Coding) (want z : ℕ) → 0 < want → z ≤ b.left → ((q : ℕ) → q < z → digit b.ones q ≡ false) →
      hand_word s c want b ≡ hand_out s c (suc (want - 1)) (passed b z) (b.left - z)
  hand-past c want z h l clear =
      let w = b.inside in
      let n : want ≡ suc (want - 1) = omega arith in
      let k : b.left ≡ z + (b.left - z) = omega arith in
      let none-active : (q : ℕ) → q < z → mask_bit s w.value_mask (w.from + q) ≡ false = λ q i. sym (word.value-bits.bits q (omega arith)) ∙ clear q i in
      ap₂ (λ (m i : ℕ). hand_out s c m w i) n k ∙ hand-gap s c (want - 1) z w (b.left - z) none-active
      ∙ ap (λ (m : ℕ). hand_out s c (suc (want - 1)) (standing w (w.from + z) (w.number + m)) (b.left - z))
      (skips s w b.children z none-active (λ q i. word.child-bits.bits q (omega arith)))

  pub hand-none : (c : Coding) (want : ℕ) → 0 < want → b.ones ≡ 0 → hand_word s c want b ≡ nothing (passed b b.left)
  unfolding hand_out
  hand-none c want h e =
      let k : b.left - b.left ≡ 0 = omega arith in
      hand-past c want b.left h (omega arith) (λ q l. rw e (digit-past 0 0 q (omega arith) (omega arith))) ∙ rw k

  -- behind n places
  pub word-past : (n k : ℕ) → n ≤ b.left → InWord s (past b n k)
  word-past n k l =
      record {
        word = omega (arith, word.word);
        places = omega (arith, word.places);
        value-bits = bits-past n l word.value-bits;
        child-bits = bits-past n l word.child-bits;
      }

  pub ones_small : b.ones < 2 ^ 64
  ones_small = lt_of_lt_of_le word.value-bits.below (pow_mono word.word)

  module _ (some-active : b.ones ≡ 0 → ⊥) where
    abbrev gap : ℕ
    gap = count_trailing_zeros 64 b.ones

    pub gap-inside : gap < b.left
    gap-inside = inside-word b.left b.ones word.value-bits.below ones_small some-active

    pub word-active : InWord s (shifted b gap) × (mask_bit s b.inside.value_mask (b.inside.from + gap) ≡ true)
    word-active =
        let l = gap-inside in
        (word-past gap _ (omega arith), sym (word.value-bits.bits gap l) ∙ trailing-one 64 b.ones (trailing_lt 64 b.ones ones_small some-active))

    pub hand-active : (c : Coding) (want : ℕ) → 0 < want → hand_word s c want b ≡ hand_word s c want (shifted b gap)
    hand-active c want h =
        let l = gap-inside in
        let n : suc (want - 1) ≡ want = omega arith in
        hand-past c want gap h (omega arith) (λ q i. trailing-zero 64 b.ones q i) ∙ ap (λ (m : ℕ). hand_word s c m (shifted b gap)) n

  module _ (some_left : 0 < b.left) (c : Coding) (want : ℕ) (wanted : 0 < want) (active : mask_bit s b.inside.value_mask b.inside.from ≡ true) where
    in-turn : hand_word s c want b ≡ hand_out s c (suc (want - 1)) b.inside (suc (b.left - 1))
    in-turn =
        let n : want ≡ suc (want - 1) = omega arith in
        let k : b.left ≡ suc (b.left - 1) = omega arith in
        ap₂ (λ (m i : ℕ). hand_out s c m b.inside i) n k

    pub hand-cut : room_of s c b.inside.start ≤ b.inside.number → hand_word s c want b ≡ cut_off b.inside
    hand-cut l = in-turn ∙ handed-cut s c (want - 1) b.inside (b.left - 1) active l

    pub hand-one : b.inside.number < room_of s c b.inside.start → hand_word s c want b ≡ and_then (record_here s c b.inside) (hand_word s c (want - 1) (past_active b 1))
    hand-one l = in-turn ∙ rw (add-one b.inside.from, add-one b.inside.number) (handed-one s c (want - 1) b.inside (b.left - 1) active l)

-- no more places are skipped than there are
pub skipped-le : (stored b z : ℕ) → skipped stored b z ≤ z
unfolding skipped when
skipped-le stored b z = go (eqb stored 0) (eqb stored 1)
  where
    go : (x y : Bool) → when x z (when y 0 (z - count_below (digit b) z)) ≤ z
    go true y = omega arith
    go false true = omega arith
    go false false = omega arith

module _ (s : List ℕ) (c : Coding) (room : ℕ) where
  pub sums-fit : (b : Bits) → Readable s c room b.inside → InWord s b → SumsFit b
  sums-fit b h word =
      let m = masked b.inside.level in
      record { word = word.word; places = omega (arith, word.places, m.small, m.bits); number = h.number }

  -- What is known at an active place.
  pub record Active (b : Bits) : Type 0 where
    pub readable : Readable s c room b.inside
    pub word : InWord s b
    pub some_left : 0 < b.left
    pub active : mask_bit s b.inside.value_mask b.inside.from ≡ true

  pub active-there :
      (b r : Bits) → Readable s c room b.inside → InWord s b → (b.ones ≡ 0 → ⊥) → r ≡ shifted b (count_trailing_zeros 64 b.ones) → Active r
  active-there b r h word some-active e =
      let l = gap-inside s b word some-active in
      let a = word-active s b word some-active in
      rw e record {
        readable = readable-on s c room b.inside _ _ (omega (arith, h.number, skipped-le b.inside.stored b.children (count_trailing_zeros 64 b.ones))) h;
        word = a.0;
        some_left = omega arith;
        active = a.1;
      }

  pub readable-past : (b : Bits) (n : ℕ) → Readable s c room b.inside → Readable s c room (past_active b n).inside
  readable-past b n h = readable-on s c room b.inside _ _ (omega (arith, h.number)) h

-- A turn of the loop over a word: the next active place's record, or its value lies past the end.
module _ (s : List ℕ) (c : Coding) (room : ℕ) (b r : Bits) (h : Readable s c room b.inside) (word : InWord s b) (some-active : b.ones ≡ 0 → ⊥)
    (e : r ≡ shifted b (count_trailing_zeros 64 b.ones)) (limit i : ℕ) (wanted : i < limit) where
  pub at-active : hand_word s c (limit - i) b ≡ hand_word s c (limit - i) r
  at-active = hand-active s b word some-active c (limit - i) (omega arith) ∙ ap (hand_word s c (limit - i)) (sym e)

  pub turn-cut : room ≤ r.inside.number → hand_word s c (limit - i) b ≡ cut_off r.inside
  turn-cut l =
      let a = active-there s c room b r h word some-active e in
      at-active ∙ hand-cut s r a.word a.some_left c (limit - i) (omega arith) a.active (rw a.readable.values at l)

  pub turn_one :
      {b' : Bits} {q : Record} → r.inside.number < room → q ≡ record_here s c r.inside → b' ≡ past_active r 1 →
      hand_word s c (limit - i) b ≡ and_then q (hand_word s c (limit - (i + 1)) b')
  turn_one {b'} {q} l d f =
      let a = active-there s c room b r h word some-active e in
      let n : limit - i - 1 ≡ limit - (i + 1) = omega arith in
      at-active ∙ rw (d, f, ← n) (hand-one s r a.word a.some_left c (limit - i) (omega arith) a.active (rw a.readable.values at l))

pub record_is :
    (s : List ℕ) (c : Coding) (w : Inside) {o : GlobalCoord} {v : ℕ} → o ≡ global_of (edge_of w.level) (side_of w.level) w.origin (index w.from) →
    v ≡ stored_value s c.width (w.start + w.number * c.width) → record_of o w.level v ≡ record_here s c w
unfolding record_here
record_is s c w e d = λ k. record_of (e k) w.level (d k)

pub run_is : {a b : Inside} {i j : ℕ} {x y : Bool} → a ≡ b → i ≡ j → x ≡ y → ◌≡◌ {A = Run} (record { inside = a; filled = i; whole = x }) (record { inside = b; filled = j; whole = y })
run_is e f d = λ k. record { inside = e k; filled = f k; whole = d k }

-- A part h₁ is filled in.
module _ {i : ℕ} {h₁ : Handed} {t t' : Slots} {r : Run} (f : Fills i h₁ t t' r) where
  pub fills_same : {t₀ : Slots} → Same t t₀ → Same t' t₀
  fills_same h = rw f.slots (laid_same t i h₁.records h)

  -- there is no rest
  pub ends_so : {h : Handed} {j : ℕ} {H : Handed} {t₀ : Slots} → Going i h t j H t₀ → h ≡ h₁ → Fills j H t₀ t' r
  ends_so {h} {j} {H} {t₀} g e = go (rw e at g)
    where
      go : Going i h₁ t j H t₀ → Fills j H t₀ t' r
      go k =
          record {
            inside = f.inside ∙ k.inside;
            filled = f.filled ∙ k.filled;
            whole = f.whole ∙ k.whole;
            slots = f.slots ∙ k.slots;
          }
