-- What is handed out in parts: the words of a piece, one after the other.
use mathlib.Core.Path.{◌≡◌, refl, sym, ap, ◌∙◌}
use mathlib.Core.List.{List}
use mathlib.Core.Bool.{Bool, true, false, cond, true≢false}
use Prim.Native.Nat.{ℕ, zero, suc, ◌+◌, ◌-◌, ◌*◌, ◌%◌, ◌≤◌, ◌<◌}
use native.Mathlib.Nat.{sub-zero, add-zero, suc-add, zero-add}
use native.Mathlib.Omega.{arith}
use lib.Dec.{ltb}
use lib.ListN.{length, length-append}
use borrow.Author.Tests.{ltb-true, ltb-false}
use Rattle.fields.specs.Parse.{when}
use Rattle.masks.specs.Masks.{mask_bit}
use Rattle.forms.specs.declared.Coding.{Coding}
use Rattle.tree.specs.Active.{Record}
use Rattle.slots.specs.Slots.{Slots}
use Rattle.slots.specs.Inner.{room_of, standing, Readable}
use Rattle.bits.specs.Inner.{is_kept, record_here, Handed, nothing, and_then, hand_out, Fills, hand_word}
use Rattle.records.specs.Inner.{follow, Masks}
use Rattle.slots.specs.declared.Inside.{Inside}
use Rattle.bits.specs.declared.Bits.{Bits}
use Rattle.bits.specs.declared.Run.{Run}
use Rattle.slots.proofs.Laws.{laid-append, readable-on}
use Rattle.bits.proofs.Laws.{Going, hand-full}

-- What is handed out in two parts: the second goes on where the first stopped, unless it stopped at the file's end.
module _ (s : List ℕ) (c : Coding) (k : ℕ) where
  abbrev onward : Handed → ℕ → Handed
  onward h want = when h.whole (follow h (hand_out s c (want - length h.records) h.inside k)) h

  with-one : (r : Record) (h : Handed) (want : ℕ) → and_then r (onward h want) ≡ onward (and_then r h) (suc want)
  unfolding when
  with-one r h want = go h.whole refl
    where
      n : suc want - suc (length h.records) ≡ want - length h.records
      n = omega arith

      go : (b : Bool) → h.whole ≡ b → and_then r (onward h want) ≡ onward (and_then r h) (suc want)
      go true e = rw (e, n)
      go false e = rw e

  pub hand-parts : (j want : ℕ) (w : Inside) → hand_out s c want w (j + k) ≡ onward (hand_out s c want w j) want
  unfolding hand_out when
  hand-parts zero want w = rw (zero-add, sub-zero)
  hand-parts (suc j) zero w = rw suc-add (sym (hand-full s c 0 0 w k (omega arith)))
  hand-parts (suc j) (suc want) w = rw suc-add (go (hand-parts j) (mask_bit s w.value_mask w.from) (ltb w.number (room_of s c w.start)) refl refl)
    where
      go : ((m : ℕ) (v : Inside) → hand_out s c m v (j + k) ≡ onward (hand_out s c m v j) m) → (a b : Bool) → mask_bit s w.value_mask w.from ≡ a → ltb w.number (room_of s c w.start) ≡ b →
          hand_out s c (suc want) w (suc (j + k)) ≡ onward (hand_out s c (suc want) w (suc j)) (suc want)
      go later true true e d =
          let v = standing w (suc w.from) (suc w.number) in
          rw (e, d) (ap (and_then (record_here s c w)) (later want v) ∙ with-one (record_here s c w) (hand_out s c want v j) want)
      go later true false e d = rw (e, d)
      go later false b e d = rw e (later (suc want) _)

-- Where more was wanted, all places are passed.
pub hand-past-all :
    (s : List ℕ) (c : Coding) (j want : ℕ) (w : Inside) → (hand_out s c want w j).whole ≡ true → length (hand_out s c want w j).records < want →
    (hand_out s c want w j).inside.from ≡ w.from + j
unfolding hand_out when
hand-past-all s c zero want w h l = sym (add-zero _)
hand-past-all s c (suc j) zero w h l = absurd (omega arith)
hand-past-all s c (suc j) (suc want) w h l = go (hand-past-all s c j) (mask_bit s w.value_mask w.from) (ltb w.number (room_of s c w.start)) refl refl h l
  where
    go : ((m : ℕ) (v : Inside) → (hand_out s c m v j).whole ≡ true → length (hand_out s c m v j).records < m → (hand_out s c m v j).inside.from ≡ v.from + j) → (a b : Bool) →
        mask_bit s w.value_mask w.from ≡ a → ltb w.number (room_of s c w.start) ≡ b → (hand_out s c (suc want) w (suc j)).whole ≡ true →
        length (hand_out s c (suc want) w (suc j)).records < suc want → (hand_out s c (suc want) w (suc j)).inside.from ≡ w.from + suc j
    go later true true e d h l =
        let n : w.from + suc j ≡ suc w.from + j = omega arith in
        rw (e, d, n) (later want _ (rw (e, d) at h) (omega (arith, rw (e, d) at l)))
    go later true false e d h l = absurd (true≢false (sym (rw (e, d) at h)))
    go later false b e d h l =
        let n : w.from + suc j ≡ suc w.from + j = omega arith in
        rw (e, n) (later (suc want) _ (rw e at h) (rw e at l))

-- A part h₁ is filled in, and the rest goes on.
goes_on :
    {i : ℕ} {h₁ : Handed} {t t' : Slots} {r : Run} → Fills i h₁ t t' r → {h : Handed} {j : ℕ} {H : Handed} {t₀ : Slots} → Going i h t j H t₀ →
    {h₂ : Handed} → h ≡ follow h₁ h₂ → Going r.filled h₂ t' j H t₀
goes_on {i} {h₁} {t} {t'} {r} f {h} {j} {H} {t₀} g {h₂} e = go (rw e at g)
  where
    go : Going i (follow h₁ h₂) t j H t₀ → Going r.filled h₂ t' j H t₀
    go k =
        record {
          inside = k.inside;
          filled = omega (arith, f.filled, rw length-append at k.filled);
          whole = k.whole;
          slots = rw (f.slots, f.filled) (sym (laid-append t i h₁.records h₂.records) ∙ k.slots);
        }

-- What holds of a walk in a piece, and from place to place, holds where it stops.
pub hand-keeps :
    (s : List ℕ) (c : Coding) (P : Inside → Type 0) → ((v : Inside) (k : ℕ) → k ≤ suc v.number → P v → P (standing v (suc v.from) k)) →
    (j want : ℕ) (w : Inside) → P w → P (hand_out s c want w j).inside
unfolding hand_out when
hand-keeps s c P step zero want w h = h
hand-keeps s c P step (suc j) zero w h = h
hand-keeps s c P step (suc j) (suc want) w h = go (hand-keeps s c P step j) (mask_bit s w.value_mask w.from) (ltb w.number (room_of s c w.start)) refl refl
  where
    go : ((m : ℕ) (v : Inside) → P v → P (hand_out s c m v j).inside) → (a b : Bool) → mask_bit s w.value_mask w.from ≡ a → ltb w.number (room_of s c w.start) ≡ b →
        P (hand_out s c (suc want) w (suc j)).inside
    go later true true e d = rw (e, d) (later want _ (step w _ (omega arith) h))
    go later true false e d = rw (e, d) h
    go later false b e d = rw e (later (suc want) _ (step w _ (one_more (is_kept s w w.from)) h))
      where
        one_more : (b : Bool) → w.number + cond b 1 0 ≤ suc w.number
        one_more true = omega arith
        one_more false = omega arith

module _ (s : List ℕ) (c : Coding) (j want : ℕ) (w : Inside) where
  pub hand-readable : (room : ℕ) → Readable s c room w → Readable s c room (hand_out s c want w j).inside
  hand-readable room h =
      hand-keeps s c (Readable s c room)
      (λ v k l g. readable-on s c room v (suc v.from) k (omega (arith, g.number)) g) j want w h

  pub hand-masks : {n : ℕ} → Masks s n w → Masks s n (hand_out s c want w j).inside
  hand-masks {n} h = hand-keeps s c (Masks s n) (λ v k l g. record { value = g.value; child = g.child; places = g.places }) j want w h

-- The places that are left of a piece with masks of n bytes: first those of the word that the next place is in.
module _ (s : List ℕ) (c : Coding) (n : ℕ) (w : Inside) (b : Bits) (here : b.inside ≡ w) (left : b.left ≡ 64 - w.from % 64) (words : n % 8 ≡ 0) (inside : w.from < 8 * n) (want : ℕ) where
  abbrev first : Handed
  first = hand_word s c want b

  in_two : hand_out s c want w (8 * n - w.from) ≡ onward s c (8 * n - (w.from + b.left)) first want
  in_two =
      let k : 8 * n - w.from ≡ b.left + (8 * n - (w.from + b.left)) = omega arith in
      ap (hand_out s c want w) k ∙ hand-parts s c _ b.left want w ∙ ap (λ (v : Inside). onward s c (8 * n - (w.from + b.left)) (hand_out s c want v b.left) want) (sym here)

  pub word-passed : first.whole ≡ true → length first.records < want → first.inside.from ≡ w.from + b.left
  word-passed e l = hand-past-all s c b.left want b.inside e l ∙ ap (λ (v : Inside). v.from + b.left) here

  pub word_cut : first.whole ≡ false → hand_out s c want w (8 * n - w.from) ≡ first
  unfolding when
  word_cut e = in_two ∙ rw e

  pub word_on : first.whole ≡ true → hand_out s c want w (8 * n - w.from) ≡ follow first (hand_out s c (want - length first.records) first.inside (8 * n - first.inside.from))
  unfolding when
  word_on e = in_two ∙ rw e (ap (follow first) (go (ltb (length first.records) want) refl))
    where
      go : (d : Bool) → ltb (length first.records) want ≡ d →
          hand_out s c (want - length first.records) first.inside (8 * n - (w.from + b.left)) ≡ hand_out s c (want - length first.records) first.inside (8 * n - first.inside.from)
      go true d = rw (word-passed e (ltb-true _ _ d))
      go false d =
          let l : want ≤ length first.records = ltb-false _ _ d in
          hand-full s c want (length first.records) first.inside _ l ∙ sym (hand-full s c want (length first.records) first.inside _ l)

-- No slot is left, or no place.
pub hand-done : (s : List ℕ) (c : Coding) (limit i n : ℕ) (w : Inside) → (i < limit → n ≤ w.from) → hand_out s c (limit - i) w (n - w.from) ≡ nothing w
unfolding hand_out
hand-done s c limit i n w h = go (ltb i limit) refl
  where
    go : (d : Bool) → ltb i limit ≡ d → hand_out s c (limit - i) w (n - w.from) ≡ nothing w
    go true d =
        let l = h (ltb-true _ _ d) in
        let e : n - w.from ≡ 0 = omega arith in
        rw e
    go false d = hand-full s c limit i w (n - w.from) (ltb-false _ _ d)

-- the rest, told by the code's answer
pub part-on :
    (s : List ℕ) (c : Coding) (limit n : ℕ) {i : ℕ} {h₁ : Handed} {t t' : Slots} {r : Run} (f : Fills i h₁ t t' r) {h : Handed} {j : ℕ} {H : Handed} {t₀ : Slots} → Going i h t j H t₀ →
    h ≡ follow h₁ (hand_out s c (limit - i - length h₁.records) h₁.inside (n - h₁.inside.from)) →
    Going r.filled (hand_out s c (limit - r.filled) r.inside (n - r.inside.from)) t' j H t₀
part-on s c limit n {i} {h₁} {r = r} f g e =
    let k : limit - i - length h₁.records ≡ limit - r.filled = omega (arith, f.filled) in
    goes_on f g (e ∙ ap (follow h₁) (λ q. hand_out s c (k q) (sym f.inside q) (n - (sym f.inside q).from)))
