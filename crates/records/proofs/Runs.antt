-- A run: places that are active, one after the other, handed out at once.
use mathlib.Core.Path.{◌≡◌, refl, sym, ap, ap₂, ◌∙◌}
use mathlib.Core.List.{List, [], ◌∷◌, ◌++◌, append_assoc, append-nil}
use mathlib.Core.Bool.{true, true≢false}
use Prim.Native.Nat.{ℕ, zero, suc, ◌+◌, ◌-◌, ◌/◌, ◌%◌, ◌^◌, ◌≤◌, ◌<◌}
use native.Mathlib.Nat.{add-zero, add-suc, zero-add, lt_of_not-le, pow-suc, le_refl}
use native.Mathlib.Omega.{arith}
use native.Mathlib.Numerals.{one-add}
use lib.Pow.{pow_pos}
use borrow.Author.Tests.{eq-eqb}
use Rattle.masks.specs.Masks.{digit, mask_bit}
use Rattle.masks.proofs.Digits.{digit_shift, digit-past}
use Rattle.forms.specs.declared.Coding.{Coding}
use Rattle.tree.specs.Active.{Record}
use Rattle.slots.specs.Slots.{Slots, laid_from}
use Rattle.slots.specs.Inner.{room_of, standing, run_of}
use Rattle.bits.specs.Inner.{record_here, Handed, hand_out, Fills, InWord, hand_word, past_active}
use Rattle.records.specs.Inner.{follow, handed_run}
use Rattle.slots.specs.declared.Inside.{Inside}
use Rattle.bits.specs.declared.Bits.{Bits}
use Rattle.slots.proofs.Runs.{length_run}
use Rattle.bits.proofs.Laws.{handed-one}

-- Each of the k lowest bits of 2 ^ k - 1 is set.
pub all_ones : (k b q : ℕ) → b ≡ 2 ^ k - 1 → q < k → digit b q ≡ true
unfolding digit
all_ones zero b q e h = absurd (omega arith)
all_ones (suc k) b zero e h = eq-eqb (b / 2 ^ 0 % 2) 1 (omega (arith, pow-suc 2 k, pow_pos k))
all_ones (suc k) b (suc q) e h = rw (← one-add q, ← digit_shift b 1 q) (all_ones k (b / 2) q (omega (arith, pow-suc 2 k, pow_pos k)) (omega arith))

-- The next n places are active, with values in the file: their records, and then what is handed out from behind them.
pub hand-run :
    (s : List ℕ) (c : Coding) (w : Inside) (n want j : ℕ) → ((q : ℕ) → q < n → mask_bit s w.value_mask (w.from + q) ≡ true) → w.number + n ≤ room_of s c w.start →
    hand_out s c (n + want) w (n + j) ≡ follow (handed_run s c w n) (hand_out s c want (standing w (w.from + n) (w.number + n)) j)
unfolding run_of record_here
hand-run s c w zero want j active l = rw (zero-add, zero-add, add-zero, add-zero)
hand-run s c w (suc n) want j active l =
    let v = standing w (w.from + n) (w.number + n) in
    let before = hand-run s c w n (suc want) (suc j) (λ q h. active q (omega arith)) (omega arith) in
    let here = handed-one s c want v j (active n (omega arith)) (omega arith) in
    let m : suc n + want ≡ n + suc want = omega arith in
    let i : suc n + j ≡ n + suc j = omega arith in
    rw (add-suc w.from n, add-suc w.number n)
    (ap₂ (λ (m i : ℕ). hand_out s c m w i) m i ∙ before ∙ ap (follow (handed_run s c w n)) here ∙ longer (run_of s c w n) (record_here s c v) (hand_out s c want (standing w (suc (w.from + n)) (suc (w.number + n))) j))
  where
    longer : (rs : List Record) (r : Record) (g : Handed) →
        ◌≡◌ {A = Handed} (record { records = rs ++ r ∷ g.records; inside = g.inside; whole = g.whole }) (record { records = (rs ++ r ∷ []) ++ g.records; inside = g.inside; whole = g.whole })
    longer rs r g = λ q. record { records = sym (append_assoc rs (r ∷ []) g.records) q; inside = g.inside; whole = g.whole }

-- A run of a word, filled in.
module _ (s : List ℕ) (c : Coding) (b : Bits) (word : InWord s b) (n : ℕ) (active : (q : ℕ) → q < n → digit b.ones q ≡ true) where
  pub run_inside : n ≤ b.left
  run_inside =
      let l : n < suc b.left = lt_of_not-le (λ l. true≢false (sym (active b.left l) ∙ digit-past b.left b.ones b.left word.value-bits.below (le_refl _))) in
      omega arith

  pub word-run : (want : ℕ) → n ≤ want → b.inside.number + n ≤ room_of s c b.inside.start → hand_word s c want b ≡ follow (handed_run s c b.inside n) (hand_word s c (want - n) (past_active b n))
  word-run want l h =
      let m : want ≡ n + (want - n) = omega arith in
      let i : b.left ≡ n + (b.left - n) = omega (arith, run_inside) in
      ap₂ (λ (m i : ℕ). hand_out s c m b.inside i) m i ∙ hand-run s c b.inside n (want - n) (b.left - n)
      (λ q k. sym (word.value-bits.bits q (omega (arith, run_inside))) ∙ active q k) h

  -- all places of a word
  pub word-whole : (want : ℕ) → n ≤ want → b.inside.number + n ≤ room_of s c b.inside.start → b.left ≤ n → hand_word s c want b ≡ handed_run s c b.inside n
  unfolding hand_out
  word-whole want l h all =
      let z : b.left - n ≡ 0 = omega arith in
      word-run want l h ∙ rw z (λ q. record { records = append-nil (run_of s c b.inside n) q; inside = (past_active b n).inside; whole = true })

pub run-fills :
    (s : List ℕ) (c : Coding) (w : Inside) (n : ℕ) {i : ℕ} {t t' : Slots} → t' ≡ laid_from t i (run_of s c w n) →
    Fills i (handed_run s c w n) t t' (record { inside = standing w (w.from + n) (w.number + n); filled = i + n; whole = true })
run-fills s c w n e = record { inside = refl; filled = rw length_run; whole = refl; slots = e }
