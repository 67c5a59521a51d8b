-- The ones of a leaf's word, taken one by one from the lowest on, each where it was.
use mathlib.Core.Path.{◌≡◌, refl, sym, ap, subst, ◌∙◌}
use mathlib.Core.List.{List}
use mathlib.Core.Bool.{Bool, true, false}
use Prim.Native.Nat.{ℕ, ◌+◌, ◌-◌, ◌*◌, ◌/◌, ◌^◌, ◌≤◌, ◌<◌}
use native.Mathlib.Nat.{lt_of_not-le}
use native.Mathlib.Omega.{arith}
use lib.Count.{count_trailing_zeros}
use lib.Dec.{eqb}
use borrow.Author.Tests.{eqb-false, eq-eqb, ne_eqb}
use lib.Pow.{shr-shr}
use Rattle.fields.specs.Parse.{when}
use Rattle.masks.specs.Masks.{digit, count_below}
use Rattle.masks.specs.Inner.{ones_past}
use Rattle.masks.proofs.Ones.{none_left}
use Rattle.forms.specs.declared.Coding.{Coding}
use Rattle.half.specs.Half.{stored_value}
use Rattle.coordinates.specs.Coordinates.{index, global_of, aligned}
use Rattle.coordinates.specs.declared.GlobalCoord.{GlobalCoord}
use Rattle.tree.specs.Active.{side_of, edge_of}
use Rattle.slots.specs.Slots.{Slots}
use Rattle.slots.specs.Inner.{record_of, standing, Readable}
use Rattle.bits.specs.Inner.{nothing, and_then, skipped, InWord, shifted, past, hand_word, number_in, past_active, LeafWord}
use Rattle.slots.specs.declared.Inside.{Inside}
use Rattle.bits.specs.declared.Bits.{Bits}
use Rattle.slots.proofs.Laws.{readable-on}
use Rattle.bits.proofs.Laws.{Going, starts, word-past, hand-none, turn_one, record_is, gap-inside}

-- Behind places that are behind others.
pub past-past : (b : Bits) (p k q m : ℕ) → past (past b p k) q m ≡ past b (p + q) m
past-past b p k q m =
    let f : b.inside.from + p + q ≡ b.inside.from + (p + q) = omega arith in
    let l : b.left - p - q ≡ b.left - (p + q) = omega arith in
    λ i. record { inside = standing b.inside (f i) m; left = l i; ones = shr-shr b.ones p q i; children = shr-shr b.children p q i }

pub past-none : (b : Bits) {k : ℕ} → k ≡ b.inside.number → past b 0 k ≡ b
past-none b e =
    let f : b.inside.from + 0 ≡ b.inside.from = omega arith in
    let l : b.left - 0 ≡ b.left = omega arith in
    let v : b.ones / 1 ≡ b.ones = omega arith in
    let c : b.children / 1 ≡ b.children = omega arith in
    λ i. record { inside = standing b.inside (f i) (e i); left = l i; ones = v i; children = c i }

-- Which number the next stored value has: where all places are stored, and where the active ones are.
module _ (w : Inside) where
  pub number-every : w.stored ≡ 0 → (p k : ℕ) → w.number + p ≡ number_in w p k
  unfolding number_in when
  number-every e p k = rw (eq-eqb _ _ e)

  pub number-active : (w.stored ≡ 0 → ⊥) → (p k : ℕ) → w.number + k ≡ number_in w p k
  unfolding number_in when
  number-active e p k = rw (ne_eqb _ _ e)

  module _ (p k : ℕ) where
    pub number-le : k ≤ p → number_in w p k ≤ w.number + p
    unfolding number_in when
    number-le h = go (eqb w.stored 0)
      where
        go : (b : Bool) → when b (w.number + p) (w.number + k) ≤ w.number + p
        go true = omega arith
        go false = omega arith

    pub number-next : number_in w p k + 1 ≡ number_in w (p + 1) (k + 1)
    unfolding number_in when
    number-next = go (eqb w.stored 0)
      where
        go : (b : Bool) → when b (w.number + p) (w.number + k) + 1 ≡ when b (w.number + (p + 1)) (w.number + (k + 1))
        go true = omega arith
        go false = omega arith

    pub number-on : w.stored ≤ 1 → (b g : ℕ) → number_in w p k + skipped w.stored b g ≡ number_in w (p + g) k
    unfolding number_in skipped when
    number-on h b g = go (eqb w.stored 0) (eqb w.stored 1) refl refl
      where
        go : (x y : Bool) → eqb w.stored 0 ≡ x → eqb w.stored 1 ≡ y →
            when x (w.number + p) (w.number + k) + when x g (when y 0 (g - count_below (digit b) g)) ≡ when x (w.number + (p + g)) (w.number + k)
        go true y e d = omega arith
        go false true e d = omega arith
        go false false e d =
            let some_stored : 0 < w.stored = lt_of_not-le (λ l. eqb-false w.stored 0 e (omega arith)) in
            absurd (eqb-false w.stored 1 d (omega arith))

pub none_passed : (w : Inside) → number_in w 0 0 ≡ w.number
unfolding number_in when
none_passed w = go (eqb w.stored 0)
  where
    go : (b : Bool) → when b (w.number + 0) (w.number + 0) ≡ w.number
    go true = omega arith
    go false = omega arith

-- before the first place
pub begins : (s : List ℕ) (c : Coding) (want i : ℕ) (b : Bits) (t : Slots) {k : ℕ} → k ≡ 0 → Going i (hand_word s c want (past b 0 (number_in b.inside 0 k))) t i (hand_word s c want b) t
begins s c want i b t e =
    let first = past-none b (ap (number_in b.inside 0) e ∙ none_passed b.inside) in
    subst (λ (x : Bits). Going i (hand_word s c want x) t i (hand_word s c want b) t) (sym first) (starts i (hand_word s c want b) t)

-- A leaf's word behind p places, k of them active.
module _ (s : List ℕ) (c : Coding) (room : ℕ) (b : Bits) (h : Readable s c room b.inside) (word : InWord s b) (leaf : LeafWord room b) where
  pub leaf-multiple : aligned 8 b.inside.origin ≡ true
  leaf-multiple = ap (λ (n : ℕ). aligned (edge_of n * side_of n) b.inside.origin) (sym leaf.level) ∙ h.multiple

  pub leaf-places : b.inside.from + b.left ≤ 512
  leaf-places = rw leaf.level at word.places

  abbrev pub at : ℕ → ℕ → Bits
  at p k = past b p (number_in b.inside p k)

  module _ (p k : ℕ) (few : k ≤ p) (in-word : p ≤ b.left) where
    readable : Readable s c room (at p k).inside
    readable = readable-on s c room b.inside (b.inside.from + p) _ (omega (arith, number-le b.inside p k few, h.number)) h

    rest : InWord s (at p k)
    rest = word-past s b word p (number_in b.inside p k) in-word

    -- no one is left
    pub done : (limit i : ℕ) → i < limit → ones_past b.ones p ≡ 0 →
        hand_word s c (limit - i) (at p k) ≡ nothing (standing b.inside (b.inside.from + b.left) (number_in b.inside b.left k))
    done limit i l e =
        let f : b.inside.from + p + (b.left - p) ≡ b.inside.from + b.left = omega arith in
        let d : p + (b.left - p) ≡ b.left = omega arith in
        let n = rw d at (number-on b.inside p k leaf.stored (b.children / 2 ^ p) (b.left - p)) in
        hand-none s (at p k) rest c (limit - i) (omega arith) (none_left b.ones p e) ∙ (λ j. nothing (standing b.inside (f j) (n j)))

    -- the next one
    module _ (some-set : b.ones / 2 ^ p ≡ 0 → ⊥) where
      pub one_inside : p + count_trailing_zeros 64 (b.ones / 2 ^ p) < b.left
      one_inside = omega (arith, gap-inside s (at p k) rest some-set)

      pub one_more :
          (limit i q n : ℕ) → i < limit → q ≡ p + count_trailing_zeros 64 (b.ones / 2 ^ p) → n ≡ k + 1 → {o : GlobalCoord} {v m : ℕ} →
          o ≡ global_of 8 1 b.inside.origin (index (b.inside.from + q)) → m ≡ number_in b.inside q k → v ≡ stored_value s c.width (b.inside.start + m * c.width) →
          hand_word s c (limit - i) (at p k) ≡ and_then (record_of o 0 v) (hand_word s c (limit - (i + 1)) (at (q + 1) n))
      one_more limit i q n l here count {o} {v} d f e =
          let g = count_trailing_zeros 64 (b.ones / 2 ^ p) in
          let r = at q k in
          let reached : r ≡ shifted (at p k) g =
          ap (λ (x : ℕ). at x k) here ∙ ap (past b (p + g)) (sym (number-on b.inside p k leaf.stored (b.children / 2 ^ p) g)) ∙ sym (past-past b p (number_in b.inside p k) g _) in
          let next : at (q + 1) n ≡ past_active r 1 =
          ap (at (q + 1)) count ∙ ap (past b (q + 1)) (sym (number-next b.inside q k)) ∙ sym (past-past b q (number_in b.inside q k) 1 _) in
          let in-file : number_in b.inside q k < room = omega (arith, number-le b.inside q k (omega arith), one_inside, leaf.values) in
          let corner = d ∙ ap (λ (n : ℕ). global_of (edge_of n) (side_of n) b.inside.origin (index (b.inside.from + q))) (sym leaf.level) in
          turn_one s c room (at p k) r readable rest some-set reached limit i l in-file
          (ap (λ (n : ℕ). record_of o n v) (sym leaf.level) ∙ record_is s c r.inside corner (rw f at e)) next
