-- Both masks' words, shifted so that the next place's bit is the lowest, have the bits of the places left.
use mathlib.Core.Path.{◌≡◌, refl, subst}
use mathlib.Core.Bool.{Bool}
use Prim.Native.Nat.{ℕ, ◌+◌, ◌-◌, ◌*◌, ◌/◌, ◌%◌, ◌^◌}
use native.Mathlib.Omega.{arith}
use Rattle.masks.specs.Inner.{IsWord}
use Rattle.bits.specs.Inner.{AreBits}
use Rattle.bits.proofs.Laws.{bits-past}
use Rattle.records.proofs.word_at.Goals as goal

-- the bits of a mask's word from bit r on
bits-from : (f : ℕ → Bool) (i p w x : ℕ) → IsWord f (8 * i) w → x ≡ w / 2 ^ (p % 64) → i ≡ p / 64 * 8 → AreBits f p (64 - p % 64) x
bits-from f i p w x h e d =
    let l : 8 * i + p % 64 ≡ p = omega arith in
    let a = bits-past (p % 64) (omega arith) (record { below = h.below; bits = h.bits }) in
    rw e (subst (λ (q : ℕ). AreBits f q (64 - p % 64) (w / 2 ^ (p % 64))) l a)

pub overflow_sub-result : goal.overflow_sub-result
overflow_sub-result c = omega arith

pub word-requires : goal.word-requires
word-requires c = let p = c.requires in (p.0.value, omega arith, omega arith)

pub high_bits-requires : goal.high_bits-requires
high_bits-requires c = omega arith

pub word-requires-2 : goal.word-requires-2
word-requires-2 c = let p = c.requires in (p.0.child, omega arith, omega arith)

pub high_bits-requires-2 : goal.high_bits-requires-2
high_bits-requires-2 c = omega arith

pub returns : goal.returns
returns c =
    let p = c.requires in
    let w = c.args.w in (
      record {
        word = omega arith;
        places = omega (arith, p.0.places, p.0.value.words);
        value-bits = bits-from _ _ w.from _ _ c.word.ensures c.high_bits.ensures refl;
        child-bits = bits-from _ _ w.from _ _ c.word-2.ensures c.high_bits-2.ensures refl;
      },
      refl,
      refl,
    )
