-- Behind each record the next one of the word is found, and its place and number are those that the piece gives it.
use mathlib.Core.Path.{◌≡◌, refl, sym, ap, ◌∙◌}
use Prim.Native.Nat.{ℕ, ◌+◌, ◌-◌, ◌*◌, ◌/◌, ◌^◌, ◌<◌, ◌≤◌}
use native.Mathlib.Nat.{zero-mul, div-mul-le_self}
use native.Mathlib.Omega.{arith}
use lib.Count.{count_trailing_zeros}
use Rattle.masks.specs.Inner.{ones_past}
use Rattle.masks.proofs.Ones.{lowest-past, past-on}
use Rattle.bits.specs.declared.Bits.{Bits}
use Rattle.slots.proofs.Laws.{same, in-room, put_same, put-room, room-less}
use Rattle.bits.proofs.Laws.{ones_small, goes, ends, hand-full, run_is}
use Rattle.bits.proofs.Ones.{begins, number-le, leaf-multiple, leaf-places, done, one_inside, one_more}
use Rattle.bits.proofs.fill_ones.Goals.{Else-ones-eq0}
use Rattle.bits.proofs.fill_ones.Goals as goal

-- the next one
module _ (c : goal.Else-ones-eq0) where
  abbrev b : Bits
  b = c.args.word

  abbrev p : ℕ
  p = c.loop-i.p

  abbrev k : ℕ
  k = c.loop-i.i - c.args.slot

  some-set : b.ones / 2 ^ p ≡ 0 → ⊥
  some-set z = c.if-ones-eq0.false (c.loop-i.invariant.3 ∙ ap (λ (x : ℕ). x * 2 ^ p) z ∙ zero-mul (2 ^ p))

  abbrev q : ℕ
  q = count_trailing_zeros 64 c.loop-i.ones

  reached : q ≡ p + count_trailing_zeros 64 (b.ones / 2 ^ p)
  reached =
      let small = ones_small _ _ c.requires.1 in
      ap (count_trailing_zeros 64) c.loop-i.invariant.3 ∙ lowest-past b.ones p small some-set

  inside : q < b.left
  inside = omega (arith, reached, one_inside _ _ _ b c.requires.0 c.requires.1 c.requires.2 p k c.loop-i.invariant.2 c.loop-i.invariant.0 some-set)

  on : p ≤ q
  on = omega (arith, reached)

  few : b.inside.from + b.left ≤ 512
  few = leaf-places _ _ _ _ c.requires.0 c.requires.1 c.requires.2

pub loop-i-init : goal.loop-i-init
loop-i-init c =
    let z : c.args.slot - c.args.slot ≡ 0 = omega arith in
    (omega arith, omega arith, omega arith, omega arith, c.requires.3, same _, begins _ _ _ _ c.args.word _ z)

pub stand-requires : goal.stand-requires
stand-requires c = (c.requires.0.number, leaf-places _ _ _ _ c.requires.0 c.requires.1 c.requires.2, omega (arith, c.loop-i.invariant.2, c.loop-i.invariant.0))

pub returns-then-ones-eq0 : goal.returns-then-ones-eq0
returns-then-ones-eq0 c =
    ends c.loop-i.invariant.6 (done _ _ _ c.args.word c.requires.0 c.requires.1 c.requires.2 c.loop-i.p _ c.loop-i.invariant.2 c.loop-i.invariant.0 _ _ c.loop-i-test.true (sym c.loop-i.invariant.3 ∙ c.if-ones-eq0.true)) (run_is c.stand.ensures refl refl)

pub number_behind-requires : goal.number_behind-requires
number_behind-requires c =
    let t = (goal.at.number_behind-requires c).Else-ones-eq0 in
    (omega (arith, inside t, few t, c.requires.0.number), omega (arith, on t, c.loop-i.invariant.2))

pub stored_value-v-requires : goal.stored_value-v-requires
stored_value-v-requires c =
    let t = (goal.at.stored_value-v-requires c).Else-ones-eq0 in
    let n = number-le (b t).inside (q t) (k t) (omega (arith, on t, c.loop-i.invariant.2)) in
    let e = c.number_behind.ensures in (
      c.requires.0.width,
      (
        omega (arith, e, n, inside t, few t, c.requires.0.number),
        in-room _ _ _ _ c.requires.0.width (omega (arith, e, n, inside t, c.requires.2.values, c.requires.0.values)),
      ),
    )

pub overflow_add-w : goal.overflow_add-w
overflow_add-w c = let t = (goal.at.overflow_add-w c).Else-ones-eq0 in omega (arith, inside t, few t)

pub corner-requires : goal.corner-requires
corner-requires c =
    let t = (goal.at.corner-requires c).Else-ones-eq0 in
    (omega (arith, inside t, few t), leaf-multiple _ _ _ _ c.requires.0 c.requires.1 c.requires.2)

pub put_record-requires : goal.put_record-requires
put_record-requires c = room-less _ (omega (arith, c.loop-i-test.true)) c.loop-i.invariant.4

pub past_lowest-ones-requires : goal.past_lowest-ones-requires
past_lowest-ones-requires c =
    (omega (arith, c.loop-i.invariant.3, div-mul-le_self c.args.word.ones (2 ^ c.loop-i.p), ones_small _ _ c.requires.1), c.if-ones-eq0.false)

pub overflow_add-p : goal.overflow_add-p
overflow_add-p c = let t = (goal.at.overflow_add-p c).Else-ones-eq0 in omega (arith, inside t, few t)

pub loop-i-preserved : goal.loop-i-preserved
loop-i-preserved c =
    let t = (goal.at.loop-i-preserved c).Else-ones-eq0 in
    let i = c.loop-i in
    let w = c.put_record.ensures in (
      omega (arith, inside t),
      omega (arith, c.loop-i-test.true),
      omega (arith, on t, i.invariant.2),
      c.past_lowest-ones.ensures.0 ∙ ap (λ (x : ℕ). ones_past x (q t + 1)) i.invariant.3 ∙ past-on (b t).ones (p t) (q t + 1) (omega (arith, on t)),
      put-room _ _ _ _ w i.invariant.4,
      put_same _ _ _ _ w i.invariant.5,
      goes i.invariant.6 (one_more _ _ _ (b t) c.requires.0 c.requires.1 c.requires.2 (p t) (k t) i.invariant.2 i.invariant.0 (some-set t) _ i.i (q t) _
          c.loop-i-test.true (reached t) (omega arith) c.corner.ensures c.number_behind.ensures c.stored_value-v.ensures) w,
    )

pub stand-requires-2 : goal.stand-requires-2
stand-requires-2 c =
    let few = leaf-places _ _ _ _ c.requires.0 c.requires.1 c.requires.2 in
    let e : c.max-filled.result ≡ c.loop-i.i = omega (arith, c.max-filled.ensures, c.loop-i.invariant.1, c.loop-i-test.false, c.loop-i.auto.i) in
    (c.requires.0.number, omega (arith, few, c.loop-i.invariant.0), rw e c.loop-i.invariant.2)

pub returns : goal.returns
returns c =
    let e : c.max-filled.result ≡ c.loop-i.i = omega (arith, c.max-filled.ensures, c.loop-i.invariant.1, c.loop-i-test.false, c.loop-i.auto.i) in
    ends c.loop-i.invariant.6 (hand-full _ _ _ _ _ _ (omega (arith, c.loop-i-test.false))) (run_is (rw e at c.stand-2.ensures) e refl)
