-- Each turn hands out a word, and the whole is done where no word or no slot is left, or a value lies past the end.
use mathlib.Core.Path.{refl, sym, ◌∙◌}
use Prim.Native.Nat.{◌*◌, ◌<◌}
use native.Mathlib.Omega.{arith}
use borrow.Author.Tests.{not-true, not-false}
use Rattle.slots.proofs.Laws.{same, room-same}
use Rattle.bits.proofs.Laws.{starts, ends, ends_so, fills_same, hand-full, run_is}
use Rattle.records.proofs.Laws.{part-on, hand-readable, hand-masks, hand-done, word_on, word_cut, word-passed}
use Rattle.records.proofs.fill_words.Goals.{Else-limit-t}
use Rattle.records.proofs.fill_words.Goals as goal

next_place : (c : goal.Else-limit-t) → c.loop-word.t.inside.from < 8 * c.args.n
next_place c =
    let l = c.loop-word in
    omega (arith, c.loop-word-test.true, l.invariant.1.value.words, (l.invariant.3 c.if-limit-t.false).1)

pub loop-word-init : goal.loop-word-init
loop-word-init c = let p = c.requires in (p.0, p.1, refl, (λ l. (omega arith, omega arith)), p.3, same _, starts _ _ _)

pub word_at-requires : goal.word_at-requires
word_at-requires c = (c.loop-word.invariant.1, next_place (goal.at.word_at-requires c).Else-limit-t)

pub fill_word-t-requires : goal.fill_word-t-requires
fill_word-t-requires c =
    let l = c.loop-word in
    (rw c.word_at.ensures.1 l.invariant.0, c.word_at.ensures.0, l.invariant.4)

pub loop-word-preserved : goal.loop-word-preserved
loop-word-preserved c =
    let w = c.word_at in
    let l = c.loop-word in
    let f = c.fill_word-t.ensures in
    let e = w.ensures in
    let all = sym f.whole ∙ not-false _ c.if-not-t.false in
    let here = l.invariant.3 c.if-limit-t.false in
    let inside = next_place (goal.at.loop-word-preserved c).Else-limit-t in (
      rw f.inside (hand-readable _ _ _ _ _ _ (rw e.1 l.invariant.0)),
      rw f.inside (hand-masks _ _ _ _ _ (rw e.1 l.invariant.1)),
      not-false _ c.if-not-t.false,
      (λ k.
          let p = word-passed _ _ _ l.t.inside w.result e.1 e.2 l.invariant.1.value.words inside _ all (omega (arith, k, f.filled)) in
          (rw f.inside (omega (arith, p, here.0, here.1, e.2)), rw f.inside (omega (arith, p, here.0, here.1, e.2)))),
      room-same (fills_same f (same _)) l.invariant.4,
      fills_same f l.invariant.5,
      part-on _ _ _ _ f l.invariant.6 (word_on _ _ _ l.t.inside w.result e.1 e.2 l.invariant.1.value.words inside _ all),
    )

pub returns-after-loop-word : goal.returns-after-loop-word
returns-after-loop-word c =
    let l = c.loop-word in
    ends l.invariant.6 (hand-done _ _ _ l.t.filled _ l.t.inside (λ k. omega (arith, c.loop-word-test.false, (l.invariant.3 k).0))) (run_is refl refl l.invariant.2)

pub returns-then-limit-t : goal.returns-then-limit-t
returns-then-limit-t c = let l = c.loop-word in ends l.invariant.6 (hand-full _ _ _ l.t.filled l.t.inside _ c.if-limit-t.true) (run_is refl refl l.invariant.2)

pub returns-then-not-t : goal.returns-then-not-t
returns-then-not-t c =
    let w = c.word_at in
    let l = c.loop-word in
    let f = c.fill_word-t.ensures in
    let e = w.ensures in
    ends_so f l.invariant.6 (word_cut _ _ _ l.t.inside w.result e.1 e.2 l.invariant.1.value.words (next_place (goal.at.returns-then-not-t c).Else-limit-t) _ (sym f.whole ∙ not-true _ c.if-not-t.true))
