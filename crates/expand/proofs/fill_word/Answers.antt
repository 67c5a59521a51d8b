-- A full word is copied; in another the inactive values come first, and the stored ones over them.
use Prim.Native.Nat.{◌+◌, ◌≤◌}
use native.Mathlib.Omega.{arith}
use Rattle.batch.specs.Inner.{InFile}
use Rattle.expand.proofs.Laws.{in-file, number_behind, both, full-in-file, number-full, copied}
use Rattle.expand.proofs.fill_word.Goals as goal
use Rattle.expand.proofs.fill_word.Goals.{After-stored_word-ones, Then-ones}

inside : (c : After-stored_word-ones) → c.args.p + 64 ≤ 512
inside c = omega (arith, c.requires.1, c.requires.2)

copies : (c : Then-ones) → let a = c.args in InFile a.s.now a.c a.v.start a.k 64
copies c = full-in-file c.requires.0 (omega (arith, c.requires.1, c.requires.2)) c.requires.3 c.stored_word-ones.ensures c.if-ones.true

pub fill_values-requires : goal.fill_values-requires
fill_values-requires c = (copies (goal.at.fill_values-requires c).Then-ones, omega (arith, c.requires.4))

pub overflow_add-result : goal.overflow_add-result
overflow_add-result c = omega (arith, (copies (goal.at.overflow_add-result c).Then-ones).few)

pub returns-then-ones : goal.returns-then-ones
returns-then-ones c = let p = c.requires in
    (copied p.0 (inside (goal.at.returns-then-ones c).After-stored_word-ones) p.3 c.stored_word-ones.ensures c.if-ones.true _ p.4 c.fill_values.ensures, number-full p.0 (inside (goal.at.returns-then-ones c).After-stored_word-ones) p.3 c.stored_word-ones.ensures c.if-ones.true)

pub put_stored-requires : goal.put_stored-requires
put_stored-requires c = (in-file c.requires.0 (inside (goal.at.put_stored-requires c).After-stored_word-ones) c.requires.3 c.stored_word-ones.ensures, c.fill_inactive.ensures.many)

pub returns : goal.returns
returns c = let p = c.requires in
    (both p.0 (inside (goal.at.returns c).After-stored_word-ones) p.3 c.stored_word-ones.ensures c.fill_inactive.ensures c.put_stored.ensures.0, number_behind p.0 (inside (goal.at.returns c).After-stored_word-ones) p.3 c.stored_word-ones.ensures c.put_stored.ensures.1)
