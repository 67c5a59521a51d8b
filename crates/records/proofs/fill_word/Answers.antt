-- A full word's 64 places are all active, so its run is what the word hands out; the other two ways are the calls' own.
use borrow.Author.Rules.{rules}
use mathlib.Core.Path.{◌≡◌, sym, ◌∙◌}
use mathlib.Core.Bool.{true}
use Prim.Native.Nat.{ℕ, ◌+◌, ◌≤◌, ◌<◌}
use native.Mathlib.Omega.{arith}
use Rattle.masks.specs.Masks.{digit}
use Rattle.slots.proofs.Levels.{masked}
use Rattle.slots.proofs.Laws.{room-less}
use Rattle.bits.proofs.Laws.{starts, ends_so}
use Rattle.records.proofs.Ways.{full-there, leaf-there}
use Rattle.records.proofs.Runs.{all_ones, run_inside, word-whole, run-fills}
use Rattle.records.proofs.fill_word.Goals.{Then-is_full}
use Rattle.records.proofs.fill_word.Goals as goal

-- a full word
module _ (c : goal.Then-is_full) where
  full : (c.args.word.ones ≡ 18446744073709551615) × (c.args.slot + 64 ≤ c.args.limit) × (c.args.word.inside.number + 64 ≤ c.args.room)
  full = full-there _ _ _ _ (sym c.is_full.ensures ∙ c.if-is_full.true)

  active : (q : ℕ) → q < 64 → digit c.args.word.ones q ≡ true
  active q h = all_ones 64 _ q full.0 h

  inside : 64 ≤ c.args.word.left
  inside = run_inside _ c.args.c _ c.requires.1 64 active

  few-places : c.args.word.inside.from + 64 ≤ 32768
  few-places = let m = masked c.args.word.inside.level in omega (arith, inside, c.requires.1.places, m.small, m.bits)

pub fill_full-requires : goal.fill_full-requires
fill_full-requires c =
    let t = (goal.at.fill_full-requires c).Then-is_full in
    let p = c.requires in
    (p.0, omega (arith, inside t, p.1.places), (full t).2, room-less _ (full t).1 p.2)

pub overflow_add-inside : goal.overflow_add-inside
overflow_add-inside c = omega (arith, few-places (goal.at.overflow_add-inside c).Then-is_full)

pub overflow_add-inside-then-is_full : goal.overflow_add-inside-then-is_full
overflow_add-inside-then-is_full c = omega (arith, few-places (goal.at.overflow_add-inside-then-is_full c).Then-is_full, c.requires.0.number)

pub overflow_add-result : goal.overflow_add-result
overflow_add-result c = omega (arith, (full (goal.at.overflow_add-result c).Then-is_full).1, c.ranges.limit)

pub returns-then-is_full : goal.returns-then-is_full
returns-then-is_full c =
    let t = (goal.at.returns-then-is_full c).Then-is_full in
    let p = c.requires in
    ends_so (run-fills _ _ _ 64 c.fill_full.ensures) (starts _ _ _)
    (word-whole _ c.args.c _ p.1 64 (active t) _ (omega (arith, (full t).1)) (omega (arith, (full t).2, p.0.values)) p.1.word)

pub fill_ones-requires : goal.fill_ones-requires
fill_ones-requires c = (search rules, search rules, leaf-there _ _ (sym c.is_leaf.ensures ∙ c.if-is_leaf.true), search rules)
