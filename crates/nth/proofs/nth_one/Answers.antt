-- Each turn counts a word of the mask, which has the one that is asked for or fewer ones than are left to pass.
use mathlib.Core.Path.{◌≡◌, ap}
use Prim.Native.Nat.{◌+◌, ◌*◌}
use native.Mathlib.Omega.{arith}
use lib.Count.{ones}
use lib.ListN.{length}
use Rattle.masks.specs.Masks.{mask_bit, count_below}
use Rattle.masks.proofs.Laws.{ones_none}
use Rattle.masks.proofs.Words.{count-on, whole}
use Rattle.nth.proofs.nth_one.Goals.{After-word-ones}
use Rattle.nth.proofs.nth_one.Goals as goal

-- the ones up to the end of this word
counted :
    (c : goal.After-word-ones) →
    count_below (mask_bit c.args.s.now c.args.at) (8 * (8 * c.loop-j.j)) + ones c.word-ones.result
    ≡ count_below (mask_bit c.args.s.now c.args.at) (8 * (8 * (c.loop-j.j + 1)))
counted c =
    let f = mask_bit c.args.s.now c.args.at in
    count-on f _ _ c.word-ones.ensures 64 _ _ (omega arith) (whole f _ _ c.word-ones.ensures) (omega arith)

pub loop-j-init : goal.loop-j-init
loop-j-init c = omega (arith, ap length (ones_none (mask_bit c.args.s.now c.args.at) 0))

pub one_from-requires : goal.one_from-requires
one_from-requires c = (c.requires.0, omega (arith, c.requires.0.words), rw c.loop-j.invariant c.requires.1)

pub returns-then-left-ones : goal.returns-then-left-ones
returns-then-left-ones c = rw c.loop-j.invariant at c.one_from.ensures

pub loop-j-preserved : goal.loop-j-preserved
loop-j-preserved c = omega (arith, counted (goal.at.loop-j-preserved c).After-word-ones, c.loop-j.invariant, c.if-left-ones.false)

pub returns : goal.returns
returns c =
    let e : 8 * c.loop-j.j ≡ c.args.n = omega (arith, c.requires.0.words) in
    absurd (omega (arith, rw e at c.loop-j.invariant, c.requires.1))
