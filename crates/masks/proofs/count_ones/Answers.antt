use native.Mathlib.Omega.{arith}
use mathlib.Core.Path.{◌≡◌, sym, ap}
use Prim.Native.Nat.{◌+◌, ◌*◌}
use lib.ListN.{length}
use lib.Count.{ones}
use Rattle.masks.specs.Masks.{mask_bit, count_below}
use Rattle.masks.proofs.Laws.{ones_none, count-le}
use Rattle.masks.proofs.Words.{count-on, whole}
use Rattle.masks.proofs.count_ones.Goals.{After-word}
use Rattle.masks.proofs.count_ones.Goals as goal

counted : (c : After-word) → c.loop-k.count + ones c.word.result ≡ count_below (mask_bit c.args.s.now c.args.at) (8 * (8 * (c.loop-k.k + 1)))
counted c =
    let f = mask_bit c.args.s.now c.args.at in
    rw c.loop-k.invariant (count-on f _ _ c.word.ensures 64 _ _ (omega arith) (whole f _ _ c.word.ensures) (omega arith))

pub loop-k-init : goal.loop-k-init
loop-k-init c = sym (ap length (ones_none _ 0))

pub overflow_add-count : goal.overflow_add-count
overflow_add-count c =
    let a = c.args in
    omega (arith, counted (goal.at.overflow_add-count c).After-word, count-le (mask_bit a.s.now a.at) (8 * (8 * (c.loop-k.k + 1))))

pub loop-k-preserved : goal.loop-k-preserved
loop-k-preserved c = counted (goal.at.loop-k-preserved c).After-word
