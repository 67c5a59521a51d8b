-- By the difference a half is normal, or its exponent is 0 or 31.
use Rattle.half.proofs.Laws.{above-normal, above_other}
use Rattle.half.proofs.widen.Goals as goal

pub widen_above-requires : goal.widen_above-requires
widen_above-requires c =
    let n = above-normal c.args.h (rw c.from.ensures at c.if-above-lt30720.true) in
    (n.0, rw c.from.ensures n.1)

pub widen_special-requires : goal.widen_special-requires
widen_special-requires c = above_other c.args.h (rw c.from.ensures at c.if-above-lt30720.false) c.if-h-eq0.false
