-- The test tells the patterns of NaN apart; every other pattern is one that `from_bits` is defined on.
use lib.Ieee.{of_bits, div}
use Rattle.fields.proofs.Laws.{nan-bits, no-nan-bits}
use Rattle.fields.proofs.f64_of.Goals as goal

-- 0 / 0 is `nan` by computation
pub returns-then-x-gt9218868437227405312 : goal.returns-then-x-gt9218868437227405312
unfolding of_bits div
returns-then-x-gt9218868437227405312 c = nan-bits c.args.x c.if-x-gt9218868437227405312.true

pub float_from_bits-result : goal.float_from_bits-result
float_from_bits-result c = no-nan-bits c.args.x c.if-x-gt9218868437227405312.false
