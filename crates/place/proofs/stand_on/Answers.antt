-- The pieces passed, and the record in the first one that does not fit.
use mathlib.Core.Path.{◌≡◌}
use Prim.Native.Nat.{◌-◌, ◌<◌}
use native.Mathlib.Omega.{arith}
use Rattle.cursor.specs.Inner.{piece_of}
use Rattle.nth.specs.Inner.{HasOne}
use Rattle.skip.specs.Inner.{before, skip_from}
use Rattle.place.proofs.Found.{small-number, has_there, behind-there}
use Rattle.place.proofs.stand_on.Goals.{After-enter}
use Rattle.place.proofs.stand_on.Goals as goal

-- the piece that does not fit
module _ (c : goal.After-enter) where
  small : c.args.cursor.roots_left < 4294967296
  small = omega arith

  there :
      before (record { piece = piece_of c.in-Ok-Before.piece; behind = c.in-Ok-Before.behind }) c.in-Ok-Before.records c.in-Ok-Before.field-0-3
      ≡ skip_from c.args.s.now c.args.c (c.args.k - 1) 18446744073709551615 c.args.cursor
  there = rw c.in-Ok-Before.field-0-is at c.in-Ok-Before.ensures

  has : HasOne c.args.s.now c.enter.result c.in-Ok-Before.records
  has = has_there _ _ c.requires.0 _ small _ there c.enter.ensures

pub overflow_cast-records : goal.overflow_cast-records
overflow_cast-records c = omega (arith, small-number _ _ _ (has (goal.at.overflow_cast-records c).After-enter))

pub stand_behind-requires : goal.stand_behind-requires
stand_behind-requires c = has (goal.at.stand_behind-requires c).After-enter

pub returns : goal.returns
returns c =
    let t = (goal.at.returns c).After-enter in
    behind-there _ _ c.requires.0 _ (small t) _ (there t) c.enter.ensures c.stand_behind.ensures
