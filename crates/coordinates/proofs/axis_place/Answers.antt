-- `coordinates::axis_place` meets its contract: the remainder is below the span, so the quotient by the step is below the side.
use borrow.Author.Rules.{rules}
use native.Mathlib.Nat.{mul-pos, div-lt_iff_lt-mul}
use Rattle.coordinates.proofs.Remainder.{remainder-lt}
use Rattle.coordinates.proofs.axis_place.Goals as goal

pub remainder_by-requires : goal.remainder_by-requires
remainder_by-requires c = record { positive = mul-pos c.requires.side-positive c.requires.step-positive; whole = c.requires.whole-spans }

pub returns : goal.returns
returns c =
    let p = c.requires in
    rw c.remainder_by.ensures
    (search rules, (div-lt_iff_lt-mul p.step-positive).1 (remainder-lt _ _ (mul-pos p.side-positive p.step-positive)))
