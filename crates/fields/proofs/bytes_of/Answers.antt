-- The three ways out: the start lies past the end, the end cuts the bytes short, or all of them are there.
use native.Mathlib.Omega.{arith}
use Rattle.fields.proofs.Laws.{part_none, part-short, part-whole}
use Rattle.fields.proofs.bytes_of.Goals as goal

pub returns-then-n-start : goal.returns-then-n-start
returns-then-n-start c =
    let a = c.args in
    part_none a.s.now a.w.start a.w.len (omega arith)

pub returns-then-n-start-2 : goal.returns-then-n-start-2
returns-then-n-start-2 c =
    let a = c.args in
    part-short a.s.now a.w.start a.w.len (omega arith)

pub returns : goal.returns
returns c =
    let a = c.args in
    part-whole a.s.now a.w.start a.w.len
