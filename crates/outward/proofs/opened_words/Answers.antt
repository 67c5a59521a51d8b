-- The first six words stand at the start, one more double is written at each turn, and after the last of them the words are the definition's.
use mathlib.Core.List.{List, [], ◌∷◌}
use mathlib.Core.Path.{refl}
use Prim.Native.Nat.{ℕ, ◌-◌, ◌*◌}
use native.Mathlib.Omega.{arith}
use lib.ListN.{length-set}
use Rattle.grid.specs.declared.OpenedGrid.{OpenedGrid}
use Rattle.outward.specs.Outward.{double_at, table, opened_words}
use Rattle.outward.proofs.Laws.{table_more, table-all}
use Rattle.outward.proofs.opened_words.Goals as goal

-- the first six words, two of them given and with the number n of doubles, and the doubles' patterns
abbrev first : OpenedGrid → ℕ → ℕ → ℕ → List ℕ
first g background tiles n = background ∷ g.active_count ∷ g.leaf_count ∷ tiles ∷ n ∷ (g.transform_end - 8 * n) ∷ []

abbrev doubles : List ℕ → OpenedGrid → ℕ → ℕ → ℕ
doubles s g n = double_at s (g.transform_end - 8 * n) n

pub loop-i-init : goal.loop-i-init
unfolding table
loop-i-init c = (refl, refl)

pub loop-i-preserved : goal.loop-i-preserved
loop-i-preserved c =
    let l = c.loop-i in
    let g = c.args.g in
    let n = c.double_count-count.result in
    let head = first g c.from.result c.from-2.result n in
    let more = table_more (doubles c.args.s.now g n) head l.out l.i _ (omega arith) l.invariant.0 l.invariant.1 c.double_at.ensures in
    (simp length-set l.invariant.0, more)

pub returns : goal.returns
unfolding opened_words
returns c =
    let l = c.loop-i in
    let g = c.args.g in
    let n = c.double_count-count in
    let head = first g c.from.result c.from-2.result n.result in
    let all = table-all (doubles c.args.s.now g n.result) head l.out l.i (omega arith) (omega arith) l.invariant.0 l.invariant.1 in
    rw (c.from.ensures, c.from-2.ensures, n.ensures.0) at all
