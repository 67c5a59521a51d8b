-- Before all leaves this is the start; else the pass stops at the last of the first ones, since there are more leaves, and goes on behind it.
use mathlib.Core.Path.{◌≡◌}
use mathlib.Core.List.{List}
use Prim.Native.Nat.{ℕ, suc, ◌-◌, ◌≤◌, ◌<◌}
use native.Mathlib.Omega.{arith}
use lib.ListN.{length, drop}
use Rattle.cursor.specs.Inner.{Stop, to_come}
use Rattle.cursor.specs.declared.Cursor.{Cursor}
use Rattle.skip.specs.Inner.{before, skip_from}
use Rattle.skip.proofs.Laws.{records_in}
use Rattle.skip.proofs.Few.{few-records}
use Rattle.place.specs.declared.Start.{Start}
use Rattle.leaves.specs.Inner.{start_cursor, leaves_from, HasLeaves}
use Rattle.leaves.proofs.Next.{most, next-leaf, no_end, no-refusal, leaves-behind}
use Rattle.leaves.proofs.behind_leaves.Goals as goal

-- From before all roots on no more records come than a pass may take, and more leaves than the first ones.
module _ (s : List ℕ) (t : Start) {x : Cursor} (e : x ≡ start_cursor t) {first : ℕ} (h : HasLeaves s t first 1) where
  few : records_in s (to_come s t.coding x).items ≤ most
  few = rw e (omega (arith, few-records s t.coding t.root_count t.roots_pos t.block_pos, h.few))

  module _ (some : first ≡ 0 → ⊥) where
    more : first - 1 < length (leaves_from s t.coding x)
    more = rw e (omega (arith, h.there, some))

    behind : {u : Stop} {n k : ℕ} → before u n k ≡ skip_from s t.coding most (first - 1) x → leaves_from s t.coding u.behind ≡ drop first (leaves_from s t.coding (start_cursor t))
    behind d =
        let m : suc (first - 1) ≡ first = omega (arith, some) in
        rw (m, e) at (leaves-behind s t.coding (first - 1) x (next-leaf s t.coding h.width x few (first - 1) d))

pub returns-then-first-eq0 : goal.returns-then-first-eq0
returns-then-first-eq0 c = rw (c.if-first-eq0.true, c.between_roots-x.ensures)

pub unreachable-requires : goal.unreachable-requires
unreachable-requires c =
    no_end _ _ c.requires.width _ (few _ _ c.between_roots-x.ensures c.requires) _ (more _ _ c.between_roots-x.ensures c.requires c.if-first-eq0.false)
    (rw c.in-Ok-End.field-0-is at c.in-Ok-End.ensures)

pub unreachable-requires-in-Err : goal.unreachable-requires-in-Err
unreachable-requires-in-Err c =
    no-refusal _ _ c.requires.width _ (few _ _ c.between_roots-x.ensures c.requires) _ (more _ _ c.between_roots-x.ensures c.requires c.if-first-eq0.false) c.in-Err.ensures

pub returns : goal.returns
returns c = behind _ _ c.between_roots-x.ensures c.requires c.if-first-eq0.false (rw c.in-Ok-Before.field-0-is at c.in-Ok-Before.ensures)
