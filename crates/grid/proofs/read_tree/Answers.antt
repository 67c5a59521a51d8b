-- The topology is passed, and then all pieces; what is left of the budgets tells how many records and leaves there are.
use Rattle.std.proofs.Common.{Ok}
use Rattle.fields.proofs.Laws.{told}
use Rattle.fields.proofs.Steps.{handed-on-answer}
use Rattle.skip.specs.Inner.{says_skip}
use Rattle.skip.specs.declared.Skipped.{Skipped}
use Rattle.grid.proofs.Laws.{tree-short, tree-passed}
use Rattle.grid.proofs.read_tree.Goals as goal

pub returns-in_err-topology_end : goal.returns-in_err-topology_end
returns-in_err-topology_end c = handed-on-answer _ _ c.from_residual.ensures.1 (tree-short _ _ _ _ _ _ _ c.coding_of-coding.ensures.0 c.in_err-topology_end.ensures)

pub returns-in_err-records : goal.returns-in_err-records
returns-in_err-records c =
    handed-on-answer _ _ c.from_residual-in_err-records.ensures.1
    (tree-passed _ _ _ _ _ _ _ c.coding_of-coding.ensures.0 c.requires c.in_ok-topology_end.ensures c.between_roots-first.ensures c.in_err-records.ensures)

pub returns-in_default : goal.returns-in_default
returns-in_default c =
    tree-passed _ _ _ _ _ _ _ c.coding_of-coding.ensures.0 c.requires c.in_ok-topology_end.ensures c.between_roots-first.ensures
    (told (λ (x : Skipped). says_skip (Ok x)) c.in_default.is c.in_ok-records.ensures)

pub returns : goal.returns
returns c =
    rw c.coding_of-coding.ensures.0
    (tree-passed _ _ _ _ _ _ _ c.coding_of-coding.ensures.0 c.requires c.in_ok-topology_end.ensures c.between_roots-first.ensures
    (told (λ (x : Skipped). says_skip (Ok x)) c.in-End.is c.in_ok-records.ensures))
