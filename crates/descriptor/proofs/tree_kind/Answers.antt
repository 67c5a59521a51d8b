-- The name is compared with the two that stand for a tree of floats, one after the other.
use Rattle.fields.specs.Parse.{when}
use Rattle.fields.proofs.Laws.{is_true, is_false}
use Rattle.descriptor.specs.Descriptor.{tree_kind}
use Rattle.descriptor.proofs.tree_kind.Goals as goal

pub returns-then-same_bytes : goal.returns-then-same_bytes
unfolding tree_kind when
returns-then-same_bytes c = rw (← is_true c.if-same_bytes.true c.same_bytes.ensures)

pub returns-then-same_bytes-2 : goal.returns-then-same_bytes-2
unfolding tree_kind when
returns-then-same_bytes-2 c =
    rw (← is_false c.if-same_bytes.false c.same_bytes.ensures, ← is_true c.if-same_bytes-2.true c.same_bytes-2.ensures)

pub returns : goal.returns
unfolding tree_kind when
returns c =
    rw (← is_false c.if-same_bytes.false c.same_bytes.ensures, ← is_false c.if-same_bytes-2.false c.same_bytes-2.ensures)
