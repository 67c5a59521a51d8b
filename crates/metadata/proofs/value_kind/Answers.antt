-- The name is compared with six names, one after the other, in the definition's order.
use Rattle.fields.proofs.Steps.{steps}
use Rattle.metadata.specs.Metadata.{value_kind}
use Rattle.metadata.proofs.value_kind.Goals as goal

pub returns-then-same_bytes : goal.returns-then-same_bytes
unfolding value_kind
returns-then-same_bytes c = search steps

pub returns-then-same_bytes-2 : goal.returns-then-same_bytes-2
unfolding value_kind
returns-then-same_bytes-2 c = search steps

pub returns-then-same_bytes-3 : goal.returns-then-same_bytes-3
unfolding value_kind
returns-then-same_bytes-3 c = search steps

pub returns-then-same_bytes-4 : goal.returns-then-same_bytes-4
unfolding value_kind
returns-then-same_bytes-4 c = search steps

pub returns-then-same_bytes-5 : goal.returns-then-same_bytes-5
unfolding value_kind
returns-then-same_bytes-5 c = search steps

pub returns-then-same_bytes-6 : goal.returns-then-same_bytes-6
unfolding value_kind
returns-then-same_bytes-6 c = search steps depth 6

pub returns : goal.returns
unfolding value_kind
returns c = search steps depth 6
