-- The name, the kind, the length and the value, one after the other; the whole entry ends where the value ends.
use Rattle.fields.proofs.Steps.{read, handed-on}
use Rattle.metadata.specs.Metadata.{entry}
use Rattle.metadata.proofs.read_entry.Goals as goal

pub returns-in_err-name : goal.returns-in_err-name
unfolding entry
returns-in_err-name c = handed-on _ _ c.from_residual.ensures.1 (search (read, c.in_err-name.ensures))

pub returns-in_err-k : goal.returns-in_err-k
unfolding entry
returns-in_err-k c = handed-on _ _ c.from_residual-in_err-k.ensures.1 (search (read, c.in_ok-name.ensures, c.in_err-k.ensures))

pub returns-in_err-n : goal.returns-in_err-n
unfolding entry
returns-in_err-n c = handed-on _ _ c.from_residual-in_err-n.ensures.1 (search (read, c.in_ok-name.ensures, c.in_ok-k.ensures, c.in_err-n.ensures))

pub returns-in_err-value : goal.returns-in_err-value
unfolding entry
returns-in_err-value c = handed-on _ _ c.from_residual-in_err-value.ensures.1 (search (read, c.in_ok-name.ensures, c.in_ok-k.ensures, c.in_ok-n.ensures, c.in_err-value.ensures) depth 9)

pub returns : goal.returns
unfolding entry
returns c = rw c.saturating_sub.ensures (search (read, c.in_ok-name.ensures, c.in_ok-k.ensures, c.in_ok-n.ensures, c.in_ok-value.ensures) depth 9)
