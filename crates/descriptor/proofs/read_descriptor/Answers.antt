-- Names, positions, flags and metadata, one after the other; each way out is the definition up to the field that fails.
use Rattle.fields.proofs.Steps.{read, handed-on}
use Rattle.descriptor.specs.Descriptor.{descriptor}
use Rattle.descriptor.proofs.read_descriptor.Goals as goal

pub returns-in_err-names : goal.returns-in_err-names
unfolding descriptor
returns-in_err-names c = handed-on _ _ c.from_residual.ensures.1 (search (read, c.in_err-names.ensures))

pub returns-in_err-places : goal.returns-in_err-places
unfolding descriptor
returns-in_err-places c = handed-on _ _ c.from_residual-in_err-places.ensures.1 (search (read, c.in_ok-names.ensures, c.in_err-places.ensures))

pub returns-in_err-flags : goal.returns-in_err-flags
unfolding descriptor
returns-in_err-flags c = handed-on _ _ c.from_residual-in_err-flags.ensures.1 (search (read, c.in_ok-names.ensures, c.in_ok-places.ensures, c.in_err-flags.ensures) depth 7)

pub returns-in_err-found : goal.returns-in_err-found
unfolding descriptor
returns-in_err-found c = handed-on _ _ c.from_residual-in_err-found.ensures.1 (search (read, c.in_ok-names.ensures, c.in_ok-places.ensures, c.in_ok-flags.ensures, c.in_err-found.ensures) depth 9)

pub returns : goal.returns
unfolding descriptor
returns c = rw (c.half_of.ensures, c.tree_kind.ensures, c.bytes_of.ensures) (search (read, c.in_ok-names.ensures, c.in_ok-places.ensures, c.in_ok-flags.ensures, c.in_ok-found.ensures) depth 9)
