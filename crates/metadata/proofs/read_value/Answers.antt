-- Each kind has a field of its own, which is whole or runs past the end: two ways out for each of the seven.
use borrow.Author.Rules.{rules}
use Rattle.fields.proofs.Steps.{read, handed-on}
use Rattle.metadata.proofs.Laws.{of-kind}
use Rattle.metadata.specs.Metadata.{value_field}
use Rattle.metadata.proofs.read_value.Goals as goal

pub returns-in_err-w-in-String : goal.returns-in_err-w-in-String
unfolding value_field
returns-in_err-w-in-String c = handed-on _ _ c.from_residual.ensures.1 (search (read, of-kind, c.in_err-w-in-String.ensures))

pub returns-in_ok-w-in-String : goal.returns-in_ok-w-in-String
unfolding value_field
returns-in_ok-w-in-String c = search (read, of-kind, c.in_ok-w-in-String.ensures)

pub returns-in_err-b-in-Bool : goal.returns-in_err-b-in-Bool
unfolding value_field
returns-in_err-b-in-Bool c = handed-on _ _ c.from_residual-in_err-b-in-Bool.ensures.1 (search (read, of-kind, c.in_err-b-in-Bool.ensures))

pub returns-in_ok-b-in-Bool : goal.returns-in_ok-b-in-Bool
unfolding value_field
returns-in_ok-b-in-Bool c = search (read, of-kind, c.in_ok-b-in-Bool.ensures)

pub returns-in_err-v-in-Int32 : goal.returns-in_err-v-in-Int32
unfolding value_field
returns-in_err-v-in-Int32 c = handed-on _ _ c.from_residual-in_err-v-in-Int32.ensures.1 (search (read, of-kind, c.in_err-v-in-Int32.ensures))

pub returns-in_ok-v-in-Int32 : goal.returns-in_ok-v-in-Int32
unfolding value_field
returns-in_ok-v-in-Int32 c = search (rules, read, of-kind, c.in_ok-v-in-Int32.ensures)

pub returns-in_err-v-in-Int64 : goal.returns-in_err-v-in-Int64
unfolding value_field
returns-in_err-v-in-Int64 c = handed-on _ _ c.from_residual-in_err-v-in-Int64.ensures.1 (search (read, of-kind, c.in_err-v-in-Int64.ensures))

pub returns-in_ok-v-in-Int64 : goal.returns-in_ok-v-in-Int64
unfolding value_field
returns-in_ok-v-in-Int64 c = search (rules, read, of-kind, c.in_ok-v-in-Int64.ensures)

pub returns-in_err-v-in-Float : goal.returns-in_err-v-in-Float
unfolding value_field
returns-in_err-v-in-Float c = handed-on _ _ c.from_residual-in_err-v-in-Float.ensures.1 (search (read, of-kind, c.in_err-v-in-Float.ensures))

pub returns-in_ok-v-in-Float : goal.returns-in_ok-v-in-Float
unfolding value_field
returns-in_ok-v-in-Float c = search (read, of-kind, c.in_ok-v-in-Float.ensures)

pub returns-in_err-v-in-Vec3i : goal.returns-in_err-v-in-Vec3i
unfolding value_field
returns-in_err-v-in-Vec3i c = handed-on _ _ c.from_residual-in_err-v-in-Vec3i.ensures.1 (search (read, of-kind, c.in_err-v-in-Vec3i.ensures))

pub returns-in_ok-v-in-Vec3i : goal.returns-in_ok-v-in-Vec3i
unfolding value_field
returns-in_ok-v-in-Vec3i c = search (read, of-kind, c.in_ok-v-in-Vec3i.ensures)

pub returns-in_err-w-in-Other : goal.returns-in_err-w-in-Other
unfolding value_field
returns-in_err-w-in-Other c = handed-on _ _ c.from_residual-in_err-w-in-Other.ensures.1 (search (read, of-kind, c.in_err-w-in-Other.ensures))

pub returns-in_ok-w-in-Other : goal.returns-in_ok-w-in-Other
unfolding value_field
returns-in_ok-w-in-Other c = search (read, of-kind, c.in_ok-w-in-Other.ensures)
