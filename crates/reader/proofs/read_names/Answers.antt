-- The three strings that are read in a row are the descriptor's names.
use Rattle.std.proofs.Common.{ap}
use Rattle.fields.specs.Fields.{string_field}
use Rattle.fields.proofs.Steps.{read, handed-on}
use Rattle.descriptor.specs.Descriptor.{names_field}
use Rattle.reader.specs.Reader.{reader_at}
use Rattle.reader.specs.declared.Reader.{Reader}
use Rattle.reader.proofs.Moved.{read-here, stands}
use Rattle.reader.proofs.read_names.Goals as goal

pub returns-in_err-name : goal.returns-in_err-name
unfolding names_field
returns-in_err-name c =
    let r = ap (λ (r : Reader). reader_at r.src c.args.at) c.new-reader.ensures in
    handed-on _ _ c.from_residual.ensures.1 (search (read, read-here string_field c.in_err-name.ensures r))

pub returns-in_err-grid_type : goal.returns-in_err-grid_type
unfolding names_field
returns-in_err-grid_type c =
    let r = ap (λ (r : Reader). reader_at r.src c.args.at) c.new-reader.ensures in
    let r₁ = stands string_field c.in_ok-name.ensures r in
    handed-on _ _ c.from_residual-in_err-grid_type.ensures.1 (search (read, read-here string_field c.in_ok-name.ensures r, read-here string_field c.in_err-grid_type.ensures r₁))

pub returns-in_err-instance_parent : goal.returns-in_err-instance_parent
unfolding names_field
returns-in_err-instance_parent c =
    let r = ap (λ (r : Reader). reader_at r.src c.args.at) c.new-reader.ensures in
    let r₁ = stands string_field c.in_ok-name.ensures r in
    let r₂ = stands string_field c.in_ok-grid_type.ensures r₁ in
    handed-on _ _ c.from_residual-in_err-instance_parent.ensures.1 (search (read, read-here string_field c.in_ok-name.ensures r, read-here string_field c.in_ok-grid_type.ensures r₁, read-here string_field c.in_err-instance_parent.ensures r₂) depth 7)

pub returns : goal.returns
unfolding names_field
returns c =
    let r = ap (λ (r : Reader). reader_at r.src c.args.at) c.new-reader.ensures in
    let r₁ = stands string_field c.in_ok-name.ensures r in
    let r₂ = stands string_field c.in_ok-grid_type.ensures r₁ in
    search (read, read-here string_field c.in_ok-name.ensures r, read-here string_field c.in_ok-grid_type.ensures r₁, read-here string_field c.in_ok-instance_parent.ensures r₂) depth 8
