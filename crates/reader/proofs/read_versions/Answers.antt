-- The three numbers that are read in a row are the header's.
use Rattle.std.proofs.Common.{ap}
use Rattle.fields.specs.Fields.{u32_field}
use Rattle.fields.proofs.Steps.{read, handed-on}
use Rattle.reader.specs.Reader.{versions_field}
use Rattle.reader.specs.Reader.{reader_at}
use Rattle.reader.specs.declared.Reader.{Reader}
use Rattle.reader.proofs.Moved.{read-here, stands}
use Rattle.reader.proofs.read_versions.Goals as goal

pub returns-in_err-file_version : goal.returns-in_err-file_version
unfolding versions_field
returns-in_err-file_version c =
    let r = ap (λ (r : Reader). reader_at r.src c.args.at) c.new-reader.ensures in
    handed-on _ _ c.from_residual.ensures.1 (search (read, read-here u32_field c.in_err-file_version.ensures r))

pub returns-in_err-library_version_major : goal.returns-in_err-library_version_major
unfolding versions_field
returns-in_err-library_version_major c =
    let r = ap (λ (r : Reader). reader_at r.src c.args.at) c.new-reader.ensures in
    let r₁ = stands u32_field c.in_ok-file_version.ensures r in
    handed-on _ _ c.from_residual-in_err-library_version_major.ensures.1 (search (read, read-here u32_field c.in_ok-file_version.ensures r, read-here u32_field c.in_err-library_version_major.ensures r₁))

pub returns-in_err-library_version_minor : goal.returns-in_err-library_version_minor
unfolding versions_field
returns-in_err-library_version_minor c =
    let r = ap (λ (r : Reader). reader_at r.src c.args.at) c.new-reader.ensures in
    let r₁ = stands u32_field c.in_ok-file_version.ensures r in
    let r₂ = stands u32_field c.in_ok-library_version_major.ensures r₁ in
    handed-on _ _ c.from_residual-in_err-library_version_minor.ensures.1 (search (read, read-here u32_field c.in_ok-file_version.ensures r, read-here u32_field c.in_ok-library_version_major.ensures r₁, read-here u32_field c.in_err-library_version_minor.ensures r₂) depth 7)

pub returns : goal.returns
unfolding versions_field
returns c =
    let r = ap (λ (r : Reader). reader_at r.src c.args.at) c.new-reader.ensures in
    let r₁ = stands u32_field c.in_ok-file_version.ensures r in
    let r₂ = stands u32_field c.in_ok-library_version_major.ensures r₁ in
    search (read, read-here u32_field c.in_ok-file_version.ensures r, read-here u32_field c.in_ok-library_version_major.ensures r₁, read-here u32_field c.in_ok-library_version_minor.ensures r₂) depth 8
