use Rattle.std.proofs.Common.{◌≡◌, Err, refl, rules}
use Rattle.time_values.specs.Calendar.{greatest_year}
use Rattle.restamp_command.specs.Fault.{erased_fault}
use Rattle.restamp_command.proofs.FormatLemmas.{fault_at, others_fault}
use Rattle.restamp_command.proofs.request.Request.new.Goals as goal

pub returns-in_err-add_formats : goal.returns-in_err-add_formats
returns-in_err-add_formats g c =
    let handed : c.from_residual-in_err-add_formats.result ≡ Err c.in_err-add_formats.field-0.0 = search rules in
    let fault = erased_fault c.in_err-add_formats.field-0.0 in
    rw handed (fault_at c.args.now c.args.options.now fault
    (others_fault c.args.options.now c.has_default_year.result _ fault c.has_default_year.ensures c.other_names-names.ensures
    c.in_err-add_formats.ensures.err))

pub find_bounds-requires-clause-given : goal.find_bounds-requires-clause-given
find_bounds-requires-clause-given g c = rw c.as_slice-3.ensures.value (rw c.as_slice.ensures.value at c.in_ok-given.ensures)

pub returns : goal.returns
returns g c = record {
  place = c.in_ok-place.ensures;
  formats = (
    c.in_ok-first.ensures,
    rw (c.has_default_year.ensures, c.other_names-names.ensures, c.new-others.ensures.items) at c.in_ok-add_formats.ensures.ok,
  );
  uses = rw c.as_slice-2.ensures.value at c.in_default.ensures;
  given = rw c.as_slice.ensures.value at c.in_ok-given.ensures;
  style = c.in_ok-style.ensures;
  bounds = rw c.as_slice-3.ensures.value at c.in_ok-since.ensures;
  output = c.output_of.ensures;
  reports = c.in_ok-reports.ensures;
  stops = c.stops.ensures;
  shows_lines = c.in_ok-shows_lines.ensures;
  strict = refl;
  in_place = c.in_ok-in_place.ensures;
}
