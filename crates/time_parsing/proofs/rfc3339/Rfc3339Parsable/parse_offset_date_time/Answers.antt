use Rattle.time_values.specs.Calendar.{greatest_year}
use Rattle.time_parsing.specs.Outcome.{seen}
use Rattle.time_parsing.specs.exact.RecordedRfc3339.{direct-outcome}
use Rattle.time_parsing.specs.Rfc3339.{Reads, Refuses}
use Rattle.time_parsing.proofs.OneOutcome.{outcome_before}
use Rattle.time_parsing.proofs.rfc3339.Rfc3339Parsable.parse_offset_date_time.Goals as goal

pub returns-in-None : goal.returns-in-None
returns-in-None c = rw c.in-None.is (direct-outcome c.args.input.now c.rfc3339.result c.rfc3339.ensures)

pub returns-in_ok-rest-in-Some : goal.returns-in_ok-rest-in-Some
returns-in_ok-rest-in-Some c = rw c.in-Some.is
    (outcome_before (Reads greatest_year) (Refuses greatest_year) c.args.input.now c.in_ok-rest-in-Some.rest.now c.in-Some.defaults
    c.parse_into.new.parsed (seen c.moment_before.result) c.in_ok-rest-in-Some.ensures c.moment_before.ensures)
