use Rattle.std.proofs.Common.{List, ℕ, Option, None, Some, Result, Ok, Err, subst}
use Rattle.time_values.specs.Calendar.{greatest_year}
use Rattle.time_values.specs.Refusal.{Refusal}
use Rattle.time_values.specs.declared.offset_date_time.OffsetDateTime.{OffsetDateTime}
use Rattle.time_readers.specs.Direct.{RefusesRfc3339}
use Rattle.time_record.specs.Record.{Record}
use Rattle.time_parsing.specs.Outcome.{direct, seen, IsMomentOutcome}
use Rattle.time_parsing.specs.Rfc3339 as rfc3339
use Rattle.time_parsing.specs.Rfc3339Strict as strict
use Rattle.time_parsing.specs.Rfc3339Strict.{strict_text}
use Rattle.time_parsing.proofs.rfc3339_strict.Rfc3339StrictParsable.parse_offset_date_time.Goals as goal

strict_outcome : (bytes : List ℕ) (defaults : Option Record) (result : Result OffsetDateTime Refusal)
    → IsMomentOutcome greatest_year (direct (RefusesRfc3339 greatest_year)) (rfc3339.Reads greatest_year) (rfc3339.Refuses greatest_year)
    (strict_text bytes) defaults result
    → IsMomentOutcome greatest_year (direct (strict.RefusesDirectly greatest_year)) (strict.Reads greatest_year) (strict.Refuses greatest_year)
    bytes defaults result
strict_outcome bytes None (Ok v) p = p
strict_outcome bytes None (Err e) p = p
strict_outcome bytes (Some defaults) (Ok v) p = p
strict_outcome bytes (Some defaults) (Err e) p = p

pub returns : goal.returns
returns c =
    let outcome = seen c.parse_offset_date_time.result in
    strict_outcome c.args.input.now c.args.defaults outcome
    (subst
    (λ (bytes : List ℕ). IsMomentOutcome greatest_year (direct (RefusesRfc3339 greatest_year)) (rfc3339.Reads greatest_year)
    (rfc3339.Refuses greatest_year) bytes c.args.defaults outcome) c.strict_text.ensures c.parse_offset_date_time.ensures)
