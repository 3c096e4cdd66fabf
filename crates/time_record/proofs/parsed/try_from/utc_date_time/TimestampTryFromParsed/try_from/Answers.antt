use Rattle.std.proofs.Common.{◌≡◌, ℤ, Option, None, Ok, MatchOption, sym, subst, ◌∙◌}
use Rattle.time_values.specs.Calendar.{greatest_year}
use Rattle.time_values.specs.Instants.{IsInstant}
use Rattle.time_record.specs.Resolution.{IsInstantOfParts, IsTimestamp}
use Rattle.time_record.proofs.parsed.try_from.utc_date_time.TimestampTryFromParsed.try_from.Goals as goal

pub returns-in-Ok : goal.returns-in-Ok
unfolding IsTimestamp IsInstantOfParts
returns-in-Ok c =
    let unknown : c.args.parsed.unix_timestamp_nanos ≡ None = sym c.unix_timestamp_nanos.ensures.value ∙ c.in_default.is in
    let given = c.from.result in
    let P : Option ℤ → Type 0 = λ o. MatchOption o (IsInstantOfParts greatest_year c.args.parsed (Ok given))
    (λ n. (given.nanoseconds ≡ n) × IsInstant greatest_year given.nanoseconds) in
    subst P (sym unknown) (c.in-Ok.moment, c.in-Ok.ensures, c.from.ensures)
