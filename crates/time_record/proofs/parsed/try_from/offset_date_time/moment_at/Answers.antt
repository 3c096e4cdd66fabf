use Rattle.std.proofs.Common.{◌≡◌, FitsSigned}
use Rattle.std.specs.Int.{w128}
use Rattle.std.proofs.lemmas.Int.{to_z-of_z}
use Rattle.time_values.specs.declared.offset_date_time.OffsetDateTime.{OffsetDateTime}
use Rattle.time_values.specs.Instants.{instant, timestamp_refusal}
use Rattle.time_values.specs.Offsets.{IsUtc}
use Rattle.time_values.specs.Calendar.{greatest_year}
use Rattle.time_values.specs.Times.{HasClock, nanosecond_refusal}
use Rattle.time_values.proofs.NumberLemmas.{Constructs-Ok}
use Rattle.time_record.proofs.ResolutionLemmas.{IsStamped-none, IsStamped-some, clock_nanos-utc}
use Rattle.time_record.proofs.parsed.try_from.offset_date_time.moment_at.Goals as goal

pub returns-in_ok-replace_nanosecond-in-Some : goal.returns-in_ok-replace_nanosecond-in-Some
returns-in_ok-replace_nanosecond-in-Some c =
    let n = c.args.nanos in
    let fits : FitsSigned w128 n = c.ranges.nanos in
    let from = c.in_ok-moment.moment in
    let At = λ (o : OffsetDateTime). (instant greatest_year o.date o.time o.offset ≡ n) × IsUtc o.offset in
    let at = Constructs-Ok (timestamp_refusal greatest_year n) At from (simp to_z-of_z at c.in_ok-moment.ensures) in
    let to = c.in_ok-replace_nanosecond-in-Some.field-0 in
    let k = c.in-Some.nanosecond in
    let Shows = HasClock from.time.hour from.time.minute from.time.second k in
    let With = λ (o : OffsetDateTime). (o.date ≡ from.date) × Shows o.time × (o.offset ≡ from.offset) in
    let replaced = Constructs-Ok (nanosecond_refusal k) With to c.in_ok-replace_nanosecond-in-Some.ensures in
    let clock = clock_nanos-utc n from.date from.time from.offset at.1.1 at.1.0 in
    let utc : IsUtc to.offset = rw replaced.1.2 at.1.1 in
    (rw c.in-Some.is (IsStamped-some n k from.date to.date from.time to.time clock replaced.1.0 replaced.1.1), utc)

pub returns-in-None : goal.returns-in-None
returns-in-None c =
    let n = c.args.nanos in
    let fits : FitsSigned w128 n = c.ranges.nanos in
    let from = c.in_ok-moment.moment in
    let At = λ (o : OffsetDateTime). (instant greatest_year o.date o.time o.offset ≡ n) × IsUtc o.offset in
    let at = Constructs-Ok (timestamp_refusal greatest_year n) At from (simp to_z-of_z at c.in_ok-moment.ensures) in
    let clock = clock_nanos-utc n from.date from.time from.offset at.1.1 at.1.0 in
    (rw c.in-None.is (IsStamped-none n from.date from.time clock), at.1.1)
