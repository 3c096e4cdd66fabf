use Rattle.std.proofs.Common.{◌≡◌, FitsSigned}
use Rattle.std.specs.Int.{w128}
use Rattle.std.proofs.lemmas.Int.{to_z-of_z}
use Rattle.time_values.specs.declared.utc_date_time.UtcDateTime.{UtcDateTime}
use Rattle.time_values.specs.Instants.{clock_nanos, timestamp_refusal}
use Rattle.time_values.specs.Calendar.{greatest_year}
use Rattle.time_values.specs.Times.{HasClock, nanosecond_refusal}
use Rattle.time_values.proofs.NumberLemmas.{Constructs-Ok}
use Rattle.time_record.proofs.ResolutionLemmas.{IsStamped-none, IsStamped-some}
use Rattle.time_record.proofs.parsed.try_from.utc_date_time.moment_at.Goals as goal

pub returns-in_ok-replace_nanosecond-in-Some : goal.returns-in_ok-replace_nanosecond-in-Some
returns-in_ok-replace_nanosecond-in-Some c =
    let n = c.args.nanos in
    let fits : FitsSigned w128 n = c.ranges.nanos in
    let from = c.in_ok-moment.moment in
    let At = λ (u : UtcDateTime). clock_nanos greatest_year u.date u.time ≡ n in
    let at = Constructs-Ok (timestamp_refusal greatest_year n) At from (simp to_z-of_z at c.in_ok-moment.ensures) in
    let to = c.in_ok-replace_nanosecond-in-Some.field-0 in
    let k = c.in-Some.nanosecond in
    let Shows = HasClock from.time.hour from.time.minute from.time.second k in
    let With = λ (u : UtcDateTime). (u.date ≡ from.date) × Shows u.time in
    let replaced = Constructs-Ok (nanosecond_refusal k) With to c.in_ok-replace_nanosecond-in-Some.ensures in
    rw c.in-Some.is (IsStamped-some n k from.date to.date from.time to.time at.1 replaced.1.0 replaced.1.1)

pub returns-in-None : goal.returns-in-None
returns-in-None c =
    let n = c.args.nanos in
    let fits : FitsSigned w128 n = c.ranges.nanos in
    let from = c.in_ok-moment.moment in
    let At = λ (u : UtcDateTime). clock_nanos greatest_year u.date u.time ≡ n in
    let at = Constructs-Ok (timestamp_refusal greatest_year n) At from (simp to_z-of_z at c.in_ok-moment.ensures) in
    rw c.in-None.is (IsStamped-none n from.date from.time at.1)
