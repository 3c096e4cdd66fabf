use Rattle.std.proofs.Common.{◌≡◌, ap, subst, arith, w64, ℤ, pos, ◌+ℤ◌, ◌*ℤ◌, to_z, of_z}
use Rattle.std.proofs.lemmas.Int.{ints}
use Rattle.time_values.specs.Moments.{offset_instant, ConstructsSystemTime}
use Rattle.time_values.specs.Calendar.{greatest_year}
use Rattle.time_values.specs.Times.{nanosecond}
use Rattle.time_values.proofs.InstantLemmas.{clock_nanos_is, instant_is}
use Rattle.time_values.proofs.conversion.SystemTimeTryFromOffsetDateTime.try_from.Goals as goal

pub returns : goal.returns
returns c =
    let v = c.args.moment in
    let whole : to_z w64 (of_z w64 c.unix_timestamp.result) *ℤ pos 1_000_000_000 +ℤ pos c.nanosecond.result ≡ offset_instant greatest_year v =
    omega (arith, ints, ap nanosecond c.time.ensures, clock_nanos_is v.date v.time, instant_is v.date v.time v.offset) in
    subst (λ (n : ℤ). ConstructsSystemTime n c.system_time.result) whole c.system_time.ensures
