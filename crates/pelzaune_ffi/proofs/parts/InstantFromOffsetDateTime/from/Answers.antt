use Rattle.std.proofs.Common.{◌≡◌, arith, ℤ, pos, ◌+ℤ◌, ◌*ℤ◌, w64}
use Rattle.std.proofs.lemmas.Int.{ints, to_z-of_z}
use Rattle.time_values.specs.Instants.{instant, IsWhole}
use Rattle.time_values.specs.Calendar.{greatest_year}
use Rattle.time_values.specs.Times.{nanosecond}
use Rattle.time_values.specs.declared.offset_date_time.OffsetDateTime.{OffsetDateTime}
use Rattle.time_values.proofs.InstantLemmas.{clock_nanos_is, instant_is}
use Rattle.pelzaune_ffi.proofs.parts.InstantFromOffsetDateTime.from.Goals as goal

-- ---- Instants as whole seconds and nanoseconds

-- the nanoseconds after the whole seconds of an instant are those of the local time
whole_and_left : (v : OffsetDateTime) (z : ℤ) → IsWhole 1_000_000_000 (instant greatest_year v.date v.time v.offset) z
    → instant greatest_year v.date v.time v.offset ≡ z *ℤ pos 1_000_000_000 +ℤ pos (nanosecond v.time)
whole_and_left v z h =
    omega (arith, ints, h, instant_is v.date v.time v.offset, clock_nanos_is v.date v.time, v.time.nanosecond_in)

pub returns : goal.returns
returns c =
    let kept = to_z-of_z w64 c.unix_timestamp.result (omega (arith, ints)) in
    record {
      instant = rw (kept, c.nanosecond.ensures, c.time.ensures) (whole_and_left c.args.value c.unix_timestamp.result c.unix_timestamp.ensures);
      below = omega (arith, c.nanosecond.ensures, c.time.result.nanosecond_in);
    }
