use Rattle.std.proofs.Common.{neg_ℤ, ◌≡◌, ◌<◌, ◌/◌, ◌%◌, ◌*◌, ◌+◌, ℕ, ℤ, pos, ◌*ℤ◌, ◌+ℤ◌, ◌-ℤ◌, ◌≤ℤ◌, FitsSigned, arith}
use Rattle.std.proofs.lemmas.{Int.ints, Int.to_z-of_z, Nat.div-add-mod'}
use Rattle.std.specs.Int.{w64, cast_signed as to_z, cast_unsigned as of_z}
use Rattle.time_values.specs.{Dates.day_number, Times.nanosecond}
use Rattle.time_values.proofs.InstantLemmas.{first_instant_is, last_instant_is, clock_nanos_is, instant_is}
use Rattle.time_values.specs.Times as Times
use Rattle.restamp_formats.specs.Common.{IsInstant, IsWhole, offset_instant, offset_date, offset_time, offset_of, offset_seconds, greatest_year, OffsetDateTime}
use Rattle.restamp_formats.proofs.form.milliseconds_of.Goals as goal

-- ---- Milliseconds since 1970, by whole seconds and the nanoseconds of the clock

-- the whole seconds of an instant have few digits
seconds_near : (n z : ℤ) → IsInstant greatest_year n → IsWhole 1_000_000_000 n z →
    (neg_ℤ (pos 40_000_000_000_000) ≤ℤ z) × (z ≤ℤ pos 40_000_000_000_000)
seconds_near n z within whole =
    (omega (arith, ints, first_instant_is, last_instant_is), omega (arith, ints, first_instant_is, last_instant_is))

-- an instant is that many whole seconds and some nanoseconds
millis : (n k z : ℤ) (ns q r : ℕ) → n ≡ k *ℤ pos 1_000_000_000 +ℤ pos ns → ns < 1_000_000_000 → ns ≡ q * 1_000_000 + r → r < 1_000_000
    → IsWhole 1_000_000_000 n z → IsWhole 1_000_000 n (z *ℤ pos 1_000 +ℤ pos q)
millis n k z ns q r is low split small whole =
    let same : z ≡ k = omega (arith, ints) in
    rw same (omega (arith, ints), omega (arith, ints))

module _ (v : OffsetDateTime) (z : ℤ) (within : IsInstant greatest_year (offset_instant greatest_year v))
    (whole : IsWhole 1_000_000_000 (offset_instant greatest_year v) z) where
  abbrev ns : ℕ
  ns = nanosecond (offset_time v)

  abbrev part : ℕ
  part = ns / 1_000_000

  near : (neg_ℤ (pos 40_000_000_000_000) ≤ℤ z) × (z ≤ℤ pos 40_000_000_000_000)
  near = seconds_near (offset_instant greatest_year v) z within whole

  -- 64 bits keep each number
  pub seconds_kept : to_z w64 (of_z w64 z) ≡ z
  seconds_kept = to_z-of_z w64 z (omega (arith, ints, near))

  pub product_fits : FitsSigned w64 (z *ℤ pos 1_000)
  product_fits = omega (arith, ints, near)

  pub product_kept : to_z w64 (of_z w64 (z *ℤ pos 1_000)) ≡ z *ℤ pos 1_000
  product_kept = to_z-of_z w64 (z *ℤ pos 1_000) product_fits

  pub part_kept : to_z w64 (of_z w64 (pos part)) ≡ pos part
  part_kept = to_z-of_z w64 (pos part) (omega (arith, ints, div-add-mod' ns 1_000_000, v.time.nanosecond_in))

  pub sum_fits : FitsSigned w64 (z *ℤ pos 1_000 +ℤ pos part)
  sum_fits = omega (arith, ints, near, div-add-mod' ns 1_000_000, v.time.nanosecond_in)

  pub sum_kept : to_z w64 (of_z w64 (z *ℤ pos 1_000 +ℤ pos part)) ≡ z *ℤ pos 1_000 +ℤ pos part
  sum_kept = to_z-of_z w64 (z *ℤ pos 1_000 +ℤ pos part) sum_fits

  pub sum_whole : IsWhole 1_000_000 (offset_instant greatest_year v) (z *ℤ pos 1_000 +ℤ pos part)
  sum_whole =
      millis (offset_instant greatest_year v)
      ((pos (day_number greatest_year (offset_date v)) -ℤ pos 365_961_662) *ℤ pos 86_400
      +ℤ pos (Times.hour (offset_time v) * 3600 + Times.minute (offset_time v) * 60 + Times.second (offset_time v))
      -ℤ offset_seconds (offset_of v))
      z ns part (ns % 1_000_000)
      (omega (arith, ints, instant_is (offset_date v) (offset_time v) (offset_of v), clock_nanos_is (offset_date v) (offset_time v)))
      (omega (arith, v.time.nanosecond_in)) (omega (arith, div-add-mod' ns 1_000_000)) (omega arith) whole

pub overflow_mul-result : goal.overflow_mul-result
overflow_mul-result c =
    let z = c.in_ok-seconds.seconds in
    let is = c.in_ok-seconds.ensures in
    rw (seconds_kept c.args.moment z is.0 is.1) (product_fits c.args.moment z is.0 is.1)

pub overflow_add-result : goal.overflow_add-result
overflow_add-result c =
    let v = c.args.moment in
    let z = c.in_ok-seconds.seconds in
    let is = c.in_ok-seconds.ensures in
    rw (
      seconds_kept v z is.0 is.1,
      product_kept v z is.0 is.1,
      c.from.ensures,
      c.nanosecond.ensures,
      c.time.ensures,
      part_kept v z is.0 is.1,
    ) (sum_fits v z is.0 is.1)

pub returns : goal.returns
returns c =
    let v = c.args.moment in
    let z = c.in_ok-seconds.seconds in
    let is = c.in_ok-seconds.ensures in (
      is.0,
      rw (
        seconds_kept v z is.0 is.1,
        product_kept v z is.0 is.1,
        c.from.ensures,
        c.nanosecond.ensures,
        c.time.ensures,
        part_kept v z is.0 is.1,
        sum_kept v z is.0 is.1,
      ) (sum_whole v z is.0 is.1),
    )
