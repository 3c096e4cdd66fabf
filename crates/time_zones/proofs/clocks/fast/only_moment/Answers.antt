use Rattle.std.proofs.Common.{◌≡◌, pos, ◌-ℤ◌, ◌+ℤ◌, to_z, of_z, arith, ap, subst, ◌∙◌}
use Rattle.std.specs.Int.{w64}
use Rattle.std.proofs.lemmas.Int.{ints, to_z-of_z}
use Rattle.jiff_core.proofs.SignedLemmas.{signed_arith}
use Rattle.time_values.specs.Instants.{IsWhole, clock_nanos}
use Rattle.time_values.specs.Moments.{plain_date, plain_time, plain_instant, utc_date, utc_time, utc_instant}
use Rattle.time_values.specs.Calendar.{greatest_year}
use Rattle.time_values.specs.declared.plain_date_time.PlainDateTime.{PlainDateTime}
use Rattle.time_values.specs.declared.utc_date_time.UtcDateTime.{UtcDateTime}
use Rattle.time_zones.proofs.ZoneLemmas.{floor_of_whole, one_moment}
use Rattle.time_zones.proofs.clocks.fast.only_moment.Goals as goal

-- in UTC a local time is its instant
in_utc : (clock : PlainDateTime) (u : UtcDateTime) → utc_date u ≡ plain_date clock → utc_time u ≡ plain_time clock
    → utc_instant greatest_year u ≡ plain_instant greatest_year clock
in_utc clock u date time =
    ap (λ d. clock_nanos greatest_year d (utc_time u)) date ∙ ap (clock_nanos greatest_year (plain_date clock)) time

pub returns : goal.returns
returns c =
    let second = c.unix_timestamp-second.result in
    let utc = in_utc c.args.clock c.as_utc.result c.as_utc.ensures.date c.as_utc.ensures.time in
    let whole = subst (λ n. IsWhole 1_000_000_000 n second) utc c.unix_timestamp-second.ensures in
    let is = floor_of_whole (plain_instant greatest_year c.args.clock) second whole in
    let known = to_z w64 (of_z w64 second) in
    let kept = to_z-of_z w64 second (omega (arith, ints)) in
    let begin = to_z-of_z w64 (known -ℤ pos 93_599) (omega (arith, signed_arith, c.if-second-lt-FIRST_SECOND.false, c.if-second-gt-LAST_SECOND.false)) in
    let end = to_z-of_z w64 (known +ℤ pos 93_599) (omega (arith, signed_arith, c.if-second-lt-FIRST_SECOND.false, c.if-second-gt-LAST_SECOND.false)) in
    one_moment c.args.zone.now c.args.clock _ c.in_ok-offset.offset second is
    (λ n within. c.in_ok-offset.ensures n (omega (arith, signed_arith, kept, begin, end, within))) c.moment_with.ensures
