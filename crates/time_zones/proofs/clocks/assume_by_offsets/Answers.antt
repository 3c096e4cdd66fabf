use Rattle.std.proofs.Common.{rules, arith, ℤ, ◌-ℤ◌, inl, inr, subst, sym, Some, IsTrue, false}
use Rattle.std.proofs.lemmas.Int.{ints}
use Rattle.jiff_core.specs.Timestamp.{IsOffsetSeconds, IsTimestampNanos, nanos_of_seconds}
use Rattle.jiff_tz.specs.Zone as Zone
use Rattle.time_values.specs.Moments.{plain_instant}
use Rattle.time_values.specs.Calendar.{greatest_year}
use Rattle.time_zones.specs.Spread.{HasOffset, IsSpread, Covers}
use Rattle.time_zones.proofs.ZoneLemmas.{shows-HasOffset, shows-IsCivilNanos, told-IsCivilNanos, spread_reaches, clock-HasLocalTime, two_offsets, one_of_two}
use Rattle.time_zones.proofs.clocks.assume_by_offsets.Goals as goal

pub returns-in_default-clause-err : goal.returns-in_default-clause-err
returns-in_default-clause-err c =
    let reading = plain_instant greatest_year c.args.clock in (
      λ n h. c.in_default.ensures.none (shows-IsCivilNanos c.args.zone.now reading n h),
      λ all. c.in_default.ensures.none (told-IsCivilNanos reading all),
    )

pub returns-then-is_in_zone_range_at_each_offset-clause-err : goal.returns-then-is_in_zone_range_at_each_offset-clause-err
returns-then-is_in_zone_range_at_each_offset-clause-err c =
    let zone = c.args.zone.now in
    let reading = plain_instant greatest_year c.args.clock in
    let each = subst (λ r. (s : ℤ) → HasOffset zone r s → ⊥) c.in-Some.ensures.value c.in_default-spread_at.ensures.each in
    let told = subst (λ r. (s : ℤ) → IsOffsetSeconds s → IsTimestampNanos (r -ℤ nanos_of_seconds s)) c.in-Some.ensures.value
    (c.if-is_in_zone_range_at_each_offset.ensures.0 (search rules)) in
    (λ n h. each _ (shows-HasOffset zone reading n h).0, told)

pub returns-in_default-spread_at-clause-err : goal.returns-in_default-spread_at-clause-err
returns-in_default-spread_at-clause-err c =
    let zone = c.args.zone.now in
    let reading = plain_instant greatest_year c.args.clock in
    let each = subst (λ r. (s : ℤ) → HasOffset zone r s → ⊥) c.in-Some.ensures.value c.in_default-spread_at.ensures.each in (
      λ n h. each _ (shows-HasOffset zone reading n h).0,
      λ all.
          let told = subst (λ r. (s : ℤ) → IsOffsetSeconds s → IsTimestampNanos (r -ℤ nanos_of_seconds s)) (sym c.in-Some.ensures.value) all in
          let no : IsTrue false = c.if-is_in_zone_range_at_each_offset.ensures.1 told in
          absurd (search rules),
    )

pub returns-then-spread-clause-err : goal.returns-then-spread-clause-err
returns-then-spread-clause-err c =
    let zone = c.args.zone.now in
    let reading = plain_instant greatest_year c.args.clock in
    let w = c.in-Some-spread_at.spread in
    let ends = subst (λ r. IsSpread zone r w) c.in-Some.ensures.value c.in-Some-spread_at.ensures.ends in
    let each = subst (λ r. (s : ℤ) → HasOffset zone r s → Covers (Some w) s) c.in-Some.ensures.value c.in-Some-spread_at.ensures.each in
    let earlier = c.moment_with-earlier.ensures in
    let later = c.moment_with-later.ensures in (
      clock-HasLocalTime zone c.args.clock _ _ earlier ends.greatest,
      clock-HasLocalTime zone c.args.clock _ _ later ends.least,
      omega (arith, ints, earlier.instant, later.instant, c.if-spread.true),
      λ n h. omega (arith, ints, spread_reaches zone reading w each n h, earlier.instant, later.instant),
    )

pub returns-clause-ok : goal.returns-clause-ok
returns-clause-ok c =
    let zone = c.args.zone.now in
    let reading = plain_instant greatest_year c.args.clock in
    let w = c.in-Some-spread_at.spread in
    let ends = subst (λ r. IsSpread zone r w) c.in-Some.ensures.value c.in-Some-spread_at.ensures.ends in
    let each = subst (λ r. (s : ℤ) → HasOffset zone r s → Covers (Some w) s) c.in-Some.ensures.value c.in-Some-spread_at.ensures.each in
    let only = c.moment_with-earlier.ensures in (
      clock-HasLocalTime zone c.args.clock _ _ only ends.greatest,
      λ n h. omega (arith, ints, spread_reaches zone reading w each n h, ends.rising, c.if-spread.false, only.instant),
    )

pub returns-then-spread-clause-two : goal.returns-then-spread-clause-two
returns-then-spread-clause-two c = λ one. λ n h.
    let zone = c.args.zone.now in
    let reading = plain_instant greatest_year c.args.clock in
    let w = c.in-Some-spread_at.spread in
    let ends = c.in-Some-spread_at.ensures.ends in
    let two = two_offsets zone c.in-Some.civil one in
    let at = shows-HasOffset zone reading n h in
    let s = Zone.offset_at zone n in
    let has = subst (λ r. HasOffset zone r s) (sym c.in-Some.ensures.value) at.0 in
    elim (one_of_two two.0 two.1 w.greatest.seconds w.least.seconds s
    (two.2 _ ends.greatest) (two.2 _ ends.least) (two.2 s has) (omega (arith, ints, c.if-spread.true))) [
      | inl first ↦ inl (omega (arith, ints, at.1, first, c.moment_with-earlier.ensures.instant))
      | inr last ↦ inr (omega (arith, ints, at.1, last, c.moment_with-later.ensures.instant))
    ]
