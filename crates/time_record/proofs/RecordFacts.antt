-- Worked values of records and setters, so that a wrong rule in the specs fails the check. They follow from the definitions, without any code. `Y` is the
-- greatest year.
use Rattle.std.proofs.Common.{◌≡◌, ℕ, [], ◌∷◌, pos, neg_ℤ, true, false, Option, Some, None, refl, ap}
use Rattle.time_components.specs.Spelling.{flagged, nothing}
use Rattle.time_components.specs.declared.format_description.Component.TheVariants as kind
use Rattle.time_components.specs.declared.modifier.Ignore.{Ignore}
use Rattle.time_components.specs.declared.modifier.End.{End}
use Rattle.time_components.specs.declared.modifier.OffsetHour.{OffsetHour}
use Rattle.time_record.specs.Components.{put_value}
use Rattle.time_record.specs.Record.{Record, IsInRanges, Sets, empty, put, put_all, day_is, hour_24_is, hour_12_is, minute_is, offset_hour_is}
use Rattle.time_record.specs.Record.{ordinal_is, second_is, subsecond_is, year_century_is, year_is}
use Rattle.time_record.specs.Resolution.{offset_part}

module _ (Y : ℕ) (r : Record) where
  pub hour_23_is_put : put Y (hour_24_is 23) r ≡ Some (record r { hour_24 = Some 23 })
  hour_23_is_put = refl

  pub second_60_is_put : put Y (second_is 60) r ≡ Some (record r { second = Some 60 })
  second_60_is_put = refl

  -- the last entry of an option counts
  pub last_entry_counts : put_all Y (minute_is 7 ∷ minute_is 8 ∷ []) r ≡ Some (record r { minute = Some 8 })
  last_entry_counts = refl

  -- the component of an offset's hour sets the flag to its minus, also for 0
  pub minus_zero_hour_sets_the_sign : (m : OffsetHour) → put_value Y (kind.OffsetHour m) (flagged (pos 0) true) r
      ≡ Some (record r { offset_hour = Some (pos 0); offset_is_negative = true })
  minus_zero_hour_sets_the_sign m = refl

  pub plus_hour_clears_the_sign : (m : OffsetHour) → put_value Y (kind.OffsetHour m) (flagged (pos 1) false) r
      ≡ Some (record r { offset_hour = Some (pos 1); offset_is_negative = false })
  plus_hour_clears_the_sign m = refl

  -- a setter of the hour doesn't change the flag
  pub set_hour_keeps_the_sign : put Y (offset_hour_is (neg_ℤ (pos 5))) r ≡ Some (record r { offset_hour = Some (neg_ℤ (pos 5)) })
  set_hour_keeps_the_sign = refl

  -- the flag negates the minute that is stored
  pub minute_after_a_minus : offset_part (record r { offset_is_negative = true }) (Some (pos 30)) ≡ neg_ℤ (pos 30)
  minute_after_a_minus = refl

  pub ignored_bytes_put_nothing : (m : Ignore) → put_value Y (kind.Ignore m) nothing r ≡ Some r
  ignored_bytes_put_nothing m = refl

  pub end_puts_nothing : (m : End) → put_value Y (kind.End m) nothing r ≡ Some r
  end_puts_nothing m = refl

  -- a setter that rejects its value leaves the record unchanged
  pub setter_keeps_the_record : Sets (put Y (second_is 61) r) r None r
  setter_keeps_the_record = refl

  -- values out of range
  pub no_hour_24 : put Y (hour_24_is 24) r ≡ None
  no_hour_24 = refl

  pub no_hour_0_of_12 : put Y (hour_12_is 0) r ≡ None
  no_hour_0_of_12 = refl

  pub no_second_61 : put Y (second_is 61) r ≡ None
  no_second_61 = refl

  pub no_day_0 : put Y (day_is 0) r ≡ None
  no_day_0 = refl

  pub no_day_32 : put Y (day_is 32) r ≡ None
  no_day_32 = refl

  pub no_ordinal_367 : put Y (ordinal_is 367) r ≡ None
  no_ordinal_367 = refl

  pub no_subsecond_of_ten_digits : put Y (subsecond_is 1_000_000_000) r ≡ None
  no_subsecond_of_ten_digits = refl

  pub no_offset_hour_26 : put Y (offset_hour_is (neg_ℤ (pos 26))) r ≡ None
  no_offset_hour_26 = refl

  -- a value out of range is not stored
  pub no_put_after_it : put_all Y (minute_is 60 ∷ hour_24_is 1 ∷ []) r ≡ None
  no_put_after_it = refl

  -- a setter doesn't reject a value in range
  pub setter_does_not_give_up : Sets (put Y (second_is 60) r) r None r → ⊥
  setter_does_not_give_up h = h

  pub no_record_of_second_61 : IsInRanges Y (record r { second = Some 61 }) → ⊥
  no_record_of_second_61 h = let test : false ≡ true = h.second in cc

-- a century's flag is its own sign, and for 0 the given one
module _ (r : Record) where
  pub century_0_takes_the_given_sign : put 9999 (year_century_is (pos 0) true) r
      ≡ Some (record r { year_century = Some (pos 0); year_century_is_negative = true })
  century_0_takes_the_given_sign = refl

  pub century_has_its_own_sign : put 9999 (year_century_is (neg_ℤ (pos 5)) false) r
      ≡ Some (record r { year_century = Some (neg_ℤ (pos 5)); year_century_is_negative = true })
  century_has_its_own_sign = refl

  pub year_9999_is_put : put 9999 (year_is (neg_ℤ (pos 9999))) r ≡ Some (record r { year = Some (neg_ℤ (pos 9999)) })
  year_9999_is_put = refl

  pub no_year_10000 : put 9999 (year_is (pos 10_000)) r ≡ None
  no_year_10000 = refl

  pub no_century_100 : put 9999 (year_century_is (pos 100) false) r ≡ None
  no_century_100 = refl

-- a setter doesn't store the value that it rejects
pub refused_second_is_not_left : (Y : ℕ) → Sets (put Y (second_is 61) empty) empty None (record empty { second = Some 61 }) → ⊥
refused_second_is_not_left Y h = let left : ◌≡◌ {A = Option ℕ} (Some 61) None = ap (λ (q : Record). q.second) h in cc
