use Rattle.std.specs.Prelude.{option_and_then}
use Rattle.std.proofs.Common.{◌≡◌, ◌∙◌, ℕ, ◌≤◌, ℤ, unsigned_abs, Bool, true, false, Some, List, [], ◌∷◌, ap, arith, ◌/◌}
use Rattle.std.proofs.lemmas.Bool.{le-leb, leb-true}
use Rattle.std.proofs.lemmas.Option.{cond_some, option_and_then_some, IfSome_then}
use Rattle.time_values.specs.Calendar.{greatest_year}
use Rattle.time_values.proofs.InstantLemmas.{is_instant-wider}
use Rattle.time_components.specs.Spelling.{Value, number as spelling_number, signed, flagged, month as spelling_month, weekday as spelling_weekday, period}
use Rattle.time_components.specs.Tree.{Trees, literal, component as tree_component, sequence, optional, first_of, none as tree_none, more as tree_more}
use Rattle.time_components.specs.declared.format_description.Component.{Component}
use Rattle.time_components.specs.declared.format_description.Component.TheVariants as of
use Rattle.time_record.specs.Record.{Record, put_all, Entry, in_range, put, put_here, year_is, year_century_is, year_last_two_is, iso_year_is, iso_year_century_is, iso_year_last_two_is, sunday_week_number_is, monday_week_number_is, iso_week_number_is, ordinal_is, day_is, hour_24_is, hour_12_is, minute_is, second_is, subsecond_is, offset_minute_is, offset_second_is, unix_timestamp_nanos_is}
use Rattle.time_record.specs.Components.{put_number, put_signed, put_century, put_offset_hour, put_month, put_weekday, put_period, put_value}
use Rattle.time_record.specs.Reading.{Reads, ReadsAll}
use Rattle.time_parsing.specs.TreeLaws.{KeepsTexts, HaveNoChoice, KeepsReadings, KeepsRecords}
use Rattle.time_parsing.specs.Rfc3339.{with_leap_second, without_offset_sign}
use Rattle.time_parsing.specs.Rfc2822 as Rfc2822
use Rattle.time_parsing.specs.Rfc3339 as Rfc3339
use Rattle.time_parsing.proofs.KeptIsoTexts.{keeps_iso8601}
use Rattle.time_parsing.proofs.laws.law_kept_readings.Goals as goal

-- ---- A wider range of years keeps the records of a narrower one, and the readings of trees without a choice

module _ (Y Z : ℕ) (wider : Y ≤ Z) where
  in_range-wider : (e : Entry) → in_range Y e ≡ true → in_range Z e ≡ true
  in_range-wider (year_is v) h = le-leb (unsigned_abs v) Z (omega (arith, leb-true (unsigned_abs v) Y h))
  in_range-wider (year_century_is v minus) h =
      le-leb (unsigned_abs v) (Z / 100) (omega (arith, leb-true (unsigned_abs v) (Y / 100) h))
  in_range-wider (iso_year_is v) h = le-leb (unsigned_abs v) Z (omega (arith, leb-true (unsigned_abs v) Y h))
  in_range-wider (iso_year_century_is v minus) h =
      le-leb (unsigned_abs v) (Z / 100) (omega (arith, leb-true (unsigned_abs v) (Y / 100) h))
  in_range-wider (unix_timestamp_nanos_is v) h = is_instant-wider Y Z v wider h
  in_range-wider _ h = h

  pub keeps_records : KeepsRecords Y Z
  keeps_records r h = record {
    year = IfSome_then r.year h.year (λ v. in_range-wider (year_is v));
    year_century = IfSome_then r.year_century h.year_century (λ v. in_range-wider (year_century_is v false));
    year_last_two = h.year_last_two;
    iso_year = IfSome_then r.iso_year h.iso_year (λ v. in_range-wider (iso_year_is v));
    iso_year_century = IfSome_then r.iso_year_century h.iso_year_century (λ v. in_range-wider (iso_year_century_is v false));
    iso_year_last_two = h.iso_year_last_two;
    sunday_week_number = h.sunday_week_number;
    monday_week_number = h.monday_week_number;
    iso_week_number = h.iso_week_number;
    ordinal = h.ordinal;
    day = h.day;
    hour_24 = h.hour_24;
    hour_12 = h.hour_12;
    minute = h.minute;
    second = h.second;
    subsecond = h.subsecond;
    offset_hour = h.offset_hour;
    offset_minute = h.offset_minute;
    offset_second = h.offset_second;
    unix_timestamp_nanos =
        IfSome_then r.unix_timestamp_nanos h.unix_timestamp_nanos (λ v. in_range-wider (unix_timestamp_nanos_is v));
  }

  -- an entry that is stored
  put-wider : (e : Entry) (r q : Record) → put Y e r ≡ Some q → put Z e r ≡ Some q
  put-wider e r q h =
      let is = cond_some (in_range Y e) (put_here e r) q h in
      rw (in_range-wider e is.0) (ap Some is.1)

  put_all-wider : (es : List Entry) (r q : Record) → put_all Y es r ≡ Some q → put_all Z es r ≡ Some q
  put_all-wider [] r q h = h
  put_all-wider (e ∷ es) r q h =
      option_and_then_some (put_all Y es) (put Y e r) q h
      (λ p one tree_more. ap (option_and_then (put_all Z es)) (put-wider e r p one) ∙ put_all-wider es p q tree_more)

  -- a component's value that is stored
  put_number-wider : (entry : ℕ → Entry) (v : Value) (r q : Record) → put_number Y entry v r ≡ Some q → put_number Z entry v r ≡ Some q
  put_number-wider entry (spelling_number n) r q h = put-wider (entry n) r q h
  put_number-wider entry _ r q h = h

  put_signed-wider : (entry : ℤ → Entry) (v : Value) (r q : Record) → put_signed Y entry v r ≡ Some q → put_signed Z entry v r ≡ Some q
  put_signed-wider entry (signed n) r q h = put-wider (entry n) r q h
  put_signed-wider entry _ r q h = h

  put_century-wider : (entry : ℤ → Bool → Entry) (v : Value) (r q : Record)
      → put_century Y entry v r ≡ Some q → put_century Z entry v r ≡ Some q
  put_century-wider entry (flagged n minus) r q h = put-wider (entry n minus) r q h
  put_century-wider entry _ r q h = h

  put_offset_hour-wider : (v : Value) (r q : Record) → put_offset_hour Y v r ≡ Some q → put_offset_hour Z v r ≡ Some q
  put_offset_hour-wider (flagged n minus) r q h = h
  put_offset_hour-wider _ r q h = h

  put_month-wider : (v : Value) (r q : Record) → put_month Y v r ≡ Some q → put_month Z v r ≡ Some q
  put_month-wider (spelling_month m) r q h = h
  put_month-wider _ r q h = h

  put_weekday-wider : (v : Value) (r q : Record) → put_weekday Y v r ≡ Some q → put_weekday Z v r ≡ Some q
  put_weekday-wider (spelling_weekday w) r q h = h
  put_weekday-wider _ r q h = h

  put_period-wider : (v : Value) (r q : Record) → put_period Y v r ≡ Some q → put_period Z v r ≡ Some q
  put_period-wider (period p) r q h = h
  put_period-wider _ r q h = h

  put_value-wider : (c : Component) (v : Value) (r q : Record) → put_value Y c v r ≡ Some q → put_value Z c v r ≡ Some q
  put_value-wider (of.Day m) v r q h = put_number-wider day_is v r q h
  put_value-wider (of.MonthShort m) v r q h = put_month-wider v r q h
  put_value-wider (of.MonthLong m) v r q h = put_month-wider v r q h
  put_value-wider (of.MonthNumerical m) v r q h = put_month-wider v r q h
  put_value-wider (of.Ordinal m) v r q h = put_number-wider ordinal_is v r q h
  put_value-wider (of.WeekdayShort m) v r q h = put_weekday-wider v r q h
  put_value-wider (of.WeekdayLong m) v r q h = put_weekday-wider v r q h
  put_value-wider (of.WeekdaySunday m) v r q h = put_weekday-wider v r q h
  put_value-wider (of.WeekdayMonday m) v r q h = put_weekday-wider v r q h
  put_value-wider (of.WeekNumberIso m) v r q h = put_number-wider iso_week_number_is v r q h
  put_value-wider (of.WeekNumberSunday m) v r q h = put_number-wider sunday_week_number_is v r q h
  put_value-wider (of.WeekNumberMonday m) v r q h = put_number-wider monday_week_number_is v r q h
  put_value-wider (of.CalendarYearFullExtendedRange m) v r q h = put_signed-wider year_is v r q h
  put_value-wider (of.CalendarYearFullStandardRange m) v r q h = put_signed-wider year_is v r q h
  put_value-wider (of.IsoYearFullExtendedRange m) v r q h = put_signed-wider iso_year_is v r q h
  put_value-wider (of.IsoYearFullStandardRange m) v r q h = put_signed-wider iso_year_is v r q h
  put_value-wider (of.CalendarYearCenturyExtendedRange m) v r q h = put_century-wider year_century_is v r q h
  put_value-wider (of.CalendarYearCenturyStandardRange m) v r q h = put_century-wider year_century_is v r q h
  put_value-wider (of.IsoYearCenturyExtendedRange m) v r q h = put_century-wider iso_year_century_is v r q h
  put_value-wider (of.IsoYearCenturyStandardRange m) v r q h = put_century-wider iso_year_century_is v r q h
  put_value-wider (of.CalendarYearLastTwo m) v r q h = put_number-wider year_last_two_is v r q h
  put_value-wider (of.IsoYearLastTwo m) v r q h = put_number-wider iso_year_last_two_is v r q h
  put_value-wider (of.Hour12 m) v r q h = put_number-wider hour_12_is v r q h
  put_value-wider (of.Hour24 m) v r q h = put_number-wider hour_24_is v r q h
  put_value-wider (of.Minute m) v r q h = put_number-wider minute_is v r q h
  put_value-wider (of.Period m) v r q h = put_period-wider v r q h
  put_value-wider (of.Second m) v r q h = put_number-wider second_is v r q h
  put_value-wider (of.Subsecond m) v r q h = put_number-wider subsecond_is v r q h
  put_value-wider (of.OffsetHour m) v r q h = put_offset_hour-wider v r q h
  put_value-wider (of.OffsetMinute m) v r q h = put_signed-wider offset_minute_is v r q h
  put_value-wider (of.OffsetSecond m) v r q h = put_signed-wider offset_second_is v r q h
  put_value-wider (of.Ignore m) v r q h = h
  put_value-wider (of.UnixTimestampSecond m) v r q h = put_signed-wider unix_timestamp_nanos_is v r q h
  put_value-wider (of.UnixTimestampMillisecond m) v r q h = put_signed-wider unix_timestamp_nanos_is v r q h
  put_value-wider (of.UnixTimestampMicrosecond m) v r q h = put_signed-wider unix_timestamp_nanos_is v r q h
  put_value-wider (of.UnixTimestampNanosecond m) v r q h = put_signed-wider unix_timestamp_nanos_is v r q h
  put_value-wider (of.End m) v r q h = h

  mutual
    unfolding Reads ReadsAll

    pub keeps_readings : KeepsReadings Y Z
    keeps_readings (literal t) plain b r rest q h = h
    keeps_readings (tree_component w c) plain b r rest q h = record {
      text = h.text;
      value = h.value;
      cut = h.cut;
      spells = h.spells;
      puts = put_value-wider c h.value r q h.puts;
    }
    keeps_readings (sequence ts) plain b r rest q h = keeps_all ts plain b r rest q h
    keeps_readings (optional t) plain b r rest q h = absurd plain
    keeps_readings (first_of ts) plain b r rest q h = absurd plain

    keeps_all : (ts : Trees) → HaveNoChoice ts → (b : List ℕ) (r : Record) (rest : List ℕ) (q : Record)
        → ReadsAll Y ts b r rest q → ReadsAll Z ts b r rest q
    keeps_all tree_none plain b r rest q h = h
    keeps_all (tree_more t ts) plain b r rest q (mid, m, h, hs) =
        (mid, m, keeps_readings t plain.0 b r mid m h, keeps_all ts plain.1 mid m rest q hs)

  -- the record in which the entries of an RFC 3339 text and of a mail date are stored
  abbrev begun : Record → Record
  begun r = Rfc3339.with_leap_second (Rfc3339.without_offset_sign r)

  pub keeps_rfc3339 : KeepsTexts (Rfc3339.Reads Y) (Rfc3339.Reads Z)
  keeps_rfc3339 b r q (n, m, form, named, puts) = (n, m, form, named, put_all-wider (Rfc3339.entries n m) (begun r) q puts)

  pub keeps_rfc2822 : KeepsTexts (Rfc2822.Reads Y) (Rfc2822.Reads Z)
  keeps_rfc2822 b r q (n, form, puts) = (n, form, put_all-wider (Rfc2822.entries n) (begun r) q puts)

pub returns : goal.returns
returns c = record {
  readings = keeps_readings 9999 greatest_year (omega arith);
  rfc3339 = keeps_rfc3339 9999 greatest_year (omega arith);
  rfc2822 = keeps_rfc2822 9999 greatest_year (omega arith);
  iso8601 = keeps_iso8601 9999 greatest_year (omega arith) (omega arith);
  records = keeps_records 9999 greatest_year (omega arith);
}
