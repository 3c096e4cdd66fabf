-- Which of its components a record has for a date or a time.
use Rattle.std.specs.Prelude.{Bool, not, ◌&&◌, ◌||◌, is_some}
use Rattle.time_record.specs.Record.{Record}

-- the record has a year, or its century and its last two digits
abbrev pub has_whole_year : Record → Bool
has_whole_year r = is_some r.year || (is_some r.year_century && is_some r.year_last_two)

-- the record has an ISO 8601 week year, or its century and its last two digits
abbrev pub has_whole_iso_year : Record → Bool
has_whole_iso_year r = is_some r.iso_year || (is_some r.iso_year_century && is_some r.iso_year_last_two)

-- the record has a day of a year: its number in the year, a month and a day, or a weekday and the number of a week that
-- starts on Sunday or Monday
abbrev pub has_day : Record → Bool
has_day r =
    is_some r.ordinal || (is_some r.month && is_some r.day)
    || (is_some r.weekday && (is_some r.sunday_week_number || is_some r.monday_week_number))

-- the record has a day of an ISO 8601 week year: a week number and a weekday
abbrev pub has_iso_day : Record → Bool
has_iso_day r = is_some r.iso_week_number && is_some r.weekday

-- the record has a day with its whole year, both of the calendar year or both of the ISO 8601 week year
abbrev pub has_full_date : Record → Bool
has_full_date r = (has_whole_year r && has_day r) || (has_whole_iso_year r && has_iso_day r)

-- the record has an hour of the day: from 0 to 23, or from 1 to 12 with AM or PM
abbrev pub has_hour : Record → Bool
has_hour r = is_some r.hour_24 || (is_some r.hour_12 && is_some r.hour_12_is_pm)

-- the record has a second or a fraction of a second, but no minute
abbrev pub skips_minute : Record → Bool
skips_minute r = not (is_some r.minute) && (is_some r.second || is_some r.subsecond)

-- the record has a fraction of a second, but no second
abbrev pub skips_second : Record → Bool
skips_second r = not (is_some r.second) && is_some r.subsecond
