-- What a text is missing for a value.
use Rattle.std.specs.Prelude.{◌≡◌, ℕ, ◌+◌, ◌*◌, ◌/◌, ◌%◌, nat_eq, List, Bool, not, ◌&&◌, ◌||◌, is_some, if◌then◌else◌, Ok, Err, codes}
use Rattle.time_record.specs.Record.{Record}
use Rattle.time_locating.specs.Completeness.{has_day, has_iso_day, has_full_date, has_hour, skips_minute, skips_second}
use Rattle.pelzaune_ffi.specs.Results.{Storing}
use Rattle.pelzaune_ffi.specs.Status.{component_number, status_of}

-- The status of a missing component: 4 plus 256 times its number.
abbrev pub missing : List ℕ → ℕ
missing name = 4 + 256 * component_number name

-- The first of two statuses that isn't 0, or 0.
abbrev pub first_status : ℕ → ℕ → ℕ
first_status status other = if nat_eq status 0 then other else status

-- The status of what is missing for a date: the year if a record has a day of a year, else the month if it has the day
-- of a month, else the day. 0 if it has a day and its year, of the calendar year or of the ISO 8601 week year.
abbrev pub missing_for_date : Record → ℕ
missing_for_date r =
    if has_full_date r then 0 else
    if has_day r || has_iso_day r then missing (codes "year") else
    if is_some r.day then missing (codes "month") else missing (codes "day")

-- The status of what a record is missing for an hour of the day: the half of the day if it has an hour from 1 to 12,
-- otherwise the hour. 0 if it has an hour from 0 to 23, or an hour from 1 to 12 and the half of the day.
abbrev pub missing_for_hour : Record → ℕ
missing_for_hour r =
    if has_hour r then 0 else
    if is_some r.hour_12 then missing (codes "period") else missing (codes "hour")

-- The status of what is missing between a record's hour and its smallest part: a minute before a second or a fraction,
-- or a second before a fraction. 0 if there is no such gap.
abbrev pub missing_below_hour : Record → ℕ
missing_below_hour r =
    if skips_minute r then missing (codes "minute") else if skips_second r then missing (codes "second") else 0

-- The status of what a record is missing for a time; 0 if nothing is.
abbrev pub missing_for_time : Record → ℕ
missing_for_time r = first_status (missing_for_hour r) (missing_below_hour r)

-- The status of what a record is missing for an offset: its hour; 0 if nothing is.
abbrev pub missing_for_offset : Record → ℕ
missing_for_offset r = if is_some r.offset_hour then 0 else missing (codes "offset hour")

-- The number selects a date: it is odd.
abbrev pub selects_date : ℕ → Bool
selects_date needs = nat_eq (needs % 2) 1

-- The number selects a time: its half, rounded down, is odd.
abbrev pub selects_time : ℕ → Bool
selects_time needs = nat_eq (needs / 2 % 2) 1

-- The number selects an offset: its quarter, rounded down, is odd.
abbrev pub selects_offset : ℕ → Bool
selects_offset needs = nat_eq (needs / 4 % 2) 1

-- The status of what is missing for the values that the number selects: the date's first, then the time's, then the
-- offset's. 0 if nothing is, or if the number selects all three and the record has a Unix timestamp.
abbrev pub missing_for : ℕ → Record → ℕ
missing_for needs r =
    if nat_eq (needs % 8) 7 && is_some r.unix_timestamp_nanos then 0 else
    first_status (if selects_date needs then missing_for_date r else 0)
    (first_status (if selects_time needs then missing_for_time r else 0)
    (if selects_offset needs then missing_for_offset r else 0))

-- The status of what the record is missing for the selected values; or the error's status. Nothing is stored.
abbrev pub IsMissing : ℕ → Storing Record (Unit {0})
IsMissing needs (Ok r) status old new = status ≡ missing_for needs r
IsMissing needs (Err e) status old new = status ≡ status_of e
