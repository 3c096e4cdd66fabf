-- The date and time of RFC 2822, section 3.3, by places.
use Rattle.std.specs.Prelude.{◌≡◌, ◌≤◌, ℕ, ◌+◌, ◌⊎◌, List, [], ◌∷◌, ◌++◌, codes, Bool, true, false, Option, Some, None, IfSome, ℤ, pos, unsigned_abs, nat_lt, if◌then◌else◌}
use Rattle.time_values.specs.Refusal.{Refusal, literal, component}
use Rattle.time_values.specs.Sign.{signed_by}
use Rattle.time_values.specs.declared.month.Month.{Month}
use Rattle.time_values.specs.declared.month.Month.TheVariants.{January}
use Rattle.time_values.specs.declared.weekday.Weekday.{Weekday}
use Rattle.time_digits.specs.Digits.{Form, NoCut, IsDigitRun, sign_byte, is_negative}
use Rattle.time_values.specs.Names.{month_name, weekday_name}
use Rattle.time_components.specs.Spelling.{IsShortOf}
use Rattle.time_readers.specs.Readers.{Format, MatchesPlaces, StopsAt, IsWithin, IsTwoDigits, Reader, IsRead}
use Rattle.time_readers.specs.MailBlanks.{fws, cfws, opt_cfws, opt_cfws_colon_opt_cfws, zone_literal}
use Rattle.time_digits.specs.declared.Sign.{Sign}
use Rattle.time_readers.specs.declared.rfc2822.Numbers.{Numbers}
use Rattle.time_readers.specs.declared.rfc2822.Place.{Place}
use Rattle.time_readers.specs.declared.rfc2822.Place.TheVariants.{WeekdayName, Day, DayBlanks, MonthName, MonthBlanks, Year, YearBlanks, Hour, HourColon, Minute, Second, TimeBlanks, OffsetHour, OffsetMinute, EndBlanks}

-- the first three letters of a name of a weekday, in any case
abbrev pub IsShortWeekday : Form Weekday
IsShortWeekday = IsShortOf false weekday_name

-- optional blanks and comments, then no weekday, or the first three letters of one, a comma, and again such blanks
abbrev pub IsWeekdayPart : Form (Option Weekday)
IsWeekdayPart text after None = IsRead opt_cfws text after × NoCut IsShortWeekday after
IsWeekdayPart text after (Some w) =
    (blanks name more_blanks : List ℕ) × (text ≡ blanks ++ (name ++ 44 ∷ more_blanks))
    × IsRead opt_cfws blanks (name ++ 44 ∷ (more_blanks ++ after))
    × IsShortWeekday name (44 ∷ (more_blanks ++ after)) w
    × IsRead opt_cfws more_blanks after

-- the year of two digits: 00 to 49 are 2000 to 2049, and greater numbers 1950 to 1999
abbrev pub year_of_two : ℕ → ℕ
year_of_two v = if nat_lt v 50 then 2000 + v else 1900 + v

-- a year: for `true` four digits of 1900 or later; for `false` two digits, where there aren't four, as 1950 to 2049
abbrev pub IsYear : Bool → Form ℕ
IsYear true text after v = IsDigitRun 4 4 text after v × (1900 ≤ v)
IsYear false text after v =
    NoCut (IsDigitRun 4 4) (text ++ after) × ((w : ℕ) × IsDigitRun 2 2 text after w × (v ≡ year_of_two w))

-- the text is all that a reader consumes, and doesn't change the numbers
abbrev pub IsSilent : Reader → Numbers → Form Numbers
IsSilent reader n text after m = IsRead reader text after × (m ≡ n)

-- the blanks after a year: without comments for `true`, a year of four digits; with or without for `false`, one of two
abbrev pub year_blanks : Bool → Reader
year_blanks true = fws
year_blanks false = cfws

-- nothing without a colon; or a colon between optional blanks and comments, and two digits, 0 to 60 if checked
abbrev pub IsSecond : Bool → Form (Option ℕ)
IsSecond check_ranges text after None = (text ≡ []) × (opt_cfws_colon_opt_cfws after ≡ None)
IsSecond check_ranges text after (Some v) =
    (colon digits : List ℕ) × (text ≡ colon ++ digits)
    × IsRead opt_cfws_colon_opt_cfws colon (digits ++ after) × IsTwoDigits check_ranges 0 60 digits after v

-- a zone name, whose hours from UTC are stored as the hour of the offset, and `None` as its sign
abbrev pub IsZone : Numbers → Form Numbers
IsZone n text after m =
    (hours : ℤ) × (zone_literal (text ++ after) ≡ Some (hours, after))
    × (m ≡ record n { offset_sign = None; offset_hour = hours })

-- a sign and two digits, 0 to 25 if ranges are checked, as an hour with the sign, if there is no zone name
pub record IsSignedHour (check_ranges : Bool) (n : Numbers) (text after : List ℕ) (m : Numbers) : Type 0 where
  pub no_zone : zone_literal (text ++ after) ≡ None
  pub sign : Sign
  pub digits : List ℕ
  pub hour : ℕ
  pub cut : text ≡ sign_byte sign ∷ digits
  pub run : IsTwoDigits check_ranges 0 25 digits after hour
  pub says : m ≡ record n { offset_sign = Some sign; offset_hour = signed_by (is_negative sign) (pos hour) }

-- two digits after a signed hour, 0 to 59 if ranges are checked, as a minute with the hour's sign; and nothing after a
-- zone name, where there is no sign
abbrev pub IsOffsetMinute : Bool → Option Sign → Numbers → Form Numbers
IsOffsetMinute check_ranges None n text after m = (text ≡ []) × (m ≡ n)
IsOffsetMinute check_ranges (Some sign) n text after m =
    (v : ℕ) × IsTwoDigits check_ranges 0 59 text after v
    × (m ≡ record n { offset_minute = signed_by (is_negative sign) (pos v) })

-- The text of each place and its value: its form, and its range if ranges are checked. The year stores whether it has
-- four digits, and the hour of the offset its sign, or `None` for a zone name, since the next place depends on it.
abbrev pub PlaceSyntax : Bool → Format Place Numbers
PlaceSyntax check_ranges WeekdayName n text after m =
    (v : Option Weekday) × IsWeekdayPart text after v × (m ≡ record n { weekday = v })
PlaceSyntax check_ranges Day n text after m =
    (v : ℕ) × IsDigitRun 1 2 text after v × IsWithin check_ranges 1 31 v × (m ≡ record n { day = v })
PlaceSyntax check_ranges DayBlanks n text after m = IsSilent cfws n text after m
PlaceSyntax check_ranges MonthName n text after m =
    (v : Month) × IsShortOf false month_name text after v × (m ≡ record n { month = v })
PlaceSyntax check_ranges MonthBlanks n text after m = IsSilent cfws n text after m
PlaceSyntax check_ranges Year n text after m =
    (full : Bool) × (v : ℕ) × IsYear full text after v × (m ≡ record n { year = v; year_is_full = full })
PlaceSyntax check_ranges YearBlanks n text after m = IsSilent (year_blanks n.year_is_full) n text after m
PlaceSyntax check_ranges Hour n text after m =
    (v : ℕ) × IsTwoDigits check_ranges 0 23 text after v × (m ≡ record n { hour = v })
PlaceSyntax check_ranges HourColon n text after m = IsSilent opt_cfws_colon_opt_cfws n text after m
PlaceSyntax check_ranges Minute n text after m =
    (v : ℕ) × IsTwoDigits check_ranges 0 59 text after v × (m ≡ record n { minute = v })
PlaceSyntax check_ranges Second n text after m =
    (v : Option ℕ) × IsSecond check_ranges text after v × (m ≡ record n { second = v })
PlaceSyntax check_ranges TimeBlanks n text after m = IsSilent cfws n text after m
PlaceSyntax check_ranges OffsetHour n text after m = IsZone n text after m ⊎ IsSignedHour check_ranges n text after m
PlaceSyntax check_ranges OffsetMinute n text after m = IsOffsetMinute check_ranges n.offset_sign n text after m
PlaceSyntax check_ranges EndBlanks n text after m = IsSilent opt_cfws n text after m

-- the numbers before any place is parsed
abbrev pub nothing_read : Numbers
nothing_read = record {
  weekday = None;
  day = 0;
  month = January;
  year = 0;
  year_is_full = false;
  hour = 0;
  minute = 0;
  second = None;
  offset_sign = None;
  offset_hour = pos 0;
  offset_minute = pos 0;
}

-- the places up to the day, in order
abbrev pub day_places : List Place
day_places = WeekdayName ∷ Day ∷ []

-- the places of the month and the year with the blanks beside them, in order
abbrev pub month_places : List Place
month_places = DayBlanks ∷ MonthName ∷ MonthBlanks ∷ Year ∷ YearBlanks ∷ []

-- the places of the time and the blanks after it, in order
abbrev pub time_places : List Place
time_places = Hour ∷ HourColon ∷ Minute ∷ Second ∷ TimeBlanks ∷ []

-- the places after the day and before the offset, in order
abbrev pub to_offset_places : List Place
to_offset_places = month_places ++ time_places

-- the places of the offset and the blanks after it, in order
abbrev pub offset_places : List Place
offset_places = OffsetHour ∷ OffsetMinute ∷ EndBlanks ∷ []

-- the fifteen places in order
abbrev pub places : List Place
places = day_places ++ (to_offset_places ++ offset_places)

-- the bytes are the texts of the fifteen places, with these numbers, and then the rest
abbrev pub HasForm : Bool → List ℕ → List ℕ → Numbers → Type 0
HasForm check_ranges bytes rest m = MatchesPlaces (PlaceSyntax check_ranges) places nothing_read bytes rest m

-- the first of the fifteen places that doesn't match
abbrev pub FailsAt : Bool → List ℕ → Place → Type 0
FailsAt check_ranges bytes p = StopsAt (PlaceSyntax check_ranges) places nothing_read bytes p

-- The error of a place that doesn't match: an invalid literal for the weekday (whose comma is missing), for blanks and
-- for the colon after the hour, and else an invalid component.
abbrev pub fault : Place → Refusal
fault Day = component (codes "day")
fault MonthName = component (codes "month")
fault Year = component (codes "year")
fault Hour = component (codes "hour")
fault Minute = component (codes "minute")
fault Second = component (codes "second")
fault OffsetHour = component (codes "offset hour")
fault OffsetMinute = component (codes "offset minute")
fault _ = literal

-- The ranges of the numbers, in the order in which they are checked: each with the form of its place, before the next
-- place. So a text with two numbers out of range fails at the first of their places.
pub record InRanges (n : Numbers) : Type 0 where
  pub day : (1 ≤ n.day) × (n.day ≤ 31)
  pub hour : (0 ≤ n.hour) × (n.hour ≤ 23)
  pub minute : (0 ≤ n.minute) × (n.minute ≤ 59)
  pub second : IfSome n.second (λ v. (0 ≤ v) × (v ≤ 60))
  pub offset_hour : (0 ≤ unsigned_abs n.offset_hour) × (unsigned_abs n.offset_hour ≤ 25)
  pub offset_minute : (0 ≤ unsigned_abs n.offset_minute) × (unsigned_abs n.offset_minute ≤ 59)
