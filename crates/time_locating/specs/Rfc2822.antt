-- The place of a text that RFC 2822 rejects.
use Rattle.std.specs.Prelude.{ℕ, List, drop, true, codes, unwrap_or}
use Rattle.time_readers.specs.MailBlanks.{opt_cfws, opt_cfws_colon_opt_cfws}
use Rattle.time_readers.specs.Readers.{Reader}
use Rattle.time_readers.specs.Rfc2822.{PlaceSyntax, places, nothing_read, fault}
use Rattle.time_readers.specs.declared.rfc2822.Place.{Place}
use Rattle.time_readers.specs.declared.rfc2822.Place.TheVariants.{WeekdayName, DayBlanks, MonthBlanks, YearBlanks, HourColon, Second, TimeBlanks}
use Rattle.time_locating.specs.Marks.{Beginning, LocatesPlace, MarksText}
use Rattle.time_locating.specs.Located.{Locating, Marking}
use Rattle.time_locating.specs.Misses.{Expectation, these_bytes, expected_of}

-- what is expected at a place: a comma after a weekday, a space for blanks, the colon after the hour, or else the
-- component that the place's error names (the end for the blanks at the end, which always match)
abbrev pub expected_at : Place → Expectation
expected_at WeekdayName = these_bytes (codes ",")
expected_at DayBlanks = these_bytes (codes " ")
expected_at MonthBlanks = these_bytes (codes " ")
expected_at YearBlanks = these_bytes (codes " ")
expected_at HourColon = these_bytes (codes ":")
expected_at TimeBlanks = these_bytes (codes " ")
expected_at p = expected_of (fault p)

-- the rest after a reader, or all bytes if it doesn't match
abbrev pub past : Reader → List ℕ → List ℕ
past reader bytes = unwrap_or (reader bytes) bytes

-- Where the expected text of a place begins: the comma after the blanks and the three letters of a weekday, the hour's
-- colon after its blanks, and a second after its colon and the blanks beside it. All other texts, and a second without
-- a colon, begin with their places.
abbrev pub expected_from : Beginning Place
expected_from WeekdayName bytes = drop 3 (past opt_cfws bytes)
expected_from HourColon bytes = past opt_cfws bytes
expected_from Second bytes = past opt_cfws_colon_opt_cfws bytes
expected_from p bytes = bytes

-- The miss at the first of the fifteen places that doesn't have its form or whose number is out of its range, whatever
-- the record. If all match and bytes remain, it is the miss of the end.
abbrev pub Locates : Locating
Locates bytes r m = LocatesPlace (PlaceSyntax true) places nothing_read expected_from expected_at bytes m

-- How many bytes are left at the start of the component of that name, whatever the record. None if a place doesn't
-- match, if no place's error has the name, or if the place has no text: the offset's minute after a zone name, or an
-- omitted second.
abbrev pub Marks : Marking
Marks name bytes r mark = MarksText (PlaceSyntax true) expected_from fault places nothing_read name bytes mark
