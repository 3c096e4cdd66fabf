-- The place of a text that RFC 3339 rejects.
use Rattle.std.specs.Prelude.{true, codes}
use Rattle.time_readers.specs.Rfc3339.{PlaceSyntax, places, nothing_read, fault}
use Rattle.time_readers.specs.declared.rfc3339.Place.{Place}
use Rattle.time_readers.specs.declared.rfc3339.Place.TheVariants.{YearDash, MonthDash, HourColon, MinuteColon, OffsetColon}
use Rattle.time_locating.specs.Marks.{LocatesPlace, MarksText, at_once}
use Rattle.time_locating.specs.Located.{Locating, Marking}
use Rattle.time_locating.specs.Misses.{Expectation, these_bytes, expected_of}

-- what is expected at a place: its fixed byte, `-` or `:`, or else the component that its error names
abbrev pub expected_at : Place → Expectation
expected_at YearDash = these_bytes (codes "-")
expected_at MonthDash = these_bytes (codes "-")
expected_at HourColon = these_bytes (codes ":")
expected_at MinuteColon = these_bytes (codes ":")
expected_at OffsetColon = these_bytes (codes ":")
expected_at p = expected_of (fault p)

-- The miss at the first of the fifteen places that doesn't have its form or whose number is out of its range, whatever
-- the record. If all match and bytes remain, it is the miss of the end.
abbrev pub Locates : Locating
Locates bytes r m = LocatesPlace (PlaceSyntax true) places nothing_read at_once expected_at bytes m

-- How many bytes are left at the start of the place of that name, whatever the record. None if a place doesn't match,
-- if no place has the name, or if the place has no text: the offset's minute after `Z`, or an omitted fraction.
abbrev pub Marks : Marking
Marks name bytes r mark = MarksText (PlaceSyntax true) at_once fault places nothing_read name bytes mark
