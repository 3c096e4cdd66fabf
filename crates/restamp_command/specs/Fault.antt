-- The error of an option, without the address of its value, and its text.
use Rattle.std.specs.Prelude.{ℕ, List, codes, Option, None, Some}
use Rattle.time_zones.specs.Zones.{fault_text}
use Rattle.time_zones.specs.declared.zone_fault.ZoneFault.{ZoneFault}
use Rattle.restamp_formats.specs.MissingField.{missing_field_text}
use Rattle.restamp_formats.specs.Naming as naming
use Rattle.restamp_formats.specs.Reason.{Reason, seen, reason_text}
use Rattle.restamp_formats.specs.declared.missing_field.MissingField.{MissingField}
use Rattle.restamp_command.specs.declared.fault.Fault as declared
use Rattle.restamp_command.specs.declared.fault.Fault.TheVariants as fault
use Rattle.restamp_command.specs.declared.fault.TimeArgError as declared_none
use Rattle.restamp_command.specs.declared.fault.TimeArgError.TheVariants as none

-- why a text is no moment: RFC 3339's error, or its word's day has no start; its word has no date in UTC; or no clock
pub data TimeArgError : Type 0 where
  unread : Reason → TimeArgError
  out_of_range : TimeArgError
  no_clock : TimeArgError

-- the error without the addresses of its texts
abbrev pub erased_time_error : declared_none.TimeArgError → TimeArgError
erased_time_error (none.Unread reason) = unread (seen reason)
erased_time_error none.OutOfRange = out_of_range
erased_time_error none.NoClock = no_clock

-- the text of why a text is no moment
abbrev pub none_text : TimeArgError → List ℕ
none_text (unread reason) = reason_text reason
none_text out_of_range = codes "it is before the year -999999 or after 999999"
none_text no_clock = codes "the system clock is before 1970 or after 999999"

-- the errors of options, each but `memory` with the rejected value, and some with why
pub data Fault : Type 0 where
  memory : Fault
  field : List ℕ → Fault
  delimiter : List ℕ → Fault
  from : List ℕ → naming.Fault → Fault
  zones : List ℕ → ZoneFault → Fault
  incomplete_format : List ℕ → MissingField → Fault
  to : List ℕ → naming.Fault → Fault
  unnamed : List ℕ → Fault
  year : List ℕ → Fault
  offset : List ℕ → Fault
  local : List ℕ → ZoneFault → Fault
  fold : List ℕ → Fault
  unused_year : List ℕ → Fault
  unused_latest : List ℕ → Fault
  unused_offset : List ℕ → Fault
  unused_local : List ℕ → Fault
  zone : List ℕ → ZoneFault → Fault
  digits : List ℕ → Fault
  errors : List ℕ → Fault
  color : List ℕ → Fault
  latest : List ℕ → TimeArgError → Fault
  since : List ℕ → TimeArgError → Fault
  until : List ℕ → TimeArgError → Fault
  in_place : List ℕ → Fault

-- the error without the addresses of its texts
abbrev pub erased_fault : declared.Fault → Fault
erased_fault fault.Memory = memory
erased_fault (fault.Field value) = field value.now
erased_fault (fault.Delimiter value) = delimiter value.now
erased_fault (fault.From value why) = from value.now (naming.fault_of why)
erased_fault (fault.Zones value why) = zones value.now why
erased_fault (fault.IncompleteFormat value missing_field) = incomplete_format value.now missing_field
erased_fault (fault.To value why) = to value.now (naming.fault_of why)
erased_fault (fault.Unnamed value) = unnamed value.now
erased_fault (fault.Year value) = year value.now
erased_fault (fault.Offset value) = offset value.now
erased_fault (fault.In value why) = local value.now why
erased_fault (fault.Fold value) = fold value.now
erased_fault (fault.UnusedYear value) = unused_year value.now
erased_fault (fault.UnusedLatest value) = unused_latest value.now
erased_fault (fault.UnusedOffset value) = unused_offset value.now
erased_fault (fault.UnusedIn value) = unused_local value.now
erased_fault (fault.Zone value why) = zone value.now why
erased_fault (fault.Digits value) = digits value.now
erased_fault (fault.Errors value) = errors value.now
erased_fault (fault.Color value) = color value.now
erased_fault (fault.Latest value why) = latest value.now (erased_time_error why)
erased_fault (fault.Since value why) = since value.now (erased_time_error why)
erased_fault (fault.Until value why) = until value.now (erased_time_error why)
erased_fault (fault.InPlace value) = in_place value.now

-- the option, as help prints it, and the rejected value; `None` if memory is short
abbrev pub place_of : Fault → Option (List ℕ × List ℕ)
place_of memory = None
place_of (field value) = Some (codes "--field <N>", value)
place_of (delimiter value) = Some (codes "--delimiter <BYTE>", value)
place_of (from value why) = Some (codes "--from <FORMAT>", value)
place_of (zones value why) = Some (codes "--from <FORMAT>", value)
place_of (incomplete_format value missing_field) = Some (codes "--from <FORMAT>", value)
place_of (to value why) = Some (codes "--to <FORMAT>", value)
place_of (unnamed value) = Some (codes "--to <FORMAT>", value)
place_of (year value) = Some (codes "--year <YEAR>", value)
place_of (offset value) = Some (codes "--offset <OFFSET>", value)
place_of (local value why) = Some (codes "--in <ZONE>", value)
place_of (fold value) = Some (codes "--fold <WHICH>", value)
place_of (unused_year value) = Some (codes "--year <YEAR>", value)
place_of (unused_latest value) = Some (codes "--latest <TIME>", value)
place_of (unused_offset value) = Some (codes "--offset <OFFSET>", value)
place_of (unused_local value) = Some (codes "--in <ZONE>", value)
place_of (zone value why) = Some (codes "--zone <ZONE>", value)
place_of (digits value) = Some (codes "--digits <N>", value)
place_of (errors value) = Some (codes "--errors <N>", value)
place_of (color value) = Some (codes "--color <WHEN>", value)
place_of (latest value why) = Some (codes "--latest <TIME>", value)
place_of (since value why) = Some (codes "--since <TIME>", value)
place_of (until value why) = Some (codes "--until <TIME>", value)
place_of (in_place value) = Some (codes "--in-place[=<SUFFIX>]", value)

-- the text of an error; `None`, which means that none is specified, for a description's error that quotes one of its
-- words, and if a zone's file or the folder of zones can't be read, or a zone's file is malformed
abbrev pub why_text : Fault → Option (List ℕ)
why_text memory = Some (codes "out of memory")
why_text (field value) = Some (codes "it is not a number from 1 to 18446744073709551615")
why_text (delimiter value) = Some (codes "it is not one byte")
why_text (from value why) = naming.fault_text why
why_text (zones value why) = fault_text why
why_text (incomplete_format value missing_field) = Some (missing_field_text missing_field)
why_text (to value why) = naming.fault_text why
why_text (unnamed value) = Some (codes "it needs --utc, or a --zone name or offset below 24:00")
why_text (year value) = Some (codes "it is not a year from -999999 to 999999")
why_text (offset value) = Some (codes "it is not an offset such as +05:30")
why_text (local value why) = fault_text why
why_text (fold value) = Some (codes "it is not earlier, later or refuse")
why_text (unused_year value) = Some (codes "no format needs it")
why_text (unused_latest value) = Some (codes "no format needs it")
why_text (unused_offset value) = Some (codes "no format needs it")
why_text (unused_local value) = Some (codes "no format needs it")
why_text (zone value why) = fault_text why
why_text (digits value) = Some (codes "it is not 0 to 9 or auto")
why_text (errors value) = Some (codes "it is not a number from 0 to 18446744073709551615")
why_text (color value) = Some (codes "it is not auto, always or never")
why_text (latest value why) = Some (none_text why)
why_text (since value why) = Some (none_text why)
why_text (until value why) = Some (none_text why)
why_text (in_place value) = Some (codes "it has a slash")
