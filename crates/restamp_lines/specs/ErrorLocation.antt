-- The location of the error in a rejected timestamp, and what was expected there.
use Rattle.time_values.specs.Calendar.{greatest_year}
use Rattle.std.specs.Prelude.{◌≡◌, ℕ, ◌+◌, ◌⊎◌, Bool, true, false, List, [], drop, Option, None, Some, MatchBool, MatchOption, Result, MatchResult, not, ◌&&◌, if◌then◌else◌, is_some, unwrap_or}
use Rattle.std.specs.Option.{option_map}
use Rattle.time_values.specs.Refusal.{Refusal, trailing, insufficient}
use Rattle.time_values.specs.Dates as Dates
use Rattle.time_values.specs.Moments.{offset_date}
use Rattle.time_values.specs.declared.offset_date_time.OffsetDateTime.{OffsetDateTime}
use Rattle.time_components.specs.Tree.{steps_shape, Tree}
use Rattle.time_record.specs.Reading as Description
use Rattle.time_record.specs.Record.{Record, empty}
use Rattle.time_parsing.specs.Iso8601 as Iso8601
use Rattle.time_parsing.specs.Outcome as Outcome
use Rattle.time_parsing.specs.Rfc2822 as Rfc2822
use Rattle.time_parsing.specs.Rfc3339Strict as Rfc3339
use Rattle.time_parsing.specs.Outcome.{Refusing}
use Rattle.time_locating.specs.Completeness.{has_day, has_iso_day, has_full_date, has_hour, skips_minute, skips_second}
use Rattle.time_locating.specs.Iso8601 as located_iso
use Rattle.time_locating.specs.IsoMarks as iso_marks
use Rattle.time_locating.specs.Located.{IsLocated, IsValueAt, Locating, Marking, range_name, wants}
use Rattle.time_locating.specs.Marks.{MarksTree}
use Rattle.time_locating.specs.Misses.{LocatesTree, Expectation, first_byte, the_end}
use Rattle.time_locating.specs.Rfc2822 as located_mail
use Rattle.time_locating.specs.Rfc3339Strict as located_rfc3339
use Rattle.time_locating.specs.declared.located.Located.{Located}
use Rattle.restamp_formats.specs.Reading.{IsReadInFront, completed, has_year, in_year}
use Rattle.restamp_formats.specs.Reason.{Reason, suffix, unread, text_with}
use Rattle.restamp_formats.specs.Zoned.{IsLongestSuffix, Suffix}
use Rattle.restamp_lines.specs.Job.{Part, part_of}
use Rattle.restamp_lines.specs.declared.job.Job.{Job}
use Rattle.restamp_formats.specs.declared.reading.Reading.{Reading}
use Rattle.restamp_formats.specs.declared.reading.Reading.TheVariants as reading
use Rattle.restamp_formats.specs.declared.reading.Match.{Match}
use Rattle.restamp_lines.specs.declared.error_location.ErrorLocation as declared
use Rattle.restamp_formats.specs.MissingField.{missing_field_text}
use Rattle.restamp_formats.specs.declared.missing_field.MissingField.{MissingField}
use Rattle.restamp_formats.specs.declared.missing_field.MissingField.TheVariants as missing_field
use Rattle.restamp_formats.specs.declared.reading.Defaults.{Defaults}

-- the location of an error: the number of the byte in its line, from 1, and what was expected there, if a format fails
-- to match there
pub record ErrorLocation : Type 0 where
  pub column : ℕ
  pub wanted : Option Expectation

-- the location at that column, with what was expected there
abbrev pub error_location : ℕ → Option Expectation → ErrorLocation
error_location column wanted = record { column = column; wanted = wanted }

-- the location, without the address of what was expected
abbrev pub erased_location : declared.ErrorLocation → ErrorLocation
erased_location w = error_location w.column (option_map wants w.expected)

-- A format matches a text over an empty record: a prefix if `is_prefix` is true, otherwise the whole text.
abbrev pub IsMatched : Bool → Outcome.Reading → List ℕ → Type 0
IsMatched true reads text = (rest : List ℕ) × (r : Record) × reads text empty rest r
IsMatched false reads text = (r : Record) × reads text empty [] r

-- whether a format matches a prefix of a text, over an empty record
abbrev pub MatchesPrefix : Outcome.Reading → List ℕ → Bool → Type 0
MatchesPrefix reads text true = IsMatched true reads text
MatchesPrefix reads text false = IsMatched true reads text → ⊥

-- The location of a rejected value in a part: the start of the last component that the error calls out of range, or for
-- an absent `ordinal` of the last week number; without such a component, the start of the part.
abbrev pub IsValueLocation : Marking → Part → Refusal → ErrorLocation → Type 0
IsValueLocation marks p e w =
    (index : Option ℕ) × IsValueAt marks p.text empty (range_name e) index
    × (w ≡ error_location (p.start + unwrap_or index 0 + 1) None)

-- The location where a format fails to match a part, with what was expected there.
abbrev pub IsMismatchLocation : Outcome.Reading → Locating → Part → ErrorLocation → Type 0
IsMismatchLocation reads locates p w =
    (at : Located) × IsLocated reads locates p.text empty (Some at)
    × (w ≡ error_location (p.start + at.index + 1) (Some (wants at.expected)))

-- The location of the error in a part of a line that a format with these relations rejects: of the rejected value if
-- the format matches the part, otherwise of the mismatch.
abbrev pub IsLocationBy : Outcome.Reading → Locating → Marking → Part → Refusal → ErrorLocation → Type 0
IsLocationBy reads locates marks p e w =
    (IsMatched p.is_prefix reads p.text × IsValueLocation marks p e w)
    ⊎ ((IsMatched p.is_prefix reads p.text → ⊥) × IsMismatchLocation reads locates p w)

-- the location of the error in a part by a description with that tree
abbrev pub IsTreeLocation : Tree → Part → Refusal → ErrorLocation → Type 0
IsTreeLocation tree = IsLocationBy (Description.Reads greatest_year tree) (LocatesTree first_byte tree) (MarksTree tree)

-- the error is that bytes follow a whole timestamp
abbrev pub is_trailing : Refusal → Bool
is_trailing trailing = true
is_trailing e = false

-- the location of the error in a part by RFC 3339
abbrev pub IsRfc3339Location : Part → Refusal → ErrorLocation → Type 0
IsRfc3339Location = IsLocationBy (Rfc3339.Reads greatest_year) located_rfc3339.Locates located_rfc3339.Marks

-- the location right after the match `front` and the longest suffix that follows it, where the end was expected
abbrev pub IsLocationBehind : Part → Match → ErrorLocation → Type 0
IsLocationBehind p front w =
    (s : Suffix) × IsLongestSuffix (drop front.length p.text) s
    × (w ≡ error_location (p.start + front.length + s.len + 1) (Some the_end))

-- the location of the bytes that follow a timestamp and its suffix; that of the error by RFC 3339 if the part starts
-- with no timestamp of RFC 3339
abbrev pub IsTailLocation : Part → Refusal → ErrorLocation → Type 0
IsTailLocation p e w =
    (outcome : Result Match Refusal) × IsReadInFront p.text outcome
    × MatchResult outcome (λ front. IsLocationBehind p front w) (λ _. IsRfc3339Location p e w)

-- the location of the error in a part by RFC 9557: the bytes after the suffix if the error is that bytes follow,
-- otherwise the error by RFC 3339
abbrev pub IsZonedLocation : Part → Refusal → ErrorLocation → Type 0
IsZonedLocation p e w =
    let front = record p { is_prefix = true } in
    MatchBool (is_trailing e) (IsTailLocation front e w) (IsRfc3339Location front e w)

-- The location of the error in a part by a format. Defaults have no effect, since they only supply what a text omits.
abbrev pub IsPartLocation : Reading → Part → Refusal → ErrorLocation → Type 0
IsPartLocation reading.Rfc3339 = IsRfc3339Location
IsPartLocation (reading.Zoned zones) = IsZonedLocation
IsPartLocation reading.Rfc2822 = IsLocationBy (Rfc2822.Reads greatest_year) located_mail.Locates located_mail.Marks
IsPartLocation reading.Iso8601 = IsLocationBy (Iso8601.Reads greatest_year) located_iso.Locates iso_marks.Marks
IsPartLocation (reading.Described d) = IsTreeLocation (steps_shape d)
IsPartLocation (reading.Complete d) = IsTreeLocation (steps_shape d)
IsPartLocation (reading.Counted d) = IsTreeLocation (steps_shape d)

-- The location of a suffix that rejects the moment: right after the timestamp of RFC 3339 at the start of the part;
-- `otherwise` if the part starts with no such timestamp.
abbrev pub IsSuffixLocation : Part → ErrorLocation → ErrorLocation → Type 0
IsSuffixLocation p otherwise w =
    (outcome : Result Match Refusal) × IsReadInFront p.text outcome
    × MatchResult outcome (λ front. w ≡ error_location (p.start + front.length + 1) None) (λ _. w ≡ otherwise)

-- The location of the error in a part that was rejected for a reason: by the first format, which is given, if no format
-- matches; of the suffix if that rejects the moment; `otherwise` for any other reason.
abbrev pub IsReasonLocation : Reading → Part → Reason → ErrorLocation → ErrorLocation → Type 0
IsReasonLocation format p (unread e) otherwise w = IsPartLocation format p e w
IsReasonLocation format p (suffix fault) otherwise w = IsSuffixLocation p otherwise w
IsReasonLocation format p reason otherwise w = w ≡ otherwise

-- The location of the error in a timestamp that was rejected at a column for a reason: that column if the job has no
-- place or the line no part there, or the reason is neither `unread` nor `suffix`; otherwise by `IsReasonLocation`.
abbrev pub IsErrorLocation : Job → List ℕ → ℕ → Reason → ErrorLocation → Type 0
IsErrorLocation job line column reason w =
    MatchOption (part_of job.place line) (w ≡ error_location column None)
    (λ p. IsReasonLocation job.first.now p reason (error_location column None) w)

-- The error has at most one location, which includes what was expected there or `None`.
abbrev pub OneErrorLocation : Type 0
OneErrorLocation =
    (job : Job) (line : List ℕ) (column : ℕ) (reason : Reason) (w other : ErrorLocation)
    → IsErrorLocation job line column reason w → IsErrorLocation job line column reason other → w ≡ other

-- ---- The part that is missing from a rejected timestamp.

-- the missing part of a record without a date: `Day` if it has no day, otherwise `WholeYear` if it has a part of a
-- year or a whole year of the other kind than its day, else `Year`
abbrev pub missing_date_field : Record → MissingField
missing_date_field r =
    if not (has_day r) && not (has_iso_day r) then missing_field.Day else
    if has_year r then missing_field.WholeYear else missing_field.Year

-- the missing part of a record with a date: the first of the hour (AM or PM if it has an hour from 1 to 12), a minute
-- before a second or a fraction, and a second before a fraction that it doesn't have; or else the offset
abbrev pub missing_time_field : Record → MissingField
missing_time_field r =
    if not (has_hour r) then (if is_some r.hour_12 then missing_field.Half else missing_field.Hour) else
    if skips_minute r then missing_field.Minute else
    if skips_second r then missing_field.Second else missing_field.Offset

-- the missing part of a record that has too little information for a moment: a part of its date, or if it has a date,
-- of its time or offset
abbrev pub missing_field_in : Record → MissingField
missing_field_in r = if has_full_date r then missing_time_field r else missing_date_field r

-- the defaults with the year of the given moment in place of their `year` and `latest`; unchanged for `None`
abbrev pub dated_by : Defaults → Option OffsetDateTime → Defaults
dated_by d None = d
dated_by d (Some v) = in_year (Dates.year (offset_date v)) d.offset d.clocks

-- the defaults with the year of `latest` in place of `year` and `latest`; unchanged if `latest` is `None`
abbrev pub dated : Defaults → Defaults
dated d = dated_by d d.latest

-- The missing part of a text, with the default year and offset for what it omits; `None` if the format matches no
-- prefix of the text.
abbrev pub IsMissingFieldBy : Outcome.Reading → Refusing → Defaults → List ℕ → Option MissingField → Type 0
IsMissingFieldBy reads refuses defaults text result =
    ((e : Refusal) × refuses text empty e × (result ≡ None))
    ⊎ ((rest : List ℕ) × (r : Record) × reads text empty rest r
    × (result ≡ Some (missing_field_in (completed defaults r))))

-- The missing part of a text by a format; always `None` for RFC 3339, RFC 9557 and RFC 2822, whose texts have all of a
-- moment, and for `Complete`, even if the text omits a part of a moment.
abbrev pub IsMissingFieldIn : Reading → Defaults → List ℕ → Option MissingField → Type 0
IsMissingFieldIn reading.Iso8601 = IsMissingFieldBy (Iso8601.Reads greatest_year) (Iso8601.Refuses greatest_year)
IsMissingFieldIn (reading.Described d) =
    IsMissingFieldBy (Description.Reads greatest_year (steps_shape d))
    (Description.Refuses greatest_year (steps_shape d))
IsMissingFieldIn (reading.Counted d) =
    IsMissingFieldBy (Description.Reads greatest_year (steps_shape d))
    (Description.Refuses greatest_year (steps_shape d))
IsMissingFieldIn format = λ defaults text result. result ≡ None

-- the reason is that the timestamp omits a part of a moment
abbrev pub is_insufficient : Reason → Bool
is_insufficient (unread insufficient) = true
is_insufficient reason = false

-- The missing part of a line's timestamp that was rejected for a reason, by the first format; `None` unless the reason
-- is insufficient information, and the line has a part at the job's place.
abbrev pub IsMissingField : Job → List ℕ → Reason → Option MissingField → Type 0
IsMissingField job line reason result =
    MatchBool (is_insufficient reason)
    (MatchOption (part_of job.place line) (result ≡ None)
    (λ p. IsMissingFieldIn job.first.now (dated job.defaults) p.text result))
    (result ≡ None)

-- the printed text of why a timestamp isn't rewritten, with the name of its zone: the reason, or the missing part in
-- its place
abbrev pub why_text : List ℕ → Reason → Option MissingField → List ℕ
why_text zone reason None = text_with zone reason
why_text zone reason (Some missing_field) = missing_field_text missing_field

-- For a rejected line and its reason, `IsMissingField` has at most one result, even if several parts are missing.
abbrev pub OneMissingField : Type 0
OneMissingField =
    (job : Job) (line : List ℕ) (reason : Reason) (result other : Option MissingField)
    → IsMissingField job line reason result → IsMissingField job line reason other → result ≡ other
