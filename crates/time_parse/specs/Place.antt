-- Where a text is rejected, and how that is printed.
use Rattle.time_values.specs.Calendar.{greatest_year}
use Rattle.std.specs.Prelude.{◌≡◌, ℕ, ◌⊎◌, List, [], ◌++◌, codes, map, Bool, true, false, Option, Some, None, Result, Ok, Err}
use Rattle.std.specs.Fmt.{decimal}
use Rattle.time_values.specs.Refusal.{Refusal}
use Rattle.time_values.specs.declared.offset_date_time.OffsetDateTime.{OffsetDateTime}
use Rattle.time_components.specs.Tree.{Tree}
use Rattle.time_readers.specs.Direct.{RefusesRfc3339, RefusesRfc2822}
use Rattle.time_record.specs.Reading as Description
use Rattle.time_record.specs.Record.{empty}
use Rattle.time_record.specs.Resolution.{IsDated, IsTimed, IsOffset, IsPlain, IsUtcMoment, IsMoment, IsTimestamp}
use Rattle.time_parsing.specs.Iso8601 as Iso8601
use Rattle.time_parsing.specs.Outcome.{IsMomentOutcome, IsOutcome, Path, Reading, Refusing, Resolving, direct, over_record}
use Rattle.time_parsing.specs.Rfc2822 as Rfc2822
use Rattle.time_parsing.specs.Rfc3339 as Rfc3339
use Rattle.time_locating.specs.Iso8601 as located_iso
use Rattle.time_locating.specs.IsoMarks as iso_marks
use Rattle.time_locating.specs.Located.{IsErrorAt, IsLocated, Locating, Marking, erased_located}
use Rattle.time_locating.specs.Marks.{MarksTree}
use Rattle.time_locating.specs.Misses.{LocatesTree, Miss, LiteralReport, Expectation, all_bytes, first_byte, named, the_end, these_bytes}
use Rattle.time_locating.specs.Rfc2822 as located_mail
use Rattle.time_locating.specs.Rfc3339 as located_rfc3339
use Rattle.time_locating.specs.declared.located.Located.{Located}
use Rattle.programs_answers.specs.Formats.{ymd, clock, unix, local, target_named}
use Rattle.programs_answers.specs.Output as output
use Rattle.programs_answers.specs.declared.formats.Format.{Format}
use Rattle.programs_answers.specs.declared.formats.Format.TheVariants as format
use Rattle.programs_answers.specs.declared.formats.Target.{Target}
use Rattle.programs_answers.specs.declared.formats.Target.TheVariants as target
use Rattle.time_parse.specs.Request.{printable, IsAnswer, Meaning, Means}
use Rattle.time_parse.specs.Request as request
use Rattle.time_parse.specs.declared.request.Version.{Version}

-- What was expected, as text: the name of a component, `the end`, or the bytes of a literal in single quotes, with `?`
-- for each that isn't printable ASCII.
abbrev pub expected_text : Expectation → List ℕ
expected_text (these_bytes bytes) = codes "'" ++ map printable bytes ++ codes "'"
expected_text (named name) = name
expected_text the_end = codes "the end"

-- The text of a location, as ` at 5: expected month`, or nothing without a location. Here the miss's `left` is the
-- 0-based byte index.
abbrev pub place_text : Option Miss → List ℕ
place_text None = []
place_text (Some at) = codes " at " ++ decimal at.left ++ codes ": expected " ++ expected_text at.wanted

-- The text of an index alone, as ` at 5`, or nothing without an index.
abbrev pub index_text : Option ℕ → List ℕ
index_text None = []
index_text (Some index) = codes " at " ++ decimal index

-- The error of an outcome; none for a value.
abbrev pub refusal_in : {V : Type 0} → Result V Refusal → Option Refusal
refusal_in (Ok v) = None
refusal_in (Err e) = Some e

-- The error with which a format with these readings and errors rejects the whole text, parsed over an empty record, or
-- none if the text has a value. `resolves` relates the parsed record to the value or its error.
abbrev pub IsRefusal : {V : Type 0} → Resolving V → Reading → Refusing → List ℕ → Option Refusal → Type 0
IsRefusal {V} resolves reads refuses text refusal =
    (outcome : Result V Refusal) × IsOutcome resolves reads refuses text empty outcome × (refusal ≡ refusal_in outcome)

-- The error with which the format rejects the text as a moment, on its direct path if it has one, or none if the text
-- has a value.
abbrev pub IsMomentRefusal : Path → Reading → Refusing → List ℕ → Option Refusal → Type 0
IsMomentRefusal path reads refuses text refusal =
    (outcome : Result OffsetDateTime Refusal) × IsMomentOutcome greatest_year path reads refuses text None outcome
    × (refusal ≡ refusal_in outcome)

-- The error with which the format rejects the whole text for the target, or none if the text has a value. Only
-- `DateTime` depends on the path.
abbrev pub IsRefusalFor : Target → Path → Reading → Refusing → List ℕ → Option Refusal → Type 0
IsRefusalFor target.Date path = IsRefusal (IsDated greatest_year)
IsRefusalFor target.Time path = IsRefusal IsTimed
IsRefusalFor target.Offset path = IsRefusal IsOffset
IsRefusalFor target.Plain path = IsRefusal (IsPlain greatest_year)
IsRefusalFor target.Utc path = IsRefusal (IsUtcMoment greatest_year)
IsRefusalFor target.DateTime path = IsMomentRefusal path
IsRefusalFor target.Staged path = IsRefusal (IsMoment greatest_year)
IsRefusalFor target.Timestamp path = IsRefusal (IsTimestamp greatest_year)

-- The printed index of an error, or nothing without an error or an index: where the text doesn't match the format, or
-- in a text that matches, where the component out of range begins (the week number, if that is an absent ordinal).
abbrev pub IsErrorPlace : Reading → Locating → Marking → List ℕ → Option Refusal → List ℕ → Type 0
IsErrorPlace reads locates marks text None printed = printed ≡ []
IsErrorPlace reads locates marks text (Some e) printed =
    (index : Option ℕ) × IsErrorAt reads locates marks text empty e index × (printed ≡ index_text index)

-- The printed location of a text's error, parsed over an empty record: its index and what was expected there. For a
-- text that is parsed whole, the index of the error for the target, as in `IsErrorPlace`, or nothing.
abbrev pub IsPlace : Target → Path → Reading → Refusing → Locating → Marking → List ℕ → List ℕ → Type 0
IsPlace target path reads refuses locates marks text printed =
    ((at : Located) × IsLocated reads locates text empty (Some at) × (printed ≡ place_text (erased_located (Some at))))
    ⊎ (IsLocated reads locates text empty None
    × (refusal : Option Refusal) × IsRefusalFor target path reads refuses text refusal
    × IsErrorPlace reads locates marks text refusal printed)

-- The printed location of the text's error for the target, by the description with that tree. `bytes` selects which of
-- a literal's bytes from the mismatch on are printed.
abbrev pub IsTreePlace : LiteralReport → Tree → Target → List ℕ → List ℕ → Type 0
IsTreePlace bytes tree target =
    IsPlace target over_record (Description.Reads greatest_year tree) (Description.Refuses greatest_year tree)
    (LocatesTree bytes tree)
    (MarksTree tree)

-- The printed location of the text's error for the target, by a named format.
abbrev pub IsNamedPlace : Format → Target → List ℕ → List ℕ → Type 0
IsNamedPlace format.Rfc3339 target =
    IsPlace target (direct (RefusesRfc3339 greatest_year)) (Rfc3339.Reads greatest_year)
    (Rfc3339.Refuses greatest_year) located_rfc3339.Locates
    located_rfc3339.Marks
IsNamedPlace format.Rfc2822 target =
    IsPlace target (direct (RefusesRfc2822 greatest_year)) (Rfc2822.Reads greatest_year)
    (Rfc2822.Refuses greatest_year) located_mail.Locates
    located_mail.Marks
IsNamedPlace format.Iso8601 target =
    IsPlace target over_record (Iso8601.Reads greatest_year) (Iso8601.Refuses greatest_year) located_iso.Locates
    iso_marks.Marks
IsNamedPlace format.Ymd target = IsTreePlace all_bytes ymd target
IsNamedPlace format.Clock target = IsTreePlace all_bytes clock target
IsNamedPlace format.Unix target = IsTreePlace all_bytes unix target
IsNamedPlace format.Local target = IsTreePlace all_bytes local target

-- The printed location of the text's error for the target, by a named format or a description. Of an expected literal a
-- description prints only the first byte that doesn't match.
abbrev pub IsPlaceBy : Meaning → Target → List ℕ → List ℕ → Type 0
IsPlaceBy (request.named format) target = IsNamedPlace format target
IsPlaceBy (request.described tree) target = IsTreePlace first_byte tree target

-- The answer to a text, followed by the printed location of its error, if it has one.
abbrev pub IsPlacedAnswer : Meaning → Target → List ℕ → List ℕ → Type 0
IsPlacedAnswer meaning target text answer =
    (outcome : List ℕ) × (place : List ℕ)
    × IsAnswer meaning target text outcome × IsPlaceBy meaning target text place × (answer ≡ outcome ++ place)

-- The answer to a text, with the error's location if requested.
abbrev pub IsRequestedAnswer : Bool → Meaning → Target → List ℕ → List ℕ → Type 0
IsRequestedAnswer false = IsAnswer
IsRequestedAnswer true = IsPlacedAnswer

-- The format has a meaning, and the target's name is known. The answers to the lines of the input by them, each
-- followed by LF, are appended to the contents `old`, which gives `new`. If `old` is none, `new` may be anything.
abbrev pub WritesAnswers : Bool → Version → List ℕ → List ℕ → Option (List ℕ) → Option (List ℕ) → List ℕ → Type 0
WritesAnswers prints_places version format target old new input =
    (meaning : Meaning) × (value : Target)
    × Means version format meaning × (target_named target ≡ Some value)
    × output.WritesAnswers (IsRequestedAnswer prints_places meaning value) old new input

-- ---- Laws of answers.

-- The argument for a format has at most one meaning in each version: a named format or one tree.
abbrev pub OneMeaning : Type 0
OneMeaning =
    (version : Version) (format : List ℕ) (meaning other : Meaning)
    → Means version format meaning → Means version format other → meaning ≡ other

-- A text has at most one answer, with the location of its error or without it.
abbrev pub OneAnswer : Type 0
OneAnswer =
    (prints_places : Bool) (meaning : Meaning) (target : Target) (text answer other : List ℕ)
    → IsRequestedAnswer prints_places meaning target text answer
    → IsRequestedAnswer prints_places meaning target text other → answer ≡ other

-- After the answers to one input by one format for one target, the contents of a writer whose earlier contents are
-- known are determined.
abbrev pub OneWriting : Type 0
OneWriting =
    (prints_places : Bool) (version : Version) (format target input before new other : List ℕ)
    → WritesAnswers prints_places version format target (Some before) (Some new) input
    → WritesAnswers prints_places version format target (Some before) (Some other) input → new ≡ other
