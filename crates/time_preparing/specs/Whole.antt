-- Known forms of whole texts, which are parsed directly as values.
use Rattle.std.specs.Prelude.{◌≡◌, ◌≢◌, ℕ, List, [], ◌∷◌, ◌++◌, pos, Ok, Option, None, Some, unwrap_or, false}
use Rattle.time_components.specs.Tree.{steps_shape, Trees, component, literal, none, more}
use Rattle.time_components.specs.declared.format_description.Component.TheVariants.{Hour12, Minute, Period}
use Rattle.time_components.specs.declared.inspect.Step.{Step}
use Rattle.time_components.specs.declared.inspect.Step.TheVariants as step
use Rattle.time_record.specs.Reading.{Reads, ReadsAll}
use Rattle.time_record.specs.Record.{Record, empty}
use Rattle.time_values.specs.Dates as Dates
use Rattle.time_values.specs.Offsets.{HasOffset, offset_refusal}
use Rattle.time_values.specs.Calendar.{greatest_year}
use Rattle.time_values.specs.Refusal.{Constructs}
use Rattle.time_values.specs.Sign.{signed_by}
use Rattle.time_values.specs.Times as Times
use Rattle.time_values.specs.declared.date.Date.{Date}
use Rattle.time_values.specs.declared.time.Time.{Time}
use Rattle.time_values.specs.declared.utc_offset.UtcOffset.{UtcOffset}
use Rattle.time_preparing.specs.declared.forms.InHalf.{InHalf}
use Rattle.time_preparing.specs.declared.forms.InYear.{InYear}
use Rattle.time_preparing.specs.declared.forms.OffsetNumbers.{OffsetNumbers}
use Rattle.time_preparing.specs.declared.forms.TheConstants.{HOUR_12, MINUTE}
use Rattle.time_preparing.specs.Forms.{byte_parts, dated_parts, offset_parts, time_parts, month_day_parts, second_parts}
use Rattle.time_preparing.specs.Walk.{leaves, seconds_tree}
use Rattle.time_preparing.specs.declared.whole.Whole.{Whole}
use Rattle.time_preparing.specs.declared.whole.Whole.TheVariants as whole

-- the steps of a time of the 12-hour clock: an hour, a minute, an optional second and fraction, and AM or PM
abbrev pub half_parts : InHalf → List Step
half_parts h =
    step.Component (Hour12 HOUR_12) ∷ step.Literal h.in_time ∷ step.Component (Minute MINUTE)
    ∷ (second_parts h.before_second h.point ++ step.Literal h.before_half ∷ step.Component (Period h.half) ∷ [])

-- the trees of the steps of `half_parts`, in order; the optional second with its fraction is one tree
abbrev pub half_trees : InHalf → Trees
half_trees h =
    more (component false (Hour12 HOUR_12)) (more (literal (h.in_time ∷ [])) (more (component false (Minute MINUTE))
    (more (seconds_tree h.before_second h.point) (more (literal (h.before_half ∷ []))
    (more (component false (Period h.half)) none)))))

-- the steps of the short name of a month, a day and a time, with the form's bytes between them
abbrev pub in_year_parts : InYear → List Step
in_year_parts y = month_day_parts y.in_date ++ step.Literal y.between ∷ time_parts y.in_time

-- the steps of the form, none for `Nothing`
abbrev pub whole_parts : Whole → List Step
whole_parts whole.Nothing = []
whole_parts (whole.Date form) = dated_parts form
whole_parts (whole.Time b) = time_parts b
whole_parts (whole.Half h) = half_parts h
whole_parts (whole.InYear y) = in_year_parts y
whole_parts (whole.Plain form between b) = dated_parts form ++ step.Literal between ∷ time_parts b
whole_parts (whole.Moment m) =
    dated_parts m.date ++ step.Literal m.between
    ∷ (time_parts m.in_time ++ (byte_parts m.before_offset ++ offset_parts m.in_offset))

-- the trees of the form's steps, in order; none for `Nothing`
abbrev pub whole_trees : Whole → Trees
whole_trees (whole.Half h) = half_trees h
whole_trees w = leaves (whole_parts w)

-- Each reading of the first steps, with its rest and record, is also one of the second steps.
abbrev pub IsLed : List Step → List Step → Type 0
IsLed list steps = (bytes : List ℕ) (r : Record) (rest : List ℕ) (new : Record)
    → Reads greatest_year (steps_shape list) bytes r rest new → Reads greatest_year (steps_shape steps) bytes r rest new

-- Each reading of the form's trees in turn, with its rest and record, is also one of the steps; nothing is stated of
-- `Nothing`.
abbrev pub Leads : Whole → List Step → Type 0
Leads whole.Nothing steps = Unit {0}
Leads w steps = (bytes : List ℕ) (r : Record) (rest : List ℕ) (new : Record)
    → ReadsAll greatest_year (whole_trees w) bytes r rest new
    → Reads greatest_year (steps_shape steps) bytes r rest new

-- The form isn't `Nothing`, its trees read all bytes over the record `begin`, and the resulting record satisfies `P`.
abbrev pub ReadsOver : Whole → List ℕ → Record → (Record → Type 0) → Type 0
ReadsOver w bytes begin P =
    (w ≢ whole.Nothing) × (r : Record) × ReadsAll greatest_year (whole_trees w) bytes begin [] r × P r

-- the form isn't `Nothing`, its trees read all bytes over an empty record, and the resulting record satisfies `P`
abbrev pub ReadsWhole : Whole → List ℕ → (Record → Type 0) → Type 0
ReadsWhole w bytes P = ReadsOver w bytes empty P

-- the record with its year, month and day set to the date's
abbrev pub dated : Date → Record → Record
dated d r = record r { year = Some (Dates.year d); month = Some (Dates.month d); day = Some (Dates.day d) }

-- the record with its month and day set to the date's, and its year unchanged
abbrev pub in_year : Date → Record → Record
in_year d r = record r { month = Some (Dates.month d); day = Some (Dates.day d) }

-- the record with its hour of the 24-hour clock, minute and second set to the time's; the nanosecond isn't stored
abbrev pub timed : Time → Record → Record
timed t r = record r { hour_24 = Some (Times.hour t); minute = Some (Times.minute t); second = Some (Times.second t) }

-- a second and its nanosecond, each 0 if it is missing
abbrev pub clock_second : Option (ℕ × Option ℕ) → ℕ × ℕ
clock_second None = (0, 0)
clock_second (Some (s, n)) = (s, unwrap_or n 0)

-- the time's nanosecond is 0
abbrev pub IsWholeSecond : Time → Type 0
IsWholeSecond t = Times.nanosecond t ≡ 0

-- `UtcOffset::from_hms` returns the offset for this hour, this minute with the sign that was read, and 0 seconds.
abbrev pub IsOf : OffsetNumbers → UtcOffset → Type 0
IsOf n o =
    let m = signed_by n.is_negative n.minute in
    Constructs (offset_refusal n.hour m (pos 0)) (HasOffset n.hour m (pos 0)) (Ok o)
