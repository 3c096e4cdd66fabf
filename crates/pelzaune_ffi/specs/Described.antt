-- Descriptions that C passes as text.
use Rattle.std.specs.Prelude.{◌≡◌, ℕ, nat_eq, List, Option, Some, None, Result, Ok, Err, unwrap_or, if◌then◌else◌, ◌⊎◌, ◌<◌, length, ◌+◌, [], ◌∷◌, map, take, Bool, true, false}
use Rattle.time_values.specs.Calendar.{greatest_year}
use Rattle.time_digits.specs.declared.Padding.{Padding}
use Rattle.time_digits.specs.declared.Padding.TheVariants as padding
use Rattle.time_components.specs.Tree.{Tree, steps_shape}
use Rattle.time_components.specs.declared.format_description.Component.TheVariants as component
use Rattle.time_components.specs.declared.modifier.Ignore.{Ignore}
use Rattle.time_components.specs.declared.modifier.SubsecondDigits.{SubsecondDigits}
use Rattle.time_components.specs.declared.modifier.SubsecondDigits.TheVariants as digits
use Rattle.time_components.specs.declared.modifier.TrailingInput.{TrailingInput}
use Rattle.time_components.specs.declared.modifier.TrailingInput.TheVariants as trailing
use Rattle.time_components.specs.declared.inspect.Group.TheVariants as group
use Rattle.time_components.specs.declared.inspect.Step.{Step}
use Rattle.time_components.specs.declared.inspect.Step.TheVariants as step
use Rattle.time_descriptions.specs.Description.{IsRefused}
use Rattle.time_descriptions.specs.Grammar.{StartsAtMost, Describes}
use Rattle.time_descriptions.specs.Refusal.{Refusal, unclosed, component_name, modifier, missing_name, missing_modifier, expected_here, not_supported, too_long, index_of}
use Rattle.time_descriptions.specs.Strftime.{Fits, DescribesStrftime, IsRefusedStrftime}
use Rattle.time_descriptions.specs.declared.leaf.Version.TheVariants as version
use Rattle.time_descriptions.specs.Values.{ignored}
use Rattle.time_record.specs.Reading.{Reads, Refuses}
use Rattle.time_parsing.specs.Outcome.{over_record}
use Rattle.pelzaune_ffi.specs.Results.{Storing, Outcomes, IsResultStored}
use Rattle.pelzaune_ffi.specs.Status.{unknown_syntax}
use Rattle.pelzaune_ffi.specs.declared.descriptions.TheConstants.{MOST_STEPS}
use Rattle.pelzaune_ffi.specs.declared.descriptions.Syntax.{Syntax}
use Rattle.pelzaune_ffi.specs.declared.descriptions.Syntax.TheVariants as syntax
use Rattle.pelzaune_ffi.specs.declared.stored.StoredDescription.{StoredDescription}
use Rattle.pelzaune_ffi.specs.declared.steps.StoredStep.{StoredStep}

-- The syntax with this number, 1 to 3; None for any other number.
abbrev pub syntax_of : ℕ → Option Syntax
syntax_of number =
    if nat_eq number 1 then Some syntax.One else
    if nat_eq number 2 then Some syntax.Two else
    if nat_eq number 3 then Some syntax.Strftime else None

-- The tree that a text of at most `MOST_STEPS` steps describes in a syntax; or the error of a rejected text, with room
-- for that many steps.
abbrev pub IsDescribed : Syntax → List ℕ → Result Tree Refusal → Type 0
IsDescribed syntax.One text (Ok tree) = Describes version.One text tree × StartsAtMost MOST_STEPS version.One text
IsDescribed syntax.One text (Err e) = IsRefused MOST_STEPS version.One text e
IsDescribed syntax.Two text (Ok tree) = Describes version.Two text tree × StartsAtMost MOST_STEPS version.Two text
IsDescribed syntax.Two text (Err e) = IsRefused MOST_STEPS version.Two text e
IsDescribed syntax.Strftime text (Ok tree) = DescribesStrftime text tree × Fits MOST_STEPS text
IsDescribed syntax.Strftime text (Err e) = IsRefusedStrftime MOST_STEPS text e

-- The status of a malformed description, by the kind of its error.
abbrev pub fault_status : Refusal → ℕ
fault_status (unclosed index) = 9
fault_status (component_name name index) = 10
fault_status (modifier value index) = 11
fault_status (missing_name index) = 12
fault_status (missing_modifier name index) = 13
fault_status (expected_here what index) = 14
fault_status (not_supported what context index) = 15
fault_status too_long = 16

-- Status 0 for a description; else the status of its first fault, and the new index is that of the fault. Without a
-- fault, or for a fault without an index, the index is unchanged.
abbrev pub IsChecked : Result Tree Refusal → ℕ → ℕ → ℕ → Type 0
IsChecked (Ok tree) status old new = (status ≡ 0) × (new ≡ old)
IsChecked (Err e) status old new = (status ≡ fault_status e) × (new ≡ unwrap_or (index_of e) old)

-- The description is checked in its syntax. An unknown syntax has the status 17, and no index is stored.
abbrev pub Checks : Option Syntax → List ℕ → ℕ → ℕ → ℕ → Type 0
Checks (Some s) description status old new =
    (described : Result Tree Refusal) × IsDescribed s description described × IsChecked described status old new
Checks None description status old new = (status ≡ unknown_syntax) × (new ≡ old)

-- The text is parsed by the described tree. `storing` relates its result to the status and to what is stored. A
-- malformed description has its fault's status, and nothing is stored.
abbrev pub StoresByTree : {V S : Type 0} → Storing V S → Outcomes V → Result Tree Refusal → List ℕ → ℕ → S → S
    → Type 0
StoresByTree storing outcomes (Ok tree) text status old new =
    IsResultStored storing (outcomes over_record (Reads greatest_year tree) (Refuses greatest_year tree) text)
    status old new
StoresByTree storing outcomes (Err e) text status old new = (status ≡ fault_status e) × (new ≡ old)

-- The text is parsed by a description in the syntax. `storing` relates its result to the status and to what is stored.
-- An unknown syntax has the status 17, and nothing is stored.
abbrev pub StoresByDescription : {V S : Type 0} → Storing V S → Outcomes V → Option Syntax → List ℕ → List ℕ → ℕ → S → S
    → Type 0
StoresByDescription storing outcomes (Some s) description text status old new =
    (described : Result Tree Refusal) × IsDescribed s description described
    × StoresByTree storing outcomes described text status old new
StoresByDescription storing outcomes None description text status old new = (status ≡ unknown_syntax) × (new ≡ old)

-- ---- Stored descriptions: rows of steps, each a few numbers. Any numbers are a valid step.

-- The padding with this number: 1 is spaces, 2 is none, and any other number is zeros.
abbrev pub padding_of : ℕ → Padding
padding_of number = if nat_eq number 1 then padding.Space else if nat_eq number 2 then padding.None else padding.Zero

-- The number of a padding: 0 is zeros, 1 is spaces and 2 is none.
abbrev pub padding_number : Padding → ℕ
padding_number padding.Zero = 0
padding_number padding.Space = 1
padding_number padding.None = 2

-- How many digits a fraction has, by their number: 1 to 9 is exactly that many, and any other number is one or more.
abbrev pub digits_of : ℕ → SubsecondDigits
digits_of number =
    if nat_eq number 1 then digits.One else
    if nat_eq number 2 then digits.Two else
    if nat_eq number 3 then digits.Three else
    if nat_eq number 4 then digits.Four else
    if nat_eq number 5 then digits.Five else
    if nat_eq number 6 then digits.Six else
    if nat_eq number 7 then digits.Seven else
    if nat_eq number 8 then digits.Eight else
    if nat_eq number 9 then digits.Nine else digits.OneOrMore

-- The number for the digits of a fraction: 1 to 9 for exactly that many, and 0 for one or more.
abbrev pub digits_number : SubsecondDigits → ℕ
digits_number digits.OneOrMore = 0
digits_number digits.One = 1
digits_number digits.Two = 2
digits_number digits.Three = 3
digits_number digits.Four = 4
digits_number digits.Five = 5
digits_number digits.Six = 6
digits_number digits.Seven = 7
digits_number digits.Eight = 8
digits_number digits.Nine = 9

-- The treatment of trailing bytes with this number: 1 discards them, and any other number prohibits them.
abbrev pub trailing_of : ℕ → TrailingInput
trailing_of number = if nat_eq number 1 then trailing.Discard else trailing.Prohibit

-- The number of a treatment of trailing bytes: 0 prohibits them, and 1 discards them.
abbrev pub trailing_number : TrailingInput → ℕ
trailing_number trailing.Prohibit = 0
trailing_number trailing.Discard = 1

-- Whether a flag with this number is set: any number but 0 sets it.
abbrev pub is_set : ℕ → Bool
is_set number = if nat_eq number 0 then false else true

-- The literal of byte 0, which a stored step of an unknown kind encodes.
abbrev pub nothing : Step
nothing = step.Literal 0

-- The step of a component that skips bytes; for None, the literal of byte 0.
abbrev pub skipping : Option Ignore → Step
skipping None = nothing
skipping (Some i) = step.Component (component.Ignore i)

-- The steps that a stored step encodes if its kind is 0, 1 and so on, up to 41.
abbrev pub kinds : StoredStep → List Step
kinds h =
    step.Literal h.choice
    ∷ step.More h.choice
    ∷ step.Group group.Optional h.len
    ∷ step.Group group.First h.len
    ∷ step.Group group.List h.len
    ∷ step.Component (component.Day (record { padding = padding_of h.choice }))
    ∷ step.Component (component.MonthShort (record { case_sensitive = is_set h.flag }))
    ∷ step.Component (component.MonthLong (record { case_sensitive = is_set h.flag }))
    ∷ step.Component (component.MonthNumerical (record { padding = padding_of h.choice }))
    ∷ step.Component (component.Ordinal (record { padding = padding_of h.choice }))
    ∷ step.Component (component.WeekdayShort (record { case_sensitive = is_set h.flag }))
    ∷ step.Component (component.WeekdayLong (record { case_sensitive = is_set h.flag }))
    ∷ step.Component (component.WeekdaySunday (record { one_indexed = is_set h.flag }))
    ∷ step.Component (component.WeekdayMonday (record { one_indexed = is_set h.flag }))
    ∷ step.Component (component.WeekNumberIso (record { padding = padding_of h.choice }))
    ∷ step.Component (component.WeekNumberSunday (record { padding = padding_of h.choice }))
    ∷ step.Component (component.WeekNumberMonday (record { padding = padding_of h.choice }))
    ∷ step.Component (component.CalendarYearFullExtendedRange
    (record { padding = padding_of h.choice; sign_is_mandatory = is_set h.flag }))
    ∷ step.Component (component.CalendarYearFullStandardRange
    (record { padding = padding_of h.choice; sign_is_mandatory = is_set h.flag }))
    ∷ step.Component (component.IsoYearFullExtendedRange
    (record { padding = padding_of h.choice; sign_is_mandatory = is_set h.flag }))
    ∷ step.Component (component.IsoYearFullStandardRange
    (record { padding = padding_of h.choice; sign_is_mandatory = is_set h.flag }))
    ∷ step.Component (component.CalendarYearCenturyExtendedRange
    (record { padding = padding_of h.choice; sign_is_mandatory = is_set h.flag }))
    ∷ step.Component (component.CalendarYearCenturyStandardRange
    (record { padding = padding_of h.choice; sign_is_mandatory = is_set h.flag }))
    ∷ step.Component (component.IsoYearCenturyExtendedRange
    (record { padding = padding_of h.choice; sign_is_mandatory = is_set h.flag }))
    ∷ step.Component (component.IsoYearCenturyStandardRange
    (record { padding = padding_of h.choice; sign_is_mandatory = is_set h.flag }))
    ∷ step.Component (component.CalendarYearLastTwo (record { padding = padding_of h.choice }))
    ∷ step.Component (component.IsoYearLastTwo (record { padding = padding_of h.choice }))
    ∷ step.Component (component.Hour12 (record { padding = padding_of h.choice }))
    ∷ step.Component (component.Hour24 (record { padding = padding_of h.choice }))
    ∷ step.Component (component.Minute (record { padding = padding_of h.choice }))
    ∷ step.Component (component.Period (record { is_uppercase = is_set h.choice; case_sensitive = is_set h.flag }))
    ∷ step.Component (component.Second (record { padding = padding_of h.choice }))
    ∷ step.Component (component.Subsecond (record { digits = digits_of h.choice }))
    ∷ step.Component (component.OffsetHour
    (record { padding = padding_of h.choice; sign_is_mandatory = is_set h.flag }))
    ∷ step.Component (component.OffsetMinute (record { padding = padding_of h.choice }))
    ∷ step.Component (component.OffsetSecond (record { padding = padding_of h.choice }))
    ∷ skipping (ignored h.count)
    ∷ step.Component (component.UnixTimestampSecond (record { sign_is_mandatory = is_set h.flag }))
    ∷ step.Component (component.UnixTimestampMillisecond (record { sign_is_mandatory = is_set h.flag }))
    ∷ step.Component (component.UnixTimestampMicrosecond (record { sign_is_mandatory = is_set h.flag }))
    ∷ step.Component (component.UnixTimestampNanosecond (record { sign_is_mandatory = is_set h.flag }))
    ∷ step.Component (component.End (record { trailing_input = trailing_of h.choice }))
    ∷ []

-- The row of a kind in a table whose first row has kind `first`; the literal of byte 0 for a kind that isn't in it.
abbrev pub kind_in : List Step → ℕ → ℕ → Step
kind_in [] first kind = nothing
kind_in (row ∷ rows) first kind = if nat_eq kind first then row else kind_in rows (first + 1) kind

-- The step that a stored step encodes. An unknown kind, or skipping 0 bytes, is the literal of byte 0.
unfoldable pub step_of : StoredStep → Step
step_of h = kind_in (kinds h) 0 h.kind

-- The stored step with this kind, choice and flag, and 0 in its other fields. A flag that is set is 1.
abbrev pub chosen : ℕ → ℕ → Bool → StoredStep
chosen kind choice flag = record { len = 0; count = 0; kind = kind; choice = choice; flag = if flag then 1 else 0 }

-- The steps of a stored description: the first `count`, or all where there are fewer.
abbrev pub steps_of : StoredDescription → List Step
steps_of h = map step_of (take h.count h.steps)

-- The tree that the steps of a stored description encode.
abbrev pub stored_tree : StoredDescription → Tree
stored_tree h = steps_shape (steps_of h)

-- Status 0, and the stored description has the tree; or status 16, the description has more steps than fit, and nothing
-- is stored.
abbrev pub HasTree : Tree → ℕ → StoredDescription → StoredDescription → Type 0
HasTree tree status old new =
    ((status ≡ 0) × (stored_tree new ≡ tree))
    ⊎ ((status ≡ fault_status too_long) × (new ≡ old)
    × (steps : List Step) × (steps_shape steps ≡ tree) × (MOST_STEPS < length steps))

-- `HasTree` for the tree, and the index is unchanged; or the status of the first fault, the stored description is
-- unchanged, and the new index is that of the fault, or unchanged if the fault has none.
abbrev pub IsDescriptionStored : Result Tree Refusal → ℕ → StoredDescription → StoredDescription → ℕ → ℕ → Type 0
IsDescriptionStored (Ok tree) status old new index new_index = HasTree tree status old new × (new_index ≡ index)
IsDescriptionStored (Err e) status old new index new_index =
    (status ≡ fault_status e) × (new ≡ old) × (new_index ≡ unwrap_or (index_of e) index)

-- The description is parsed in the syntax, and stored or rejected as by `IsDescriptionStored`. An unknown syntax has
-- the status 17, and nothing is stored.
abbrev pub StoresDescription : Option Syntax → List ℕ → ℕ → StoredDescription → StoredDescription → ℕ → ℕ → Type 0
StoresDescription (Some s) text status old new index new_index =
    (described : Result Tree Refusal) × IsDescribed s text described
    × IsDescriptionStored described status old new index new_index
StoresDescription None text status old new index new_index =
    (status ≡ unknown_syntax) × (new ≡ old) × (new_index ≡ index)

-- The text is parsed by a stored description. `storing` relates its result to the status and to what is stored.
abbrev pub StoresBySteps : {V S : Type 0} → Storing V S → Outcomes V → StoredDescription → List ℕ → ℕ → S → S → Type 0
StoresBySteps storing outcomes h text status old new =
    StoresByTree storing outcomes (Ok (stored_tree h)) text status old new
