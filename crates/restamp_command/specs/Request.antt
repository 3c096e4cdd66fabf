-- The request of the options.
use Rattle.std.specs.Prelude.{◌≡◌, ℕ, ℤ, List, [], ◌∷◌, ◌++◌, codes, Bool, true, false, ◌&&◌, ◌||◌, not, if◌then◌else◌, ◌==◌, ◌⊎◌, MatchBool, Option, None, Some, is_some, IfSome, IsSomeAnd, Result, Ok, Err}
use Rattle.std.specs.Borrow.{Bor}
use Rattle.std.specs.List.{list_any}
use Rattle.std.specs.Option.{option_map}
use Rattle.std.specs.Str.{bytes_eq}
use Rattle.restamp_place.specs.declared.place.Place.{Place}
use Rattle.restamp_place.specs.declared.place.Place.TheVariants as place
use Rattle.restamp_place.specs.declared.fields.Fields.{Fields}
use Rattle.restamp_place.specs.declared.fields.Fields.TheVariants.{Delimited, Blank, Quoted}
use Rattle.restamp_formats.specs.MissingField.{format_missing_field, can_default}
use Rattle.restamp_formats.specs.Naming as naming
use Rattle.restamp_formats.specs.Naming.{Means, MeansWriting, meaning_of, format_name_of}
use Rattle.restamp_formats.specs.declared.form.Named.TheVariants.{Rfc3339}
use Rattle.restamp_formats.specs.declared.form.Writing.{Writing}
use Rattle.restamp_formats.specs.declared.form.Writing.TheVariants.{Named}
use Rattle.restamp_lines.specs.declared.job.Job.{Job}
use Rattle.restamp_formats.specs.declared.missing_field.Part.{Part}
use Rattle.restamp_formats.specs.declared.missing_field.Part.TheVariants as part
use Rattle.restamp_formats.specs.declared.local.Fold.{Fold}
use Rattle.restamp_formats.specs.declared.local.Fold.TheVariants.{Refuse}
use Rattle.restamp_formats.specs.declared.reading.Defaults.{Defaults}
use Rattle.restamp_formats.specs.declared.reading.Reading.{Reading}
use Rattle.restamp_formats.specs.declared.reading.Reading.TheVariants as reading
use Rattle.restamp_command.specs.Options.{other_names, text_behind}
use Rattle.restamp_command.specs.declared.options.Options.{Options}
use Rattle.restamp_stream.specs.declared.settings.Output.{Output}
use Rattle.restamp_stream.specs.declared.settings.Output.TheVariants.{AllLines, RewrittenLines, Times}
use Rattle.restamp_stream.specs.declared.settings.Reports.{Reports}
use Rattle.restamp_stream.specs.declared.settings.Reports.TheVariants.{Quiet, First}
use Rattle.restamp_stream.specs.declared.settings.Settings.{Settings}
use Rattle.time_values.specs.Offsets.{IsUtc}
use Rattle.time_values.specs.declared.offset_date_time.OffsetDateTime.{OffsetDateTime}
use Rattle.time_values.specs.declared.utc_date_time.UtcDateTime.{UtcDateTime}
use Rattle.time_values.specs.declared.utc_offset.UtcOffset.{UtcOffset}
use Rattle.time_zones.specs.Finding.{zone_named, IsFolderFault}
use Rattle.time_zones.specs.declared.finding.NamedZone.TheVariants as NamedZone
use Rattle.restamp_command.specs.Fault as fault
use Rattle.restamp_command.specs.Fault.{Fault, TimeArgError, erased_time_error}
use Rattle.restamp_command.specs.Values.{delimiter_of, digits_of, fold_of, shows_of, IsNumber, IsPositive, IsOffsetText, IsYear, IsMomentText}
use Rattle.restamp_command.specs.Zones.{AreDefaultsOf, IsZoneResult, IsZone, IsNoZone, IsClockOf, IsSuffixOf, HasNoSuffix}
use Rattle.restamp_command.specs.declared.fault.TimeArgError as declared
use Rattle.restamp_command.specs.declared.request.Request.{Request}
use Rattle.restamp_command.specs.declared.style.Style.{Style}
use Rattle.restamp_command.specs.declared.zone.OwnedDefaults.{OwnedDefaults}
use Rattle.restamp_command.specs.declared.zone.Local.{Local}
use Rattle.restamp_command.specs.declared.zone.Local.TheVariants as local
use Rattle.restamp_command.specs.declared.zone.Zone.{Zone}

-- the place of a line's timestamp, without the addresses of its texts; `anywhere` if it may be at any place
pub data Where : Type 0 where
  anywhere : Where
  whole : Where
  front : Where
  field : Fields → ℕ → Where
  between : List ℕ → List ℕ → Where
  after : List ℕ → Where

-- the place, without the addresses of its texts; `anywhere` for `None`
abbrev pub erased_place : Option Place → Where
erased_place None = anywhere
erased_place (Some place.Whole) = whole
erased_place (Some place.Front) = front
erased_place (Some (place.Field fields n)) = field fields n
erased_place (Some (place.Between begin close)) = between begin.now close.now
erased_place (Some (place.After key)) = after key.now

-- how a line is split into fields; `None` if the delimiter isn't one byte or `\t`, and `--blanks` isn't given
abbrev pub fields_of : Options → Option Fields
fields_of o =
    if o.blanks then Some Blank else
    option_map (λ byte. if o.csv then Quoted byte else Delimited byte) (delimiter_of o.delimiter.now)

-- The place of the field of that number, counted from 1; without a number the whole line.
abbrev pub IsFieldPlace : Options → Option (List ℕ) → Where → Type 0
IsFieldPlace o None w = w ≡ whole
IsFieldPlace o (Some number) w =
    (fields : Fields) × (n : ℕ) × (fields_of o ≡ Some fields) × IsPositive number (Some n) × (w ≡ field fields n)

-- The place between two texts, or else that of the field, or else the whole line.
abbrev pub IsBetweenPlace : Options → Option (Bor (List ℕ) × Bor (List ℕ)) → Where → Type 0
IsBetweenPlace o None w = IsFieldPlace o (text_behind o.field) w
IsBetweenPlace o (Some texts) w = w ≡ between texts.0.now texts.1.now

-- The place after a text, or else the place between two texts, or else that of the field, or else the whole line.
abbrev pub IsAfterPlace : Options → Option (Bor (List ℕ)) → Where → Type 0
IsAfterPlace o None w = IsBetweenPlace o o.between w
IsAfterPlace o (Some key) w = w ≡ after key.now

-- The place of a line's timestamp: by `--front`, or else `--anywhere`, `--after`, `--between` or `--field`, or else the
-- whole line.
abbrev pub IsPlace : Options → Where → Type 0
IsPlace o w = MatchBool o.front (w ≡ front) (MatchBool o.anywhere (w ≡ anywhere) (IsAfterPlace o o.after w))

-- there is a default year: `--year` or `--latest` is given
abbrev pub has_default_year : Options → Bool
has_default_year o = is_some o.year || is_some o.latest

-- there is a default offset or a zone for local times: `--offset` or `--in` is given
abbrev pub has_default_offset : Options → Bool
has_default_offset o = is_some o.offset || is_some o.local

-- the name is `rfc9557`
abbrev pub is_zoned : List ℕ → Bool
is_zoned name = bytes_eq name (codes "rfc9557")

-- The format is RFC 9557, with a table of zones that has UTC. No contract describes the system's files, which have the
-- others.
abbrev pub IsZoned : Reading → Type 0
IsZoned (reading.Zoned zones) = zone_named zones (codes "UTC") ≡ Some NamedZone.Utc
IsZoned format = ⊥

-- The format that has that name, or that the text describes. Its `format_missing_field` is `None`; the flag is whether
-- there is a default year.
abbrev pub IsFormat : Bool → List ℕ → Reading → Type 0
IsFormat has_year name format =
    MatchBool (is_zoned name) (IsZoned format)
    (Means (format_name_of name) (meaning_of format) × (format_missing_field has_year format ≡ None))

-- A list is extended by the formats of those names, in order.
abbrev pub AddsFormats : Bool → List (List ℕ) → List Reading → List Reading → Type 0
AddsFormats has_year [] old new = new ≡ old
AddsFormats has_year (name ∷ names) old new =
    (format : Reading) × IsFormat has_year name format × AddsFormats has_year names (old ++ format ∷ []) new

-- The requested formats, the first and the others.
abbrev pub AreFormats : Options → Reading → List Reading → Type 0
AreFormats o first others =
    IsFormat (has_default_year o) o.from.now first × AddsFormats (has_default_year o) (other_names o) [] others

-- the text is one of the listed texts
abbrev pub IsOneOf : List (List ℕ) → List ℕ → Type 0
IsOneOf [] text = ⊥
IsOneOf (name ∷ names) text = (text ≡ name) ⊎ IsOneOf names text

-- One of the texts is no format, for that reason; or it is `rfc9557`, and the zones can't be read; or all texts of its
-- format omit that part, which no default supplies; or memory was short. The flag is whether there is a default year.
abbrev pub IsFormatFault : Bool → List (List ℕ) → Fault → Type 0
IsFormatFault has_year names fault.memory = Unit {0}
IsFormatFault has_year names (fault.from value why) =
    IsOneOf names value × (is_zoned value ≡ false) × naming.IsFault (format_name_of value) why
IsFormatFault has_year names (fault.zones value why) =
    IsOneOf names value × (is_zoned value ≡ true) × IsFolderFault why
IsFormatFault has_year names (fault.incomplete_format value missing_field) =
    IsOneOf names value × (is_zoned value ≡ false)
    × ((format : Reading) × Means (format_name_of value) (meaning_of format)
    × (format_missing_field has_year format ≡ Some missing_field))
IsFormatFault has_year names f = ⊥

-- The default year: that of the text, or `None` without a text.
abbrev pub IsYearGiven : Option (List ℕ) → Option ℤ → Type 0
IsYearGiven None year = year ≡ None
IsYearGiven (Some text) year = IsSomeAnd year (λ y. IsYear text (Some y))

-- The default offset: that of the text, or UTC without a text.
abbrev pub IsOffsetGiven : Option (List ℕ) → UtcOffset → Type 0
IsOffsetGiven None offset = IsUtc offset
IsOffsetGiven (Some text) offset = IsOffsetText text (Some offset)

-- What an ambiguous local time means: by the text, or without a text it is rejected.
abbrev pub IsFoldGiven : Option (List ℕ) → Fold → Type 0
IsFoldGiven None fold = fold ≡ Refuse
IsFoldGiven (Some text) fold = fold_of text ≡ Some fold

-- the name of a zone in reports: `the local zone` for `local`, otherwise the name itself
abbrev pub reported_zone_name : List ℕ → List ℕ
reported_zone_name name = if bytes_eq name (codes "local") then codes "the local zone" else name

-- The default for an omitted offset: the zone of that name with the choice of `--fold`, or without a name the offset of
-- `--offset`, or UTC.
abbrev pub IsLocalGiven : Options → Option (List ℕ) → Local → Type 0
IsLocalGiven o None (local.Offset offset) = IsOffsetGiven (text_behind o.offset) offset
IsLocalGiven o (Some name) (local.Zone named called fold) =
    IsZoneResult name (Ok named) × (called.now ≡ reported_zone_name name) × IsFoldGiven (text_behind o.fold) fold
IsLocalGiven o name l = ⊥

-- The defaults for an omitted year and an omitted offset, without a latest moment.
abbrev pub AreParts : Options → OwnedDefaults → Type 0
AreParts o given =
    IsYearGiven (text_behind o.year) given.year × IsLocalGiven o (text_behind o.local) given.local
    × (given.latest ≡ None)

-- A default for that part can have an effect: a format uses the default, and may parse a text without the part.
abbrev pub one_can_default : Part → Reading → List Reading → Bool
one_can_default p first others = can_default p first || list_any (can_default p) others

-- A default year is given only if some text of the formats may omit the year, and a default offset or a zone only if
-- some text may omit the offset.
pub record AreUsed (o : Options) (first : Reading) (others : List Reading) : Type 0 where
  pub year : has_default_year o ≡ true → one_can_default part.Year first others ≡ true
  pub offset : has_default_offset o ≡ true → one_can_default part.Offset first others ≡ true

-- A default for that part has no use: each requested format ignores it, or has the part or a count in each text.
abbrev pub HasNoUse : Options → Part → Type 0
HasNoUse o p =
    (first : Reading) × (others : List Reading) × AreFormats o first others × (one_can_default p first others ≡ false)

-- the name of the output zone: `utc` for `--utc`, otherwise the value of `--zone`
abbrev pub zone_of : Options → List ℕ
zone_of o = if o.utc then codes "utc" else o.zone.now

-- The output format that the text names or describes; RFC 3339 for `rfc9557`, whose suffix is written after it.
abbrev pub IsWriting : List ℕ → Writing → Type 0
IsWriting name writing =
    MatchBool (is_zoned name) (writing ≡ Named Rfc3339) (MeansWriting name writing)

-- The text after each timestamp: the zone's name or offset in brackets if the format is `rfc9557`, otherwise empty.
abbrev pub IsSuffixBy : List ℕ → Zone → List ℕ → Type 0
IsSuffixBy name zone bytes = MatchBool (is_zoned name) (IsSuffixOf zone bytes) (bytes ≡ [])

-- How a moment is written, by the options.
pub record IsStyle (o : Options) (style : Style) : Type 0 where
  pub writing : IsWriting o.to.now style.writing
  pub digits : digits_of o.digits.now ≡ Some style.digits
  pub zone : IsZone (zone_of o) style.zone
  pub suffix : IsSuffixBy o.to.now style.zone style.suffix.items

-- The output format of that name is `rfc9557`, and the zone has no suffix; or memory was short.
abbrev pub IsSuffixFault : List ℕ → Zone → Fault → Type 0
IsSuffixFault name zone fault.memory = Unit {0}
IsSuffixFault name zone (fault.unnamed value) = (value ≡ name) × (is_zoned name ≡ true) × HasNoSuffix zone
IsSuffixFault name zone f = ⊥

-- The output format is `rfc9557`, and the output zone has no suffix.
abbrev pub IsUnnamed : Options → Type 0
IsUnnamed o =
    (is_zoned o.to.now ≡ true) × ((zone : Zone) × IsZone (zone_of o) zone × HasNoSuffix zone)

-- the moment of a text as a bound, or an error: the text, and why it is no moment
abbrev pub bound_of : List ℕ → Result OffsetDateTime TimeArgError
    → Result (Option OffsetDateTime) (List ℕ × TimeArgError)
bound_of text (Ok moment) = Ok (Some moment)
bound_of text (Err why) = Err (text, why)

-- a result, without the addresses of its texts
abbrev pub erased_bound : Result (Option OffsetDateTime) (Bor (List ℕ) × declared.TimeArgError)
    → Result (Option OffsetDateTime) (List ℕ × TimeArgError)
erased_bound (Ok bound) = Ok bound
erased_bound (Err e) = Err (e.0.now, erased_time_error e.1)

-- A bound: the moment of the text, by RFC 3339, the formats, the defaults and the clock at `now`; `None` without a
-- text; the error is the text, and why it is no moment.
abbrev pub IsBound : Option UtcDateTime → Reading → List Reading → Defaults → Option (List ℕ)
    → Result (Option OffsetDateTime) (List ℕ × TimeArgError) → Type 0
IsBound now first others defaults None result = result ≡ Ok None
IsBound now first others defaults (Some text) result =
    (moment : Result OffsetDateTime TimeArgError) × IsMomentText now first others text defaults moment
    × (result ≡ bound_of text moment)

-- The result of `IsBound` with these defaults, which own their zone.
abbrev pub IsBoundBy : Option UtcDateTime → Reading → List Reading → OwnedDefaults → Option (List ℕ)
    → Result (Option OffsetDateTime) (List ℕ × TimeArgError) → Type 0
IsBoundBy now first others given text result =
    (defaults : Defaults) × AreDefaultsOf given defaults × IsBound now first others defaults text result

-- The defaults for what a timestamp omits: those of `AreParts`, and with them the moment of `--latest`.
abbrev pub IsGiven : Option UtcDateTime → Options → Reading → List Reading → OwnedDefaults → Type 0
IsGiven now o first others given =
    (parts : OwnedDefaults) × AreParts o parts × (given ≡ record parts { latest = given.latest })
    × IsBoundBy now first others parts (text_behind o.latest) (Ok given.latest)

-- The bounds of the moments of lines that are kept: the moments of `--since` and `--until`, each `None` without the
-- option.
abbrev pub AreBounds : Option UtcDateTime → Options → Reading → List Reading → OwnedDefaults
    → Option OffsetDateTime × Option OffsetDateTime → Type 0
AreBounds now o first others given bounds =
    IsBoundBy now first others given (text_behind o.since) (Ok bounds.0)
    × IsBoundBy now first others given (text_behind o.until) (Ok bounds.1)

-- Whether reports have colours and show the rejected line, by `--color`; for `auto`, the flag `is_terminal` decides.
abbrev pub AreColors : Options → Bool → Bool → Type 0
AreColors o is_terminal shows = shows_of o.color.now is_terminal ≡ Some shows

-- which lines are written: only the times for `--only`, or else only rewritten lines for `--drop-refused`, or else all
-- but the dropped ones
abbrev pub output_of : Options → Output
output_of o = if o.only then Times else (if o.drop_refused then RewrittenLines else AllLines)

-- whether to stop at the first rejected line: `--strict` without `--keep-going`
abbrev pub stops : Options → Bool
stops o = o.strict && not o.keep_going

-- Which rejected lines are reported: none for `--quiet`, otherwise the first ones of each file, as many as `--errors`.
abbrev pub AreReports : Options → Reports → Type 0
AreReports o reports =
    (n : ℕ) × IsNumber o.errors.now (Some n) × (reports ≡ (if o.quiet then Quiet else First n))

-- a text has a slash
abbrev pub has_slash : List ℕ → Bool
has_slash text = list_any (λ b. b == 47) text

-- The suffix of the backups of files that are replaced, which has no slash; `None` without `--in-place`.
abbrev pub IsSuffix : Options → Option (List ℕ) → Type 0
IsSuffix o suffix = (suffix ≡ text_behind o.in_place) × IfSome suffix (λ text. has_slash text ≡ false)

-- The request of options, by the clock's moment. `is_terminal` is whether `auto` for `--color` means colours.
pub record IsRequestOf (now : Option UtcDateTime) (o : Options) (is_terminal : Bool)
    (r : Request) : Type 0 where
  pub place : IsPlace o (erased_place r.place)
  pub formats : AreFormats o r.first r.others.items
  pub uses : AreUsed o r.first r.others.items
  pub given : IsGiven now o r.first r.others.items r.given
  pub style : IsStyle o r.style
  pub bounds : AreBounds now o r.first r.others.items r.given (r.since, r.until)
  pub output : r.output ≡ output_of o
  pub reports : AreReports o r.reports
  pub stops : r.stops ≡ stops o
  pub shows_lines : AreColors o is_terminal r.shows_lines
  pub strict : r.strict ≡ o.strict
  pub in_place : IsSuffix o (text_behind r.in_place)

-- The text of `--since` or `--until` is that value, and is no moment by RFC 3339, the requested formats and defaults,
-- and the clock at `now`, for that reason.
abbrev pub IsNoBound : Option UtcDateTime → Options → Option (List ℕ) → List ℕ → TimeArgError → Type 0
IsNoBound now o text value why =
    (first : Reading) × (others : List Reading) × (given : OwnedDefaults)
    × AreFormats o first others × IsGiven now o first others given
    × IsBoundBy now first others given text (Err (value, why))

-- The text of `--latest` is that value, and is no moment by RFC 3339, the requested formats, the other defaults and
-- the clock at `now`, for that reason.
abbrev pub IsNoLatest : Option UtcDateTime → Options → List ℕ → TimeArgError → Type 0
IsNoLatest now o value why =
    (first : Reading) × (others : List Reading) × (parts : OwnedDefaults)
    × AreFormats o first others × AreParts o parts
    × IsBoundBy now first others parts (text_behind o.latest) (Err (value, why))

-- An option rejects its value whatever the clock shows, or a default has no use, or memory was short.
abbrev pub IsFault : Options → Fault → Type 0
IsFault o fault.memory = Unit {0}
IsFault o (fault.field value) = (text_behind o.field ≡ Some value) × IsPositive value None
IsFault o (fault.delimiter value) = (value ≡ o.delimiter.now) × (delimiter_of value ≡ None)
IsFault o (fault.to value why) =
    (value ≡ o.to.now) × (is_zoned value ≡ false) × naming.IsWritingFault value why
IsFault o (fault.unnamed value) = (value ≡ o.to.now) × IsUnnamed o
IsFault o (fault.year value) = (text_behind o.year ≡ Some value) × IsYear value None
IsFault o (fault.offset value) = (text_behind o.offset ≡ Some value) × IsOffsetText value None
IsFault o (fault.local value why) = (text_behind o.local ≡ Some value) × IsZoneResult value (Err why)
IsFault o (fault.fold value) = (text_behind o.fold ≡ Some value) × (fold_of value ≡ None)
IsFault o (fault.unused_year value) = (text_behind o.year ≡ Some value) × HasNoUse o part.Year
IsFault o (fault.unused_latest value) = (text_behind o.latest ≡ Some value) × HasNoUse o part.Year
IsFault o (fault.unused_offset value) = (text_behind o.offset ≡ Some value) × HasNoUse o part.Offset
IsFault o (fault.unused_local value) = (text_behind o.local ≡ Some value) × HasNoUse o part.Offset
IsFault o (fault.zone value why) = (value ≡ zone_of o) × IsNoZone value why
IsFault o (fault.digits value) = (value ≡ o.digits.now) × (digits_of value ≡ None)
IsFault o (fault.errors value) = (value ≡ o.errors.now) × IsNumber value None
IsFault o (fault.color value) = (value ≡ o.color.now) × ((is_terminal : Bool) → shows_of value is_terminal ≡ None)
IsFault o (fault.in_place value) = (text_behind o.in_place ≡ Some value) × (has_slash value ≡ true)
IsFault o f = IsFormatFault (has_default_year o) (o.from.now ∷ other_names o) f

-- `--latest`, `--since` or `--until` rejects its value with the clock at `now`, or an error of `IsFault`.
abbrev pub IsFaultAt : Option UtcDateTime → Options → Fault → Type 0
IsFaultAt now o (fault.latest value why) = IsNoLatest now o value why
IsFaultAt now o (fault.since value why) = IsNoBound now o (text_behind o.since) value why
IsFaultAt now o (fault.until value why) = IsNoBound now o (text_behind o.until) value why
IsFaultAt now o f = IsFault o f

-- The settings of a request for the lines of files. Their `strict` is the request's `stops`.
pub record AreSettingsOf (r : Request) (s : Settings) : Type 0 where
  pub output : s.output ≡ r.output
  pub suffix : s.suffix.now ≡ r.style.suffix.items
  pub reports : s.reports ≡ r.reports
  pub strict : s.strict ≡ r.stops

-- The job of a request. It requires a timestamp if the request's `strict` is true.
pub record IsJobOf (r : Request) (job : Job) : Type 0 where
  pub place : job.place ≡ r.place
  pub first : job.first.now ≡ r.first
  pub others : job.others.now ≡ r.others.items
  pub defaults : AreDefaultsOf r.given job.defaults
  pub writing : job.form.writing.now ≡ r.style.writing
  pub digits : job.form.digits ≡ r.style.digits
  pub clock : IsClockOf r.style.zone job.form.clock
  pub since : job.since ≡ r.since
  pub until : job.until ≡ r.until
  pub requires_timestamp : job.requires_timestamp ≡ r.strict
