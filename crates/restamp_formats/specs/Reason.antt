-- Why a timestamp isn't rewritten.
use Rattle.std.specs.Prelude.{◌/◌, ◌%◌, ◌∷◌, ◌++◌, if◌then◌else◌}
use Rattle.time_formatting.specs.{Texts.unformattable_text, WellKnown.unwritable_text}
use Rattle.time_values.specs.Refusal.{refusal_text}
use Rattle.time_zones.specs.{Zones.suffix_fault_text, declared.checking.SuffixFault.SuffixFault}
use Rattle.restamp_formats.specs.declared.reason.Reason as declared
use Rattle.restamp_formats.specs.Common.{List, codes, ℕ, ℤ, pos, int_lt, unsigned_abs, Bool, true, false, Result, Ok, Err, Unformattable, Refusal, refusal_of, Items, fixed, Unwritable, TwoOffsets}
use Rattle.restamp_formats.specs.declared.reason.OffsetParts.{OffsetParts}

-- Why a timestamp isn't rewritten: no format matches it; it has a fraction after a minus; the local time is
-- nonexistent, or ambiguous with these offsets; its year at the output's offset, or in UTC for a count, is out of
-- range; it is outside the range of time zones; its suffix rejects it; it has no text by a named format, or by a
-- description; it ends after byte 262144 of its line; or the line has no timestamp, but must have one.
pub data Reason : Type 0 where
  unread : Refusal → Reason
  negative_fraction : Reason
  nonexistent : Reason
  ambiguous_offsets : TwoOffsets → Reason
  out_of_range : Reason
  outside_zone_range : Reason
  suffix : SuffixFault → Reason
  unwritable : Unwritable → Reason
  unformattable : Unformattable → Reason
  too_far : Reason
  missing : Reason

-- a reason of the code, without the addresses of its texts
abbrev pub seen : declared.Reason → Reason
seen (declared.Reason.Unread e) = unread (refusal_of e)
seen declared.Reason.NegativeFraction = negative_fraction
seen declared.Reason.Nonexistent = nonexistent
seen (declared.Reason.Ambiguous offsets) = ambiguous_offsets offsets
seen declared.Reason.OutOfRange = out_of_range
seen declared.Reason.OutsideZoneRange = outside_zone_range
seen (declared.Reason.Suffix fault) = suffix fault
seen (declared.Reason.Unwritable why) = unwritable why
seen (declared.Reason.Unformattable why) = unformattable why
seen declared.Reason.TooFar = too_far
seen declared.Reason.Missing = missing

-- an offset from its seconds, which are negative behind UTC: whether it is behind, and its size in seconds
abbrev pub parts_of : ℤ → OffsetParts
parts_of s = record { is_behind = int_lt s (pos 0); seconds = unsigned_abs s }

-- the text of an offset, `+HH:MM:SS`, or `-HH:MM:SS` behind UTC
abbrev pub offset_text : OffsetParts → List ℕ
offset_text o =
    (if o.is_behind then 45 else 43) ∷ fixed 2 (o.seconds / 3600) ++ codes ":"
    ++ fixed 2 (o.seconds / 60 % 60) ++ codes ":" ++ fixed 2 (o.seconds % 60)

-- the text of two offsets, such as `+02:00:00 and +01:00:00`
abbrev pub offsets_text : TwoOffsets → List ℕ
offsets_text offsets = offset_text offsets.earlier ++ (codes " and " ++ offset_text offsets.later)

-- the printed text of a reason; only a nonexistent or ambiguous local time includes the name of the zone
abbrev pub text_with : List ℕ → Reason → List ℕ
text_with zone (unread e) = refusal_text e
text_with zone negative_fraction = codes "a fraction after a minus is read in two ways"
text_with zone nonexistent = codes "the clocks of " ++ zone ++ codes " leave it out"
text_with zone (ambiguous_offsets offsets) =
    codes "the clocks of " ++ zone ++ codes " show it twice, at " ++ offsets_text offsets
text_with zone out_of_range = codes "the time has no date at that offset"
text_with zone outside_zone_range = codes "the time is outside the range of time zones"
text_with zone (suffix fault) = suffix_fault_text fault
text_with zone (unwritable why) = unwritable_text why
text_with zone (unformattable why) = unformattable_text why
text_with zone too_far = codes "the time extends past byte 262144 of its line"
text_with zone missing = codes "the line has no place for a time"

-- the words in place of the name of a zone
abbrev pub its_zone : List ℕ
its_zone = codes "its zone"

-- the printed text of a reason, with `its zone` in place of the name of the zone
abbrev pub reason_text : Reason → List ℕ
reason_text reason = text_with its_zone reason

-- the reason is that the local time is nonexistent or ambiguous in the time zone
abbrev pub is_local_time_error : Reason → Bool
is_local_time_error nonexistent = true
is_local_time_error (ambiguous_offsets offsets) = true
is_local_time_error reason = false

-- The result satisfies a relation; if it is an error, the relation holds for some reason, and the error is what a
-- caller keeps of that reason.
abbrev pub Satisfies : {V E : Type 0} → (Reason → E → Type 0) → (Result V Reason → Type 0) → Result V E → Type 0
Satisfies IsOf P (Ok v) = P (Ok v)
Satisfies IsOf P (Err e) = (reason : Reason) × IsOf reason e × P (Err reason)

-- The result is an error, and the error is what a caller keeps of that reason.
abbrev pub IsErrOf : {V E : Type 0} → (Reason → E → Type 0) → Reason → Result V E → Type 0
IsErrOf IsOf reason (Ok v) = ⊥
IsErrOf IsOf reason (Err e) = IsOf reason e

-- A relation holds for the stored text if the result is a success; otherwise for some reason, and the error is what a
-- caller keeps of that reason, whatever the text.
abbrev pub Stores : {U E : Type 0} → (Reason → E → Type 0) → (Result Items Reason → Type 0) → Result U E → Items
    → Type 0
Stores IsOf P (Ok u) text = P (Ok text)
Stores IsOf P (Err e) text = (reason : Reason) × IsOf reason e × P (Err reason)

-- a result, its error without the addresses of its texts
abbrev pub erased : {V : Type 0} → Result V declared.Reason → Result V Reason
erased (Ok v) = Ok v
erased (Err e) = Err (seen e)
