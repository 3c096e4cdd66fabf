-- The verdict on a line.
use Rattle.time_values.specs.Calendar.{greatest_year}
use Rattle.std.specs.Prelude.{◌≡◌, ℕ, ◌+◌, ◌-◌, ◌<◌, ◌≤◌, nat_lt, Bool, true, false, MatchBool, ◌&&◌, not, int_lt, List, [], ◌∷◌, length, take, drop, slice_index, slice_range, if◌then◌else◌, Option, None, Some, is_some, Result, Ok, Err, MatchOption, MatchResult}
use Rattle.std.specs.Char.{is_ascii_alphanumeric}
use Rattle.std.specs.Option.{option_map}
use Rattle.restamp_place.specs.declared.place.Place.{Place}
use Rattle.restamp_place.specs.declared.fields.Span.{Span}
use Rattle.time_values.specs.Moments.{offset_instant}
use Rattle.time_values.specs.DisplayTexts.{Items}
use Rattle.time_values.specs.declared.offset_date_time.OffsetDateTime.{OffsetDateTime}
use Rattle.restamp_place.specs.Places.{span_of, body_of, is_prefix}
use Rattle.restamp_formats.specs.Form.{IsWritten}
use Rattle.restamp_formats.specs.Reading.{IsDated, IsReadInTurn}
use Rattle.restamp_formats.specs.Reason.{Reason, missing, too_far}
use Rattle.restamp_lines.specs.declared.job.Job.{Job}
use Rattle.restamp_lines.specs.declared.job.TheConstants.{LIMIT, REACH}
use Rattle.restamp_lines.specs.declared.part.Part as declared_part
use Rattle.restamp_lines.specs.declared.job.Refusal.{Refusal}
use Rattle.restamp_stream.specs.declared.action.LineAction.{LineAction}
use Rattle.restamp_stream.specs.declared.action.LineAction.TheVariants as action
use Rattle.restamp_formats.specs.declared.reading.Reading.{Reading}
use Rattle.restamp_formats.specs.declared.reading.Match.{Match}

-- The verdict on a line: it has no timestamp; a text replaces its bytes from the first index to before the second; it
-- is dropped; or it is rejected at a column, counted in bytes from 1, for a reason.
pub data Verdict : Type 0 where
  Without : Verdict
  Rewritten : ℕ → ℕ → Items → Verdict
  Dropped : Verdict
  Refused : Refusal Reason → Verdict

-- the verdict that a text replaces `length` bytes of a line from index `start` on
abbrev pub rewritten : ℕ → ℕ → List ℕ → Verdict
rewritten start length text = Rewritten start (start + length) (record { items = text })

-- the verdict that a line is rejected at that column, counted in bytes from 1, for that reason
abbrev pub refused : ℕ → Reason → Verdict
refused column reason = Refused (record { column = column; reason = reason })

-- The verdict of an action and a new text satisfies a relation. `IsOf` relates the reason of a rejected line to what
-- the caller keeps of it.
abbrev pub SatisfiesWithText : {E : Type 0} → (Reason → E → Type 0) → (Verdict → Type 0)
    → LineAction (Refusal E) → Items → Type 0
SatisfiesWithText IsOf P action.Without text = P Without
SatisfiesWithText IsOf P (action.Rewritten begin end) text = P (Rewritten begin end text)
SatisfiesWithText IsOf P action.Dropped text = P Dropped
SatisfiesWithText IsOf P (action.Refused r) text =
    (reason : Reason) × IsOf reason r.reason × P (refused r.column reason)

-- if the line is rewritten, the replaced bytes are within the first n bytes
abbrev pub EndsWithin : {R : Type 0} → ℕ → LineAction R → Type 0
EndsWithin n (action.Rewritten begin end) = (begin ≤ end) × (end ≤ n)
EndsWithin n _ = Unit {0}

-- the moment is before the bound; `otherwise` without a bound
abbrev pub is_before : OffsetDateTime → Option OffsetDateTime → Bool → Bool
is_before v None otherwise = otherwise
is_before v (Some bound) otherwise = int_lt (offset_instant greatest_year v) (offset_instant greatest_year bound)

-- the moment isn't before `since`, and is before `until`; a bound that is `None` excludes no moment
abbrev pub is_kept : Job → OffsetDateTime → Bool
is_kept job v = not (is_before v job.since false) && is_before v job.until true

-- the verdict on a line with a match in the part that starts at `start`: rewritten if the match's moment has that text,
-- rejected for the reason if it has none
abbrev pub verdict_of : ℕ → Match → Result Items Reason → Verdict
verdict_of start matched (Ok text) = Rewritten (start + matched.start) (start + matched.start + matched.length) text
verdict_of start matched (Err e) = refused (start + matched.start + 1) e

-- the verdict on a kept match in the part that starts at `start`: rewritten, or rejected if the moment has no text
abbrev pub IsWrittenOver : Job → ℕ → Match → Verdict → Type 0
IsWrittenOver job start matched verdict =
    (text : Result Items Reason) × IsWritten job.form matched.moment text × (verdict ≡ verdict_of start matched text)

-- the verdict on a match in the part that starts at `start`: dropped if its moment is outside the bounds, otherwise
-- rewritten, or rejected if the moment has no text
abbrev pub IsPutWithin : Job → ℕ → Match → Verdict → Type 0
IsPutWithin job start matched verdict =
    MatchBool (is_kept job matched.moment) (IsWrittenOver job start matched verdict) (verdict ≡ Dropped)

-- The verdict on a match in the part that starts at `start`. A match that ends after the first `LIMIT` bytes of the
-- line is rejected, whatever the bounds; else a moment outside the bounds is dropped; else it is written, or rejected
-- if it has no text.
abbrev pub IsPut : Job → ℕ → Match → Verdict → Type 0
IsPut job start matched verdict =
    MatchBool (nat_lt LIMIT (start + matched.start + matched.length))
    (verdict ≡ refused (start + matched.start + 1) too_far) (IsPutWithin job start matched verdict)

-- the verdict on a line without a timestamp: `Without`, or rejected at column 1 if a timestamp is required
abbrev pub missed : Job → Verdict
missed job = if job.requires_timestamp then refused 1 missing else Without

-- the part of a line that is its timestamp, or starts with it if `is_prefix` is true; `start` bytes precede the part
pub record Part : Type 0 where
  pub start : ℕ
  pub is_prefix : Bool
  pub text : List ℕ

-- the part, without the address of its bytes
abbrev pub erased_part : declared_part.Part → Part
erased_part p = record { start = p.start; is_prefix = p.is_prefix; text = p.text.now }

-- the part of a line in that span, with the given `is_prefix`
abbrev pub part_in : List ℕ → Bool → Span → Part
part_in line is_prefix s = record { start = s.start; is_prefix = is_prefix; text = slice_range line s.start s.stop }

-- the part of a line at a place; `None` if there is no place, or the line has no such part
abbrev pub part_of : Option Place → List ℕ → Option Part
part_of None line = None
part_of (Some place) line = option_map (part_in line (is_prefix place)) (span_of place line)

-- The verdict on a line whose timestamp lies in that part: by the match of the first format that matches; if none does,
-- rejected at the part's start for the first format's reason. For `None`, the verdict on a line without a timestamp.
abbrev pub IsJudgedIn : Job → Option Part → Verdict → Type 0
IsJudgedIn job None verdict = verdict ≡ missed job
IsJudgedIn job (Some p) verdict =
    (read : Result Match Reason)
    × IsReadInTurn job.first.now job.others.now p.is_prefix p.text job.defaults read
    × MatchResult read (λ matched. IsPut job p.start matched verdict) (λ e. verdict ≡ refused (p.start + 1) e)

-- The bytes of a line at indices n - 1 and n are both ASCII letters or digits; false at 0 and from its end on.
abbrev pub is_inside : List ℕ → ℕ → Bool
is_inside line n =
    nat_lt 0 n && is_ascii_alphanumeric (slice_index line (n - 1)) && is_ascii_alphanumeric (slice_index line n)

-- the match from index k of a line on; `None` for an error, or if the match ends inside a word or a number
abbrev pub alone : List ℕ → ℕ → Result Match Reason → Option Match
alone line k (Ok s) = if is_inside line (k + s.start + s.length) then None else Some s
alone line k (Err e) = None

-- The match of a format from index k on, in at most `REACH` bytes; `None` if it doesn't match, or ends inside a word or
-- a number. The match counts its start from k.
abbrev pub MatchesAlone : Job → List ℕ → ℕ → Reading → Option Match → Type 0
MatchesAlone job line k format result =
    (read : Result Match Reason) × IsDated format true (take REACH (drop k line)) job.defaults read
    × (result ≡ alone line k read)

-- the match of the first of these formats that has one by `MatchesAlone`; `None` if none has
abbrev pub AreTriedAlone : Job → List ℕ → ℕ → List Reading → Option Match → Type 0
AreTriedAlone job line k [] result = result ≡ None
AreTriedAlone job line k (format ∷ formats) result =
    (first : Option Match) × MatchesAlone job line k format first
    × MatchOption first (AreTriedAlone job line k formats result) (λ s. result ≡ Some s)

-- The match from index k on, of the first of the job's formats that has one; `None` if none has. It neither starts nor
-- ends inside a word or a number.
abbrev pub MatchesFrom : Job → List ℕ → ℕ → Option Match → Type 0
MatchesFrom job line k result =
    MatchBool (is_inside line k) (result ≡ None)
    (AreTriedAlone job line k (job.first.now ∷ job.others.now) result)

-- No format matches from any index below n of the line on.
abbrev pub MatchesNoneBefore : Job → List ℕ → ℕ → Type 0
MatchesNoneBefore job line n = (k : ℕ) → k < n → MatchesFrom job line k None

-- The first index of the line from which on a format matches, with the match; `None` if no format matches anywhere.
abbrev pub IsFirst : Job → List ℕ → Option (ℕ × Match) → Type 0
IsFirst job line None = MatchesNoneBefore job line (length line)
IsFirst job line (Some found) =
    (found.0 < length line) × MatchesFrom job line found.0 (Some found.1)
    × MatchesNoneBefore job line found.0

-- The verdict on a line whose timestamp may be anywhere, without a CR at the line's end: by the first match, or that of
-- a line without a timestamp.
abbrev pub IsJudgedAnywhere : Job → List ℕ → Verdict → Type 0
IsJudgedAnywhere job line verdict =
    (found : Option (ℕ × Match)) × IsFirst job (body_of line) found
    × MatchOption found (verdict ≡ missed job) (λ f. IsPut job f.0 f.1 verdict)

-- the verdict on a line: by its part at the job's place, or anywhere if the job has no place
abbrev pub IsJudged : Job → List ℕ → Verdict → Type 0
IsJudged job line verdict =
    MatchBool (is_some job.place) (IsJudgedIn job (part_of job.place line) verdict)
    (IsJudgedAnywhere job line verdict)
