-- The action of a line by a job's verdict.
use Rattle.std.specs.Prelude.{ℕ, ◌-◌, Bool, true, false, ◌&&◌, nat_le, min, List, ◌∷◌, ◌++◌, codes, map, take, drop, replicate, if◌then◌else◌, [], flat_map, Option, None, Some, ◌≡◌}
use Rattle.std.specs.Char.Escape.{escape_ascii}
use Rattle.std.proofs.Common.{ap, subst, sym, ◌∙◌}
use Rattle.time_values.specs.Calendar.{greatest_year}
use Rattle.time_locating.specs.Misses.{Expectation, these_bytes, named, the_end}
use Rattle.restamp_stream.specs.Reports.{Action}
use Rattle.restamp_stream.specs.Reports as action
use Rattle.restamp_lines.specs.Job.{Verdict, Without, Rewritten, Dropped, Refused, refused, IsJudged}
use Rattle.restamp_lines.specs.ErrorLocation.{IsMissingField, why_text, IsErrorLocation, ErrorLocation}
use Rattle.restamp_formats.specs.Reason.{Reason}
use Rattle.restamp_lines.specs.declared.job.Job.{Job}
use Rattle.restamp_formats.specs.declared.missing_field.MissingField.{MissingField}
use Rattle.restamp_lines.proofs.OneVerdict.{one_verdict}
use Rattle.restamp_lines.proofs.OneErrorLocation.{one_missing_field, one_error_location}

-- ---- A rejected line on a terminal

-- the byte if it is printable ASCII or a space, otherwise `.`
abbrev pub printable_byte : ℕ → ℕ
printable_byte b = if nat_le 32 b && nat_le b 126 then b else 46

-- n spaces, at most 40
abbrev pub blanks : ℕ → List ℕ
blanks n = replicate (min n 40) 32

-- a text in red: between the escape sequences `ESC [31m` and `ESC [0m`
abbrev pub red : List ℕ → List ℕ
red text = (27 ∷ codes "[31m") ++ (text ++ (27 ∷ codes "[0m"))

-- at most 60 bytes of a line, from 40 bytes before a column or from the line's start, with a dot for each that isn't
-- printable ASCII or a space; columns count from 1
abbrev pub around : List ℕ → ℕ → List ℕ
around line column = map printable_byte (take 60 (drop (column - 41) line))

-- an LF, the bytes of a line around a column, which counts from 1, an LF, and a red caret under that column
abbrev pub pointer : List ℕ → ℕ → List ℕ
pointer line column = 10 ∷ (around line column ++ (10 ∷ (blanks (column - 1) ++ red (codes "^"))))

-- the text of a reason: plain, or if the flag is true, in red with part of the line below and a caret under the column
abbrev pub reason_report : Bool → List ℕ → ℕ → List ℕ → List ℕ
reason_report false line column reason = reason
reason_report true line column reason = red reason ++ pointer line column

-- ---- The text of what was expected at an error

-- bytes in single quotes, each escaped by `escape_ascii` (quotes, backslashes and all but printable ASCII); the name of
-- a component; or `the end`
abbrev pub expectation_text : Expectation → List ℕ
expectation_text (these_bytes bytes) = codes "'" ++ (flat_map escape_ascii bytes ++ codes "'")
expectation_text (named name) = name
expectation_text the_end = codes "the end"

-- `: expected ` and what was expected; empty for `None`
abbrev pub expected_text : Option Expectation → List ℕ
expected_text None = []
expected_text (Some wanted) = codes ": expected " ++ expectation_text wanted

-- the action of a verdict, without the column and the reason of a rejected line
abbrev pub action_of_verdict : Verdict → Action
action_of_verdict Without = action.Without
action_of_verdict (Rewritten begin end text) = action.Rewritten begin end text
action_of_verdict Dropped = action.Dropped
action_of_verdict (Refused r) = action.Refused

-- The action of a line by the verdict on its front, its first bytes.
abbrev pub IsAction : Job → List ℕ → Action → Type 0
IsAction job front its =
    (verdict : Verdict) × IsJudged job front verdict × (its ≡ action_of_verdict verdict)

-- the text of an error in a front, a line's first bytes: the missing part if any, or else the reason, which may name
-- the zone, then what was expected if known; if the flag is true, in red, with bytes around the error and a caret below
abbrev pub error_report : Bool → List ℕ → List ℕ → Reason → Option MissingField → ErrorLocation → List ℕ
error_report shows_lines front zone reason missing_field w =
    reason_report shows_lines front w.column (why_text zone reason missing_field ++ expected_text w.wanted)

-- If the verdict rejects a front at the column `begin`, from 1, for a reason, the error itself is at `column`, and that
-- text reports it, with the name of the zone.
abbrev pub ReportsError : Job → List ℕ → Bool → List ℕ → ℕ → Reason → ℕ → List ℕ → Type 0
ReportsError job zone shows_lines front begin reason column text =
    (w : ErrorLocation) × (missing_field : Option MissingField) × IsErrorLocation job front begin reason w
    × IsMissingField job front reason missing_field
    × (column ≡ w.column) × (text ≡ error_report shows_lines front zone reason missing_field w)

-- A front is rejected, its error is at that column, and that text reports the reason.
abbrev pub IsReason : Job → List ℕ → Bool → List ℕ → ℕ → List ℕ → Type 0
IsReason job zone shows_lines front column text =
    (begin : ℕ) × (reason : Reason) × IsJudged job front (refused begin reason)
    × ReportsError job zone shows_lines front begin reason column text

-- A front has at most one action.
pub one_action : (job : Job) (front : List ℕ) (a b : Action)
    → IsAction job front a → IsAction job front b → a ≡ b
one_action job front a b p q = p.2 ∙ ap action_of_verdict (one_verdict job front p.0 q.0 p.1 q.1) ∙ sym q.2

-- A front with that verdict, which rejects it, has its error at that column, and that text reports it.
HasReport : Job → List ℕ → Bool → List ℕ → ℕ → List ℕ → Verdict → Type 0
HasReport job zone shows_lines front column text (Refused r) =
    ReportsError job zone shows_lines front r.column r.reason column text
HasReport job zone shows_lines front column text verdict = ⊥

-- The error of a front has at most one column and one text that reports it.
pub one_reason : (job : Job) (zone : List ℕ) (shows_lines : Bool) (front : List ℕ) (column other : ℕ)
    (reason why : List ℕ)
    → IsReason job zone shows_lines front column reason
    → IsReason job zone shows_lines front other why
    → (column ≡ other) × (reason ≡ why)
unfolding HasReport
one_reason job zone shows_lines front column other reason why
    (begin, e, judged, reported) (start, f, same_judged, same_reported) =
    let verdict = one_verdict job front (refused begin e) (refused start f) judged same_judged in
    let there : ReportsError job zone shows_lines front start f column reason =
    subst (λ (v : Verdict). HasReport job zone shows_lines front column reason v) verdict reported in
    let one = one_error_location job front start f there.0 same_reported.0 there.2 same_reported.2 in
    let missing_field = one_missing_field job front f there.1 same_reported.1 there.3 same_reported.3 in (
      there.4 ∙ ap (λ (w : ErrorLocation). w.column) one ∙ sym same_reported.4,
      there.5 ∙ ap (λ (l : Option MissingField). error_report shows_lines front zone f l there.0) missing_field
          ∙ ap (error_report shows_lines front zone f same_reported.1) one ∙ sym same_reported.5,
    )
