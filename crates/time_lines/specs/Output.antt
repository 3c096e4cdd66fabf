-- The output for an input.
use Rattle.std.specs.Prelude.{ℕ, List, [], ◌∷◌, if◌then◌else◌, ◌==◌, Option, None, Some, ◌≡◌, codes, MatchOption}
use Rattle.std.specs.Option.{option_and_then, option_map}
use Rattle.programs_answers.specs.Formats.{format_named, target_named}
use Rattle.programs_answers.specs.Output.{IsParsed}
use Rattle.programs_answers.specs.Output as output

-- ---- The fields of a line

-- The bytes before the first TAB and those after it, both without that TAB; none if there is no TAB.
abbrev pub split_at_tab : List ℕ → Option (List ℕ × List ℕ)
split_at_tab [] = None
split_at_tab (b ∷ bytes) =
    if b == 9 then Some ([], bytes) else option_map (λ split. (b ∷ split.0, split.1)) (split_at_tab bytes)

-- The three fields of a line: the names of a format and of a target, and a text.
pub record Fields : Type 0 where
  pub format : List ℕ
  pub target : List ℕ
  pub text : List ℕ

-- The fields of a line: a format, TAB, a target, TAB and a text, which may contain TABs. None with fewer than two TABs.
abbrev pub fields_of : List ℕ → Option Fields
fields_of line =
    option_and_then
    (λ first. option_map (λ second. record { format = first.0; target = second.0; text = second.1 })
    (split_at_tab first.1)) (split_at_tab line)

-- The answer to a line: the printed outcome of its text, or `error: line`, `error: format` or `error: target`. A
-- missing field is reported before any name is checked, and an unknown format before an unknown target.
unfoldable pub IsAnswer : List ℕ → List ℕ → Type 0
IsAnswer line answer =
    MatchOption (fields_of line) (answer ≡ codes "error: line")
    (λ fields. MatchOption (format_named fields.format) (answer ≡ codes "error: format")
    (λ format. MatchOption (target_named fields.target) (answer ≡ codes "error: target")
    (λ target. IsParsed format target fields.text answer)))

-- The text is the answers to the lines in order, each followed by LF, and empty without lines.
abbrev pub AreAnswers : List (List ℕ) → List ℕ → Type 0
AreAnswers = output.AreAnswers IsAnswer

-- The answers to the input's lines, each followed by LF, are appended to the writer's contents. If those before (first
-- parameter) are none, those after (second) may be anything. The last is the input. An empty input has no lines.
abbrev pub WritesAnswers : Option (List ℕ) → Option (List ℕ) → List ℕ → Type 0
WritesAnswers = output.WritesAnswers IsAnswer

-- ---- Laws of answers.

-- A line has at most one answer.
abbrev pub OneAnswer : Type 0
OneAnswer = (line answer other : List ℕ) → IsAnswer line answer → IsAnswer line other → answer ≡ other

-- Lines have at most one text of answers.
abbrev pub OneOutput : Type 0
OneOutput =
    (lines : List (List ℕ)) (output other : List ℕ)
    → AreAnswers lines output → AreAnswers lines other → output ≡ other

-- After the answers to one input, the contents of a writer whose earlier contents are known are determined.
abbrev pub OneWriting : Type 0
OneWriting =
    (input before new other : List ℕ)
    → WritesAnswers (Some before) (Some new) input → WritesAnswers (Some before) (Some other) input → new ≡ other
