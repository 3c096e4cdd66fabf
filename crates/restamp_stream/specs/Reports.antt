-- What is written for a line, and how lines are counted.
use Rattle.std.specs.Char.{is_ascii_control}
use Rattle.std.specs.Prelude.{ℕ, ◌+◌, ◌/◌, ◌%◌, Bool, false, ◌&&◌, ◌||◌, List, [], ◌∷◌, flat_map, if◌then◌else◌, nat_lt, nat_le, ◌≡◌, ⊤, ◌-◌, ◌^◌, ◌≤◌, min, ◌++◌, codes, length, take, drop, Option, ◌==◌}
use Rattle.std.specs.Fmt.{decimal}
use Rattle.std.specs.Io.KnownBytes.{Appends}
use Rattle.time_values.specs.DisplayTexts.{Items}
pub use Rattle.restamp_stream.specs.declared.action.LineAction.{LineAction}
use Rattle.restamp_stream.specs.declared.action.LineAction.TheVariants as line_action
pub use Rattle.restamp_stream.specs.declared.settings.Output.{Output}
pub use Rattle.restamp_stream.specs.declared.settings.Output.TheVariants.{AllLines, RewrittenLines, Times}
pub use Rattle.restamp_stream.specs.declared.action.TailAction.{TailAction}
pub use Rattle.restamp_stream.specs.declared.action.TailAction.TheVariants.{Absent, Passing, Dropping}
pub use Rattle.restamp_stream.specs.declared.tally.Tally.{Tally}
pub use Rattle.restamp_stream.specs.declared.settings.Reports.{Reports}
pub use Rattle.restamp_stream.specs.declared.settings.Reports.TheVariants.{Quiet, First}

-- ---- How a name is displayed

-- the ASCII code of a hexadecimal digit: of `0` to `9`, or `a` to `f`
abbrev pub hexadecimal : ℕ → ℕ
hexadecimal d = if nat_lt d 10 then 48 + d else 87 + d

-- `\x` and the two hexadecimal digits of a byte, with small letters
abbrev pub escape : ℕ → List ℕ
escape b = 92 ∷ 120 ∷ hexadecimal (b / 16) ∷ hexadecimal (b % 16) ∷ []

-- a byte is escaped: an ASCII control character (0 to 31, or 127), or if `ascii` is set, a byte from 128 on
abbrev pub is_escaped : Bool → ℕ → Bool
is_escaped ascii b = is_ascii_control b || (ascii && nat_le 128 b)

-- a byte of a name: escaped, or as it is in the name
abbrev pub escaped_byte : Bool → ℕ → List ℕ
escaped_byte ascii b = if is_escaped ascii b then escape b else b ∷ []

-- a name with its control characters escaped, and if `ascii` is set, also its bytes from 128 on
abbrev pub displayed_as : Bool → List ℕ → List ℕ
displayed_as ascii name = flat_map (escaped_byte ascii) name

-- a name with its ASCII control characters escaped, as `\x` and two hexadecimal digits
abbrev pub displayed_name : List ℕ → List ℕ
displayed_name name = displayed_as false name

-- ---- How a line is processed by its front, and how it is counted

-- the action of a line: with the replaced bytes and the text, and without the reason of a rejection
pub data Action : Type 0 where
  Without : Action
  Rewritten : ℕ → ℕ → Items → Action
  Dropped : Action
  Refused : Action

-- the action of a line whose new text is `text` if it is rewritten
abbrev pub action_of : {R : Type 0} → LineAction R → Items → Action
action_of line_action.Without text = Without
action_of (line_action.Rewritten begin end) text = Rewritten begin end text
action_of line_action.Dropped text = Dropped
action_of (line_action.Refused refusal) text = Refused

-- the replaced bytes are in the front
abbrev pub IsWithin : Action → List ℕ → Type 0
IsWithin (Rewritten begin end text) front = (begin ≤ end) × (end ≤ length front)
IsWithin _ front = ⊤

-- The line isn't rejected, or the work continues after a rejected line.
abbrev pub IsAllowed : Bool → Action → Type 0
IsAllowed strict Refused = strict ≡ false
IsAllowed strict _ = ⊤

-- The front of a line after the action: with the new text and its suffix in place of the replaced bytes, empty if the
-- line is dropped, and otherwise unchanged.
abbrev pub changed : List ℕ → List ℕ → Action → List ℕ
changed suffix front (Rewritten begin end text) = take begin front ++ (text.items ++ (suffix ++ drop end front))
changed suffix front Dropped = []
changed suffix front _ = front

-- The output for the front of a line, if new times have that suffix: all lines but the dropped ones, only those with a
-- new time, or only the new times, each with its suffix and LF.
abbrev pub front_text : Output → List ℕ → List ℕ → Action → List ℕ
front_text AllLines suffix front action = changed suffix front action
front_text RewrittenLines suffix front (Rewritten begin end text) = changed suffix front (Rewritten begin end text)
front_text Times suffix front (Rewritten begin end text) = text.items ++ (suffix ++ 10 ∷ [])
front_text _ suffix front _ = []

-- the action of bytes after a front: `Passing` if lines with that action are written, else (`Times`: always) `Dropping`
abbrev pub tail_action_of : Output → Action → TailAction
tail_action_of AllLines Dropped = Dropping
tail_action_of AllLines _ = Passing
tail_action_of RewrittenLines (Rewritten begin end text) = Passing
tail_action_of _ _ = Dropping

-- the output for bytes after the front: none for `Dropping`, otherwise all of them
abbrev pub passed : TailAction → List ℕ → List ℕ
passed Dropping bytes = []
passed _ bytes = bytes

-- a front was processed: the tail action isn't `Absent`
abbrev pub HasFront : TailAction → Type 0
HasFront Absent = ⊥
HasFront _ = ⊤

-- why a line was rejected, as the log has it: the column in decimal, from 1, a colon, a space and the reason
abbrev pub reason_text : ℕ → List ℕ → List ℕ
reason_text column reason = decimal column ++ (codes ": " ++ reason)

-- A column and a reason that satisfy P were written to a log.
abbrev pub WritesReason : (ℕ → List ℕ → Type 0) → Option (List ℕ) → Option (List ℕ) → Type 0
WritesReason P old new =
    (column : ℕ) × (reason : List ℕ) × P column reason × Appends old new (reason_text column reason)

-- n + 1, at most the greatest 64-bit number
abbrev pub one_more : ℕ → ℕ
one_more n = min (n + 1) (2 ^ 64 - 1)

-- the tally in which no line and no file is counted: all counts are 0
abbrev pub nothing_counted : Tally
nothing_counted =
    record {
      line = 0;
      refused_here = 0;
      lines = 0;
      rewritten = 0;
      without = 0;
      dropped = 0;
      refused = 0;
      unread = 0;
    }

-- a tally after one more line with that action
abbrev pub count_action : Tally → Action → Tally
count_action t Without = record t { line = one_more t.line; lines = one_more t.lines; without = one_more t.without }
count_action t (Rewritten begin end text) =
    record t { line = one_more t.line; lines = one_more t.lines; rewritten = one_more t.rewritten }
count_action t Dropped = record t { line = one_more t.line; lines = one_more t.lines; dropped = one_more t.dropped }
count_action t Refused =
    record t {
      line = one_more t.line;
      refused_here = one_more t.refused_here;
      lines = one_more t.lines;
      refused = one_more t.refused;
    }

-- a tally after lines with those actions
abbrev pub counted : Tally → List Action → Tally
counted t [] = t
counted t (action ∷ actions) = counted (count_action t action) actions

-- a tally before the first line of a file: the two counts of the current file are 0
abbrev pub at_first_line : Tally → Tally
at_first_line t = record t { line = 0; refused_here = 0 }

-- a tally after one more file for which opening, reading to the end or, in place, replacing failed
abbrev pub count_unread : Tally → Tally
count_unread t = record t { unread = one_more t.unread }

-- the log names the line counted last, if it has that action: for `First(n)`, one of the file's first n rejected lines
abbrev pub is_named : Reports → Tally → Action → Bool
is_named (First most) t Refused = nat_le t.refused_here most
is_named _ t _ = false

-- how many rejected lines of the current file the log doesn't name; 0 for `Quiet`, which reports no number
abbrev pub unnamed : Reports → Tally → ℕ
unnamed Quiet t = 0
unnamed (First most) t = t.refused_here - most

-- the report of a rejected line: `NAME:LINE:COLUMN: REASON` and LF; LINE (in its file) and COLUMN both count from 1
abbrev pub report_of : List ℕ → ℕ → ℕ → List ℕ → List ℕ
report_of name line column reason =
    displayed_name name ++ (codes ":" ++ (decimal line ++ (codes ":" ++ (reason_text column reason ++ 10 ∷ []))))

-- the line of the log that reports that n more lines of the file were rejected; empty if n is 0
abbrev pub more_text : List ℕ → ℕ → List ℕ
more_text name n =
    if n == 0 then [] else
    if n == 1 then displayed_name name ++ (codes ": 1 more line was rejected" ++ 10 ∷ []) else
    displayed_name name ++ (codes ": " ++ (decimal n ++ (codes " more lines were rejected" ++ 10 ∷ [])))

-- the line in the log for a file for which opening, reading to the end or replacing failed: `NAME: WHY` and LF
abbrev pub unread_text : List ℕ → List ℕ → List ℕ
unread_text name why = displayed_name name ++ (codes ": " ++ (why ++ 10 ∷ []))
