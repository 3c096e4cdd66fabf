-- The rest of bytes that are split into lines, and the laws of an input.
use Rattle.std.specs.Io.KnownBytes.{Appends}
use Rattle.std.specs.Fmt.{decimal}
use Rattle.std.proofs.Common.{◌≡◌, ℕ, ◌-◌, ◌≤◌, suc, List, [], ◌∷◌, ◌++◌, length, drop, refl, ap, arith, ◌∙◌, append_assoc, zero, take, take-append-drop, Option, Some, Bool, false, ◌<◌, get_or, codes, Result, Ok, Err, OnOk, MatchBool}
use Rattle.std.proofs.lemmas.List.{drop_at, length-append, take_all, length-drop}
use Rattle.std.proofs.lemmas.Grind.{flat_map-append}
use Rattle.std.proofs.KnownBytes.{Appends-trans, Appends-nil}
use Rattle.byte_streams.specs.Lines.{Line, lines_of, joined}
use Rattle.byte_streams.proofs.LinesLemmas.{joined-lines_of}
use Rattle.restamp_stream.specs.Streams.{EndsWith, Job, front_of, text_of, IsNaming, AreAnswered, OneAnswer, OneResult, AreKept, KeptBytes}
use Rattle.restamp_stream.specs.Reports.{AllLines, Tally, Action, count_action, is_named, report_of, unnamed, more_text, is_escaped, escaped_byte, displayed_as, reason_text, displayed_name, unread_text}

-- the bytes after a line
pub EndsWith-line : (left line after : List ℕ) → left ≡ line ++ 10 ∷ after → EndsWith left after
EndsWith-line left line after e = (line ++ 10 ∷ [], rw (e, append_assoc))

pub EndsWith-then : (xs ys zs : List ℕ) → EndsWith xs ys → EndsWith ys zs → EndsWith xs zs
EndsWith-then xs ys zs p q = grind (arith, append_assoc {A = ℕ})

-- the rest at the end of the bytes was kept
pub kept_last : (bytes items kept left : List ℕ) → bytes ≡ items → kept ≡ drop (length items - length left) items → EndsWith bytes left → kept ≡ left
kept_last bytes items kept left e is p =
    rw (is, ← e, p.1) (drop_at p.0 left (length (p.0 ++ left) - length left) (omega (arith, length-append p.0 left)))

pub line_fits : (bytes left line after : List ℕ) (n : ℕ) → EndsWith bytes left → left ≡ line ++ 10 ∷ after → length bytes ≤ n → length line ≤ n
line_fits bytes left line after n p e h =
    omega (arith, h, ap length p.1, length-append p.0 left, ap length e, length-append line (10 ∷ after))

pub left_fills : (bytes left : List ℕ) (n : ℕ) → EndsWith bytes left → length bytes ≤ n → n ≤ length left → length left ≡ n
left_fills bytes left n p h k = omega (arith, h, k, ap length p.1, length-append p.0 left)

-- ---- An input has one result, and is the output if no line is rewritten or dropped

-- a front has one action, and is rejected at one column and for one reason
abbrev pub OneAction : Job → Type 0
OneAction job = (front : List ℕ) (a b : Action) → job.is_action front a → job.is_action front b → a ≡ b

abbrev pub OneReason : Job → Type 0
OneReason job = (front : List ℕ) (column other : ℕ) (reason why : List ℕ)
    → job.is_reason front column reason → job.is_reason front other why → (column ≡ other) × (reason ≡ why)

one_report : (job : Job) (t : Tally) (front report other : List ℕ) (named : Bool) → OneReason job
    → MatchBool named (IsNaming job t front report) (report ≡ []) → MatchBool named (IsNaming job t front other) (other ≡ []) → report ≡ other
one_report job t front report other named one p q = grind (arith, one)

pub one_answer : (job : Job) → OneAction job → OneReason job → OneAnswer job
one_answer job action_one reason_one t [] actions others text other reports more p q = (rw (p.0, q.0), rw (p.1, q.1), rw (p.2, q.2))
one_answer job action_one reason_one t (line ∷ lines) actions others text other reports more p q =
    let front = front_of job line in
    let same : p.0 ≡ q.0 = action_one front p.0 q.0 p.6.0 q.6.0 in
    let tally : Tally = count_action t q.0 in
    let report : p.4 ≡ q.4 = one_report job tally front p.4 q.4 (is_named job.settings.reports tally q.0) reason_one (rw same at p.6.3) q.6.3 in
    let rest : (p.1 ≡ q.1) × (p.3 ≡ q.3) × (p.5 ≡ q.5) =
    one_answer job action_one reason_one tally lines p.1 q.1 p.3 q.3 p.5 q.5 (rw same at p.7) q.7 in
    (rw (p.8, q.8, same, rest.0), rw (p.9, q.9, p.6.2, q.6.2, same, rest.1), rw (p.10, q.10, report, rest.2))

one_text : (known : List ℕ) (new other : Option (List ℕ)) (text more : List ℕ) → text ≡ more → Appends (Some known) new text
    → Appends (Some known) other more → new ≡ other
one_text known new other text more e p q = grind arith

known_after : (known : List ℕ) (new : Option (List ℕ)) (text : List ℕ) → Appends (Some known) new text → (after : List ℕ) × (new ≡ Some after)
known_after known new text p = grind arith

pub one_result : (job : Job) → OneAction job → OneReason job → OneResult job
one_result job action_one reason_one bytes out log tally after other p q =
    let a = p.processed in
    let b = q.processed in
    let same : (p.actions ≡ q.actions) × (a.text ≡ b.text) × (a.reports ≡ b.reports) =
    one_answer job action_one reason_one _ (lines_of bytes) p.actions q.actions a.text b.text a.reports b.reports a.become b.become in
    let outs : p.between.out ≡ q.between.out = one_text out _ _ _ _ same.1 a.written b.written in
    let logs : p.between.log ≡ q.between.log = one_text log _ _ _ _ same.2 a.reported b.reported in
    let tallies : p.between.tally ≡ q.between.tally = rw (a.tallied, b.tallied, same.0) in
    let known = known_after log p.between.log a.reports a.reported in
    let more : Tally → List ℕ = λ t. more_text job.name (unnamed job.settings.reports t) in
    let closed : after.log ≡ other.log =
    one_text known.0 after.log other.log (more p.between.tally) (more q.between.tally) (ap more tallies) (rw known.1 at p.closed.reported)
    (rw (← logs, known.1) at q.closed.reported) in
    let out_same : after.out ≡ other.out = rw (p.closed.same_out, outs, q.closed.same_out) in
    let tally_same : after.tally ≡ other.tally = rw (p.closed.same_tally, tallies, q.closed.same_tally) in
    λ j. record { out = out_same j; log = closed j; tally = tally_same j }

-- ---- unchanged lines

kept_front : (job : Job) (line : Line) → take job.limit line.text ++ (drop job.limit line.text ++ line.ending) ≡ line.text ++ line.ending
kept_front job line = rw (← append_assoc (take job.limit line.text) (drop job.limit line.text) line.ending, take-append-drop)

kept_line : (job : Job) (line : Line) (f : Action) (fs : List Action) → job.settings.output ≡ AllLines → AreKept (f ∷ fs)
    → (text_of job line f ≡ line.text ++ line.ending) × AreKept fs
kept_line job line f fs all k = grind (arith, kept_front job line)

kept_lines : (job : Job) (t : Tally) (lines : List Line) (actions : List Action) (text reports : List ℕ) → job.settings.output ≡ AllLines
    → AreAnswered job t lines actions text reports → AreKept actions → text ≡ joined lines
kept_lines job t [] actions text reports all p k = p.1
kept_lines job t (line ∷ lines) actions text reports all p k =
    let first = kept_line job line p.0 p.1 all (rw p.8 at k) in
    rw (p.9, p.6.2 ∙ first.0, kept_lines job (count_action t p.0) lines p.1 p.3 p.5 all p.7 first.1)

pub kept_bytes : (job : Job) → KeptBytes job
kept_bytes job bytes before after actions all p k =
    rw (kept_lines job before.tally (lines_of bytes) actions p.text p.reports all p.become k ∙ joined-lines_of bytes) at p.written

-- ---- How a name is displayed, part by part

-- bytes that aren't escaped
pub displayed_as-plain : (ascii : Bool) (n : ℕ) (name : List ℕ)
    → ((k : ℕ) → k < n → is_escaped ascii (get_or name k 0) ≡ false) → displayed_as ascii (take n name) ≡ take n name
displayed_as-plain ascii zero name plain = refl
displayed_as-plain ascii (suc n) [] plain = refl
displayed_as-plain ascii (suc n) (x ∷ name) plain =
    rw (plain 0 (omega arith), displayed_as-plain ascii n name (λ k below. plain (suc k) (omega arith)))

-- the steps that write to the log
pub ruleset log_writes = (displayed_as-plain, Appends-nil)

-- a name is displayed in two parts
displayed_as-parts : (ascii : Bool) (n : ℕ) (name : List ℕ)
    → displayed_as ascii (take n name) ++ displayed_as ascii (drop n name) ≡ displayed_as ascii name
displayed_as-parts ascii n name = rw (← flat_map-append (escaped_byte ascii) (take n name) (drop n name), take-append-drop)

-- the displayed part of a name, and then its next part
pub displayed_as-next : (ascii : Bool) (n : ℕ) (front rest name : List ℕ) → front ++ displayed_as ascii rest ≡ displayed_as ascii name
    → (front ++ displayed_as ascii (take n rest)) ++ displayed_as ascii (take (length rest - n) (drop n rest)) ≡ displayed_as ascii name
displayed_as-next ascii n front rest name so_far =
    rw (take_all (length rest - n) (drop n rest) (omega (arith, length-drop n rest)), append_assoc, displayed_as-parts ascii n rest) so_far

-- ---- Several writes to the log

pub Appends-report : (a b c d e : Option (List ℕ)) (name : List ℕ) (line column : ℕ) (reason : List ℕ)
    → Appends a b (displayed_name name) → Appends b c (codes ":" ++ (decimal line ++ codes ":")) → Appends c d (reason_text column reason)
    → Appends d e (10 ∷ [])
    → Appends a e (report_of name line column reason)
Appends-report a b c d e name line column reason p q r s =
    let mark : List ℕ = codes ":" in
    let end : List ℕ = reason_text column reason ++ 10 ∷ [] in
    rw (← append_assoc (decimal line) mark end, ← append_assoc mark (decimal line ++ mark) end)
    (Appends-trans a b e _ _ p (Appends-trans b c e _ _ q (Appends-trans c d e _ _ r s)))

pub OnOk-map : {V E : Type 0} (r : Result V E) (P Q : Type 0) → OnOk r P → (P → Q) → OnOk r Q
OnOk-map (Ok v) P Q p f = f p
OnOk-map (Err e) P Q p f = tt

pub Appends-unread : (a b c d e : Option (List ℕ)) (name why : List ℕ) → Appends a b (displayed_name name)
    → Appends b c (codes ": ") → Appends c d why → Appends d e (10 ∷ []) → Appends a e (unread_text name why)
Appends-unread a b c d e name why p q r s =
    Appends-trans a b e (displayed_name name) (codes ": " ++ (why ++ 10 ∷ [])) p
    (Appends-trans b c e (codes ": ") (why ++ 10 ∷ []) q (Appends-trans c d e why (10 ∷ []) r s))
