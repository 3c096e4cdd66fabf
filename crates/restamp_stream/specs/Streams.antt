-- The progress of a stream of lines, also if the work stopped.
use Rattle.std.specs.Prelude.{◌≡◌, ◌<◌, ℕ, List, [], ◌∷◌, ◌++◌, length, MatchBool, take, drop, Option, IsTrue, ◌≤◌, ◌⊎◌, IfSome, ⊤, Some}
use Rattle.std.specs.Io.KnownBytes.{Appends, Keeps, Consumes}
use Rattle.byte_streams.specs.Faults.{Rises}
use Rattle.byte_streams.specs.Lines.{Line, unended, lines_of, joined, HasNoLf, AreEnded}
pub use Rattle.restamp_stream.specs.declared.settings.Settings.{Settings}
use Rattle.restamp_stream.specs.declared.block.TheConstants.{LIMIT}
use Rattle.restamp_stream.specs.Reports.{Reports, Tally, Refused, Rewritten, Dropped, TailAction, Absent, AllLines, Action, front_text, tail_action_of, passed, IsAllowed, count_action, counted, at_first_line, is_named, report_of, unnamed, more_text, count_unread, unread_text}
use Rattle.restamp_stream.specs.Causes.{Stream}

-- The bytes end with the bytes `left`.
abbrev pub EndsWith : List ℕ → List ℕ → Type 0
EndsWith bytes left = (front : List ℕ) × (bytes ≡ front ++ left)

-- ---- Processed lines: what was written to the writer and to the log, and what was counted

-- How the lines of a file are processed: the action of a line by its front, and why a front is rejected; the greatest
-- length of a front; the file's name, and the settings.
pub record Job : Type 1 where
  pub is_action : List ℕ → Action → Type 0
  pub is_reason : List ℕ → ℕ → List ℕ → Type 0
  pub limit : ℕ
  pub name : List ℕ
  pub settings : Settings

-- the `Job` of a file of that name, with fronts of at most `LIMIT` bytes
abbrev pub job_of : (List ℕ → Action → Type 0) → (List ℕ → ℕ → List ℕ → Type 0) → List ℕ → Settings → Job
job_of is_action is_reason name settings =
    record { is_action = is_action; is_reason = is_reason; limit = LIMIT; name = name; settings = settings }

-- the front of a line: the first `limit` bytes of its text, which has no LF; all bytes of a shorter text
abbrev pub front_of : Job → Line → List ℕ
front_of job line = take job.limit line.text

-- The output for a line with that action: the output for its front, and then the bytes after the front, unless they are
-- dropped.
abbrev pub text_of : Job → Line → Action → List ℕ
text_of job line action =
    front_text job.settings.output job.settings.suffix.now (front_of job line) action
    ++ passed (tail_action_of job.settings.output action) (drop job.limit line.text ++ line.ending)

-- The report names the line that the tally counted last: a rejected one with that front.
abbrev pub IsNaming : Job → Tally → List ℕ → List ℕ → Type 0
IsNaming job t front report =
    (column : ℕ) × (reason : List ℕ) × job.is_reason front column reason
    × (report ≡ report_of job.name t.line column reason)

-- `report` is that of the line that the tally counted last, which has that front and action. It names the line
-- (`IsNaming`) if that is rejected and the log names it (`is_named`), and is empty otherwise.
abbrev pub IsReport : Job → Tally → List ℕ → Action → List ℕ → Type 0
IsReport job t front action report =
    MatchBool (is_named job.settings.reports t action) (IsNaming job t front report) (report ≡ [])

-- The line that the tally counted last has that action, output and report. If `strict` is set, it isn't rejected.
abbrev pub IsAnswered : Job → Tally → Line → Action → List ℕ → List ℕ → Type 0
IsAnswered job t line action text report =
    job.is_action (front_of job line) action × IsAllowed job.settings.strict action
    × (text ≡ text_of job line action) × IsReport job t (front_of job line) action report

-- Lines have those actions, that text as their output, and those reports. The tally has counted the lines before them.
abbrev pub AreAnswered : Job → Tally → List Line → List Action → List ℕ → List ℕ → Type 0
AreAnswered job t [] actions text reports = (actions ≡ []) × (text ≡ []) × (reports ≡ [])
AreAnswered job t (line ∷ lines) actions text reports =
    (action : Action) × (others : List Action) × (first : List ℕ) × (rest : List ℕ) × (report : List ℕ)
    × (more : List ℕ)
    × IsAnswered job (count_action t action) line action first report
    × AreAnswered job (count_action t action) lines others rest more
    × (actions ≡ action ∷ others) × (text ≡ first ++ rest) × (reports ≡ report ++ more)

-- the contents of the writer and of the log, if they are known, and what was counted
pub record State : Type 0 where
  pub out : Option (List ℕ)
  pub log : Option (List ℕ)
  pub tally : Tally

-- the state with those contents of the writer and of the log, or `None` if unknown, and that tally
abbrev pub state : Option (List ℕ) → Option (List ℕ) → Tally → State
state out log tally = record { out = out; log = log; tally = tally }

-- a state before the first line of a file: the tally's two counts of the current file are 0
abbrev pub before_lines : State → State
before_lines s = state s.out s.log (at_first_line s.tally)

-- Between the two states the lines, which have those actions, were processed, reported and counted.
pub record Processed (job : Job) (before after : State) (lines : List Line) (actions : List Action) : Type 0 where
  pub text : List ℕ
  pub reports : List ℕ
  pub become : AreAnswered job before.tally lines actions text reports
  pub written : Appends before.out after.out text
  pub reported : Appends before.log after.log reports
  pub tallied : after.tally ≡ counted before.tally actions

-- Between the two states only the log got a report: how many more lines of a file were rejected than it names, if any.
pub record Closes (name : List ℕ) (reports : Reports) (before after : State) : Type 0 where
  pub same_out : after.out ≡ before.out
  pub reported : Appends before.log after.log (more_text name (unnamed reports before.tally))
  pub same_tally : after.tally ≡ before.tally

-- Between the two states all lines of an input were processed, and rejected ones were reported as the settings request.
pub record ProcessedAll (job : Job) (before after : State) (bytes : List ℕ) : Type 0 where
  pub actions : List Action
  pub between : State
  pub processed : Processed job (before_lines before) between (lines_of bytes) actions
  pub closed : Closes job.name job.settings.reports between after

-- the contents of a stream's writer, without the buffered bytes, and of its log, and its tally
abbrev pub state_of : {W L : Type 0} → (W → Option (List ℕ)) → (L → Option (List ℕ)) → Stream W L → State
state_of contents log_contents s = state (contents s.out.sink) (log_contents s.log) s.tally

-- Between the two states a line was processed whose text so far has a whole front and no LF. `rest` is its tail action.
pub record IsLong (job : Job) (before after : State) (text : List ℕ) (rest : TailAction) : Type 0 where
  pub action : Action
  pub rests : tail_action_of job.settings.output action ≡ rest
  pub started : HasNoLf text
  pub long : job.limit ≤ length text
  pub processed : Processed job before after (unended text ∷ []) (action ∷ [])

-- for `Absent`, no unended line was processed: the text is empty, and the states are equal; otherwise `IsLong`
abbrev pub IsStarted : Job → State → State → List ℕ → TailAction → Type 0
IsStarted job before after text Absent = (text ≡ []) × (before ≡ after)
IsStarted job before after text rest = IsLong job before after text rest

-- The bytes read are lines that end, the text of a line without LF so far, and the bytes `held`. Between the two states
-- all but `held` were processed. `rest` is the unended line's tail action; `Absent` if no such line was processed.
pub record Answered (job : Job) (before after : State) (read : List ℕ) (rest : TailAction) (held : List ℕ) : Type 0
  where
    pub lines : List Line
    pub actions : List Action
    pub between : State
    pub text : List ℕ
    pub whole : read ≡ joined lines ++ (text ++ held)
    pub apart : AreEnded lines
    pub processed : Processed job before between lines actions
    pub started : IsStarted job between after text rest

-- The bytes that may be buffered before a read: fewer than `limit`, with no LF; none if a line was processed by its
-- front and hasn't ended.
abbrev pub IsBuffered : Job → TailAction → List ℕ → Type 0
IsBuffered job Absent held = HasNoLf held × (length held < job.limit)
IsBuffered job _ held = held ≡ []

-- The input's unread bytes went from `old` to `new`, and those that were read were processed, except for `held`.
pub record Served (job : Job) (old new : Option (List ℕ)) (before after : State) (rest : TailAction)
    (held : List ℕ) : Type 0 where
  pub read : List ℕ
  pub consumed : Consumes old new read
  pub kept : IsBuffered job rest held
  pub answered : Answered job before after read rest held

-- `strict` is set, and between the two states a line with that front was rejected and counted, and reported if the log
-- names it. The output is unchanged.
pub record RefusedAt (job : Job) (before after : State) (front : List ℕ) : Type 0 where
  pub report : List ℕ
  pub strict : IsTrue job.settings.strict
  pub refused : job.is_action front Refused
  pub reports : IsReport job after.tally front Refused report
  pub kept : Keeps before.out after.out
  pub reported : Appends before.log after.log report
  pub tallied : after.tally ≡ count_action before.tally Refused

-- Between the two states the lines of `all` before a rejected one were processed, and then that one stopped the work.
pub record Stopped (job : Job) (before after : State) (all : List Line) : Type 0 where
  pub lines : List Line
  pub line : Line
  pub others : List Line
  pub whole : all ≡ lines ++ line ∷ others
  pub actions : List Action
  pub between : State
  pub processed : Processed job before between lines actions
  pub stopped : RefusedAt job between after (front_of job line)

-- Between the two states the log got a report why a file wasn't opened or read to its end, and `unread` counted it.
pub record Fails (name : List ℕ) (before after : State) : Type 0 where
  pub why : List ℕ
  pub same_out : after.out ≡ before.out
  pub reported : Appends before.log after.log (unread_text name why)
  pub counts : after.tally ≡ count_unread before.tally

-- Rejections and a failure to read the input to its end were reported. All that was read and could be processed was.
pub record ProcessedSome (job : Job) (old new : Option (List ℕ)) (before after : State) : Type 0 where
  pub rest : TailAction
  pub held : List ℕ
  pub answered : State
  pub failed : State
  pub served : Served job old new (before_lines before) answered rest held
  pub fails : Fails job.name answered failed
  pub closed : Closes job.name job.settings.reports failed after

-- A rejected line stopped the work on the input: the lines before it were processed, and rejections were reported.
pub record ProcessedBefore (job : Job) (before after : State) (bytes : List ℕ) : Type 0 where
  pub between : State
  pub stopped : Stopped job (before_lines before) between (lines_of bytes)
  pub closed : Closes job.name job.settings.reports between after

-- ---- Several files, processed one after the other

-- Between the two states a file wasn't read to its end (`ProcessedSome`), or wasn't opened and no line was processed.
-- The count of files that failed to open or were cut off rose from `faults` to `faults'`.
abbrev pub ProcessedCutOff : Job → Option (List ℕ) → ℕ → ℕ → State → State → Type 0
ProcessedCutOff job bytes faults faults' before after =
    Rises faults faults'
    × (((left : Option (List ℕ)) × ProcessedSome job bytes left before after) ⊎ Fails job.name before after)

-- All lines of the file with those bytes were processed, or it was cut off (`ProcessedCutOff`). True for unknown bytes.
abbrev pub ProcessedFile : Job → Option (List ℕ) → ℕ → ℕ → State → State → Type 0
ProcessedFile job bytes faults faults' before after =
    IfSome bytes (ProcessedAll job before after) ⊎ ProcessedCutOff job bytes faults faults' before after

-- Each of the files of those names was processed or cut off (`ProcessedFile`), in order; for no files, nothing changed.
-- The count of failed files went from `faults` to `faults'`. `bytes_of` is the bytes of each file, if they are known.
abbrev pub ProcessedFiles : (List ℕ → Action → Type 0) → (List ℕ → ℕ → List ℕ → Type 0) → Settings
    → (List ℕ → Option (List ℕ))
    → ℕ → ℕ → State → State → List (List ℕ) → Type 0
ProcessedFiles is_action is_reason settings bytes_of faults faults' before after [] =
    (before ≡ after) × (faults ≡ faults')
ProcessedFiles is_action is_reason settings bytes_of faults faults' before after (name ∷ names) =
    (between : State) × (mid : ℕ)
    × ProcessedFile (job_of is_action is_reason name settings) (bytes_of name) faults mid before between
    × (faults ≤ mid)
    × ProcessedFiles is_action is_reason settings bytes_of mid faults' between after names

-- The work stopped at the first rejected line of one of the files of those names. The files before it were processed or
-- cut off, and all lines before that line were processed. `bytes_of` is the bytes of each file, if they are known.
abbrev pub StoppedIn : (List ℕ → Action → Type 0) → (List ℕ → ℕ → List ℕ → Type 0) → Settings
    → (List ℕ → Option (List ℕ))
    → ℕ → ℕ → State → State → List (List ℕ) → Type 0
StoppedIn is_action is_reason settings bytes_of faults faults' before after [] = ⊥
StoppedIn is_action is_reason settings bytes_of faults faults' before after (name ∷ names) =
    (IfSome (bytes_of name) (ProcessedBefore (job_of is_action is_reason name settings) before after)
    × (faults ≤ faults'))
    ⊎ ((between : State) × (mid : ℕ)
    × ProcessedFile (job_of is_action is_reason name settings) (bytes_of name) faults mid before between
    × (faults ≤ mid)
    × StoppedIn is_action is_reason settings bytes_of mid faults' between after names)

-- Between the two states all lines of each of the named files were processed, in order, if its bytes are known.
abbrev pub AreProcessed : (List ℕ → Action → Type 0) → (List ℕ → ℕ → List ℕ → Type 0) → Settings
    → (List ℕ → Option (List ℕ))
    → State → State → List (List ℕ) → Type 0
AreProcessed is_action is_reason settings bytes_of before after [] = before ≡ after
AreProcessed is_action is_reason settings bytes_of before after (name ∷ names) =
    (between : State)
    × IfSome (bytes_of name) (ProcessedAll (job_of is_action is_reason name settings) before between)
    × AreProcessed is_action is_reason settings bytes_of between after names

-- ---- Laws of the processing of an input

-- After a given tally, lines have at most one output, one list of actions, and one text of reports.
abbrev pub OneAnswer : Job → Type 0
OneAnswer job =
    (t : Tally) (lines : List Line) (actions others : List Action) (text other reports more : List ℕ)
    → AreAnswered job t lines actions text reports → AreAnswered job t lines others other more
    → (actions ≡ others) × (text ≡ other) × (reports ≡ more)

-- After given contents of the writer and the log and a given tally, an input has at most one output, log and tally.
abbrev pub OneResult : Job → Type 0
OneResult job =
    (bytes out log : List ℕ) (tally : Tally) (after other : State)
    → ProcessedAll job (state (Some out) (Some log) tally) after bytes
    → ProcessedAll job (state (Some out) (Some log) tally) other bytes → after ≡ other

-- The lines of an input, joined, are its bytes.
abbrev pub SameBytes : Type 0
SameBytes = (bytes : List ℕ) → joined (lines_of bytes) ≡ bytes

-- no line was rewritten or dropped
abbrev pub AreKept : List Action → Type 0
AreKept [] = ⊤
AreKept (Rewritten begin end text ∷ actions) = ⊥
AreKept (Dropped ∷ actions) = ⊥
AreKept (_ ∷ actions) = AreKept actions

-- If `output` is `AllLines`, and no line of an input is rewritten or dropped, the output is the input, byte by byte.
abbrev pub KeptBytes : Job → Type 0
KeptBytes job =
    (bytes : List ℕ) (before after : State) (actions : List Action) → job.settings.output ≡ AllLines
    → Processed job before after (lines_of bytes) actions → AreKept actions → Appends before.out after.out bytes
