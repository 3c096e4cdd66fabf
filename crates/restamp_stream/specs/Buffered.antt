-- No public contract rests on this file.
--
-- The effect of a step of a stream.
use Rattle.std.specs.Prelude.{◌≡◌, ◌⊎◌, ℕ, ◌≤◌, List, [], ◌∷◌, ◌++◌, OnOk, Option, Result}
use Rattle.std.specs.Io.KnownBytes.{Appends, Keeps, append_known}
use Rattle.byte_streams.specs.Faults.{HasCause, Rises, count_more}
use Rattle.byte_streams.specs.Lines.{HasNoLf, lines_of}
use Rattle.restamp_stream.specs.declared.settings.File.{File}
use Rattle.restamp_stream.specs.Reports.{TailAction, Absent, Action, passed}
use Rattle.restamp_stream.specs.Streams.{Job, job_of, State, state, Answered, Stopped}
use Rattle.restamp_stream.specs.Causes.{Stop, Unread, Unwritten, Refused, Stream}

-- the `Job` of a file, where `is_action` and `is_reason` relate a line's front to its action, and to why it is rejected
abbrev pub job_at : {T : Type 0} → (T → List ℕ → Action → Type 0) → (T → List ℕ → ℕ → List ℕ → Type 0) → File T → Job
job_at is_action is_reason file =
    job_of (is_action file.rewriting.now) (is_reason file.rewriting.now) file.name.now file.settings

-- the contents of a stream's writer once the buffered bytes are written
abbrev pub buffered_out : {W L : Type 0} → (W → Option (List ℕ)) → Stream W L → Option (List ℕ)
buffered_out contents s = append_known (contents s.out.sink) s.out.buffer.items

-- the state of a stream once the buffered bytes are written
abbrev pub buffered_state : {W L : Type 0} → (W → Option (List ℕ)) → (L → Option (List ℕ)) → Stream W L → State
buffered_state contents log_contents s = state (buffered_out contents s) (log_contents s.log) s.tally

-- The bytes were written or buffered, and `faults` is unchanged, or a write failed and it rose. Log and tally are kept.
pub record Puts {W L E : Type 0} (contents : W → Option (List ℕ)) (faults : W → ℕ) (before after : Stream W L)
    (result : Result (Unit {0}) E) (bytes : List ℕ) : Type 0 where
  pub put : OnOk result (Appends (buffered_out contents before) (buffered_out contents after) bytes)
  pub log : after.log ≡ before.log
  pub tally : after.tally ≡ before.tally
  pub cause : HasCause result (faults before.out.sink) (faults after.out.sink)

-- If an input was processed up to the state `mid`, except for the bytes `held`, it was processed up to the state
-- `after`, except for the bytes `held'`.
abbrev pub Continues : Job → State → State → TailAction → List ℕ → TailAction → List ℕ → Type 0
Continues job mid after rest held rest' held' =
    (before : State) (read : List ℕ) → Answered job before mid read rest held
    → Answered job before after read rest' held'

-- If an input was processed up to the state `mid`, except for the bytes `held`, a rejected line of it stopped the work
-- in the state `after`, whatever follows those bytes.
abbrev pub Stops : Job → State → State → TailAction → List ℕ → Type 0
Stops job mid after rest held =
    (before : State) (read more : List ℕ) → Answered job before mid read rest held
    → Stopped job before after (lines_of (read ++ more))

-- The work stopped at a failed write or flush; or at a rejected line, and the fact holds.
abbrev pub StoppedBy : Stop → Type 0 → Type 0
StoppedBy Unread fact = ⊥
StoppedBy Unwritten fact = Unit {0}
StoppedBy Refused fact = fact

-- The work stopped at a failed write; or at a file that wasn't opened or read to its end, and the fact holds.
abbrev pub FailedBy : Stop → Type 0 → Type 0
FailedBy Unread fact = fact
FailedBy Unwritten fact = Unit {0}
FailedBy Refused fact = ⊥

-- Bytes with no LF were written, or dropped for `Dropping`. They continue a line if `HasFront rest` holds.
abbrev pub ContinuesLine : Option (List ℕ) → Option (List ℕ) → TailAction → List ℕ → Type 0
ContinuesLine out out' rest bytes = HasNoLf bytes × Appends out out' (passed rest bytes)

-- Bytes through the first LF were written (`Dropping`: dropped); `after` is the rest. `Absent`: `after` is all bytes.
abbrev pub EndsLine : Option (List ℕ) → Option (List ℕ) → TailAction → List ℕ → List ℕ → Type 0
EndsLine out out' Absent bytes after = (after ≡ bytes) × Keeps out out'
EndsLine out out' rest bytes after =
    (line : List ℕ) × (bytes ≡ line ++ 10 ∷ after) × HasNoLf line × Appends out out' (passed rest (line ++ 10 ∷ []))

-- Buffered bytes, which `before` has as output, were written: known output, known log and the tally are unchanged.
pub record Flushes (before after : State) : Type 0 where
  pub out : Keeps before.out after.out
  pub log : Keeps before.log after.log
  pub tally : after.tally ≡ before.tally

-- No read failed, and at least `turns` bytes (or 2^64 - 1) have been read from the source; or a read failed.
abbrev pub HaveProgressed : ℕ → ℕ → ℕ → ℕ → Type 0
HaveProgressed turns faults faults' given = ((faults' ≡ faults) × (count_more 0 turns ≤ given)) ⊎ Rises faults faults'
