-- Why the work stopped.
use Rattle.std.specs.Prelude.{◌≡◌, ◌⊎◌, ℕ, ◌+◌, Result, MatchResult, ◌<◌, Bool, IsTrue, IsSome, Option}
use Rattle.byte_streams.specs.Faults.{Rises}
pub use Rattle.restamp_stream.specs.declared.ending.Stop.{Stop}
pub use Rattle.restamp_stream.specs.declared.ending.Stop.TheVariants.{Unread, Unwritten, Refused}
pub use Rattle.restamp_stream.specs.declared.stream.Stream.{Stream}
use Rattle.restamp_stream.specs.Reports.{Tally}

-- how many calls of a stream's writer and of its log have failed
abbrev pub faults_of : {W L : Type 0} → (W → ℕ) → (L → ℕ) → Stream W L → ℕ
faults_of faults log_faults s = faults s.out.sink + log_faults s.log

-- The count of failed calls (`faults_of`) rose from `before` to `now` if a failed write or flush stopped the work; it
-- is unchanged if the work stopped otherwise.
abbrev pub IsCounted : Stop → ℕ → ℕ → Type 0
IsCounted Unwritten before now = Rises before now
IsCounted _ before now = now ≡ before

-- The count of failed calls (`faults_of`) rose (`Rises`) from `before` to `now` if a failed write or flush stopped the
-- work; it is unchanged if the work didn't stop, or stopped otherwise.
abbrev pub HasWriteCause : {V : Type 0} → Result V Stop → ℕ → ℕ → Type 0
HasWriteCause result before now = MatchResult result (λ _. now ≡ before) (λ stop. IsCounted stop before now)

-- ---- What the exit status reports

-- The work stopped, the tally's `unread` isn't 0, or a line was rejected and `strict` is set.
abbrev pub HasFailed : Tally → Option Stop → Bool → Type 0
HasFailed tally stop strict = IsSome stop ⊎ ((0 < tally.unread) ⊎ (IsTrue strict × (0 < tally.refused)))
