-- Laws of verdicts.
use Rattle.time_values.specs.Calendar.{greatest_year}
use Rattle.std.specs.Prelude.{◌≡◌, ℕ, ◌+◌, nat_lt, false, MatchBool, List, length, slice_range, Some}
use Rattle.time_values.specs.declared.offset_date_time.OffsetDateTime.{OffsetDateTime}
use Rattle.restamp_place.specs.Places.{span_of, is_prefix}
use Rattle.restamp_place.specs.declared.place.Place.{Place}
use Rattle.restamp_place.specs.declared.fields.Span.{Span}
use Rattle.restamp_lines.specs.Job.{Dropped}
use Rattle.restamp_lines.specs.Job.{Verdict, rewritten, refused, is_kept, IsJudged}
use Rattle.restamp_formats.specs.Reason.{too_far}
use Rattle.restamp_lines.specs.declared.job.Job.{Job}
use Rattle.restamp_lines.specs.declared.job.TheConstants.{LIMIT}
use Rattle.restamp_formats.specs.Laws.{IsReadable, AreEquivalent, AllEquivalent}

-- Each line has at most one verdict by a job.
abbrev pub OneVerdict : Type 0
OneVerdict = (job : Job) (line : List ℕ) (verdict other : Verdict)
    → IsJudged job line verdict → IsJudged job line other → verdict ≡ other

-- If a text of `IsReadable`, by the job's own form and its first format, is the whole part of a line at a place that
-- isn't `Front` or `After`, the line is rejected if the text ends after the first `LIMIT` bytes, dropped if the moment
-- lies outside the bounds, and otherwise the text replaces itself.
abbrev pub ChangesNothing : Type 0
ChangesNothing =
    (job : Job) (place : Place) (line : List ℕ) (span : Span) (v : OffsetDateTime) (bytes : List ℕ) (verdict : Verdict)
    → job.place ≡ Some place → is_prefix place ≡ false → span_of place line ≡ Some span
    → slice_range line span.start span.stop ≡ bytes
    → IsReadable job.first.now job.defaults job.form v bytes → IsJudged job line verdict
    → MatchBool (nat_lt LIMIT (span.start + length bytes)) (verdict ≡ refused (span.start + 1) too_far)
    (MatchBool (is_kept job v) (verdict ≡ rewritten span.start (length bytes) bytes) (verdict ≡ Dropped))

-- the jobs are equal, except for their formats' tables of zones, which have the same zone, or both none, for each name
-- in brackets where a timestamp may end in the line
pub record DiffersInZones (line : List ℕ) (job other : Job) : Type 0 where
  pub first : AreEquivalent line job.first.now other.first.now
  pub others : AllEquivalent line job.others.now other.others.now
  pub place : job.place ≡ other.place
  pub defaults : job.defaults ≡ other.defaults
  pub form : job.form ≡ other.form
  pub since : job.since ≡ other.since
  pub until : job.until ≡ other.until
  pub requires_timestamp : job.requires_timestamp ≡ other.requires_timestamp

-- jobs that differ only in zones whose names aren't in a line, in brackets where a timestamp may end, have the same
-- verdict on it
abbrev pub DependsOnNamedZones : Type 0
DependsOnNamedZones =
    (job other : Job) (line : List ℕ) (verdict : Verdict) → DiffersInZones line job other
    → IsJudged job line verdict → IsJudged other line verdict
