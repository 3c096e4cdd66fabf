use Rattle.std.proofs.Common.{◌≤◌, ◌-◌, length}
use Rattle.time_values.specs.Calendar.{greatest_year}
use Rattle.restamp_lines.specs.Job.{MatchesNoneBefore}
use Rattle.restamp_lines.proofs.job.Job.find_first.Given as goal

-- the line has no match from any byte before this one on
abbrev pub invariant-loop-start : goal.invariant-loop-start
invariant-loop-start l = (l.start ≤ length l.line) × MatchesNoneBefore l.self l.line l.start

abbrev pub decreases-loop-start : goal.decreases-loop-start
decreases-loop-start l = length l.line - l.start
