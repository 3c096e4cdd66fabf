use Rattle.std.proofs.Common.{drop, Option}
use Rattle.time_values.specs.Calendar.{greatest_year}
use Rattle.restamp_lines.specs.Job.{AreTriedAlone}
use Rattle.restamp_formats.specs.declared.reading.Match.{Match}
use Rattle.restamp_lines.proofs.job.Job.read_others.Given as goal

-- the result of the remaining formats is that of all of them
abbrev pub invariant-loop-reading : goal.invariant-loop-reading
invariant-loop-reading l =
    (result : Option Match)
    → AreTriedAlone l.self l.line l.start (drop l.reading-index l.self.others.now) result
    → AreTriedAlone l.self l.line l.start l.self.others.now result
