use Rattle.time_values.specs.Calendar.{greatest_year}
use Rattle.restamp_lines.proofs.BeginsLemmas.{matches-none}
use Rattle.restamp_lines.proofs.job.Job.next_start.Goals as goal

pub returns-in-Some-clause-passed : goal.returns-in-Some-clause-passed
returns-in-Some-clause-passed c k low below =
    matches-none c.args.self.now c.args.line.now c.args.firsts c.requires.firsts k (c.in-Some.ensures.passed k low below)
