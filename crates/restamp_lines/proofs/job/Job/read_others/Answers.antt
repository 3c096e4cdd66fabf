use Rattle.time_values.specs.Calendar.{greatest_year}
use Rattle.restamp_lines.proofs.AloneLemmas.{alone-here, alone-later}
use Rattle.restamp_lines.proofs.job.Job.read_others.Goals as goal

pub returns-in-Some-clause-matched : goal.returns-in-Some-clause-matched
returns-in-Some-clause-matched c =
    c.loop-reading.invariant _
    (alone-here c.args.self.now c.args.line.now c.args.start c.args.self.now.others.now _ _
    c.loop-reading-test.true c.reading-item.is c.in-Some.matched c.in-Some.ensures.matched)

pub loop-reading-preserved : goal.loop-reading-preserved
loop-reading-preserved c result later =
    c.loop-reading.invariant result
    (alone-later c.args.self.now c.args.line.now c.args.start c.args.self.now.others.now _ _
    c.loop-reading-test.true c.reading-item.is result c.in_default.ensures.matched later)
