use Rattle.std.proofs.Common.{subst, None, Some}
use Rattle.time_values.specs.Calendar.{greatest_year}
use Rattle.restamp_lines.specs.Job.{IsFirst, IsJudgedAnywhere}
use Rattle.restamp_lines.proofs.VerdictLemmas.{verdict_so}
use Rattle.restamp_lines.proofs.job.Job.judge_anywhere.Goals as goal

pub returns-in-Some-clause-verdict : goal.returns-in-Some-clause-verdict
returns-in-Some-clause-verdict g c =
    let first = subst (λ line. IsFirst c.args.self.now line (Some (c.in-Some.start, c.in-Some.matched)))
    c.body_of.ensures.value c.in-Some.ensures.first in
    verdict_so g.E.FromReason.is_of (IsJudgedAnywhere c.args.self.now c.args.line.now) c.put.result c.put.new.text
    (λ verdict put. (Some (c.in-Some.start, c.in-Some.matched), first, put)) c.put.ensures.put

pub returns-in-None-clause-verdict : goal.returns-in-None-clause-verdict
returns-in-None-clause-verdict g c =
    let first = subst (λ line. IsFirst c.args.self.now line None) c.body_of.ensures.value c.in-None.ensures.first in
    verdict_so g.E.FromReason.is_of (IsJudgedAnywhere c.args.self.now c.args.line.now) c.miss.result c.args.text.now
    (λ verdict is. (None, first, is)) (c.miss.ensures.verdict c.args.text.now)

pub returns-in-None-clause-within : goal.returns-in-None-clause-within
returns-in-None-clause-within g c = c.miss.ensures.within _
