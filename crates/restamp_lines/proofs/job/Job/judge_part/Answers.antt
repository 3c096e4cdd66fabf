use Rattle.std.proofs.Common.{Ok, Some}
use Rattle.time_values.specs.Calendar.{greatest_year}
use Rattle.restamp_lines.specs.Job.{IsJudgedIn, erased_part}
use Rattle.restamp_lines.proofs.VerdictLemmas.{verdict_so}
use Rattle.restamp_formats.proofs.ParseLemmas.{in_turn-first}
use Rattle.restamp_lines.proofs.job.Job.judge_part.Goals as goal

pub returns-in-Some-clause-verdict : goal.returns-in-Some-clause-verdict
returns-in-Some-clause-verdict g c =
    let read = in_turn-first _ c.args.self.now.others.now _ _ _ c.in-Some.matched c.in-Some.ensures.said in
    verdict_so g.E.FromReason.is_of (IsJudgedIn c.args.self.now (Some (erased_part c.args.part)))
    c.put.result c.put.new.text (λ verdict put. (Ok c.in-Some.matched, read, put)) c.put.ensures.put
