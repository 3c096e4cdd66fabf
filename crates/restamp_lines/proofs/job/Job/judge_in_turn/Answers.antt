use Rattle.std.proofs.Common.{Err, Ok, Some, refl}
use Rattle.time_values.specs.Calendar.{greatest_year}
use Rattle.restamp_lines.specs.Job.{IsJudgedIn, erased_part}
use Rattle.restamp_lines.proofs.VerdictLemmas.{verdict_so}
use Rattle.restamp_lines.proofs.job.Job.judge_in_turn.Goals as goal

pub returns-in-Ok-clause-verdict : goal.returns-in-Ok-clause-verdict
returns-in-Ok-clause-verdict g c =
    verdict_so g.E.FromReason.is_of (IsJudgedIn c.args.self.now (Some (erased_part c.args.part)))
    c.put.result c.put.new.text (λ verdict put. (Ok c.in-Ok.matched, c.in-Ok.ensures.said, put)) c.put.ensures.put

pub returns-in-Err-clause-verdict : goal.returns-in-Err-clause-verdict
returns-in-Err-clause-verdict g c = let why = c.in-Err.ensures.said in (why.0, why.1, (Err why.0, why.2, refl))
