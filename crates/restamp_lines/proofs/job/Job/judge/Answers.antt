use Rattle.std.proofs.Common.{◌≡◌, ℕ, List, true, None, sym}
use Rattle.std.specs.Prelude.{is_some}
use Rattle.restamp_lines.specs.Job.{IsJudged, Verdict, missed, part_of}
use Rattle.restamp_lines.specs.declared.job.Job.{Job}
use Rattle.restamp_lines.proofs.VerdictLemmas.{verdict_so}
use Rattle.restamp_lines.proofs.job.Job.judge.Goals as goal

judged_missed : (job : Job) (line : List ℕ) (verdict : Verdict) → is_some job.place ≡ true → part_of job.place line ≡ None
    → verdict ≡ missed job → IsJudged job line verdict
judged_missed job line verdict some none is = rw (some, none) is

pub returns-in-None-clause-verdict : goal.returns-in-None-clause-verdict
returns-in-None-clause-verdict g c =
    let job = c.args.self.now in
    let line = c.args.line.now in
    verdict_so g.E.FromReason.is_of (IsJudged job line) c.miss.result c.args.text.now
    (λ verdict is. judged_missed job line verdict c.if-is_none.ensures (sym c.in-None.ensures.part) is)
    (c.miss.ensures.verdict c.args.text.now)

pub returns-in-None-clause-within : goal.returns-in-None-clause-within
returns-in-None-clause-within g c = c.miss.ensures.within _
