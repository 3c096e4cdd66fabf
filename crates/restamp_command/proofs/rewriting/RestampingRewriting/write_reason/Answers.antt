use Rattle.std.proofs.Common.{◌≡◌, ℕ, List, refl, sym, subst}
use Rattle.time_values.specs.Calendar.{greatest_year}
use Rattle.restamp_stream.specs.Reports.{Refused}
use Rattle.restamp_stream.proofs.LinesLemmas.{OnOk-map}
use Rattle.restamp_lines.specs.Job.{Verdict, Without, Dropped, IsJudged, refused}
use Rattle.restamp_lines.specs.declared.job.Job.{Job}
use Rattle.restamp_formats.specs.Reason.{Reason, seen}
use Rattle.restamp_command.specs.Rewriting.{IsAction, action_of_verdict, one_action}
use Rattle.restamp_command.proofs.rewriting.RestampingRewriting.write_reason.Goals as goal

-- each verdict on a rejected front has the action of a rejected line
is_refused : (job : Job) (front : List ℕ) (verdict : Verdict)
    → IsAction job front Refused → IsJudged job front verdict → Refused ≡ action_of_verdict verdict
is_refused job front verdict p q = one_action job front Refused (action_of_verdict verdict) p (verdict, q, refl)

pub returns-in-Without : goal.returns-in-Without
returns-in-Without g c =
    absurd (cc (is_refused c.args.self.now.job c.args.front.now Without c.requires (rw c.in-Without.is at c.judge.ensures.verdict)))

pub returns-in-Rewritten : goal.returns-in-Rewritten
returns-in-Rewritten g c =
    absurd (cc (is_refused c.args.self.now.job c.args.front.now _ c.requires (rw c.in-Rewritten.is at c.judge.ensures.verdict)))

pub returns-in-Dropped : goal.returns-in-Dropped
returns-in-Dropped g c =
    absurd (cc (is_refused c.args.self.now.job c.args.front.now Dropped c.requires (rw c.in-Dropped.is at c.judge.ensures.verdict)))

pub returns-in-Refused-clause-reported : goal.returns-in-Refused-clause-reported
returns-in-Refused-clause-reported g c =
    let refusal = c.in-Refused.refusal in
    let why = rw c.in-Refused.is at c.judge.ensures.verdict in
    let judged = subst (λ (reason : Reason). IsJudged c.args.self.now.job c.args.front.now (refused refusal.column reason))
    (sym why.1) why.2 in
    OnOk-map c.write_location.result _ _ c.write_location.ensures.reported
    (λ told. (told.0, told.1, (refusal.column, seen refusal.reason, judged, told.2), told.3))
