use Rattle.std.proofs.Common.{List, ℕ, length, refl}
use Rattle.time_values.specs.Calendar.{greatest_year}
use Rattle.time_values.specs.DisplayTexts.{Items}
use Rattle.restamp_stream.specs.Reports.{IsWithin, action_of}
use Rattle.restamp_stream.specs.declared.action.LineAction.{LineAction}
use Rattle.restamp_stream.specs.declared.action.LineAction.TheVariants as action
use Rattle.restamp_lines.specs.Job.{EndsWithin, SatisfiesWithText, IsJudged, refused, Without, Rewritten, Dropped}
use Rattle.restamp_lines.specs.declared.job.Job.{Job}
use Rattle.restamp_lines.specs.declared.job.Refusal.{Refusal}
use Rattle.restamp_formats.specs.Reason.{Reason}
use Rattle.restamp_command.specs.Rewriting.{IsAction}
use Rattle.restamp_command.proofs.rewriting.RestampingRewriting.action.Goals as goal

judged-action : {E : Type 0} (IsOf : Reason → E → Type 0) (job : Job) (front : List ℕ) (result : LineAction (Refusal E)) (text : Items)
    → SatisfiesWithText IsOf (IsJudged job front) result text → IsAction job front (action_of result text)
judged-action IsOf job front (action.Refused r) text p = (refused r.column p.0, p.2, refl)
judged-action IsOf job front action.Without text p = (Without, p, refl)
judged-action IsOf job front (action.Rewritten begin end) text p = (Rewritten begin end text, p, refl)
judged-action IsOf job front action.Dropped text p = (Dropped, p, refl)

judged-within : {R : Type 0} (front : List ℕ) (result : LineAction R) (text : Items) → EndsWithin (length front) result
    → IsWithin (action_of result text) front
judged-within front (action.Rewritten begin end) text p = p
judged-within front action.Without text p = p
judged-within front action.Dropped text p = p
judged-within front (action.Refused r) text p = p

pub returns-clause-action : goal.returns-clause-action
returns-clause-action c = judged-action _ c.args.self.now.job c.args.front.now c.judge.result c.judge.new.text c.judge.ensures.verdict

pub returns-clause-within : goal.returns-clause-within
returns-clause-within c = judged-within c.args.front.now c.judge.result c.judge.new.text c.judge.ensures.within
