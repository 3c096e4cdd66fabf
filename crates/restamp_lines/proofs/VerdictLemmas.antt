-- Verdicts with what a caller keeps of a reason.
use Rattle.time_values.specs.DisplayTexts.{Items}
use Rattle.restamp_stream.specs.declared.action.LineAction.{LineAction}
use Rattle.restamp_stream.specs.declared.action.LineAction.TheVariants as action
use Rattle.restamp_lines.specs.Job.{SatisfiesWithText, Verdict, Without, Rewritten, Dropped, refused}
use Rattle.restamp_lines.specs.declared.job.Refusal.{Refusal}
use Rattle.restamp_formats.specs.Reason.{Reason}

-- A verdict that satisfies a stronger relation satisfies a weaker one.
pub verdict_so : {E : Type 0} (IsOf : Reason → E → Type 0) {P : Verdict → Type 0} (Q : Verdict → Type 0) (result : LineAction (Refusal E))
    (text : Items) → ((given : Verdict) → P given → Q given) → SatisfiesWithText IsOf P result text → SatisfiesWithText IsOf Q result text
verdict_so IsOf Q (action.Refused r) text f p = (p.0, p.1, f (refused r.column p.0) p.2)
verdict_so IsOf Q action.Without text f p = f Without p
verdict_so IsOf Q (action.Rewritten begin end) text f p = f (Rewritten begin end text) p
verdict_so IsOf Q action.Dropped text f p = f Dropped p
