use Rattle.std.proofs.Common.{ℕ, ◌+◌, ⊎_elim, None, below_more}
use Rattle.std.proofs.lemmas.Bool.{cases_lt}
use Rattle.time_values.specs.Calendar.{greatest_year}
use Rattle.restamp_lines.specs.Job.{MatchesFrom}
use Rattle.restamp_lines.proofs.job.Job.find_first.Goals as goal

pub loop-start-preserved : goal.loop-start-preserved
loop-start-preserved c =
    let next = c.next_start-start.ensures in
    let before = below_more (λ (k : ℕ). MatchesFrom c.args.self.now c.args.line.now k None) c.loop-start.start
    c.loop-start.invariant.1 c.in_default.ensures.matched in
    (next.high, λ k below. ⊎_elim (λ h. before k h) (λ h. next.passed k h below) (cases_lt k (c.loop-start.start + 1)))
