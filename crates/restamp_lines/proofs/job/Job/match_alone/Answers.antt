use Rattle.std.proofs.Common.{refl, sym, ◌∙◌, None, Some, Ok, Err}
use Rattle.time_values.specs.Calendar.{greatest_year}
use Rattle.restamp_lines.proofs.AloneLemmas.{alone-read}
use Rattle.restamp_lines.proofs.job.Job.match_alone.Goals as goal

pub returns-in_default-clause-matched : goal.returns-in_default-clause-matched
returns-in_default-clause-matched c =
    let why = c.in_default.ensures.said in
    alone-read c.args.self.now c.args.line.now c.args.start c.args.reading.now _ c.min.ensures (Err why.0) None why.2 refl

pub returns-then-is_inside-clause-matched : goal.returns-then-is_inside-clause-matched
returns-then-is_inside-clause-matched c =
    alone-read c.args.self.now c.args.line.now c.args.start c.args.reading.now _ c.min.ensures (Ok c.in-Ok.matched) None
    c.in-Ok.ensures.said (rw (sym c.is_inside.ensures ∙ c.if-is_inside.true) refl)

pub returns-clause-matched : goal.returns-clause-matched
returns-clause-matched c =
    alone-read c.args.self.now c.args.line.now c.args.start c.args.reading.now _ c.min.ensures (Ok c.in-Ok.matched)
    (Some c.in-Ok.matched) c.in-Ok.ensures.said (rw (sym c.is_inside.ensures ∙ c.if-is_inside.false) refl)
