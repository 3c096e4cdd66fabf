use Rattle.std.proofs.Common.{◌≡◌, ◌-◌, length, drop, take, take_all, arith, length-drop}
use Rattle.time_values.specs.Calendar.{greatest_year}
use Rattle.restamp_lines.proofs.BeginsLemmas.{matches-nothing}
use Rattle.restamp_lines.proofs.anywhere.fast.matches_nothing.Goals as goal

pub returns : goal.returns
returns c =
    let line = c.args.line.now in
    let rest : take (length line - c.args.start) (drop c.args.start line) ≡ drop c.args.start line = grind (arith, take_all, length-drop) in
    matches-nothing c.args.job.now line c.args.start c.args.reading.now (rw rest at (c.may_be_of.ensures c.if-may_be_of.false))
