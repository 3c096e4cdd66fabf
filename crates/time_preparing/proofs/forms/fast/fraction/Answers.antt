use Rattle.std.proofs.Common.{arith}
use Rattle.time_values.specs.Calendar.{greatest_year}
use Rattle.time_preparing.proofs.Parts.{fraction_read, no_fraction}
use Rattle.time_preparing.proofs.forms.fast.fraction.Goals as goal

pub returns-then-not-begins_with-clause-reads : goal.returns-then-not-begins_with-clause-reads
returns-then-not-begins_with-clause-reads c = λ r.
    no_fraction c.args.point c.args.input.now r (c.begins_with.ensures c.if-not-begins_with.true)

pub returns-clause-reads : goal.returns-clause-reads
returns-clause-reads c = λ r.
    fraction_read c.args.point c.in_ok-fraction.fraction.1 c.args.input.now _ _ r c.in_ok-after.ensures c.in_ok-fraction.ensures (omega arith)
