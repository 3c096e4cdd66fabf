use Rattle.std.proofs.Common.{Some, arith}
use Rattle.time_values.specs.Calendar.{greatest_year}
use Rattle.time_record.specs.Record.{Record}
use Rattle.time_preparing.proofs.Parts.{no_seconds, put_second, seconds_read}
use Rattle.time_preparing.proofs.forms.fast.second.Goals as goal

pub returns-then-not-begins_with-clause-reads : goal.returns-then-not-begins_with-clause-reads
returns-then-not-begins_with-clause-reads c = λ r.
    no_seconds c.args.between c.args.point c.args.input.now r (c.begins_with.ensures c.if-not-begins_with.true)

pub returns-clause-reads : goal.returns-clause-reads
returns-clause-reads c = λ r.
    let second = c.in_ok-second.second.1 in
    let s : Record = record r { second = Some second } in
    seconds_read c.args.between c.args.point second c.args.input.now _ _ _
    r s _ c.in_ok-after.ensures c.in_ok-second.ensures (put_second second r (omega arith)) (c.in_ok-fraction.ensures.reads s)
