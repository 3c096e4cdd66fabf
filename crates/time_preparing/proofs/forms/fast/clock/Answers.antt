use Rattle.std.proofs.Common.{Some, arith}
use Rattle.time_values.specs.Calendar.{greatest_year}
use Rattle.time_components.specs.Spelling.{number}
use Rattle.time_components.specs.declared.format_description.Component.TheVariants.{Hour24, Minute, Second}
use Rattle.time_record.specs.Record.{Record}
use Rattle.time_preparing.specs.declared.forms.TheConstants.{HOUR, MINUTE, SECOND}
use Rattle.time_preparing.proofs.Parts.{three_read, put_hour, put_minute, put_second}
use Rattle.time_preparing.proofs.forms.fast.clock.Goals as goal

pub returns : goal.returns
returns c = λ r.
    let hour = c.in_ok-hour.hour.1 in
    let minute = c.in_ok-minute.minute.1 in
    let second = c.in_ok-second.second.1 in
    let p : Record = record r { hour_24 = Some hour } in
    let q : Record = record p { minute = Some minute } in
    three_read c.args.between (Hour24 HOUR) (Minute MINUTE) (Second SECOND) _ _ _ _ _ _
    (number hour) (number minute) (number second) r p q (record q { second = Some second })
    c.in_ok-hour.ensures c.in_ok-after.ensures c.in_ok-minute.ensures c.in_ok-after-2.ensures c.in_ok-second.ensures
    (put_hour hour r (omega arith)) (put_minute minute p (omega arith))
    (put_second second q (omega arith))
