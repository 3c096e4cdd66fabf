use Rattle.std.proofs.Common.{◌≤◌, Some, arith}
use Rattle.std.proofs.lemmas.Bool.{le-leb}
use Rattle.std.proofs.lemmas.Int.{ints, to_z-of_z}
use Rattle.std.specs.Prelude.{FitsSigned, unsigned_abs}
use Rattle.std.specs.Int.{w8}
use Rattle.time_values.specs.Calendar.{greatest_year}
use Rattle.time_record.specs.Record.{Record}
use Rattle.time_preparing.proofs.Parts.{offset_read, put_offset_hour, put_offset_minute}
use Rattle.time_preparing.proofs.forms.fast.offset.Goals as goal

pub returns-clause-reads : goal.returns-clause-reads
returns-clause-reads c = λ r.
    let hour = c.in_ok-hour.hour.1.0 in
    let minus = c.in_ok-hour.hour.1.1 in
    let minute = c.in_ok-minute.minute.1 in
    let within = c.in_ok-minute.ensures.within in
    let p : Record = record r { offset_hour = Some hour; offset_is_negative = minus } in
    let fits : FitsSigned w8 hour = omega (arith, ints) in
    let hour_within : unsigned_abs hour ≤ 25 = omega (arith, ints) in
    let minute_within : unsigned_abs minute ≤ 59 = omega (arith, ints, within.1, within.2) in
    rw (to_z-of_z w8 hour fits, to_z-of_z w8 minute c.in_ok-minute.ensures.fits) (offset_read c.args.between c.args.input.now _ _ _
    hour minute minus r p (record p { offset_minute = Some minute }) c.in_ok-hour.ensures c.in_ok-after_byte.ensures c.in_ok-minute.ensures.cut
    (put_offset_hour hour minus r (le-leb (unsigned_abs hour) 25 hour_within))
    (put_offset_minute minute p (le-leb (unsigned_abs minute) 59 minute_within)))
