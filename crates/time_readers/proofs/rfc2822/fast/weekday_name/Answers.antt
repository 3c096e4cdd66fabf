use Rattle.std.proofs.Common.{◌-◌, length, drop, arith}
use Rattle.std.proofs.lemmas.List.{take_all, length-drop}
use Rattle.time_readers.proofs.MailOffset.{weekday_name_cut}
use Rattle.time_readers.proofs.rfc2822.fast.weekday_name.Goals as goal

pub returns : goal.returns
returns c =
    let s = c.args.input.now in
    let cut = weekday_name_cut c.args.numbers.now s c.in_ok-weekday.weekday (omega arith) c.in_ok-weekday.ensures (omega arith) (omega arith) (omega arith) in
    rw (take_all (length s - 5) (drop 5 s) (omega (arith, length-drop 5 s))) cut
