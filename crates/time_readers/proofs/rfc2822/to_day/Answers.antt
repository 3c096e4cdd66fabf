use Rattle.time_readers.proofs.Walking.{Reads-more, Reads-stop, Reads-last}
use Rattle.time_readers.proofs.rfc2822.to_day.Goals as goal

pub returns-in_err-rest : goal.returns-in_err-rest
returns-in_err-rest g c =
    Reads-stop _ _ _ _ c.weekday_name.new.numbers _ _ _ _ _ c.from_residual.ensures c.weekday_name.ensures c.in_err-rest.ensures.value

pub returns : goal.returns
returns g c =
    Reads-more _ _ _ _ c.weekday_name.new.numbers _ _ _ _ _ c.weekday_name.ensures c.in_ok-rest.ensures.value
    (Reads-last _ _ _ _ _ _ _ c.day.ensures c.ok_or-2.ensures.value)
