use Rattle.time_readers.proofs.Walking.{Reads-more, Reads-stop, Reads-last}
use Rattle.time_readers.proofs.rfc2822.grammar.offset.Goals as goal

pub returns-in_err-rest : goal.returns-in_err-rest
returns-in_err-rest g c =
    Reads-stop _ _ _ _ c.offset_hour.new.numbers _ _ _ _ _ c.from_residual.ensures c.offset_hour.ensures c.in_err-rest.ensures.value

pub returns-in_err-rest-2 : goal.returns-in_err-rest-2
returns-in_err-rest-2 g c =
    Reads-more _ _ _ _ c.offset_hour.new.numbers _ _ _ _ _ c.offset_hour.ensures c.in_ok-rest.ensures.value
    (Reads-stop _ _ _ _ c.offset_minute.new.numbers _ _ _ _ _ c.from_residual-in_err-rest-2.ensures c.offset_minute.ensures c.in_err-rest-2.ensures.value)

pub returns : goal.returns
returns g c =
    Reads-more _ _ _ _ c.offset_hour.new.numbers _ _ _ _ _ c.offset_hour.ensures c.in_ok-rest.ensures.value
    (Reads-more _ _ _ _ c.offset_minute.new.numbers _ _ _ _ _ c.offset_minute.ensures c.in_ok-rest-2.ensures.value
    (Reads-last _ _ _ _ _ _ _ (c.end_blanks.ensures _) c.ok_or-3.ensures.value))
