use Rattle.time_readers.specs.Rfc2822.{month_places, time_places}
use Rattle.time_readers.proofs.Walking.{Walks-by, Walks-after}
use Rattle.time_readers.proofs.rfc2822.grammar.to_offset.Goals as goal

pub returns-in_err-rest : goal.returns-in_err-rest
returns-in_err-rest g c = Walks-by _ month_places time_places _ _ _ _ _ c.from_residual.ensures c.in_err-rest.ensures

pub returns : goal.returns
returns g c = Walks-after _ month_places time_places _ _ _ _ _ _ c.in_ok-rest.ensures c.time.ensures
