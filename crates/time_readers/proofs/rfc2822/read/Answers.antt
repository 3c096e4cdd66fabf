use Rattle.std.proofs.Common.{[], ◌++◌}
use Rattle.time_readers.specs.Rfc2822.{day_places, to_offset_places, offset_places, nothing_read}
use Rattle.time_readers.proofs.Walking.{StopsAt-by, StopsAt-after, MatchesPlaces-append}
use Rattle.time_readers.proofs.rfc2822.read.Goals as goal

pub returns-in_err-rest : goal.returns-in_err-rest
returns-in_err-rest g c = StopsAt-by _ day_places (to_offset_places ++ offset_places) nothing_read _ _ _ _ c.from_residual.ensures c.in_err-rest.ensures

pub returns-in_err-rest-2 : goal.returns-in_err-rest-2
returns-in_err-rest-2 g c = StopsAt-by _ (day_places ++ to_offset_places) offset_places nothing_read _ _ _ _ c.from_residual-in_err-rest-2.ensures
    (StopsAt-after _ day_places to_offset_places nothing_read _ _ _ _ c.in_ok-rest.ensures c.in_err-rest-2.ensures)

pub returns-in_err-rest-3 : goal.returns-in_err-rest-3
returns-in_err-rest-3 g c = StopsAt-by _ (day_places ++ to_offset_places ++ offset_places) [] nothing_read _ _ _ _ c.from_residual-in_err-rest-3.ensures
    (StopsAt-after _ day_places (to_offset_places ++ offset_places) nothing_read _ _ _ _ c.in_ok-rest.ensures
    (StopsAt-after _ to_offset_places offset_places _ _ _ _ _ c.in_ok-rest-2.ensures c.in_err-rest-3.ensures))

pub returns : goal.returns
returns g c =
    MatchesPlaces-append _ day_places (to_offset_places ++ offset_places) nothing_read _ _ _ _ _ c.in_ok-rest.ensures
    (MatchesPlaces-append _ to_offset_places offset_places _ _ _ _ _ _ c.in_ok-rest-2.ensures c.in_ok-rest-3.ensures)
