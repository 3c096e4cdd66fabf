use Rattle.std.proofs.Common.{refl}
use Rattle.time_readers.specs.Readers.{MatchesPlaces}
use Rattle.pelzaune_ffi.proofs.moments.fast.rfc2822.to_day.Goals as goal

pub returns : goal.returns
unfolding MatchesPlaces
returns c =
    let day = c.in_ok-day.ensures in
    (c.in_ok-rest.rest.now, _, c.in_ok-rest.ensures, (_, _, (day.0, day.1, (_, day.2, tt, refl)), (refl, refl)))
