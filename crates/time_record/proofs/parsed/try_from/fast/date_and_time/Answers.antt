use Rattle.time_record.specs.Resolution.{IsPlain}
use Rattle.time_record.proofs.ResolutionLemmas.{Then-next}
use Rattle.time_record.proofs.parsed.try_from.fast.date_and_time.Goals as goal

pub returns : goal.returns
unfolding IsPlain
returns c =
    Then-next c.in_ok-date.date c.in_ok-date.ensures
    (Then-next c.in_ok-time.time c.in_ok-time.ensures (c.new.ensures.date, c.new.ensures.time))
