use Rattle.std.proofs.Common.{inl, refl}
use Rattle.std.proofs.lemmas.Result.{err_from_is_err_and}
use Rattle.time_record.specs.Resolution.{IsPlain}
use Rattle.time_record.proofs.ResolutionLemmas.{Then-next}
use Rattle.time_record.proofs.parsed.try_from.utc_date_time.date_and_time.Goals as goal

pub returns-in_err-time : goal.returns-in_err-time
unfolding IsPlain
returns-in_err-time c =
    let p = err_from_is_err_and c.from_residual-in_err-time.result c.from_residual-in_err-time.ensures.1 in
    rw (p.1, p.2) (Then-next c.in_ok-date.date c.in_ok-date.ensures (inl (_, c.in_err-time.ensures, refl)))

pub returns : goal.returns
unfolding IsPlain
returns c =
    Then-next c.in_ok-date.date c.in_ok-date.ensures
    (Then-next c.in_ok-time.time c.in_ok-time.ensures (c.new.ensures.date, c.new.ensures.time))
