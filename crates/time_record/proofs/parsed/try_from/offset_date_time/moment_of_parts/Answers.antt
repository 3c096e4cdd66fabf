use Rattle.std.proofs.Common.{inl, refl}
use Rattle.std.proofs.lemmas.Result.{err_from_is_err_and}
use Rattle.time_record.specs.Resolution.{IsMomentOfParts}
use Rattle.time_record.proofs.ResolutionLemmas.{Then-next}
use Rattle.time_record.proofs.parsed.try_from.offset_date_time.moment_of_parts.Goals as goal

pub returns-in_err-time : goal.returns-in_err-time
unfolding IsMomentOfParts
returns-in_err-time c =
    let p = err_from_is_err_and c.from_residual-in_err-time.result c.from_residual-in_err-time.ensures.1 in
    let timed = rw c.replace_leap_second-second.ensures at c.in_err-time.ensures in
    rw (p.1, p.2) (Then-next c.in_ok-date.date c.in_ok-date.ensures (inl (_, timed, refl)))

pub returns-in_err-offset : goal.returns-in_err-offset
unfolding IsMomentOfParts
returns-in_err-offset c =
    let p = err_from_is_err_and c.from_residual-in_err-offset.result c.from_residual-in_err-offset.ensures.1 in
    let timed = rw c.replace_leap_second-second.ensures at c.in_ok-time.ensures in
    rw (p.1, p.2) (Then-next c.in_ok-date.date c.in_ok-date.ensures
    (Then-next c.in_ok-time.time timed (inl (_, c.in_err-offset.ensures, refl))))

pub returns-then-not-is_leap_second_valid : goal.returns-then-not-is_leap_second_valid
unfolding IsMomentOfParts
returns-then-not-is_leap_second_valid c =
    let timed = rw c.replace_leap_second-second.ensures at c.in_ok-time.ensures in
    let parts = c.new_in_offset-moment.ensures in
    let judged = rw (parts.date, parts.time, parts.offset) at c.is_leap_second_valid.ensures.misplaced in
    let is = judged c.if-not-is_leap_second_valid.true in
    Then-next c.in_ok-date.date c.in_ok-date.ensures
    (Then-next c.in_ok-time.time timed
    (Then-next c.in_ok-offset.offset c.in_ok-offset.ensures (is.0, is.1, c.misplaced.ensures)))

pub returns : goal.returns
unfolding IsMomentOfParts
returns c =
    let timed = rw c.replace_leap_second-second.ensures at c.in_ok-time.ensures in
    let parts = c.new_in_offset-moment.ensures in
    let judged = rw (parts.date, parts.time, parts.offset) at c.is_leap_second_valid.ensures.stands in
    Then-next c.in_ok-date.date c.in_ok-date.ensures
    (Then-next c.in_ok-time.time timed
    (Then-next c.in_ok-offset.offset c.in_ok-offset.ensures ((parts.date, parts.time, parts.offset), judged c.if-not-is_leap_second_valid.false)))
