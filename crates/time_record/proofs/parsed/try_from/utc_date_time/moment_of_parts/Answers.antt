use Rattle.std.proofs.Common.{inl, refl, sym, ◌∙◌, rules}
use Rattle.std.proofs.lemmas.Bool.{false≢true}
use Rattle.std.proofs.lemmas.Result.{err_from_is_err_and}
use Rattle.time_record.specs.Resolution.{IsUtcMomentOfParts}
use Rattle.time_record.proofs.ResolutionLemmas.{Then-next}
use Rattle.time_record.proofs.parsed.try_from.utc_date_time.moment_of_parts.Goals as goal
use Rattle.time_record.proofs.parsed.try_from.utc_date_time.moment_of_parts.Goals.{else-is_leap_second-via-then-is_leap_second+else-not-is_valid_leap_second_stand_in as at_end, else-is_leap_second-via-else-is_leap_second as no_leap}

pub returns-in_err-time : goal.returns-in_err-time
unfolding IsUtcMomentOfParts
returns-in_err-time c =
    let p = err_from_is_err_and c.from_residual-in_err-time.result c.from_residual-in_err-time.ensures.1 in
    let timed = rw c.replace_leap_second-second.ensures at c.in_err-time.ensures in
    rw (p.1, p.2) (Then-next c.in_ok-date.date c.in_ok-date.ensures (inl (_, timed, refl)))

pub returns-in_err-offset : goal.returns-in_err-offset
unfolding IsUtcMomentOfParts
returns-in_err-offset c =
    let p = err_from_is_err_and c.from_residual-in_err-offset.result c.from_residual-in_err-offset.ensures.1 in
    let timed = rw c.replace_leap_second-second.ensures at c.in_ok-time.ensures in
    rw (p.1, p.2) (Then-next c.in_ok-date.date c.in_ok-date.ensures
    (Then-next c.in_ok-time.time timed (inl (_, c.in_err-offset.ensures, refl))))

pub returns-in_err-moment : goal.returns-in_err-moment
unfolding IsUtcMomentOfParts
returns-in_err-moment c =
    let p = err_from_is_err_and c.from_residual-in_err-moment.result c.from_residual-in_err-moment.ensures.1 in
    let timed = rw c.replace_leap_second-second.ensures at c.in_ok-time.ensures in
    let parts = c.new_in_offset.ensures in
    let refused = rw (parts.date, parts.time, parts.offset) at c.in_err-moment.ensures in
    rw (p.1, p.2) (Then-next c.in_ok-date.date c.in_ok-date.ensures
    (Then-next c.in_ok-time.time timed
    (Then-next c.in_ok-offset.offset c.in_ok-offset.ensures (inl (_, refused, refl)))))

pub returns-then-not-is_valid_leap_second_stand_in : goal.returns-then-not-is_valid_leap_second_stand_in
unfolding IsUtcMomentOfParts
returns-then-not-is_valid_leap_second_stand_in c =
    let timed = rw c.replace_leap_second-second.ensures at c.in_ok-time.ensures in
    let parts = c.new_in_offset.ensures in
    let seen = rw (parts.date, parts.time, parts.offset) at c.in_ok-moment.ensures in
    let leap = sym c.is_leap_second.ensures ∙ c.if-is_leap_second.true in
    Then-next c.in_ok-date.date c.in_ok-date.ensures
    (Then-next c.in_ok-time.time timed
    (Then-next c.in_ok-offset.offset c.in_ok-offset.ensures
    (Then-next c.in_ok-moment.moment seen
    (leap, λ end. let found = c.is_valid_leap_second_stand_in.ensures.1 end in cc, c.misplaced.ensures))))

pub returns : goal.returns
unfolding IsUtcMomentOfParts
returns c =
    let timed = rw c.replace_leap_second-second.ensures at c.in_ok-time.ensures in
    let parts = c.new_in_offset.ensures in
    let seen = rw (parts.date, parts.time, parts.offset) at c.in_ok-moment.ensures in
    Then-next c.in_ok-date.date c.in_ok-date.ensures
    (Then-next c.in_ok-time.time timed
    (Then-next c.in_ok-offset.offset c.in_ok-offset.ensures
    (Then-next c.in_ok-moment.moment seen (
      (refl, refl),
      λ leap. elim c.else-is_leap_second.branch [
        | at_end w ↦ w.is_valid_leap_second_stand_in.ensures.0 (search rules)
        | no_leap w ↦
            let e = sym c.is_leap_second.ensures ∙ w.if-is_leap_second.false in
            absurd (false≢true (sym e ∙ leap))
      ],
    ))))
