use Rattle.std.proofs.Common.{sym, ◌∙◌}
use Rattle.std.proofs.lemmas.Bool.{false≢true}
use Rattle.time_record.specs.Resolution.{IsMomentOfParts}
use Rattle.time_record.proofs.ResolutionLemmas.{IsTimed-no_leap, Then-next}
use Rattle.time_record.proofs.parsed.try_from.fast.moment_of_parts.Goals as goal

pub returns : goal.returns
unfolding IsMomentOfParts
returns c =
    let no_leap = sym c.is_leap_second.ensures ∙ c.if-is_leap_second.false in
    let timed = IsTimed-no_leap c.args.parsed.now _ no_leap c.in_ok-time.ensures in
    let parts = c.new_in_offset.ensures in
    Then-next c.in_ok-date.date c.in_ok-date.ensures
    (Then-next c.in_ok-time.time timed
    (Then-next c.in_ok-offset.offset c.in_ok-offset.ensures
    ((parts.date, parts.time, parts.offset), λ leap. absurd (false≢true (sym no_leap ∙ leap)))))
