use Rattle.std.proofs.Common.{◌∙◌, refl, sym, subst}
use Rattle.jiff_core.specs.Timestamp.{IsTimestampNanos}
use Rattle.time_zones.specs.Zones.{IsInZoneRange}
use Rattle.time_zones.proofs.FolderLemmas.{is_answer, answers_back}
use Rattle.time_zones.proofs.laws.law_read_back.Goals as goal

pub returns-clause-back : goal.returns-clause-back
returns-clause-back c =
    let answer = is_answer c.args.zone.now c.new.result c.assume_zone.result c.assume_zone.ensures.ok c.assume_zone.ensures.err in
    let shown = c.in_ok-shown.ensures in
    let told : IsInZoneRange c.in_ok-shown.shown = subst IsTimestampNanos (sym shown.instant) (shown.told.0 refl) in
    answers_back c.args.zone.now c.new.result c.args.moment c.in_ok-shown.shown c.assume_zone.result answer
    (sym (c.new.ensures.date ∙ c.date.ensures), sym (c.new.ensures.time ∙ c.time.ensures), shown.offset, told) shown.instant
