use Rattle.std.proofs.Common.{arith}
use Rattle.std.specs.Int.{w64}
use Rattle.std.proofs.lemmas.Int.{to_z-of_z}
use Rattle.jiff_core.proofs.SignedLemmas.{signed_arith}
use Rattle.time_zones.specs.Spread.{HasOneOffset}
use Rattle.time_zones.proofs.ZoneLemmas.{if_some, second_told, zone_row, zone_rule}
use Rattle.time_zones.proofs.clocks.fast.offset_within.Goals as goal

pub returns-in-Tzif : goal.returns-in-Tzif
returns-in-Tzif c =
    let begin = to_z-of_z w64 c.args.begin c.ranges.begin in
    let end = to_z-of_z w64 c.args.end c.ranges.end in
    if_some c.offset_by_rows.result _ _
    (λ o is_offset n within. (
      second_told n c.args.begin c.args.end within (omega (arith, signed_arith, c.if-begin-lt-FIRST_SECOND.false))
          (omega (arith, signed_arith, c.if-end-gt-LAST_SECOND.false)),
      zone_row c.args.zone.now c.in-Tzif.table n o.seconds c.in-Tzif.is (is_offset n (omega (arith, signed_arith, within, begin, end))),
    )) c.offset_by_rows.ensures

pub returns-in-Posix : goal.returns-in-Posix
returns-in-Posix c =
    if_some c.rule_offset.result (HasOneOffset c.in-Posix.rule) _
    (λ o one n within. (
      second_told n c.args.begin c.args.end within (omega (arith, signed_arith, c.if-begin-lt-FIRST_SECOND.false))
          (omega (arith, signed_arith, c.if-end-gt-LAST_SECOND.false)),
      zone_rule c.args.zone.now c.in-Posix.rule o n c.in-Posix.is one,
    )) c.rule_offset.ensures
