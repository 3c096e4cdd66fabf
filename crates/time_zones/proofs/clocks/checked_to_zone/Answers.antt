use Rattle.std.proofs.Common.{rules, arith}
use Rattle.std.proofs.lemmas.Int.{ints}
use Rattle.time_values.proofs.InstantLemmas.{first_instant_is, last_instant_is}
use Rattle.time_zones.specs.Zones.{IsInZoneRange}
use Rattle.time_zones.proofs.clocks.checked_to_zone.Goals as goal

pub to_offset-requires : goal.to_offset-requires
to_offset-requires c =
    let told : IsInZoneRange c.args.moment = search rules in
    let o = c.in_ok-offset.offset in
    omega (arith, ints, told, first_instant_is, last_instant_is, o.hours_in, o.minutes_in, o.seconds_in)
