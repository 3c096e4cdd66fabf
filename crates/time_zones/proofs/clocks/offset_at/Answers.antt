use Rattle.std.proofs.Common.{◌≡◌, ℤ, arith, refl, ◌∙◌}
use Rattle.std.specs.Int.{w64}
use Rattle.std.proofs.lemmas.Int.{ints, to_z-of_z}
use Rattle.jiff_core.specs.Calendar.{IsBetween}
use Rattle.jiff_tz.specs.Tzif.{floor_second}
use Rattle.time_values.specs.Moments.{offset_instant}
use Rattle.time_values.specs.Calendar.{greatest_year}
use Rattle.time_zones.proofs.ZoneLemmas.{floor_of_whole}
use Rattle.time_zones.proofs.clocks.offset_at.Goals as goal

-- the second of an instant lies between itself and itself
within_itself : (n s t : ℤ) → t ≡ s → floor_second n ≡ s → IsBetween t t (floor_second n)
within_itself n s t same is = omega (arith, ints, same, is)

pub returns-in-Some-clause-told : goal.returns-in-Some-clause-told
returns-in-Some-clause-told c =
    let n = offset_instant greatest_year c.args.moment in
    let second = c.unix_timestamp-second.result in
    let same = to_z-of_z w64 second (omega (arith, ints)) in
    let within = within_itself n second _ same (floor_of_whole n second c.unix_timestamp-second.ensures) in
    ((λ some. (c.in-Some.ensures n within).0), λ told. refl)

pub returns-in-Some-clause-value : goal.returns-in-Some-clause-value
returns-in-Some-clause-value c =
    let n = offset_instant greatest_year c.args.moment in
    let second = c.unix_timestamp-second.result in
    let same = to_z-of_z w64 second (omega (arith, ints)) in
    let within = within_itself n second _ same (floor_of_whole n second c.unix_timestamp-second.ensures) in
    c.offset_from.ensures ∙ (c.in-Some.ensures n within).1
