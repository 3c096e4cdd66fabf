use Rattle.std.proofs.Common.{◌≡◌, ◌-ℤ◌, arith, subst, to_z, of_z, w32}
use Rattle.std.specs.Prelude.{IfSome, IfNone}
use Rattle.std.proofs.lemmas.Int.{ints}
use Rattle.time_values.specs.Instants.{IsInstant}
use Rattle.time_values.specs.Moments.{utc_instant}
use Rattle.time_values.specs.MovedClocks.{moved_clock}
use Rattle.time_values.specs.Offsets.{offset_seconds}
use Rattle.time_values.specs.Calendar.{greatest_year}
use Rattle.time_values.proofs.arithmetic.clock_with.Goals as goal

pub moved-requires : goal.moved-requires
moved-requires c = omega (arith, ints)

pub returns-clause-value : goal.returns-clause-value
returns-clause-value c =
    let to = c.whole_seconds.ensures in
    let from = c.whole_seconds-2.ensures in
    let between : to_z w32 (of_z w32 (to_z w32 (of_z w32 c.whole_seconds.result) -ℤ to_z w32 (of_z w32 c.whole_seconds-2.result)))
    ≡ offset_seconds c.args.to -ℤ offset_seconds c.args.from = omega (arith, ints, to, from) in
    subst (λ s. IfSome c.moved.result (λ u. utc_instant greatest_year u ≡ moved_clock c.args.date c.args.time s)) between c.moved.ensures.value

pub returns-clause-none : goal.returns-clause-none
returns-clause-none c =
    let to = c.whole_seconds.ensures in
    let from = c.whole_seconds-2.ensures in
    let between : to_z w32 (of_z w32 (to_z w32 (of_z w32 c.whole_seconds.result) -ℤ to_z w32 (of_z w32 c.whole_seconds-2.result)))
    ≡ offset_seconds c.args.to -ℤ offset_seconds c.args.from = omega (arith, ints, to, from) in
    subst (λ s. IfNone c.moved.result (¬ (IsInstant greatest_year (moved_clock c.args.date c.args.time s)))) between c.moved.ensures.none
