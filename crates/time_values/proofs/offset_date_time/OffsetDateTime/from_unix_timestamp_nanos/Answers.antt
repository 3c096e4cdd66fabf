use Rattle.std.proofs.Common.{◌≡◌, ◌∙◌, arith, rules, refl, FitsSigned}
use Rattle.std.specs.Int.{w128}
use Rattle.std.proofs.lemmas.Int.{ints, to_z-of_z}
use Rattle.time_values.specs.Instants.{clock_nanos, timestamp_refusal}
use Rattle.time_values.specs.Calendar.{greatest_year}
use Rattle.time_values.proofs.InstantLemmas.{instant_is}
use Rattle.time_values.proofs.NumberLemmas.{Constructs-map}
use Rattle.time_values.proofs.offset_date_time.OffsetDateTime.from_unix_timestamp_nanos.Goals as goal

pub returns : goal.returns
returns c =
    let n = c.args.nanos in
    let fits : FitsSigned w128 n = search rules in
    Constructs-map (timestamp_refusal greatest_year n) (λ u. clock_nanos greatest_year u.date u.time ≡ n) _ c.in_ok-utc.utc _
    (λ at. (rw (c.date.ensures, c.time.ensures) (instant_is _ _ _ ∙ omega (arith, ints, at)), (refl, refl, refl)))
    (simp to_z-of_z at c.in_ok-utc.ensures)
