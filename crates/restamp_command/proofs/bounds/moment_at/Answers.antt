use Rattle.std.proofs.Common.{refl}
use Rattle.std.proofs.lemmas.Int.{to_z-of_z}
use Rattle.time_values.proofs.NumberLemmas.{Constructs-Err, Constructs-Ok}
use Rattle.time_values.specs.Instants.{timestamp_refusal}
use Rattle.time_values.specs.Calendar.{greatest_year}
use Rattle.restamp_command.proofs.FormatLemmas.{no_date}
use Rattle.restamp_command.proofs.bounds.moment_at.Goals as goal

pub returns-in-Ok : goal.returns-in-Ok
returns-in-Ok c =
    let fits = c.ranges.nanos in (Constructs-Ok (timestamp_refusal greatest_year c.args.nanos) _ c.in-Ok.moment (simp to_z-of_z at c.in-Ok.ensures)).1

pub returns-in-Err : goal.returns-in-Err
returns-in-Err c =
    let fits = c.ranges.nanos in
    let refused = Constructs-Err (timestamp_refusal greatest_year c.args.nanos) _ c.in-Err.field-0 (simp to_z-of_z at c.in-Err.ensures) in
    (refl, no_date c.args.nanos _ refused)
