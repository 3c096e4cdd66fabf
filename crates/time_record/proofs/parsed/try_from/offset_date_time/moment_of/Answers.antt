use Rattle.std.proofs.Common.{◌≡◌, Some, FitsSigned, rules, sym, ◌∙◌}
use Rattle.std.specs.Int.{w128}
use Rattle.std.proofs.lemmas.Int.{to_z-of_z}
use Rattle.time_record.specs.Resolution.{IsMoment}
use Rattle.time_record.proofs.parsed.try_from.offset_date_time.moment_of.Goals as goal

pub returns-in-Some : goal.returns-in-Some
unfolding IsMoment
returns-in-Some c =
    let fits : FitsSigned w128 c.in-Some.nanos = search rules in
    let known : c.args.parsed.now.unix_timestamp_nanos ≡ Some c.in-Some.nanos = sym c.unix_timestamp_nanos.ensures.value ∙ c.in-Some.is in
    rw (known, ← c.subsecond.ensures.value) (simp to_z-of_z at c.moment_at.ensures)
