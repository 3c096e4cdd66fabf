use Rattle.time_values.specs.Calendar.{greatest_year}
use Rattle.restamp_command.specs.Fault.{erased_fault}
use Rattle.restamp_command.proofs.FormatLemmas.{suffix_fault}
use Rattle.restamp_command.proofs.style.find_style.Goals as goal

pub returns-in-Err-find_suffix : goal.returns-in-Err-find_suffix
returns-in-Err-find_suffix g c =
    suffix_fault c.args.options.now c.in-Ok-parse_zone.zone (erased_fault c.in-Err-find_suffix.fault)
    (rw c.zone_of-name.ensures at c.in-Ok-parse_zone.ensures) c.in-Err-find_suffix.ensures
