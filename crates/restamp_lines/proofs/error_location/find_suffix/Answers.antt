use Rattle.std.proofs.Common.{refl, Ok, Err}
use Rattle.time_values.specs.Refusal.{refusal_of}
use Rattle.restamp_lines.proofs.error_location.find_suffix.Goals as goal

pub returns-in-Ok : goal.returns-in-Ok
returns-in-Ok c = (Ok c.in-Ok.front, c.in-Ok.ensures.said, refl)

pub returns-in-Err : goal.returns-in-Err
returns-in-Err c = (Err (refusal_of c.in-Err.field-0), c.in-Err.ensures.said, refl)
