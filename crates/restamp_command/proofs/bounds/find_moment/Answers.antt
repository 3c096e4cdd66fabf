use Rattle.std.proofs.Common.{Ok, Err, refl}
use Rattle.restamp_formats.specs.Reason.{seen}
use Rattle.restamp_command.proofs.bounds.find_moment.Goals as goal

pub returns-in-Ok : goal.returns-in-Ok
returns-in-Ok c = (Ok c.in-Ok.matched, rw c.as_bytes.ensures.value at c.in-Ok.ensures.said, refl)

pub returns-in-Ok-read_in_turn : goal.returns-in-Ok-read_in_turn
returns-in-Ok-read_in_turn c = (
  Err (seen c.in-Err.reason),
  rw c.as_bytes.ensures.value at c.in-Err.ensures.said,
  (Ok c.in-Ok-read_in_turn.matched, rw c.as_bytes-2.ensures.value at c.in-Ok-read_in_turn.ensures.said, refl),
)

pub returns-in-Err-read_in_turn : goal.returns-in-Err-read_in_turn
returns-in-Err-read_in_turn c = (
  Err (seen c.in-Err.reason),
  rw c.as_bytes.ensures.value at c.in-Err.ensures.said,
  (
    Err (seen c.in-Err-read_in_turn.field-0),
    rw c.as_bytes-2.ensures.value at c.in-Err-read_in_turn.ensures.said,
    c.find_named.ensures,
  ),
)
