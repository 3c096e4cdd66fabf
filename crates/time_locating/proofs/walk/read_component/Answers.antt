use Rattle.std.proofs.Common.{false}
use Rattle.time_locating.proofs.TurnSteps.{component_misses, component_reads}
use Rattle.time_locating.proofs.MarkSteps.{component_marks, marks_unread}
use Rattle.time_locating.proofs.walk.read_component.Goals as goal

pub returns-in-Ok-clause-misses : goal.returns-in-Ok-clause-misses
returns-in-Ok-clause-misses c = component_reads _ _ _ false _ _ _ c.in-Ok.ensures

pub returns-in-Err-clause-misses : goal.returns-in-Err-clause-misses
returns-in-Err-clause-misses c = rw (c.missed_at.ensures, c.expected_of.ensures) (component_misses _ _ _ false _ _ c.in-Err.ensures.0)

pub returns-in-Ok-clause-marks : goal.returns-in-Ok-clause-marks
returns-in-Ok-clause-marks c = component_marks _ _ _ false _ _ _ _ c.in-Ok.ensures c.mark_of.ensures

pub returns-in-Err-clause-marks : goal.returns-in-Err-clause-marks
returns-in-Err-clause-marks c = marks_unread _ _ _ _ c.in-Err.ensures.0.unread
