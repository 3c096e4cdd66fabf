use Rattle.time_locating.proofs.TurnSteps.{alone_reads, alone_unread, literal_misses-furthest, literal_reads}
use Rattle.time_locating.proofs.MarkSteps.{literal_marks, marks_unread}
use Rattle.time_locating.proofs.walk.steps.literal.Goals as goal

pub returns-in-Ok-clause-reads : goal.returns-in-Ok-clause-reads
returns-in-Ok-clause-reads c is = alone_reads _ _ is _ _ _ _ c.in-Ok.ensures

pub returns-in-Ok-clause-misses : goal.returns-in-Ok-clause-misses
returns-in-Ok-clause-misses c is = literal_reads _ _ _ _ _ _ (alone_reads _ _ is _ _ _ _ c.in-Ok.ensures)

pub returns-in-Err-clause-reads : goal.returns-in-Err-clause-reads
returns-in-Err-clause-reads c is = record { unread = alone_unread _ _ is _ _ c.in-Err.ensures.0.unread; same = c.in-Err.ensures.1 }

pub returns-in-Err-clause-misses : goal.returns-in-Err-clause-misses
returns-in-Err-clause-misses c is = literal_misses-furthest _ _ _ _ _ c.missed_in.ensures

pub returns-in-Ok-clause-marks : goal.returns-in-Ok-clause-marks
returns-in-Ok-clause-marks c name is = literal_marks name _ _ _ _ _ (alone_reads _ _ is _ _ _ _ c.in-Ok.ensures)

pub returns-in-Err-clause-marks : goal.returns-in-Err-clause-marks
returns-in-Err-clause-marks c name is = marks_unread _ _ _ _ (alone_unread _ _ is _ _ c.in-Err.ensures.0.unread)
