use Rattle.std.proofs.Common.{refl}
use Rattle.time_locating.proofs.TurnSteps.{literal_misses-furthest, literal_reads}
use Rattle.time_locating.proofs.MarkSteps.{literal_marks, marks_unread}
use Rattle.time_locating.proofs.walk.literal.Goals as goal

pub returns-in-Ok-clause-misses : goal.returns-in-Ok-clause-misses
returns-in-Ok-clause-misses c = λ r. literal_reads _ _ r _ _ _ (c.in-Ok.ensures r)

pub returns-in-Err-clause-reads : goal.returns-in-Err-clause-reads
returns-in-Err-clause-reads c = λ r. record { unread = (c.in-Err.ensures r).0.unread; same = refl }

pub returns-in-Err-clause-misses : goal.returns-in-Err-clause-misses
returns-in-Err-clause-misses c = λ r. literal_misses-furthest _ _ r _ _ c.missed_in.ensures

pub returns-in-Ok-clause-marks : goal.returns-in-Ok-clause-marks
returns-in-Ok-clause-marks c = λ r name. literal_marks name _ r _ _ _ (c.in-Ok.ensures r)

pub returns-in-Err-clause-marks : goal.returns-in-Err-clause-marks
returns-in-Err-clause-marks c = λ r name. marks_unread _ _ _ _ (c.in-Err.ensures r).0.unread
