use Rattle.std.proofs.Common.{refl, arith}
use Rattle.time_record.proofs.Counting.{CountsAll-end, CountsAll-refuses, CountsAll-reads}
use Rattle.time_record.proofs.Unique.{Continues-refuses, Continues-reads, Continues-end}
use Rattle.time_record.proofs.parsed.Parsed.parse_items_counted.Goals as goal

pub returns-in-Err-clause-answers : goal.returns-in-Err-clause-answers
returns-in-Err-clause-answers g c =
    (Continues-refuses c.loop-item.invariant.0 (omega arith) c.item-item.is c.in-Err.ensures.answers.0, refl)

pub returns-in-Err-clause-counts : goal.returns-in-Err-clause-counts
returns-in-Err-clause-counts g c =
    CountsAll-refuses _ c.loop-item.invariant.1 (omega arith) c.item-item.is _ c.in-Err.ensures.counts c.in-Err.ensures.answers.0.unread

pub loop-item-preserved : goal.loop-item-preserved
loop-item-preserved g c = (
  Continues-reads c.loop-item.invariant.0 (omega arith) c.item-item.is c.in-Ok.ensures.answers,
  CountsAll-reads _ c.loop-item.invariant.1 (omega arith) c.item-item.is _ c.in-Ok.ensures.counts _ _ c.in-Ok.ensures.answers,
)

pub returns-clause-answers : goal.returns-clause-answers
returns-clause-answers g c = Continues-end c.loop-item.invariant.0 (omega arith)

pub returns-clause-counts : goal.returns-clause-counts
returns-clause-counts g c = CountsAll-end _ c.loop-item.invariant.1 (omega arith)
