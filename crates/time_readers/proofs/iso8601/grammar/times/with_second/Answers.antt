use Rattle.std.proofs.Common.{refl, arith}
use Rattle.std.proofs.lemmas.Bool.{le-leb, lt-ltb}
use Rattle.time_readers.specs.IsoTimes.{round_of}
use Rattle.time_readers.proofs.OneMailDate.{round-is}
use Rattle.time_readers.proofs.iso8601.grammar.times.with_second.Goals as goal
use Rattle.time_readers.proofs.iso8601.grammar.times.with_second.Goals.{in-Some+else-nanoseconds-ge1000000000, in-None}

pub returns : goal.returns
returns c =
    let small = le-leb c.args.second.1.0 60 (omega arith) in
    elim c.match-second.branch [
      | in-Some+else-nanoseconds-ge1000000000 w ↦
          let nanoseconds = w.round_fraction-nanoseconds in
          let round = round-is w.in-Some.digits.now 1_000_000_000 nanoseconds.result nanoseconds.ensures in
          let below = lt-ltb (round_of w.in-Some.digits.now 1_000_000_000) 1_000_000_000 (omega arith) in
          rw (w.in-Some.is, w.subsecond-is, round, small, below) refl
      | in-None w ↦ rw (w.in-None.is, w.subsecond-is, small) refl
    ]
