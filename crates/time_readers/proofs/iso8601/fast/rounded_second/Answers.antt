use Rattle.std.proofs.Common.{refl, arith}
use Rattle.std.proofs.lemmas.Bool.{le-leb, lt-ltb}
use Rattle.time_readers.specs.IsoTimes.{round_of}
use Rattle.time_readers.specs.IsoPieces.{fraction}
use Rattle.time_readers.proofs.OneMailDate.{round-is}
use Rattle.time_readers.proofs.IsoTimes.{number_and_fraction}
use Rattle.time_readers.proofs.iso8601.fast.rounded_second.Goals as goal

pub returns : goal.returns
returns c =
    let v = c.in_ok-found.found in
    let digits = c.in_ok-digits.digits in
    let nanoseconds = c.round_fraction-nanoseconds in
    let number = number_and_fraction c.args.input.now v.0.now v.1.0 v.1.1 digits c.in_ok-found.ensures.is c.in_ok-digits.was in
    let round = round-is digits.now 1_000_000_000 nanoseconds.result nanoseconds.ensures in
    let small = le-leb v.1.0 60 (omega arith) in
    let below = lt-ltb (round_of digits.now 1_000_000_000) 1_000_000_000 (omega arith) in
    (fraction v.1.0 digits.now, number, λ h m. rw (round, small, below) refl)
