use Rattle.std.proofs.Common.{◌≡◌, false, refl, arith}
use Rattle.std.specs.Prelude.{nat_lt, nat_le}
use Rattle.std.proofs.Math.Bool.{and-false}
use Rattle.std.proofs.lemmas.Bool.Decides.{nat_tests}
use Rattle.time_readers.specs.IsoTimes.{round_of}
use Rattle.time_readers.proofs.OneMailDate.{round-is}
use Rattle.time_locating.proofs.iso8601.pieces.past_second.Goals as goal

pub returns-in-Some : goal.returns-in-Some
returns-in-Some c =
    let round = round-is c.in-Some.digits.now 1_000_000_000 c.round_fraction.result c.round_fraction.ensures in
    let whole : nat_lt (round_of c.in-Some.digits.now 1_000_000_000) 1_000_000_000 ≡ false = grind (arith, nat_tests) in
    rw (c.in_ok-found.ensures.is, c.in-Some.is, whole, and-false (nat_le c.in_ok-found.found.1.0 60)) refl
