use Rattle.std.proofs.Common.{◌≡◌, true, false, arith}
use Rattle.std.specs.Prelude.{nat_le}
use Rattle.std.proofs.lemmas.Bool.Decides.{nat_tests}
use Rattle.time_locating.proofs.IsoLengths.{digits_beyond, digits_there, no_digits}
use Rattle.time_locating.proofs.iso8601.pieces.past_digits.Goals as goal

pub returns-in_err-found : goal.returns-in_err-found
returns-in_err-found c = rw c.from_residual.ensures (no_digits c.args.greatest c.args.input.now c.in_err-found.ensures)

pub returns-then-found-greatest : goal.returns-then-found-greatest
returns-then-found-greatest c =
    let great : nat_le c.in_ok-found.found.1 c.args.greatest ≡ false = grind (arith, nat_tests) in
    digits_beyond c.args.greatest c.in_ok-found.found.1 c.args.input.now c.in_ok-found.found.0.now c.in_ok-found.ensures great

pub returns : goal.returns
returns c =
    let small : nat_le c.in_ok-found.found.1 c.args.greatest ≡ true = grind (arith, nat_tests) in
    digits_there c.args.greatest c.in_ok-found.found.1 c.args.input.now c.in_ok-found.found.0.now c.in_ok-found.ensures small
