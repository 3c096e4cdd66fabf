use Rattle.std.proofs.Common.{arith, drop}
use Rattle.time_digits.proofs.WordBytes.{take-drop}
use Rattle.time_digits.proofs.Runs.{after_spaces}
use Rattle.time_digits.proofs.combinator.n_to_m_digits_padded.Goals as goal

pub returns-in-Space : goal.returns-in-Space
returns-in-Space g c =
    let s = c.args.input.now in
    let k = c.leading_spaces-spaces.result in
    let spaces = c.leading_spaces-spaces.ensures in
    let found = rw (c.from-least.ensures, c.from-most.ensures, take-drop s k spaces.in_range) at c.digit_run-in-Space.ensures in
    rw c.in-Space.is (after_spaces g.T.Integer.value g.T.Integer.greatest g.row.N g.row.M k s
    (drop k s) c.digit_run-in-Space.result spaces.spaces (omega arith) (rw c.from-least.ensures at spaces.all) found)
