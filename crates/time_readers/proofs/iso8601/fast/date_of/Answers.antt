use Rattle.std.proofs.Common.{◌≡◌, ◌≢◌, Some, rules}
use Rattle.time_readers.specs.IsoPieces.{numbered, months}
use Rattle.time_readers.proofs.iso8601.fast.date_of.Goals as goal

pub returns-in-Ok : goal.returns-in-Ok
returns-in-Ok c text digits =
    let named : numbered months c.args.digits.month ≡ Some c.in-Ok.month = search rules in
    let some : c.args.digits.day ≢ 0 = search rules in
    let said = digits c.in-Ok.month named some in
    search rules
