use Rattle.std.proofs.Common.{refl, arith}
use Rattle.time_digits.specs.Digits.{IsPaddedRun}
use Rattle.time_components.specs.Spelling.{flagged}
use Rattle.time_components.proofs.NumberLemmas.{signed_cut}
use Rattle.time_digits.proofs.Runs.{full_run, IsDigitRun-below}
use Rattle.time_components.proofs.component.fast.offset_hour.Goals as goal

pub signed_hour-requires : goal.signed_hour-requires
signed_hour-requires c =
    let hour = c.in_ok-hour.ensures in
    IsDigitRun-below 2 2 hour.0 c.in_ok-hour.hour.0.now c.in_ok-hour.hour.1 hour.2

pub returns : goal.returns
returns c =
    let hour = c.in_ok-hour.ensures in
    let sign = c.in_ok-sign.sign in
    let rest = c.in_ok-hour.hour.0.now in
    let value = c.in_ok-hour.hour.1 in
    let padding = c.args.padding in
    let run = full_run padding 2 2 hour.0 rest value (omega arith) refl hour.2 in
    let cut = signed_cut c.args.sign_is_mandatory (IsPaddedRun padding 2 2) (IsPaddedRun padding 2 2) c.args.input.now
    sign.0.now rest sign.1 value c.in_ok-sign.ensures (hour.0, hour.1, run) in
    (cut.0, cut.1, ((sign.1, value), λ j. flagged (c.signed_hour.ensures.number j) (c.signed_hour.ensures.minus j), cut.2))
