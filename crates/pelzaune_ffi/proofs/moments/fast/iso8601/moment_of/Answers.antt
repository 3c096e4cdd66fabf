use Rattle.std.proofs.Common.{◌∙◌}
use Rattle.time_parsing.proofs.IsoParts.{moment-whole}
use Rattle.pelzaune_ffi.proofs.moments.fast.iso8601.moment_of.Goals as goal

pub returns : goal.returns
returns c text front =
    let f = c.args.front in
    let plain = c.in_ok-plain.ensures in
    let offset = c.in_ok-offset.ensures in
    let made = c.new_in_offset.ensures in
    let whole =
    moment-whole _ _ f.rest.now _ f.kind _ f.time offset.0 c.in_ok-plain.plain c.in_ok-offset.offset front.1
    front.2 offset.1 plain.0 plain.1 offset.2 in (
      whole.0,
      whole.1,
      whole.3 c.new_in_offset.result (made.date ∙ c.date.ensures) (made.time ∙ c.time.ensures) made.offset,
    )
