use Rattle.std.proofs.Common.{sym, ◌∙◌}
use Rattle.time_parsing.proofs.IsoParts.{plain-whole, no_bytes}
use Rattle.pelzaune_ffi.proofs.moments.fast.iso8601.local_of.Goals as goal

pub returns : goal.returns
returns c text front =
    let f = c.args.front in
    let plain = c.in_ok-plain.ensures in
    let whole =
    plain-whole _ _ f.rest.now _ f.kind _ f.time c.in_ok-plain.plain front.1 front.2
    (no_bytes f.rest.now (sym c.is_empty.ensures ∙ c.if-not-is_empty.false)) plain.0 plain.1 in
    (whole.0, whole.1, whole.2)
