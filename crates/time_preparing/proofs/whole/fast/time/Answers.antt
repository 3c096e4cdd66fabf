use Rattle.std.proofs.Common.{sym, ◌∙◌}
use Rattle.time_preparing.proofs.Wholes.{no_bytes, whole_time}
use Rattle.time_preparing.proofs.whole.fast.time.Goals as goal

pub returns : goal.returns
returns c =
    rw c.in-Time.is (whole_time c.in-Time.between c.args.input.now c.in_ok-time.rest.now c.in_ok-time.time c.in_ok-time.ensures.whole
    c.in_ok-time.ensures.reads (no_bytes c.in_ok-time.rest.now (sym c.is_empty.ensures ∙ c.if-not-is_empty.false)))
