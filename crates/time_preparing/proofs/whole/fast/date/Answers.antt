use Rattle.std.proofs.Common.{sym, ◌∙◌}
use Rattle.time_preparing.proofs.Wholes.{no_bytes, whole_date}
use Rattle.time_preparing.proofs.whole.fast.date.Goals as goal

pub returns : goal.returns
returns c =
    rw c.in-Date.is (whole_date c.in-Date.form c.args.input.now c.in_ok-date.rest.now c.in_ok-date.date c.in_ok-date.ensures
    (no_bytes c.in_ok-date.rest.now (sym c.is_empty.ensures ∙ c.if-not-is_empty.false)))
