use Rattle.std.proofs.Common.{sym, ◌∙◌}
use Rattle.time_preparing.proofs.Wholes.{no_bytes, whole_plain}
use Rattle.time_preparing.proofs.whole.fast.date_time.Goals as goal

pub returns : goal.returns
returns c =
    rw c.in-Plain.is (whole_plain c.in-Plain.form c.in-Plain.between c.in-Plain.in_time c.args.input.now c.in_ok-date.behind.now
    c.in_ok-after.field-0.now c.in_ok-time.rest.now c.in_ok-date.date c.in_ok-time.time c.new.result c.in_ok-time.ensures.whole
    c.in_ok-date.ensures c.in_ok-after.ensures c.in_ok-time.ensures.reads (no_bytes c.in_ok-time.rest.now (sym c.is_empty.ensures ∙ c.if-not-is_empty.false))
    c.new.ensures.date c.new.ensures.time)
