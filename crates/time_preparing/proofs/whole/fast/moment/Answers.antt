use Rattle.std.proofs.Common.{sym, ◌∙◌}
use Rattle.time_preparing.proofs.Wholes.{no_bytes, whole_moment}
use Rattle.time_preparing.proofs.whole.fast.moment.Goals as goal

pub returns : goal.returns
returns c =
    let made = c.in_ok-offset.ensures in
    rw c.in-Moment.is (whole_moment c.in-Moment.form c.args.input.now c.in_ok-date.behind.now c.in_ok-after.field-0.now
    c.in_ok-time.later.now c.in_ok-after_byte.field-0.now c.in_ok-offset.rest.now c.in_ok-date.date c.in_ok-time.time made.0
    c.in_ok-offset.offset c.new_in_offset.result c.in_ok-time.ensures.whole made.1 c.in_ok-date.ensures c.in_ok-after.ensures
    c.in_ok-time.ensures.reads c.in_ok-after_byte.ensures made.2
    (no_bytes c.in_ok-offset.rest.now (sym c.is_empty.ensures ∙ c.if-not-is_empty.false))
    c.new_in_offset.ensures.date c.new_in_offset.ensures.time c.new_in_offset.ensures.offset)
