use Rattle.std.proofs.Common.{sym, ◌∙◌}
use Rattle.time_preparing.proofs.Wholes.{no_bytes, whole_half}
use Rattle.time_preparing.proofs.whole.fast.halves.whole.Goals as goal

pub returns : goal.returns
returns c =
    whole_half c.args.form.now c.args.input.now c.in_ok-numbers.rest.now c.in_ok-numbers.numbers c.in_ok-time.time
    c.in_ok-numbers.ensures (no_bytes c.in_ok-numbers.rest.now (sym c.is_empty.ensures ∙ c.if-not-is_empty.false)) c.in_ok-time.ensures
