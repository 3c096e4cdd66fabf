use Rattle.std.proofs.Common.{sym, ◌∙◌}
use Rattle.time_descriptions.proofs.WrittenComponents.{count_end, ignored_of}
use Rattle.time_descriptions.proofs.names.ignore_count.Goals as goal

pub returns : goal.returns
returns c =
    sym (ignored_of (record { count = c.in_ok-new.field-0 }) c.loop-rest.value c.in_ok-new.ensures)
    ∙ sym (count_end c.loop-rest.value c.loop-rest.rest.now c.in_default.len_below) ∙ c.loop-rest.invariant.told
