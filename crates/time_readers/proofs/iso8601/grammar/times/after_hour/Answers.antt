use Rattle.std.proofs.Common.{sym, ◌∙◌}
use Rattle.time_readers.proofs.IsoTimes.{colon_basic}
use Rattle.time_readers.proofs.iso8601.grammar.times.after_hour.Goals as goal

pub returns-else-maybe_extended : goal.returns-else-maybe_extended
returns-else-maybe_extended c b n =
    colon_basic b c.args.input.now c.args.hour n c.requires c.args.kind c.in-Some.after.now
    (sym c.maybe_extended.ensures ∙ c.if-maybe_extended.false) c.in-Some.ensures
