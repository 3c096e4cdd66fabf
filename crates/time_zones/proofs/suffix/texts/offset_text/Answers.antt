use Rattle.std.proofs.Common.{rules}
use Rattle.time_zones.proofs.NameLemmas.{untold_offset, if_none}
use Rattle.time_zones.proofs.suffix.texts.offset_text.Goals as goal

pub returns-in_err-h1-clause-none : goal.returns-in_err-h1-clause-none
returns-in_err-h1-clause-none c =
    if_none _ _ (untold_offset c.args.offset _ (search rules) c.in_err-h1.ensures.none)
