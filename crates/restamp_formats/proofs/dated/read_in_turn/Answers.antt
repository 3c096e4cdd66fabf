use Rattle.restamp_formats.specs.{Common.greatest_year, Reading.IsReadInTurn}
use Rattle.restamp_formats.proofs.SatisfiesLemmas.{of_reason}
use Rattle.restamp_formats.proofs.dated.read_in_turn.Goals as goal

pub returns-clause-said : goal.returns-clause-said
returns-clause-said c =
    of_reason (IsReadInTurn c.args.first.now c.args.others.now c.args.is_prefix c.args.text.now c.args.defaults.now) c.parse_in_turn.result
    c.parse_in_turn.ensures.said
