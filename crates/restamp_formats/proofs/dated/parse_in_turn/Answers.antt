use Rattle.std.proofs.Common.{Err, Result}
use Rattle.restamp_formats.specs.{Common.greatest_year, Common.Match, Reading.AreTried, Reading.IsReadInTurn, Reason.Reason}
use Rattle.restamp_formats.proofs.SatisfiesLemmas.{gives_so}
use Rattle.restamp_formats.proofs.dated.parse_in_turn.Goals as goal

pub returns-in-Err-clause-said : goal.returns-in-Err-clause-said
returns-in-Err-clause-said g c =
    let why = c.in-Err.ensures.said in
    let with : (given : Result Match Reason)
    → AreTried c.args.others.now c.args.is_prefix c.args.text.now c.args.defaults.now why.0 given
    → IsReadInTurn c.args.first.now c.args.others.now c.args.is_prefix c.args.text.now c.args.defaults.now given =
    λ given tried. (Err why.0, why.2, tried) in
    gives_so g.E.FromReason.is_of c.read_others.result with (c.read_others.ensures.said why.0 why.1)
