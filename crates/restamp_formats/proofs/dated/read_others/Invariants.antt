use Rattle.std.proofs.Common.{drop, Result}
use Rattle.restamp_formats.specs.{Common.greatest_year, Common.Match, Reading.AreTried, Reason.Reason}
use Rattle.restamp_formats.proofs.dated.read_others.Given as goal

-- the result of the remaining formats is that of all of them
abbrev pub invariant-loop-reading : goal.invariant-loop-reading
invariant-loop-reading g l =
    (reason : Reason) (result : Result Match Reason)
    → AreTried (drop l.reading-index l.readings) l.is_prefix l.text l.defaults reason result
    → AreTried l.readings l.is_prefix l.text l.defaults reason result
