use Rattle.std.proofs.Common.{Ok, Result}
use Rattle.restamp_formats.specs.{Common.greatest_year, Common.Match, Reading.ParsesZoned, Reason.Reason, Zoned.IsSuffixed}
use Rattle.restamp_formats.proofs.SatisfiesLemmas.{gives_so}
use Rattle.restamp_formats.proofs.clock.read_zoned.Goals as goal

pub returns-in-Ok-clause-said : goal.returns-in-Ok-clause-said
returns-in-Ok-clause-said g c =
    let front = c.in-Ok.front in
    let with : (given : Result Match Reason) → IsSuffixed c.args.zones.now c.args.is_prefix c.args.text.now front given
    → ParsesZoned c.args.zones.now c.args.is_prefix c.args.text.now given =
    λ given suffixed. (Ok front, c.in-Ok.ensures.said, suffixed) in
    gives_so g.E.FromReason.is_of c.with_suffix.result with c.with_suffix.ensures.said
