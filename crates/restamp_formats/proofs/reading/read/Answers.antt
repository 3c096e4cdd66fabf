use Rattle.restamp_formats.specs.{Common.greatest_year, Reading.ParsesAs}
use Rattle.restamp_formats.proofs.SatisfiesLemmas.{of_reason}
use Rattle.restamp_formats.proofs.reading.read.Goals as goal

pub returns-clause-said : goal.returns-clause-said
returns-clause-said c =
    of_reason (ParsesAs c.args.reading.now c.args.is_prefix c.args.text.now c.args.defaults.now) c.parse_outlined.result
    c.parse_outlined.ensures.said
