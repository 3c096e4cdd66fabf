use Rattle.restamp_formats.specs.Common.{greatest_year}
use Rattle.restamp_formats.proofs.MissingFieldMoments.{says_no_moment}
use Rattle.restamp_formats.proofs.laws.law_no_moment.Goals as goal

pub returns : goal.returns
returns c = says_no_moment
