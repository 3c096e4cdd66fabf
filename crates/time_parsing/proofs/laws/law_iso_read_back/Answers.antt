use Rattle.time_parsing.proofs.IsoBack.{iso_read_back, basic_read_back}
use Rattle.time_parsing.proofs.laws.law_iso_read_back.Goals as goal

pub returns-clause-extended : goal.returns-clause-extended
returns-clause-extended c = iso_read_back

pub returns-clause-basic : goal.returns-clause-basic
returns-clause-basic c = basic_read_back
