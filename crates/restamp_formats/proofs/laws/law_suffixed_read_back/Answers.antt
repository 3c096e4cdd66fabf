use Rattle.restamp_formats.proofs.FrontLemmas.{reads_suffixed_back}
use Rattle.restamp_formats.proofs.laws.law_suffixed_read_back.Goals as goal

pub returns : goal.returns
returns c = reads_suffixed_back
