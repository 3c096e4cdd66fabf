use Rattle.time_readers.proofs.IsoCuts.{pieces-are_cuts}
use Rattle.time_readers.proofs.laws.law_iso_pieces.Goals as goal

pub returns : goal.returns
returns c = pieces-are_cuts
