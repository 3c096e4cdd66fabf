use Rattle.time_parse.proofs.PlaceLemmas.{both_written}
use Rattle.time_parse.proofs.place.PlacingLineHandler.write_answer.Goals as goal

pub returns-clause-bytes : goal.returns-clause-bytes
returns-clause-bytes g c = both_written c.write_chosen_place.result _ _ _ _ _ c.in_ok-write_answer.ensures.bytes c.write_chosen_place.ensures.bytes
