use Rattle.time_parse.proofs.place.write_chosen_place.Goals as goal

pub returns-in-Described-clause-bytes : goal.returns-in-Described-clause-bytes
returns-in-Described-clause-bytes g c = rw c.in-Described.is c.write_place.ensures.bytes
