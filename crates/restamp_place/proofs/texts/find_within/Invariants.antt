use Rattle.memchr.specs.Find.{Nowhere, OccursAt}
use Rattle.restamp_place.proofs.texts.find_within.Given as goal

abbrev pub invariant-loop-at : goal.invariant-loop-at
invariant-loop-at l = Nowhere (OccursAt l.bytes l.text) l.from l.at
