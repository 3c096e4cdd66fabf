use Rattle.std.proofs.Common.{arith}
use Rattle.time_record.proofs.Counting.{Counts-leaf, Counts-sequence, Counts-optional, Counts-first_of}
use Rattle.time_record.proofs.walk.Tries.begin.Goals as goal

pub returns-clause-leaf : goal.returns-clause-leaf
returns-clause-leaf c = λ t b r leaf. Counts-leaf _ b r _ _ (omega arith) t leaf

pub returns-clause-sequence : goal.returns-clause-sequence
returns-clause-sequence c = λ ts b r after. Counts-sequence _ b r _ _ after (omega arith) ts

pub returns-clause-optional : goal.returns-clause-optional
returns-clause-optional c = λ t b r after. Counts-optional _ b r _ _ after (omega arith) t

pub returns-clause-first_of : goal.returns-clause-first_of
returns-clause-first_of c = λ ts b r after. Counts-first_of _ b r _ _ after (omega arith) ts
