use Rattle.time_parsing.proofs.TreeLemmas.{joined_reads, joined_refuses, joined_leaves}
use Rattle.time_parsing.proofs.laws.law_joined_lists.Goals as goal

pub returns-clause-reads : goal.returns-clause-reads
returns-clause-reads c = joined_reads _

pub returns-clause-refuses : goal.returns-clause-refuses
returns-clause-refuses c = joined_refuses _

pub returns-clause-leaves : goal.returns-clause-leaves
returns-clause-leaves c = joined_leaves _
