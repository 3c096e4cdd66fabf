use Rattle.time_record.proofs.Unique.{Reads-unique, Refuses-unique, Reads-unrefused}
use Rattle.time_record.proofs.laws.law_one_reading.Goals as goal

pub returns-clause-one : goal.returns-clause-one
returns-clause-one c = Reads-unique

pub returns-clause-one_fault : goal.returns-clause-one_fault
returns-clause-one_fault c = Refuses-unique

pub returns-clause-or_refused : goal.returns-clause-or_refused
returns-clause-or_refused c = Reads-unrefused
