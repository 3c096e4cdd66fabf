use Rattle.time_parsing.specs.exact.RecordedRfc2822 as RecordedRfc2822
use Rattle.time_parsing.specs.exact.RecordedRfc3339 as RecordedRfc3339
use Rattle.time_parsing.proofs.laws.law_two_paths.Goals as goal

pub returns-clause-rfc3339 : goal.returns-clause-rfc3339
returns-clause-rfc3339 c = λ bytes v. (RecordedRfc3339.direct-value bytes v, RecordedRfc3339.record-value bytes v)

pub returns-clause-rfc2822 : goal.returns-clause-rfc2822
returns-clause-rfc2822 c = λ bytes v. (RecordedRfc2822.direct-value bytes v, RecordedRfc2822.record-value bytes v)
