use Rattle.std.proofs.Common.{rules}
use Rattle.time_parsing.proofs.rfc2822.put_time.Goals as goal

pub returns-in_default-second : goal.returns-in_default-second
returns-in_default-second c = rw c.in_default-second.is (search rules)
