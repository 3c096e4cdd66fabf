use Rattle.std.proofs.Common.{Ok}
use Rattle.pelzaune_ffi.proofs.moments.count_8601.Goals as goal

pub returns-in-Some : goal.returns-in-Some
returns-in-Some c = (Ok c.in-Some.value, c.in-Some.ensures, c.store_count.ensures)
