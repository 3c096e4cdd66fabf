use Rattle.std.proofs.Common.{length}
use Rattle.pelzaune_ffi.proofs.text.+lay.Given as goal

-- each call has one piece fewer
abbrev pub decreases-lay : goal.decreases-lay
decreases-lay l = length l.pieces.now
