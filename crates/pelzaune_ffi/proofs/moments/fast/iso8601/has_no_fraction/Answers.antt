use Rattle.std.proofs.Common.{arith}
use Rattle.pelzaune_ffi.proofs.IsoInPlace.{no_point, no_bytes}
use Rattle.pelzaune_ffi.proofs.moments.fast.iso8601.has_no_fraction.Goals as goal

pub returns-in-empty : goal.returns-in-empty
returns-in-empty c = λ is. no_bytes c.args.bytes.now (omega arith)

pub returns-in-43 : goal.returns-in-43
returns-in-43 c = λ is. no_point c.args.bytes.now (λ e. omega (arith, e)) (λ e. omega (arith, e))
