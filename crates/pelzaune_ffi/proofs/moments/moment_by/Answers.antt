use Rattle.std.proofs.Common.{sym}
use Rattle.pelzaune_ffi.specs.Results.{IsStored}
use Rattle.pelzaune_ffi.proofs.StrictMoments.{strict_moment}
use Rattle.pelzaune_ffi.proofs.moments.moment_by.Goals as goal

pub returns-in-Some-Rfc3339Strict : goal.returns-in-Some-Rfc3339Strict
returns-in-Some-Rfc3339Strict g c =
    let call = c.moment_3339-in-Some-Rfc3339Strict in
    rw (sym c.in-Some-Rfc3339Strict.ensures, c.in-Some-Rfc3339Strict.field-0-is)
    (strict_moment (IsStored g.P.From.from_gives) c.args.text.now call.result c.args.out.now call.new.out (rw c.strict_text.ensures at call.ensures))
