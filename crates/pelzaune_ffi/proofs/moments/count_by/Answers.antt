use Rattle.std.proofs.Common.{sym}
use Rattle.pelzaune_ffi.specs.Results.{IsCountStored}
use Rattle.pelzaune_ffi.proofs.StrictMoments.{strict_moment}
use Rattle.pelzaune_ffi.proofs.moments.count_by.Goals as goal

pub returns-in-Some-Rfc3339Strict : goal.returns-in-Some-Rfc3339Strict
returns-in-Some-Rfc3339Strict c =
    let call = c.count_3339-in-Some-Rfc3339Strict in
    rw (sym c.in-Some-Rfc3339Strict.ensures, c.in-Some-Rfc3339Strict.field-0-is)
    (strict_moment IsCountStored c.args.text.now call.result c.args.out.now call.new.out (rw c.strict_text.ensures at call.ensures))
