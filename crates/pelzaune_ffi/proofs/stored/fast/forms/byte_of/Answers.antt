use Rattle.pelzaune_ffi.proofs.StoredRows.{literal}
use Rattle.pelzaune_ffi.proofs.stored.fast.forms.byte_of.Goals as goal

pub returns : goal.returns
returns c = literal c.args.step.now c.if-step-ne-LITERAL.false
