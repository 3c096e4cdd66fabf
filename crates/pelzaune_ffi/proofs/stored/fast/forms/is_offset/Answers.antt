use Rattle.std.proofs.Common.{refl}
use Rattle.pelzaune_ffi.proofs.StoredRows.{flagged, padded}
use Rattle.pelzaune_ffi.proofs.stored.fast.forms.is_offset.Goals as goal

pub returns-then-is_flagged : goal.returns-then-is_flagged
returns-then-is_flagged c = λ so.
    rw (flagged c.args.hour.now 33 1 (c.if-is_flagged.ensures refl), padded c.args.minute.now 34 (c.is_padded.ensures so)) refl
