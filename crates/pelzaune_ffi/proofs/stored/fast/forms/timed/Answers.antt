use Rattle.std.proofs.Common.{get_or, refl, false, arith}
use Rattle.pelzaune_ffi.proofs.StoredRows.{padded, row_of}
use Rattle.pelzaune_ffi.specs.Described.{chosen}
use Rattle.pelzaune_ffi.proofs.stored.fast.forms.timed.Goals as goal

pub returns : goal.returns
returns c =
    let steps = c.args.steps.now in
    let none = chosen 0 0 false in
    rw (
      row_of steps none 5 (omega arith),
      padded (get_or steps 0 none) 28 (c.if-not-is_padded.ensures refl),
      c.in_ok-between.ensures.first,
      padded (get_or steps 2 none) 29 (c.if-not-is_padded-2.ensures refl),
      c.in_ok-between.ensures.second,
      padded (get_or steps 4 none) 31 (c.if-not-is_padded-3.ensures refl),
    ) refl
