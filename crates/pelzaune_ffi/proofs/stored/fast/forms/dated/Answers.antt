use Rattle.std.proofs.Common.{get_or, refl, false, arith}
use Rattle.pelzaune_ffi.proofs.StoredRows.{flagged, padded, row_of}
use Rattle.pelzaune_ffi.specs.Described.{chosen}
use Rattle.pelzaune_ffi.proofs.stored.fast.forms.dated.Goals as goal

pub returns-then-is_flagged-2 : goal.returns-then-is_flagged-2
returns-then-is_flagged-2 c =
    let steps = c.args.steps.now in
    let none = chosen 0 0 false in
    rw (
      row_of steps none 5 (omega arith),
      padded (get_or steps 0 none) 5 (c.if-is_padded.ensures refl),
      c.in_ok-between.ensures.first,
      flagged (get_or steps 2 none) 6 1 (c.if-is_flagged.ensures refl),
      c.in_ok-between.ensures.second,
      flagged (get_or steps 4 none) 17 0 (c.if-is_flagged-2.ensures refl),
    ) refl

pub returns-then-is_flagged-3 : goal.returns-then-is_flagged-3
returns-then-is_flagged-3 c =
    let steps = c.args.steps.now in
    let none = chosen 0 0 false in
    rw (
      row_of steps none 5 (omega arith),
      flagged (get_or steps 0 none) 17 0 (c.if-is_flagged-3.ensures refl),
      c.in_ok-between.ensures.first,
      padded (get_or steps 2 none) 8 (c.if-not-is_padded.ensures refl),
      c.in_ok-between.ensures.second,
      padded (get_or steps 4 none) 5 (c.if-not-is_padded-2.ensures refl),
    ) refl

pub returns-then-is_flagged-4 : goal.returns-then-is_flagged-4
returns-then-is_flagged-4 c =
    let steps = c.args.steps.now in
    let none = chosen 0 0 false in
    rw (
      row_of steps none 5 (omega arith),
      flagged (get_or steps 0 none) 18 0 (c.if-is_flagged-4.ensures refl),
      c.in_ok-between.ensures.first,
      padded (get_or steps 2 none) 8 (c.if-not-is_padded.ensures refl),
      c.in_ok-between.ensures.second,
      padded (get_or steps 4 none) 5 (c.if-not-is_padded-2.ensures refl),
    ) refl
