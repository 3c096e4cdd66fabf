use Rattle.std.proofs.Common.{ℤ, arith, sym, subst}
use Rattle.std.proofs.lemmas.Int.{ints, to_z-of_z}
use Rattle.std.specs.Int.{w128}
use Rattle.restamp_formats.specs.Common.{IsInstant, IsWhole, greatest_year}
use Rattle.restamp_formats.proofs.CountLemmas.{microseconds_short}
use Rattle.restamp_formats.proofs.form.microseconds_of.Goals as goal

pub returns-clause-count : goal.returns-clause-count
returns-clause-count c =
    let stamp = c.in_ok-stamp_of in
    let kept = to_z-of_z w128 c.as_microseconds.result (omega (arith, ints)) in
    rw kept (
      stamp.ensures.0,
      subst (λ (n : ℤ). IsWhole 1_000 n c.as_microseconds.result) stamp.ensures.1 c.as_microseconds.ensures,
    )

pub returns-clause-short : goal.returns-clause-short
returns-clause-short c =
    let stamp = c.in_ok-stamp_of in
    microseconds_short stamp.field-0.nanoseconds c.as_microseconds.result
    (subst (IsInstant greatest_year) (sym stamp.ensures.1) stamp.ensures.0) c.as_microseconds.ensures
