use Rattle.std.proofs.Common.{true, false, refl, ◌-◌, ℤ, sym, subst, arith, ◌∙◌, Ok, Err}
use Rattle.std.proofs.lemmas.Int.{ints, to_z-of_z}
use Rattle.std.specs.Int.{w32}
use Rattle.restamp_formats.specs.{Common.greatest_year, Reading.erased_undated, Reading.AreYearsTried}
use Rattle.restamp_formats.proofs.ParseLemmas.{one_less, years-at, years-end}
use Rattle.restamp_formats.proofs.SatisfiesLemmas.{gives_so}
use Rattle.restamp_formats.proofs.dated.Undated.+read_years.Goals as goal

pub returns-then-count-eq0-clause-said : goal.returns-then-count-eq0-clause-said
returns-then-count-eq0-clause-said g t c = λ reason of. (
  reason,
  of,
  years-end (erased_undated c.args.self.now) c.args.year reason c.args.count c.if-count-eq0.true,
)

pub returns-then-is_after-clause-said : goal.returns-then-is_after-clause-said
returns-then-is_after-clause-said g t c = λ reason of.
    let u = erased_undated c.args.self.now in
    let read = rw (to_z-of_z w32 c.args.year c.ranges.year) at c.in-Ok.ensures.said in
    gives_so g.E.FromReason.is_of c.read_years.result
    (λ given later. years-at u c.args.year reason c.args.count given (Ok c.in-Ok.said) (omega arith) read
    (rw (sym c.is_after.ensures ∙ c.if-is_after.true)
    (subst (λ (y : ℤ). AreYearsTried u (c.args.count - 1) y reason given)
    (one_less c.args.year c.ranges.year (omega (arith, ints))) later)))
    (c.read_years.ensures.said reason of)

pub returns-else-is_after-clause-said : goal.returns-else-is_after-clause-said
returns-else-is_after-clause-said g t c = λ reason of.
    let u = erased_undated c.args.self.now in
    let read = rw (to_z-of_z w32 c.args.year c.ranges.year) at c.in-Ok.ensures.said in
    years-at u c.args.year reason c.args.count (Ok c.in-Ok.said) (Ok c.in-Ok.said) (omega arith) read
    (rw (sym c.is_after.ensures ∙ c.if-is_after.false) refl)

pub returns-then-is_final-clause-said : goal.returns-then-is_final-clause-said
returns-then-is_final-clause-said g t c = λ reason of.
    let u = erased_undated c.args.self.now in
    let why = c.in-Err.ensures.said in
    let read = rw (to_z-of_z w32 c.args.year c.ranges.year) at why.2 in
    let final = rw (to_z-of_z w32 c.args.year c.ranges.year, c.if-is_final.true) at (c.is_final.ensures why.0 why.1) in (
      why.0,
      why.1,
      years-at u c.args.year reason c.args.count (Err why.0) (Err why.0) (omega arith) read (true, final, refl),
    )

pub returns-else-is_final-clause-said : goal.returns-else-is_final-clause-said
returns-else-is_final-clause-said g t c = λ reason of.
    let u = erased_undated c.args.self.now in
    let why = c.in-Err.ensures.said in
    let read = rw (to_z-of_z w32 c.args.year c.ranges.year) at why.2 in
    let final = rw (to_z-of_z w32 c.args.year c.ranges.year, c.if-is_final.false) at (c.is_final.ensures why.0 why.1) in
    gives_so g.E.FromReason.is_of c.read_years-in-Err.result
    (λ given later. years-at u c.args.year reason c.args.count given (Err why.0) (omega arith) read (
      false,
      final,
      subst (λ (y : ℤ). AreYearsTried u (c.args.count - 1) y why.0 given)
          (one_less c.args.year c.ranges.year (omega (arith, ints))) later,
    ))
    (c.read_years-in-Err.ensures.said why.0 why.1)

pub read_years-requires : goal.read_years-requires
read_years-requires g t c κs within = (
  omega (arith, c.decreases, c.if-count-eq0.false),
  (within, omega (arith, ints, one_less c.args.year c.ranges.year (omega (arith, ints)), c.requires.le)),
)
