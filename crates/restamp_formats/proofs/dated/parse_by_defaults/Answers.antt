use Rattle.std.proofs.Common.{ℤ, pos, Err, ap, refl, subst, arith, ◌+ℤ◌}
use Rattle.std.proofs.lemmas.Int.{ints}
use Rattle.restamp_formats.specs.{Common.greatest_year, Reading.undated, Reading.AreYearsTried}
use Rattle.restamp_formats.proofs.{SatisfiesLemmas.gives_so, ParseLemmas.one_more, ParseLemmas.dated-years, ParseLemmas.on_none}
use Rattle.restamp_formats.proofs.dated.parse_by_defaults.Goals as goal

pub returns-in_default-clause-said : goal.returns-in_default-clause-said
returns-in_default-clause-said g c =
    let why = c.in-Err.ensures.said in
    (why.0, why.1, (Err why.0, why.2, on_none c.args.defaults.now.latest _ _ c.in_default.is refl))

pub returns-in-Some-clause-said : goal.returns-in-Some-clause-said
returns-in-Some-clause-said g c =
    let u = undated c.args.reading.now c.args.is_prefix c.args.text.now c.args.defaults.now.offset c.args.defaults.now.clocks c.in-Some.latest in
    let why = c.in-Err.ensures.said in
    gives_so g.E.FromReason.is_of c.read_years.result
    (λ given tried. dated-years c.args.reading.now c.args.is_prefix c.args.text.now c.args.defaults.now why.0
    c.in-Some.latest (c.year.result +ℤ pos 1) given c.in-Some.is why.2 (ap (λ (y : ℤ). y +ℤ pos 1) c.year.ensures)
    (subst (λ (y : ℤ). AreYearsTried u 10 y why.0 given)
    (one_more c.year.result (omega (arith, ints)) (omega (arith, ints))) tried))
    (c.read_years.ensures.said why.0 why.1)
