use Rattle.std.proofs.Common.{◌≡◌, List, [], drop, Ok, Err, refl, sym, subst, arith}
use Rattle.std.proofs.Math.ListN.{drop_of_length-le}
use Rattle.restamp_formats.specs.{Common.greatest_year, Common.Reading, Reading.AreTried}
use Rattle.restamp_formats.proofs.ParseLemmas.{tried-here, tried-later}
use Rattle.restamp_formats.proofs.dated.read_others.Goals as goal

pub returns-in-Ok-clause-said : goal.returns-in-Ok-clause-said
returns-in-Ok-clause-said g c = λ reason of.
    c.loop-reading.invariant reason (Ok c.in-Ok.said)
    (tried-here c.args.readings.now c.loop-reading.reading-index c.reading-item.result c.loop-reading-test.true
    c.reading-item.is c.args.is_prefix c.args.text.now c.args.defaults.now reason c.in-Ok.said c.in-Ok.ensures.said)

pub loop-reading-preserved : goal.loop-reading-preserved
loop-reading-preserved g c = λ reason result later.
    let why = c.in_default.ensures.said in
    c.loop-reading.invariant reason result
    (tried-later c.args.readings.now c.loop-reading.reading-index c.reading-item.result c.loop-reading-test.true
    c.reading-item.is c.args.is_prefix c.args.text.now c.args.defaults.now reason why.0 result why.2 later)

pub returns-clause-said : goal.returns-clause-said
returns-clause-said g c = λ reason of.
    let none : drop c.loop-reading.reading-index c.args.readings.now ≡ [] = drop_of_length-le c.args.readings.now (omega arith) in (
      reason,
      of,
      c.loop-reading.invariant reason (Err reason)
          (subst (λ (left : List Reading). AreTried left c.args.is_prefix c.args.text.now c.args.defaults.now reason (Err reason))
          (sym none) refl),
    )
