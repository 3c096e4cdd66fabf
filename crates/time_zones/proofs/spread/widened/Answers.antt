use Rattle.std.proofs.Common.{rules, arith}
use Rattle.std.proofs.lemmas.Int.{ints}
use Rattle.jiff_core.specs.DateTime.{civil_nanos}
use Rattle.time_zones.specs.Spread.{HasOffset}
use Rattle.time_zones.proofs.spread.widened.Goals as goal

pub returns-then-found-offset-clause-ends : goal.returns-then-found-offset-clause-ends
returns-then-found-offset-clause-ends c =
    let has : HasOffset c.args.zone.now (civil_nanos c.args.civil) c.args.offset.seconds = search rules in
    let ends = c.requires c.in-Some.found c.in-Some.is in
    record {
      greatest = has;
      least = ends.least;
      rising = omega (arith, ints, ends.rising, c.if-found-offset.true);
    }

pub returns-then-found-offset-clause-covered : goal.returns-then-found-offset-clause-covered
returns-then-found-offset-clause-covered c = λ has.
    let ends = c.requires c.in-Some.found c.in-Some.is in
    (omega (arith, ints, ends.rising, c.if-found-offset.true), omega (arith, ints))

pub returns-then-offset-found-clause-ends : goal.returns-then-offset-found-clause-ends
returns-then-offset-found-clause-ends c =
    let has : HasOffset c.args.zone.now (civil_nanos c.args.civil) c.args.offset.seconds = search rules in
    let ends = c.requires c.in-Some.found c.in-Some.is in
    record {
      greatest = ends.greatest;
      least = has;
      rising = omega (arith, ints, ends.rising, c.if-offset-found.true);
    }

pub returns-clause-ends : goal.returns-clause-ends
returns-clause-ends c = c.requires c.in-Some.found c.in-Some.is
