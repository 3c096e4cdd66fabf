use Rattle.std.proofs.Common.{Err, refl}
use Rattle.restamp_formats.specs.Common.{greatest_year}
use Rattle.restamp_formats.proofs.{SatisfiesLemmas.gives_so, ParseLemmas.locally-on, ParseLemmas.on_none}
use Rattle.restamp_formats.proofs.local.read_unplaced.Goals as goal

pub returns-in-Some-clause-said : goal.returns-in-Some-clause-said
returns-in-Some-clause-said g c =
    gives_so g.E.FromReason.is_of c.read.result
    (λ given on. locally-on c.args.reading.now c.args.is_prefix c.args.text.now c.args.defaults.now c.requires.0
    c.in-Some.clocks given c.in-Some.is c.requires.2 on)
    c.read.ensures.said

pub returns-in-None-clause-said : goal.returns-in-None-clause-said
returns-in-None-clause-said g c = (
  c.requires.0,
  c.requires.1,
  (Err c.requires.0, c.requires.2, on_none c.args.defaults.now.clocks _ _ c.in-None.is refl),
)
