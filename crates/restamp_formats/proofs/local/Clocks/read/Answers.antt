use Rattle.std.proofs.Common.{refl}
use Rattle.restamp_formats.specs.{Common.greatest_year, Reason.seen}
use Rattle.restamp_formats.proofs.{SatisfiesLemmas.gives_so, ParseLemmas.on-unread, ParseLemmas.on-refused, ParseLemmas.on-shown}
use Rattle.restamp_formats.proofs.local.Clocks.read.Goals as goal

pub returns-in-Err-clause-said : goal.returns-in-Err-clause-said
returns-in-Err-clause-said g c =
    let why = c.in-Err.ensures.said in (
      why.0,
      why.1,
      on-unread c.args.reading.now c.args.is_prefix c.args.text.now c.args.defaults.now c.args.self.now _ c.at.result
          c.at.ensures (refl, refl, refl) why.0 why.2,
    )

pub returns-in-Ok-moment_when-clause-said : goal.returns-in-Ok-moment_when-clause-said
returns-in-Ok-moment_when-clause-said g c =
    gives_so g.E.FromReason.is_of c.parse_outlined-in-Ok-moment_when.result
    (λ given there. on-shown c.args.reading.now c.args.is_prefix c.args.text.now c.args.defaults.now c.args.self.now _
    c.at.result c.at.ensures (refl, refl, refl) c.in-Ok.said c.in-Ok-moment_when.moment c.at-in-Ok-moment_when.result given
    c.in-Ok.ensures.said c.in-Ok-moment_when.ensures (rw c.offset.ensures at c.at-in-Ok-moment_when.ensures) there)
    c.parse_outlined-in-Ok-moment_when.ensures.said

pub returns-in-Err-moment_when-clause-said : goal.returns-in-Err-moment_when-clause-said
returns-in-Err-moment_when-clause-said g c = (
  seen c.in-Err-moment_when.why,
  c.from_reason.ensures,
  on-refused c.args.reading.now c.args.is_prefix c.args.text.now c.args.defaults.now c.args.self.now _ c.at.result
      c.at.ensures (refl, refl, refl) c.in-Ok.said (seen c.in-Err-moment_when.why) c.in-Ok.ensures.said c.in-Err-moment_when.ensures,
)
