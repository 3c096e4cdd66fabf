use Rattle.std.proofs.Common.{false, refl}
use Rattle.time_readers.specs.Rfc2822.{PlaceSyntax}
use Rattle.time_readers.specs.declared.rfc2822.Place.TheVariants as place
use Rattle.time_readers.proofs.MailBlanks.{Reads-none, no_year}
use Rattle.time_readers.proofs.rfc2822.grammar.year.Goals as goal

pub returns-then-full-lt1900 : goal.returns-then-full-lt1900
returns-then-full-lt1900 c =
    Reads-none (PlaceSyntax false place.Year c.args.numbers.now) c.args.input.now _ c.args.numbers.now refl (λ text rest m e asks.
    no_year _ _ _ c.in-Some.ensures c.if-full-lt1900.true text rest e asks.0 asks.1 asks.2)
