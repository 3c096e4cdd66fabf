use Rattle.std.proofs.Common.{refl}
use Rattle.time_components.specs.Spelling.{month}
use Rattle.time_readers.proofs.MailBlanks.{Reads-none}
use Rattle.time_readers.proofs.rfc2822.grammar.month_name.Goals as goal

pub returns-in_err-found : goal.returns-in_err-found
returns-in_err-found c =
    Reads-none _ _ _ _ c.from_residual.ensures (λ text rest m e asks. c.in_err-found.ensures text rest (month asks.0) e (asks.0, refl, asks.1))
