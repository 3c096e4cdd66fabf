use Rattle.std.proofs.Common.{subst, true}
use Rattle.time_digits.specs.Digits.{Cut}
use Rattle.time_readers.specs.Rfc3339.{PlaceSyntax}
use Rattle.time_locating.proofs.rfc3339.past.Goals as goal

pub returns-in-OffsetHour : goal.returns-in-OffsetHour
returns-in-OffsetHour c n m rest h cut =
    c.past_offset_hour-is_zulu.ensures n m rest h (subst (λ p. Cut (PlaceSyntax true p n) c.args.input.now rest m) c.in-OffsetHour.is cut)
