use Rattle.time_readers.specs.Direct.{IsLeapSecondValid}
use Rattle.time_readers.proofs.direct.is_leap_second_valid.Goals as goal

pub returns-else-said-ne60 : goal.returns-else-said-ne60
unfolding IsLeapSecondValid
returns-else-said-ne60 c =
    let tells = c.is_valid_leap_second_stand_in.ensures in
    (λ is. (λ leap. tells.0 is), λ stands. tells.1 (stands c.if-said-ne60.false))
