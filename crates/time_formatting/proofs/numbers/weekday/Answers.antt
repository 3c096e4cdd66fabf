use Rattle.std.proofs.Common.{◌∙◌, ap, sym}
use Rattle.time_values.specs.Dates as Dates
use Rattle.time_values.specs.Calendar.{greatest_year}
use Rattle.time_values.specs.Names.{weekday_at}
use Rattle.time_values.proofs.NumberLemmas.{weekday_at-days_from_monday}
use Rattle.time_formatting.specs.Components.{weekday_of}
use Rattle.time_formatting.proofs.numbers.weekday.Goals as goal

pub returns : goal.returns
unfolding weekday_of
returns c =
    sym (weekday_at-days_from_monday c.weekday.result)
    ∙ ap weekday_at c.weekday.ensures
    ∙ ap (λ d. weekday_at (Dates.weekday greatest_year d)) c.date.ensures
