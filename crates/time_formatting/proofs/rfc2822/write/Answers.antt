use Rattle.std.proofs.Common.{rules, ap, ◌∙◌}
use Rattle.std.proofs.lemmas.List.{append_assoc}
use Rattle.time_values.specs.Dates as Dates
use Rattle.time_values.specs.Calendar.{greatest_year}
use Rattle.time_formatting.proofs.rfc2822.write.Goals as goal

pub returns : goal.returns
returns c =
    (c.weekday.result, c.weekday.ensures ∙ ap (λ d. Dates.weekday greatest_year d) c.date-date.ensures, search (append_assoc, rules))
