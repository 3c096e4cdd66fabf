use Rattle.std.proofs.Common.{ap, sym, ◌∙◌, refl, is_some, true}
use Rattle.time_readers.specs.declared.rfc2822.Numbers.{Numbers}
use Rattle.time_readers.specs.declared.rfc2822.Place.TheVariants as place
use Rattle.time_readers.proofs.MailRanges.{alone}
use Rattle.time_locating.proofs.MailParts.{asked, kept}
use Rattle.time_locating.proofs.rfc2822.past.Goals as goal

pub returns-in-WeekdayName : goal.returns-in-WeekdayName
returns-in-WeekdayName c n m rest h cut =
    let a = asked n m _ rest _ place.WeekdayName c.in-WeekdayName.is cut in
    (c.past_weekday.ensures rest a.2.0 (a.0, a.1, a.2.1), kept n m _ _ a.2.2 refl refl h)

pub returns-in-Day : goal.returns-in-Day
returns-in-Day c n m rest h cut =
    let a = asked n m _ rest _ place.Day c.in-Day.is cut in
    (c.past_day.ensures rest a.2.0 (a.0, a.1, a.2.1), kept n m _ _ a.2.3 refl refl h)

pub returns-in-Year : goal.returns-in-Year
returns-in-Year c n m rest h cut =
    let a = asked n m _ rest _ place.Year c.in-Year.is cut in
    let found = c.past_year-is_full.ensures a.2.0 rest a.2.1 (a.0, a.1, a.2.2) in
    (found.0, (ap (λ (x : Numbers). x.year_is_full) a.2.3 ∙ sym found.1, ap (λ (x : Numbers). is_some x.offset_sign) a.2.3 ∙ h.1))

pub returns-in-Second : goal.returns-in-Second
returns-in-Second c n m rest h cut =
    let a = asked n m _ rest _ place.Second c.in-Second.is cut in
    (c.past_second.ensures rest a.2.0 (a.0, a.1, a.2.1), kept n m _ _ a.2.2 refl refl h)

pub returns-in-OffsetHour : goal.returns-in-OffsetHour
returns-in-OffsetHour c n m rest h cut =
    let a = asked n m _ rest _ place.OffsetHour c.in-OffsetHour.is cut in
    let found = c.past_offset_hour-has_sign.ensures n m rest a in
    (found.0, (ap (λ (x : Numbers). x.year_is_full) (alone true place.OffsetHour n m a.0 rest a.2) ∙ h.0, sym found.1))
