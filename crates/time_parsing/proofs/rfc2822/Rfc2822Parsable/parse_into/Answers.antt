use Rattle.std.proofs.Common.{◌≡◌, ◌∙◌, ◌≤◌, ℕ, Option, Some, IfSome, true, ap, arith, subst, sym}
use Rattle.time_values.specs.Calendar.{greatest_year}
use Rattle.time_readers.specs.Readers.{IsWithin}
use Rattle.time_readers.proofs.MailRanges.{InPlaces, HasForm-in_places}
use Rattle.time_parsing.specs.Rfc2822.{date_entries, time_entries, offset_entries}
use Rattle.time_parsing.proofs.TreeLemmas.{put_all-parts}
use Rattle.time_parsing.proofs.rfc2822.Rfc2822Parsable.parse_into.Goals as goal
use Rattle.time_parsing.proofs.rfc2822.Rfc2822Parsable.parse_into.Goals.{In-Ok}

-- the numbers are in the ranges of their places
in_places : (c : In-Ok) → InPlaces true c.in-Ok.found.1
in_places c = HasForm-in_places true c.args.input.now c.in-Ok.found.0.now c.in-Ok.found.1 c.in-Ok.ensures

pub put_date-requires-clause-day : goal.put_date-requires-clause-day
put_date-requires-clause-day c = (in_places (goal.at.put_date-requires-clause-day c).In-Ok).day

pub put_date-requires-clause-year : goal.put_date-requires-clause-year
put_date-requires-clause-year c = omega (arith, (in_places (goal.at.put_date-requires-clause-year c).In-Ok).year)

pub put_time-requires-clause-hour : goal.put_time-requires-clause-hour
put_time-requires-clause-hour c = (in_places (goal.at.put_time-requires-clause-hour c).In-Ok).hour.1

pub put_time-requires-clause-minute : goal.put_time-requires-clause-minute
put_time-requires-clause-minute c = (in_places (goal.at.put_time-requires-clause-minute c).In-Ok).minute.1

at_most_60 : (o : Option ℕ) → IfSome o (IsWithin true 0 60) → (v : ℕ) → o ≡ Some v → v ≤ 60
at_most_60 o h v e = (subst (λ (x : Option ℕ). IfSome x (IsWithin true 0 60)) e h).1

pub put_time-requires-clause-second : goal.put_time-requires-clause-second
put_time-requires-clause-second c =
    at_most_60 c.in-Ok.found.1.second (in_places (goal.at.put_time-requires-clause-second c).In-Ok).second

pub put_offset-requires-clause-hour : goal.put_offset-requires-clause-hour
put_offset-requires-clause-hour c = (in_places (goal.at.put_offset-requires-clause-hour c).In-Ok).offset_hour.1

pub put_offset-requires-clause-minute : goal.put_offset-requires-clause-minute
put_offset-requires-clause-minute c = (in_places (goal.at.put_offset-requires-clause-minute c).In-Ok).offset_minute.1

pub returns-in-Ok : goal.returns-in-Ok
returns-in-Ok c =
    let numbers = c.in-Ok.found.1 in
    let parts =
    put_all-parts greatest_year (date_entries numbers) (time_entries numbers) (offset_entries numbers.offset_sign numbers)
    c.args.parsed.now c.put_date.new.parsed c.put_time.new.parsed c.put_offset.new.parsed
    c.put_date.ensures c.put_time.ensures c.put_offset.ensures in
    (numbers, c.in-Ok.ensures, parts ∙ ap Some (sym c.allow_leap_second.ensures))
