use Rattle.std.proofs.Common.{◌≡◌, ◌∙◌, ◌<◌, ◌≤◌, ℕ, Option, Some, IfSome, true, ap, arith, subst, sym}
use Rattle.time_values.specs.Calendar.{greatest_year}
use Rattle.time_readers.proofs.RangedForms.{InPlaces, HasForm-in_places}
use Rattle.time_parsing.specs.Rfc3339.{date_entries, time_entries, offset_entries}
use Rattle.time_parsing.proofs.TreeLemmas.{put_all-parts}
use Rattle.time_parsing.proofs.rfc3339.Rfc3339Parsable.parse_into.Goals as goal
use Rattle.time_parsing.proofs.rfc3339.Rfc3339Parsable.parse_into.Goals.{In-Ok}

-- the numbers are in the ranges of their places
in_places : (c : In-Ok) → InPlaces true c.in-Ok.found.1
in_places c = HasForm-in_places true c.args.input.now c.in-Ok.found.0.now c.in-Ok.found.1 c.in-Ok.ensures

pub put_date-requires-clause-year : goal.put_date-requires-clause-year
put_date-requires-clause-year c = omega (arith, (in_places (goal.at.put_date-requires-clause-year c).In-Ok).year)

pub put_date-requires-clause-month : goal.put_date-requires-clause-month
put_date-requires-clause-month c = (in_places (goal.at.put_date-requires-clause-month c).In-Ok).month

pub put_date-requires-clause-day : goal.put_date-requires-clause-day
put_date-requires-clause-day c = (in_places (goal.at.put_date-requires-clause-day c).In-Ok).day

pub put_time-requires-clause-hour : goal.put_time-requires-clause-hour
put_time-requires-clause-hour c = (in_places (goal.at.put_time-requires-clause-hour c).In-Ok).hour.1

pub put_time-requires-clause-minute : goal.put_time-requires-clause-minute
put_time-requires-clause-minute c = (in_places (goal.at.put_time-requires-clause-minute c).In-Ok).minute.1

pub put_time-requires-clause-second : goal.put_time-requires-clause-second
put_time-requires-clause-second c = (in_places (goal.at.put_time-requires-clause-second c).In-Ok).second.1

pub put_offset-requires-clause-hour : goal.put_offset-requires-clause-hour
put_offset-requires-clause-hour c = (in_places (goal.at.put_offset-requires-clause-hour c).In-Ok).offset_hour

pub put_offset-requires-clause-minute : goal.put_offset-requires-clause-minute
put_offset-requires-clause-minute c = (in_places (goal.at.put_offset-requires-clause-minute c).In-Ok).offset_minute.1

below_second : (o : Option ℕ) → IfSome o (λ v. v ≤ 999999999) → (v : ℕ) → o ≡ Some v → v < 1000000000
below_second o h v e = let k : v ≤ 999999999 = subst (λ (x : Option ℕ). IfSome x (λ v. v ≤ 999999999)) e h in omega arith

pub put_time-requires-clause-subsecond : goal.put_time-requires-clause-subsecond
put_time-requires-clause-subsecond c =
    below_second c.in-Ok.found.1.subsecond (in_places (goal.at.put_time-requires-clause-subsecond c).In-Ok).subsecond

pub returns-in-Ok : goal.returns-in-Ok
returns-in-Ok c =
    let numbers = c.in-Ok.found.1 in
    let date = c.put_date.ensures in
    let parts =
    put_all-parts greatest_year (date_entries numbers date.0) (time_entries numbers) (offset_entries numbers)
    c.args.parsed.now c.put_date.new.parsed c.put_time.new.parsed c.put_offset.new.parsed date.2 c.put_time.ensures c.put_offset.ensures in
    (numbers, date.0, c.in-Ok.ensures, date.1, parts ∙ ap Some (sym c.allow_leap_second.ensures))
