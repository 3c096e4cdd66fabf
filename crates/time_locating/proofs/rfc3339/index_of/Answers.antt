use Rattle.std.proofs.Common.{refl, ◌∙◌, arith}
use Rattle.time_digits.proofs.WordBytes.{take-drop}
use Rattle.time_readers.specs.declared.rfc3339.Place.TheVariants as place
use Rattle.time_locating.proofs.Rfc3339Places.{AfterFraction, at_offset_colon, at_offset_hour, at_offset_minute, fixed}
use Rattle.time_locating.proofs.rfc3339.index_of.Goals as goal
use Rattle.time_locating.proofs.rfc3339.index_of.Goals.{in-OffsetHour, in-OffsetColon, in-OffsetMinute, in-Some, in-None}

pub returns-in-Year : goal.returns-in-Year
returns-in-Year c stop = fixed c.args.input.now c.args.place place.Year 0 c.in-Year.is refl stop

pub returns-in-YearDash : goal.returns-in-YearDash
returns-in-YearDash c stop = fixed c.args.input.now c.args.place place.YearDash 4 c.in-YearDash.is refl stop

pub returns-in-Month : goal.returns-in-Month
returns-in-Month c stop = fixed c.args.input.now c.args.place place.Month 5 c.in-Month.is refl stop

pub returns-in-MonthDash : goal.returns-in-MonthDash
returns-in-MonthDash c stop = fixed c.args.input.now c.args.place place.MonthDash 7 c.in-MonthDash.is refl stop

pub returns-in-Day : goal.returns-in-Day
returns-in-Day c stop = fixed c.args.input.now c.args.place place.Day 8 c.in-Day.is refl stop

pub returns-in-Separator : goal.returns-in-Separator
returns-in-Separator c stop = fixed c.args.input.now c.args.place place.Separator 10 c.in-Separator.is refl stop

pub returns-in-Hour : goal.returns-in-Hour
returns-in-Hour c stop = fixed c.args.input.now c.args.place place.Hour 11 c.in-Hour.is refl stop

pub returns-in-HourColon : goal.returns-in-HourColon
returns-in-HourColon c stop = fixed c.args.input.now c.args.place place.HourColon 13 c.in-HourColon.is refl stop

pub returns-in-Minute : goal.returns-in-Minute
returns-in-Minute c stop = fixed c.args.input.now c.args.place place.Minute 14 c.in-Minute.is refl stop

pub returns-in-MinuteColon : goal.returns-in-MinuteColon
returns-in-MinuteColon c stop = fixed c.args.input.now c.args.place place.MinuteColon 16 c.in-MinuteColon.is refl stop

pub returns-in-Second : goal.returns-in-Second
returns-in-Second c stop = fixed c.args.input.now c.args.place place.Second 17 c.in-Second.is refl stop

pub returns-in-Subsecond : goal.returns-in-Subsecond
returns-in-Subsecond c stop = fixed c.args.input.now c.args.place place.Subsecond 19 c.in-Subsecond.is refl stop

pub returns : goal.returns
returns c stop =
    let bytes = c.args.input.now in
    let get = c.get.ensures.lookup in
    let len : AfterFraction bytes c.match-get.fraction = elim c.match-get.branch [
      | in-Some w ↦
          let found = rw w.in-Some.is at get.0 in
          λ long text rest v cut form.
          w.fraction-is ∙ w.fraction_len-fraction.ensures.is text rest v (found.2 ∙ take-drop bytes 19 long ∙ cut) form
      | in-None w ↦ λ long. let clash = rw w.in-None.is at (get.1 (long, omega arith)) in cc
    ] in
    elim c.match-place.branch [
      | in-OffsetHour w ↦
          let sum = at_offset_hour bytes c.match-get.fraction len c.args.place w.in-OffsetHour.is stop in
          omega (arith, w.past_fraction-is, c.saturating_add.ensures)
      | in-OffsetColon w ↦
          let sum = at_offset_colon bytes c.match-get.fraction len c.args.place w.in-OffsetColon.is stop in
          omega (arith, w.past_fraction-is, c.saturating_add.ensures)
      | in-OffsetMinute w ↦
          let sum = at_offset_minute bytes c.match-get.fraction len c.args.place w.in-OffsetMinute.is stop in
          omega (arith, w.past_fraction-is, c.saturating_add.ensures)
    ]
