use Rattle.std.proofs.Common.{[], ◌∷◌, false, inr, arith}
use Rattle.time_values.specs.Calendar.{greatest_year}
use Rattle.time_components.specs.Tree.{component, none, more}
use Rattle.time_components.specs.declared.inspect.Step.TheVariants as step
use Rattle.time_preparing.specs.Walk.{fraction_tree, seconds_tree}
use Rattle.time_preparing.specs.declared.joined.Joined.TheVariants.{Byte, Component, Date, DayFirst, MonthDay, Time, Fraction, Seconds}
use Rattle.time_preparing.proofs.Going.{plain_front, whole_front}
use Rattle.time_preparing.proofs.Parts.{byte_may_read, tree_may_read}
use Rattle.time_preparing.proofs.Rows.{fraction_row, plain_row, second_row}
use Rattle.time_preparing.proofs.walk.front.read.Goals as goal

pub returns-in-Byte-clause-read : goal.returns-in-Byte-clause-read
returns-in-Byte-clause-read c =
    let b = c.in-Byte.byte in
    let read = byte_may_read b c.args.input.now c.args.parsed.now c.after.result c.after.ensures in
    rw c.in-Byte.is (inr (
      omega arith,
      omega arith,
      whole_front (Byte b) _ 1 _ _ _ _ _ c.after.result
          (λ after e. plain_row (step.Literal b ∷ []) after tt e) read c.whole.ensures.read,
    ))

pub returns-in-Component-clause-read : goal.returns-in-Component-clause-read
returns-in-Component-clause-read c =
    let w = c.in-Component.wanted in
    let read = tree_may_read (component false w) c.args.input.now c.args.parsed.now _ c.component.result c.component.ensures in
    rw c.in-Component.is (inr (
      omega arith,
      omega arith,
      whole_front (Component w) _ 1 _ _ _ _ _ c.component.result
          (λ after e. plain_row (step.Component w ∷ []) after tt e) read c.whole-in-Component.ensures.read,
    ))

pub returns-in-Date-clause-read : goal.returns-in-Date-clause-read
returns-in-Date-clause-read c =
    rw c.in-Date.is (inr (omega arith, omega arith, plain_front (Date c.in-Date.between) tt _ c.date.ensures.within _ _ _ _ c.date.ensures.read))

pub returns-in-DayFirst-clause-read : goal.returns-in-DayFirst-clause-read
returns-in-DayFirst-clause-read c =
    rw c.in-DayFirst.is (inr (
      omega arith,
      omega arith,
      plain_front (DayFirst c.in-DayFirst.between) tt _ c.day_first.ensures.within _ _ _ _
          c.day_first.ensures.read,
    ))

pub returns-in-MonthDay-clause-read : goal.returns-in-MonthDay-clause-read
returns-in-MonthDay-clause-read c =
    rw c.in-MonthDay.is (inr (
      omega arith,
      omega arith,
      plain_front (MonthDay c.in-MonthDay.between) tt _ c.month_day.ensures.within _ _ _ _
          c.month_day.ensures.read,
    ))

pub returns-in-Time-clause-read : goal.returns-in-Time-clause-read
returns-in-Time-clause-read c =
    rw c.in-Time.is (inr (omega arith, omega arith, plain_front (Time c.in-Time.between) tt _ c.time.ensures.within _ _ _ _ c.time.ensures.read))

pub returns-in-Fraction-clause-read : goal.returns-in-Fraction-clause-read
returns-in-Fraction-clause-read c =
    let p = c.in-Fraction.point in
    rw c.in-Fraction.is (inr (
      omega arith,
      omega arith,
      whole_front (Fraction p) (more (fraction_tree p) none) 3 _ _ _ _ _ c.fraction.result
          (λ after e. fraction_row p after) c.fraction.ensures c.whole-in-Fraction.ensures.read,
    ))

pub returns-in-Seconds-clause-read : goal.returns-in-Seconds-clause-read
returns-in-Seconds-clause-read c =
    let b = c.in-Seconds.between in
    let p = c.in-Seconds.point in
    rw c.in-Seconds.is (inr (
      omega arith,
      omega arith,
      whole_front (Seconds b p) (more (seconds_tree b p) none) 6 _ _ _ _ _ c.seconds.result
          (λ after e. second_row b p after) c.seconds.ensures c.whole-in-Seconds.ensures.read,
    ))
