use Rattle.std.proofs.Common.{false}
use Rattle.time_values.specs.Calendar.{greatest_year}
use Rattle.time_components.specs.Tree.{component, none}
use Rattle.time_components.specs.declared.format_description.Component.TheVariants.{Day, MonthShort, CalendarYearFullExtendedRange}
use Rattle.time_preparing.specs.declared.forms.TheConstants.{DAY, MONTH_NAME, YEAR}
use Rattle.time_preparing.proofs.Parts.{read_all, byte_read, tree_read}
use Rattle.time_preparing.proofs.walk.front.day_first.Goals as goal

pub returns-in_default-clause-read : goal.returns-in_default-clause-read
returns-in_default-clause-read c =
    rw (c.none.ensures.count, c.none.ensures.rest, c.in_default.ensures) (read_all c.args.input.now c.args.parsed.now)

pub returns-in_default-after-clause-read : goal.returns-in_default-after-clause-read
returns-in_default-after-clause-read c =
    rw (c.part.ensures.count, c.part.ensures.rest) (tree_read none _ _ _ (component false (Day DAY)) _ _ _ c.in-Some.ensures
    (read_all _ _))

pub returns-in_default-month_name-clause-read : goal.returns-in_default-month_name-clause-read
returns-in_default-month_name-clause-read c =
    rw (c.part-in_default-month_name.ensures.count, c.part-in_default-month_name.ensures.rest, c.in_default-month_name.ensures)
    (tree_read _ _ _ _ (component false (Day DAY)) _ _ _ c.in-Some.ensures
    (byte_read none _ _ _ c.args.between _ _ c.in-Some-after.ensures (read_all _ _)))

pub returns-in_default-after-2-clause-read : goal.returns-in_default-after-2-clause-read
returns-in_default-after-2-clause-read c =
    rw (c.part-in_default-after-2.ensures.count, c.part-in_default-after-2.ensures.rest)
    (tree_read _ _ _ _ (component false (Day DAY)) _ _ _ c.in-Some.ensures
    (byte_read _ _ _ _ c.args.between _ _ c.in-Some-after.ensures
    (tree_read none _ _ _ (component false (MonthShort MONTH_NAME)) _ _ _ c.in-Some-month_name.ensures (read_all _ _))))

pub returns-in_default-year-clause-read : goal.returns-in_default-year-clause-read
returns-in_default-year-clause-read c =
    rw (c.part-in_default-year.ensures.count, c.part-in_default-year.ensures.rest, c.in_default-year.ensures)
    (tree_read _ _ _ _ (component false (Day DAY)) _ _ _ c.in-Some.ensures
    (byte_read _ _ _ _ c.args.between _ _ c.in-Some-after.ensures
    (tree_read _ _ _ _ (component false (MonthShort MONTH_NAME)) _ _ _ c.in-Some-month_name.ensures
    (byte_read none _ _ _ c.args.between _ _ c.in-Some-after-2.ensures (read_all _ _)))))

pub returns-clause-read : goal.returns-clause-read
returns-clause-read c =
    tree_read _ _ _ _ (component false (Day DAY)) _ _ _ c.in-Some.ensures
    (byte_read _ _ _ _ c.args.between _ _ c.in-Some-after.ensures
    (tree_read _ _ _ _ (component false (MonthShort MONTH_NAME)) _ _ _ c.in-Some-month_name.ensures
    (byte_read _ _ _ _ c.args.between _ _ c.in-Some-after-2.ensures
    (tree_read none _ _ _ (component false (CalendarYearFullExtendedRange YEAR)) _ _ _ c.in-Some-year.ensures (read_all _ _)))))
