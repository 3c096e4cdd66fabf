use Rattle.std.proofs.Common.{false}
use Rattle.time_values.specs.Calendar.{greatest_year}
use Rattle.time_components.specs.Tree.{component, none}
use Rattle.time_components.specs.declared.format_description.Component.TheVariants.{MonthShort, Day}
use Rattle.time_preparing.specs.declared.forms.TheConstants.{MONTH_NAME, SPACED_DAY}
use Rattle.time_preparing.proofs.Parts.{read_all, byte_read, tree_read}
use Rattle.time_preparing.proofs.walk.front.month_day.Goals as goal

pub returns-in_default-clause-read : goal.returns-in_default-clause-read
returns-in_default-clause-read c =
    rw (c.none.ensures.count, c.none.ensures.rest, c.in_default.ensures) (read_all c.args.input.now c.args.parsed.now)

pub returns-in_default-after-clause-read : goal.returns-in_default-after-clause-read
returns-in_default-after-clause-read c =
    rw (c.part.ensures.count, c.part.ensures.rest) (tree_read none _ _ _ (component false (MonthShort MONTH_NAME)) _ _ _
    c.in-Some.ensures (read_all _ _))

pub returns-in_default-day-clause-read : goal.returns-in_default-day-clause-read
returns-in_default-day-clause-read c =
    rw (c.part-in_default-day.ensures.count, c.part-in_default-day.ensures.rest, c.in_default-day.ensures)
    (tree_read _ _ _ _ (component false (MonthShort MONTH_NAME)) _ _ _ c.in-Some.ensures
    (byte_read none _ _ _ c.args.between _ _ c.in-Some-after.ensures (read_all _ _)))

pub returns-clause-read : goal.returns-clause-read
returns-clause-read c =
    tree_read _ _ _ _ (component false (MonthShort MONTH_NAME)) _ _ _ c.in-Some.ensures
    (byte_read _ _ _ _ c.args.between _ _ c.in-Some-after.ensures
    (tree_read none _ _ _ (component false (Day SPACED_DAY)) _ _ _ c.in-Some-day.ensures (read_all _ _)))
