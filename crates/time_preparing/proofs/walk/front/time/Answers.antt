use Rattle.std.proofs.Common.{false}
use Rattle.time_values.specs.Calendar.{greatest_year}
use Rattle.time_components.specs.Tree.{component, none}
use Rattle.time_components.specs.declared.format_description.Component.TheVariants.{Hour24, Minute, Second}
use Rattle.time_preparing.specs.declared.forms.TheConstants.{HOUR, MINUTE, SECOND}
use Rattle.time_preparing.proofs.Parts.{read_all, byte_read, tree_read}
use Rattle.time_preparing.proofs.walk.front.time.Goals as goal

pub returns-in_default-clause-read : goal.returns-in_default-clause-read
returns-in_default-clause-read c =
    rw (c.none.ensures.count, c.none.ensures.rest, c.in_default.ensures) (read_all c.args.input.now c.args.parsed.now)

pub returns-in_default-after-clause-read : goal.returns-in_default-after-clause-read
returns-in_default-after-clause-read c =
    rw (c.part.ensures.count, c.part.ensures.rest) (tree_read none _ _ _ (component false (Hour24 HOUR)) _ _ _ c.in-Some.ensures
    (read_all _ _))

pub returns-in_default-minute-clause-read : goal.returns-in_default-minute-clause-read
returns-in_default-minute-clause-read c =
    rw (c.part-in_default-minute.ensures.count, c.part-in_default-minute.ensures.rest, c.in_default-minute.ensures)
    (tree_read _ _ _ _ (component false (Hour24 HOUR)) _ _ _ c.in-Some.ensures
    (byte_read none _ _ _ c.args.between _ _ c.in-Some-after.ensures (read_all _ _)))

pub returns-in_default-after-2-clause-read : goal.returns-in_default-after-2-clause-read
returns-in_default-after-2-clause-read c =
    rw (c.part-in_default-after-2.ensures.count, c.part-in_default-after-2.ensures.rest)
    (tree_read _ _ _ _ (component false (Hour24 HOUR)) _ _ _ c.in-Some.ensures
    (byte_read _ _ _ _ c.args.between _ _ c.in-Some-after.ensures
    (tree_read none _ _ _ (component false (Minute MINUTE)) _ _ _ c.in-Some-minute.ensures (read_all _ _))))

pub returns-in_default-second-clause-read : goal.returns-in_default-second-clause-read
returns-in_default-second-clause-read c =
    rw (c.part-in_default-second.ensures.count, c.part-in_default-second.ensures.rest, c.in_default-second.ensures)
    (tree_read _ _ _ _ (component false (Hour24 HOUR)) _ _ _ c.in-Some.ensures
    (byte_read _ _ _ _ c.args.between _ _ c.in-Some-after.ensures
    (tree_read _ _ _ _ (component false (Minute MINUTE)) _ _ _ c.in-Some-minute.ensures
    (byte_read none _ _ _ c.args.between _ _ c.in-Some-after-2.ensures (read_all _ _)))))

pub returns-clause-read : goal.returns-clause-read
returns-clause-read c =
    tree_read _ _ _ _ (component false (Hour24 HOUR)) _ _ _ c.in-Some.ensures
    (byte_read _ _ _ _ c.args.between _ _ c.in-Some-after.ensures
    (tree_read _ _ _ _ (component false (Minute MINUTE)) _ _ _ c.in-Some-minute.ensures
    (byte_read _ _ _ _ c.args.between _ _ c.in-Some-after-2.ensures
    (tree_read none _ _ _ (component false (Second SECOND)) _ _ _ c.in-Some-second.ensures (read_all _ _)))))
