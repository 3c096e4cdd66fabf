use Rattle.std.proofs.Common.{refl, arith, rules}
use Rattle.time_values.specs.Calendar.{greatest_year}
use Rattle.time_components.specs.Tree.{steps_trees, first_of}
use Rattle.time_components.specs.declared.inspect.Group.TheVariants as groups
use Rattle.time_record.specs.Reading.{raised}
use Rattle.time_record.proofs.Counting.{Counts-first_of, Counts-sequence}
use Rattle.time_record.proofs.WalkSteps.{behind_first, whole_group, Answers-one, Counts-one, raised_twice}
use Rattle.time_record.proofs.walk.steps.walk_steps.Goals as goal

pub returns-in-Group-clause-answers : goal.returns-in-Group-clause-answers
returns-in-Group-clause-answers c =
    let steps = c.args.steps.now in
    let choices = behind_first steps in
    let is = whole_group steps groups.First c.in-Group.len (omega arith) (search rules) (omega arith) in
    Answers-one greatest_year (steps_trees steps) (first_of (steps_trees choices)) is _ _ c.walk_first.result _ c.walk_first.ensures.answers

pub returns-in-Group-clause-counts : goal.returns-in-Group-clause-counts
returns-in-Group-clause-counts c =
    let steps = c.args.steps.now in
    let choices = behind_first steps in
    let is = whole_group steps groups.First c.in-Group.len (omega arith) (search rules) (omega arith) in
    let input = c.args.input.now in
    let old = c.args.tries.now in
    let twice = raised_twice old _ c.add.ensures in
    let group = Counts-first_of greatest_year input c.args.parsed.now (raised old 1) _ _ twice _ c.walk_first.ensures.counts in
    Counts-sequence greatest_year input c.args.parsed.now old _ _ refl _ (Counts-one greatest_year (steps_trees steps)
    (first_of (steps_trees choices)) is _ _ c.walk_first.result _ _ _ c.walk_first.ensures.answers group)
