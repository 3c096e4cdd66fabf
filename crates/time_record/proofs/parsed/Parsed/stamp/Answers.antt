use Rattle.std.proofs.Common.{sym, ◌∙◌, arith, rules}
use Rattle.std.specs.Int.{w128}
use Rattle.std.specs.Prelude.{FitsSigned}
use Rattle.std.proofs.lemmas.Int.{to_z-of_z}
use Rattle.time_values.specs.Calendar.{greatest_year}
use Rattle.time_values.proofs.InstantLemmas.{is_instant-IsInstant}
use Rattle.time_record.specs.Inverse.{record_of}
use Rattle.time_record.proofs.CellLemmas.{read_in_cell, reads_none, reads_some}
use Rattle.time_record.proofs.parsed.Parsed.stamp.Goals as goal

pub returns-then-is_set-clause-value : goal.returns-then-is_set-clause-value
unfolding record_of
returns-then-is_set-clause-value c =
    let self = c.self.inside in
    let fits : FitsSigned w128 self.stamp = search rules in
    sym (reads_some self.mask self.bytes self.shorts self.words self.stamp 22 _ _ c.self.view_is
    (sym c.if-is_set.true ∙ c.is_set.ensures) (sym (to_z-of_z w128 _ fits)))

pub returns-then-is_set-clause-in_range : goal.returns-then-is_set-clause-in_range
returns-then-is_set-clause-in_range c =
    let self = c.self.inside in
    let fits : FitsSigned w128 self.stamp = search rules in
    (is_instant-IsInstant greatest_year _).1
    (read_in_cell self.mask self.bytes self.shorts self.words self.stamp greatest_year c.self.invariant 22 _ (omega arith)
    (sym c.if-is_set.true ∙ c.is_set.ensures) (sym (to_z-of_z w128 _ fits)))

pub returns-else-is_set-clause-value : goal.returns-else-is_set-clause-value
unfolding record_of
returns-else-is_set-clause-value c =
    let self = c.self.inside in
    sym (reads_none self.mask self.bytes self.shorts self.words self.stamp 22 _ c.self.view_is
    (sym c.if-is_set.false ∙ c.is_set.ensures))
