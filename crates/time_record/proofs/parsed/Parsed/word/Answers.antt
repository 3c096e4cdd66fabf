use Rattle.std.proofs.Common.{◌≡◌, ◌-◌, pos, slice_index_or, sym, ◌∙◌, arith, rules}
use Rattle.std.specs.Int.{w32}
use Rattle.std.specs.Prelude.{FitsSigned}
use Rattle.std.proofs.lemmas.Int.{to_z-of_z}
use Rattle.time_values.specs.Calendar.{greatest_year}
use Rattle.time_record.specs.Cells.{value_at}
use Rattle.time_record.specs.Inverse.{record_of}
use Rattle.time_record.proofs.CellLemmas.{read_in_cell, reads_none, reads_some, value_word}
use Rattle.time_record.proofs.parsed.Parsed.word.Goals as goal

pub returns-then-is_set-clause-value : goal.returns-then-is_set-clause-value
unfolding record_of
returns-then-is_set-clause-value c =
    let self = c.self.inside in
    let index = c.args.index in
    let fits : FitsSigned w32 (slice_index_or self.words (index - 19) (pos 0)) = search rules in
    let value : value_at self.bytes self.shorts self.words self.stamp index ≡ slice_index_or self.words (index - 19) (pos 0) =
    value_word self.bytes self.shorts self.words self.stamp index (omega arith) (omega arith) in
    reads_some self.mask self.bytes self.shorts self.words self.stamp index _ _ c.self.view_is
    (sym c.if-is_set.true ∙ c.is_set.ensures) (value ∙ sym (to_z-of_z w32 _ fits))

pub returns-then-is_set-clause-in_range : goal.returns-then-is_set-clause-in_range
returns-then-is_set-clause-in_range c =
    let self = c.self.inside in
    let index = c.args.index in
    let fits : FitsSigned w32 (slice_index_or self.words (index - 19) (pos 0)) = search rules in
    let value : value_at self.bytes self.shorts self.words self.stamp index ≡ slice_index_or self.words (index - 19) (pos 0) =
    value_word self.bytes self.shorts self.words self.stamp index (omega arith) (omega arith) in
    read_in_cell self.mask self.bytes self.shorts self.words self.stamp greatest_year c.self.invariant index _ (omega arith)
    (sym c.if-is_set.true ∙ c.is_set.ensures) (value ∙ sym (to_z-of_z w32 _ fits))

pub returns-else-is_set-clause-value : goal.returns-else-is_set-clause-value
unfolding record_of
returns-else-is_set-clause-value c =
    let self = c.self.inside in
    reads_none self.mask self.bytes self.shorts self.words self.stamp c.args.index _ c.self.view_is
    (sym c.if-is_set.false ∙ c.is_set.ensures)
