use Rattle.std.proofs.Common.{◌-◌, set, ap, ◌∙◌, arith}
use Rattle.std.specs.Int.{w32}
use Rattle.std.proofs.lemmas.Int.{to_z-of_z}
use Rattle.std.proofs.lemmas.List.{length-set}
use Rattle.time_values.specs.Calendar.{greatest_year}
use Rattle.time_record.specs.Cells.{bit, value_at}
use Rattle.time_record.specs.CellAnswers.{put_cell}
use Rattle.time_record.specs.Inverse.{record_of}
use Rattle.time_record.proofs.CellLemmas.{put_is, sound_after, value_set_word}
use Rattle.time_record.proofs.parsed.Parsed.put_word.Goals as goal

pub invariant_of-self : goal.invariant_of-self
invariant_of-self c =
    let self = c.self.inside in
    let index = c.args.index in
    let v = c.args.value in
    rw (to_z-of_z w32 v c.ranges.value)
    (sound_after greatest_year self.mask _
    self.bytes self.shorts self.words self.bytes self.shorts (set self.words (index - 19) v) self.stamp self.stamp index v
    c.self.invariant c.with_bit-self-inside.ensures.after
    c.self.told.0 c.self.told.1 (length-set self.words (index - 19) v ∙ c.self.told.2)
    c.with_bit-self-inside.ensures.bits
    (value_set_word self.bytes self.shorts self.words self.stamp index v c.self.told.2 (omega arith) (omega arith)) c.requires.in_range)

pub returns : goal.returns
unfolding record_of
returns c =
    let self = c.self.inside in
    let index = c.args.index in
    let v = c.args.value in
    rw (to_z-of_z w32 v c.ranges.value)
    (put_is (bit self.mask) (bit c.with_bit-self-inside.result)
    (value_at self.bytes self.shorts self.words self.stamp)
    (value_at self.bytes self.shorts (set self.words (index - 19) v) self.stamp) index v (omega arith)
    c.with_bit-self-inside.ensures.bits
    (value_set_word self.bytes self.shorts self.words self.stamp index v c.self.told.2 (omega arith) (omega arith))
    ∙ ap (put_cell index v) c.self.view_is)
