use Rattle.std.proofs.Common.{ap, ◌∙◌, arith}
use Rattle.std.specs.Int.{w128}
use Rattle.std.proofs.lemmas.Int.{to_z-of_z}
use Rattle.time_values.specs.Calendar.{greatest_year}
use Rattle.time_values.proofs.InstantLemmas.{is_instant-IsInstant}
use Rattle.time_record.specs.Cells.{bit, value_at}
use Rattle.time_record.specs.CellAnswers.{put_cell}
use Rattle.time_record.specs.Inverse.{record_of}
use Rattle.time_record.proofs.CellLemmas.{put_is, sound_after, value_set_stamp}
use Rattle.time_record.proofs.parsed.Parsed.put_stamp.Goals as goal

pub invariant_of-self : goal.invariant_of-self
invariant_of-self c =
    let self = c.self.inside in
    let v = c.args.value in
    rw (to_z-of_z w128 v c.ranges.value)
    (sound_after greatest_year self.mask _ self.bytes self.shorts self.words self.bytes self.shorts self.words self.stamp v 22 v
    c.self.invariant c.with_bit-self-inside.ensures.after c.self.told.0 c.self.told.1 c.self.told.2
    c.with_bit-self-inside.ensures.bits (value_set_stamp self.bytes self.shorts self.words self.stamp v)
    ((is_instant-IsInstant greatest_year v).0 c.requires))

pub returns : goal.returns
unfolding record_of
returns c =
    let self = c.self.inside in
    let v = c.args.value in
    rw (to_z-of_z w128 v c.ranges.value)
    (put_is (bit self.mask) (bit c.with_bit-self-inside.result)
    (value_at self.bytes self.shorts self.words self.stamp)
    (value_at self.bytes self.shorts self.words v) 22 v (omega arith)
    c.with_bit-self-inside.ensures.bits (value_set_stamp self.bytes self.shorts self.words self.stamp v)
    ∙ ap (put_cell 22 v) c.self.view_is)
