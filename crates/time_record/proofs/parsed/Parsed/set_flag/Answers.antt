use Rattle.std.proofs.Common.{ap, ◌∙◌}
use Rattle.time_values.specs.Calendar.{greatest_year}
use Rattle.time_record.specs.Cells.{bit, value_at}
use Rattle.time_record.specs.CellAnswers.{put_flag}
use Rattle.time_record.specs.Inverse.{record_of}
use Rattle.time_record.proofs.CellLemmas.{flag_is, sound_flag}
use Rattle.time_record.proofs.parsed.Parsed.set_flag.Goals as goal

pub invariant_of-self : goal.invariant_of-self
invariant_of-self c =
    let self = c.self.inside in
    sound_flag greatest_year self.mask _ self.bytes self.shorts self.words self.stamp c.args.index c.args.on
    c.self.invariant c.with_flag-self-inside.ensures.after c.requires.past c.with_flag-self-inside.ensures.bits

pub returns : goal.returns
unfolding record_of
returns c =
    let self = c.self.inside in
    flag_is (bit self.mask) (bit c.with_flag-self-inside.result) (value_at self.bytes self.shorts self.words self.stamp)
    c.args.index c.args.on c.requires.past c.with_flag-self-inside.ensures.bits
    ∙ ap (put_flag c.args.index c.args.on) c.self.view_is
