use Rattle.std.proofs.Common.{◌∙◌}
use Rattle.time_record.specs.Inverse.{record_of}
use Rattle.time_record.proofs.CellLemmas.{bit_holds}
use Rattle.time_record.proofs.parsed.Parsed.flag.Goals as goal

pub returns : goal.returns
unfolding record_of
returns c =
    let self = c.self.inside in
    c.is_set.ensures
    ∙ bit_holds self.mask self.bytes self.shorts self.words self.stamp _ c.args.index c.requires.in_mask c.self.view_is
