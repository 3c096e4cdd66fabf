use Rattle.std.proofs.Common.{ℕ, take, drop, ap, ◌∙◌}
use Rattle.restamp_command.proofs.FormatLemmas.{part_is}
use Rattle.restamp_command.proofs.pointing.bytes_around.Goals as goal

pub returns : goal.returns
returns c =
    part_is c.args.line.now 60 c.saturating_sub-left_out.result c.min.result c.min-2.result c.min.ensures c.min-2.ensures
    ∙ ap (λ (n : ℕ). take 60 (drop n c.args.line.now)) c.saturating_sub-left_out.ensures
