use Rattle.restamp_formats.proofs.WrittenAgain.{reads_rewritten_back, auto_has_all}
use Rattle.restamp_formats.proofs.laws.law_rewritten_read_back.Goals as goal

pub returns-clause-text : goal.returns-clause-text
returns-clause-text c = reads_rewritten_back

pub returns-clause-auto : goal.returns-clause-auto
returns-clause-auto c = auto_has_all
