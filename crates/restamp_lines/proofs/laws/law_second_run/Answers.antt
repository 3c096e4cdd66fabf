use Rattle.restamp_formats.proofs.WrittenAgain.{writes_same_text}
use Rattle.restamp_lines.proofs.SecondRun.{changes_nothing}
use Rattle.restamp_lines.proofs.laws.law_second_run.Goals as goal

pub returns-clause-text : goal.returns-clause-text
returns-clause-text c = writes_same_text

pub returns-clause-line : goal.returns-clause-line
returns-clause-line c = changes_nothing
