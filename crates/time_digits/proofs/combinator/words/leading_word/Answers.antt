use Rattle.std.proofs.Common.{◌∙◌, arith}
use Rattle.time_digits.proofs.Words.{short_filled}
use Rattle.time_digits.proofs.combinator.words.leading_word.Goals as goal

pub returns-in-None : goal.returns-in-None
returns-in-None c = c.short_word.ensures ∙ short_filled c.args.input.now (omega (arith, c.in-None.ensures.cases))
