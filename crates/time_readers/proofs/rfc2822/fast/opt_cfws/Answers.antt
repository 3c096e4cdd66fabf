use Rattle.std.proofs.Common.{Some, ap, sym, ◌∙◌, arith}
use Rattle.std.proofs.lemmas.Bool.{eqb-true}
use Rattle.time_digits.proofs.WordBytes.{take-drop}
use Rattle.time_readers.proofs.OpenComments.{opt_cfws-empty, opt_cfws-short, opt_cfws-one}
use Rattle.time_readers.proofs.rfc2822.fast.opt_cfws.Goals as goal

pub returns-then-is_empty : goal.returns-then-is_empty
returns-then-is_empty c = opt_cfws-empty c.args.input.now (eqb-true _ _ (sym c.is_empty.ensures ∙ c.if-is_empty.true))

pub returns-in-41-to-255 : goal.returns-in-41-to-255
returns-in-41-to-255 c = opt_cfws-short c.args.input.now (omega arith)

pub returns : goal.returns
returns c =
    let input = c.args.input.now in
    opt_cfws-one input (omega arith) (omega arith) (omega arith) ∙ sym (ap Some (take-drop input 1 (omega arith)))
