use Rattle.std.proofs.Common.{Some, ap, sym, ◌∙◌, arith}
use Rattle.time_digits.proofs.WordBytes.{take-drop}
use Rattle.time_readers.proofs.OpenComments.{colon-short}
use Rattle.time_readers.proofs.rfc2822.fast.opt_cfws_colon_opt_cfws.Goals as goal

pub returns-in-58 : goal.returns-in-58
returns-in-58 c =
    let input = c.args.input.now in
    colon-short input (omega arith) (omega arith) (omega arith)
    ∙ sym (ap Some (take-drop input 1 (omega arith)))
