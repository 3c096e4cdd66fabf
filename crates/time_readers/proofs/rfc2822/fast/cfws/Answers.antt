use Rattle.std.proofs.Common.{Some, refl, ap, sym, ◌∙◌, inl, inr, arith}
use Rattle.time_digits.proofs.WordBytes.{take-drop}
use Rattle.time_readers.proofs.OpenComments.{cfws-short}
use Rattle.time_readers.proofs.rfc2822.fast.cfws.Goals as goal

pub returns-in-32 : goal.returns-in-32
returns-in-32 c =
    let input = c.args.input.now in
    cfws-short input (omega arith) (inl (omega arith), omega arith, omega arith, omega arith) (omega arith)
    ∙ sym (ap Some (take-drop input 1 (omega arith)))

pub returns-in-32-2 : goal.returns-in-32-2
returns-in-32-2 c =
    let input = c.args.input.now in
    let next = c.if-ends_comments.ensures refl in
    cfws-short input (omega arith) (inl (omega arith), next.0, next.1, next.2) next.3
    ∙ sym (ap Some (take-drop input 1 (omega arith)))

pub returns-in-9 : goal.returns-in-9
returns-in-9 c =
    let input = c.args.input.now in
    let next = c.if-ends_comments-2.ensures refl in
    cfws-short input (omega arith) (inr (omega arith), next.0, next.1, next.2) next.3
    ∙ sym (ap Some (take-drop input 1 (omega arith)))
