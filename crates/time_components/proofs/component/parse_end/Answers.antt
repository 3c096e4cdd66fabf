use Rattle.std.proofs.Common.{length, arith, refl, sym, ◌∙◌}
use Rattle.std.proofs.lemmas.List.{append-nil}
use Rattle.std.proofs.Math.Seq.{drop-length}
use Rattle.time_digits.proofs.WordBytes.{take-drop}
use Rattle.time_components.proofs.component.parse_end.Goals as goal

pub returns-in-Discard : goal.returns-in-Discard
returns-in-Discard c =
    let s = c.args.input.now in
    let nothing_left = take-drop s (length s) (omega arith) ∙ drop-length s in
    (s, rw nothing_left (sym (append-nil s)), (refl, nothing_left, rw c.in-Discard.is tt))
