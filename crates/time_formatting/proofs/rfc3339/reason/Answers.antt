use Rattle.std.proofs.Common.{rules, refl, ap, Some, ◌∙◌}
use Rattle.time_formatting.proofs.KeptDigits.{first_3339, none_3339}
use Rattle.time_formatting.proofs.rfc3339.reason.Goals as goal

pub returns-then-has_text : goal.returns-then-has_text
returns-then-has_text c =
    let (is_y, is_h, is_s) = (c.if-has_text.ensures).0 refl in
    let text = none_3339 _ _ _ is_y is_h is_s in
    search (text, rules)

pub returns : goal.returns
returns c =
    let first = first_3339 _ _ _ (λ is. search ((c.if-has_text.ensures).1 is, rules)) in
    let text = ap Some c.first_reason.ensures ∙ first in
    search (text, rules)
