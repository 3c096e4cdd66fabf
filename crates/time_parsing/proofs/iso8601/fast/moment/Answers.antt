use Rattle.std.proofs.Common.{◌∙◌, ap, sym, ℕ, List, Some}
use Rattle.time_parsing.proofs.IsoParts.{no_bytes}
use Rattle.time_parsing.proofs.iso8601.fast.moment.Goals as goal

pub returns : goal.returns
returns c =
    let front = c.in_ok-moment.ensures in
    let end = no_bytes c.in_ok-moment.rest.now (sym c.is_empty.ensures ∙ c.if-not-is_empty.false) in
    (front.0, front.1 ∙ ap (λ (rest : List ℕ). Some (rest, front.0)) end, front.2)
