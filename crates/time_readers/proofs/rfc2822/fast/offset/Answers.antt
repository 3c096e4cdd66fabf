use Rattle.std.proofs.Common.{◌≡◌, ◌++◌, ◌∷◌, [], length, get_or, ap, ◌∙◌, arith, rules}
use Rattle.time_digits.specs.Digits.{AllDigits}
use Rattle.time_readers.proofs.MailOffset.{last_offset_stands}
use Rattle.time_readers.proofs.rfc2822.fast.offset.Goals as goal

pub returns-clause-stands : goal.returns-clause-stands
returns-clause-stands g c =
    let rest = c.in_ok-found.found.0.now in
    let found = c.in_ok-found.ensures in
    let cut = found.1 ∙ ap (λ t. t ++ rest) found.2 in
    let long : length rest ≡ 4 = omega arith in
    let d : AllDigits (get_or rest 0 0 ∷ get_or rest 1 0 ∷ get_or rest 2 0 ∷ get_or rest 3 0 ∷ []) = search rules in
    last_offset_stands _ c.args.numbers.now c.in_ok-found.found.1 c.args.input.now rest _ _ _ _ cut long
    d.0 d.1.0 d.1.1.0 d.1.1.1.0
    c.two_digits-hour.ensures (c.is_in_range.ensures.0 c.if-not-is_in_range.false)
    c.two_digits-minute.ensures (c.is_in_range-else-not-is_in_range.ensures.0 c.if-not-is_in_range-2.false)
    (search rules) (search rules)
