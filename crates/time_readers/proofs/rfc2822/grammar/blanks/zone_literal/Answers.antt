use Rattle.std.proofs.Common.{ap, sym, ◌∙◌, ◌-◌, length, take, drop, Some, option_map, rules, w8, SFits}
use Rattle.std.proofs.lemmas.Int.{to_z-of_z}
use Rattle.time_readers.proofs.MailOffset.{zone-three, zone-short}
use Rattle.time_readers.proofs.rfc2822.grammar.blanks.zone_literal.Goals as goal

pub returns-in_err-hours : goal.returns-in_err-hours
returns-in_err-hours c =
    ap (option_map (λ p. (p.1, p.0.now))) c.from_residual.ensures
    ∙ ap (option_map (λ hours. (hours, _))) c.in_err-hours.ensures
    ∙ sym (zone-three _ c.in-len3-up.len_at_least)

pub returns-in-len3-up : goal.returns-in-len3-up
returns-in-len3-up c =
    let input = c.args.input.now in
    let rest = take (length input - 3) (drop 3 input) in
    let fits : SFits w8 c.in_ok-hours.hours = search rules in
    ap (λ hours. Some (hours, rest)) (to_z-of_z w8 c.in_ok-hours.hours fits)
    ∙ ap (option_map (λ hours. (hours, rest))) c.in_ok-hours.ensures
    ∙ sym (zone-three _ c.in-len3-up.len_at_least)

pub returns : goal.returns
returns c = c.short_zone.ensures ∙ sym (zone-short _ c.in_default.len_below)
