use Rattle.std.proofs.Common.{rules, arith, ◌≢◌, [], ap, sym, subst, ◌∙◌, refl, Some, None}
use Rattle.std.proofs.lemmas.Str.Pattern.{strip_prefix_char}
use Rattle.jiff_tz.specs.PosixReader.{read_whole}
use Rattle.time_zones.specs.Finding.{IsRuleOrPath}
use Rattle.time_zones.specs.declared.place.Place.TheVariants.{Rule}
use Rattle.time_zones.proofs.NameLemmas.{by_text, none_of}
use Rattle.time_zones.proofs.place.by_setting.Goals as goal

pub returns-in-Ok : goal.returns-in-Ok
returns-in-Ok c =
    let text = c.args.setting.now in
    let some : text ≢ [] = search rules in
    let colon = strip_prefix_char 58 text None c.in_default.ensures.cases (omega arith) in
    let read = ap read_whole (sym c.as_bytes.ensures.value) ∙ c.in-Ok.ensures.value in
    let place = Some (Rule c.in-Ok.rule) in
    by_text text place some colon (subst (λ r. IsRuleOrPath r text place) (sym read) refl)

pub returns-in-Err : goal.returns-in-Err
returns-in-Err c =
    let text = c.args.setting.now in
    let some : text ≢ [] = search rules in
    let colon = strip_prefix_char 58 text None c.in_default.ensures.cases (omega arith) in
    let none = none_of (read_whole c.as_bytes.result.now) (λ is. absurd (search rules)) in
    let read = ap read_whole (sym c.as_bytes.ensures.value) ∙ none in
    let place = c.at_path-in-Err.result in
    by_text text place some colon (subst (λ r. IsRuleOrPath r text place) (sym read) c.at_path-in-Err.ensures)
