use Rattle.std.proofs.Common.{◌≡◌, ℕ, List, ◌++◌, ap, sym, ◌∙◌}
use Rattle.time_descriptions.specs.DescribedParts.{count_part, modifier_part, name_part, padding_part}
use Rattle.time_descriptions.proofs.Checks.{puts_first, puts_on}
use Rattle.time_descriptions.proofs.describing.component.put_words.Goals as goal

front : (x y rest : List ℕ) → x ≡ y → y ++ rest ≡ x ++ rest
front x y rest e = ap (λ (l : List ℕ). l ++ rest) (sym e)

pub returns-in_err-put : goal.returns-in_err-put
returns-in_err-put g c =
    let d = c.args.component in
    let rest = padding_part d ++ (modifier_part d ++ count_part d) in
    let name = c.as_bytes.ensures.value ∙ c.name_part.ensures in
    puts_first g.row.N _ rest (front _ (name_part d) rest name) _ c.from_residual.result _ c.from_residual.ensures.0 c.in_err-put.ensures

pub returns-in_err-put-2 : goal.returns-in_err-put-2
returns-in_err-put-2 g c =
    let d = c.args.component in
    let later = modifier_part d ++ count_part d in
    let name = c.as_bytes.ensures.value ∙ c.name_part.ensures in
    let padding = c.as_bytes-2.ensures.value ∙ c.padding_text.ensures ∙ c.padding_of.ensures in
    let full = puts_first g.row.N _ later (front _ (padding_part d) later padding) _ c.from_residual-in_err-put-2.result c.put-2.new.self.bytes.items
    c.from_residual-in_err-put-2.ensures.0 c.in_err-put-2.ensures in
    puts_on g.row.N _ (padding_part d ++ later) (front _ (name_part d) (padding_part d ++ later) name) _ _ c.from_residual-in_err-put-2.result _
    c.in_ok-put.ensures full

pub returns-in_err-put-3 : goal.returns-in_err-put-3
returns-in_err-put-3 g c =
    let d = c.args.component in
    let later = modifier_part d ++ count_part d in
    let name = c.as_bytes.ensures.value ∙ c.name_part.ensures in
    let padding = c.as_bytes-2.ensures.value ∙ c.padding_text.ensures ∙ c.padding_of.ensures in
    let modifier = c.as_bytes-3.ensures.value ∙ c.modifier_part.ensures in
    let full = puts_first g.row.N _ (count_part d) (front _ (modifier_part d) (count_part d) modifier) _ c.from_residual-in_err-put-3.result
    c.put-3.new.self.bytes.items c.from_residual-in_err-put-3.ensures.0 c.in_err-put-3.ensures in
    let padded = puts_on g.row.N _ later (front _ (padding_part d) later padding) _ _ c.from_residual-in_err-put-3.result c.put-3.new.self.bytes.items
    c.in_ok-put-2.ensures full in
    puts_on g.row.N _ (padding_part d ++ later) (front _ (name_part d) (padding_part d ++ later) name) _ _ c.from_residual-in_err-put-3.result _
    c.in_ok-put.ensures padded

pub returns : goal.returns
returns g c =
    let d = c.args.component in
    let later = modifier_part d ++ count_part d in
    let name = c.as_bytes.ensures.value ∙ c.name_part.ensures in
    let padding = c.as_bytes-2.ensures.value ∙ c.padding_text.ensures ∙ c.padding_of.ensures in
    let modifier = c.as_bytes-3.ensures.value ∙ c.modifier_part.ensures in
    let counted = puts_on g.row.N _ (count_part d) (front _ (modifier_part d) (count_part d) modifier) _ _ c.put_count.result c.put_count.new.text.bytes.items
    c.in_ok-put-3.ensures c.put_count.ensures in
    let padded = puts_on g.row.N _ later (front _ (padding_part d) later padding) _ _ c.put_count.result c.put_count.new.text.bytes.items c.in_ok-put-2.ensures
    counted in
    puts_on g.row.N _ (padding_part d ++ later) (front _ (name_part d) (padding_part d ++ later) name) _ _ c.put_count.result _ c.in_ok-put.ensures padded
