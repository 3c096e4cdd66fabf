use Rattle.std.specs.Prelude.{codes, if◌then◌else◌}
use Rattle.std.proofs.Common.{◌≡◌, [], ◌++◌, Bool, true, false, refl, append-nil, ap}
use Rattle.time_components.specs.declared.format_description.Component.{Component}
use Rattle.time_components.specs.declared.format_description.Component.TheVariants as component
use Rattle.time_descriptions.specs.Writing.{case_sensitive_text, case_text, words_of}
use Rattle.time_descriptions.specs.DescribedParts.{parts_of}
use Rattle.time_descriptions.proofs.Checks.{puts_first, puts_on}
use Rattle.time_descriptions.proofs.describing.component.put_component.Goals as goal

-- ---- The text of a component is its parts in turn

period : (u s : Bool) → codes "period" ++ (case_text u ++ case_sensitive_text s)
    ≡ (if u then codes "period" else codes "period case:lower") ++ (case_sensitive_text s ++ [])
period true s = simp append-nil
period false s = simp append-nil

words_by_parts : (c : Component) → words_of c ≡ parts_of c
words_by_parts (component.Period m) = period m.is_uppercase m.case_sensitive
words_by_parts (component.Ignore m) = refl
words_by_parts c = simp append-nil

pub returns-in_err-put : goal.returns-in_err-put
returns-in_err-put g c =
    puts_first g.row.N (codes "[") _ refl c.args.text.now.bytes.items c.from_residual.result _ c.from_residual.ensures.0
    c.in_err-put.ensures

pub returns-in_err-put_words : goal.returns-in_err-put_words
returns-in_err-put_words g c =
    let parts = parts_of c.args.component in
    puts_on g.row.N (codes "[") (parts ++ codes "]") (ap (λ w. codes "[" ++ (w ++ codes "]")) (words_by_parts c.args.component))
    c.args.text.now.bytes.items c.put.new.self.bytes.items _ _ c.in_ok-put.ensures
    (puts_first g.row.N parts (codes "]") refl c.put.new.self.bytes.items _ _ c.from_residual-in_err-put_words.ensures.0 c.in_err-put_words.ensures)

pub returns : goal.returns
returns g c =
    let parts = parts_of c.args.component in
    puts_on g.row.N (codes "[") (parts ++ codes "]") (ap (λ w. codes "[" ++ (w ++ codes "]")) (words_by_parts c.args.component))
    c.args.text.now.bytes.items c.put.new.self.bytes.items c.put-2.result c.put-2.new.self.bytes.items c.in_ok-put.ensures
    (puts_on g.row.N parts (codes "]") refl c.put.new.self.bytes.items c.put_words.new.text.bytes.items c.put-2.result _
    c.in_ok-put_words.ensures c.put-2.ensures)
