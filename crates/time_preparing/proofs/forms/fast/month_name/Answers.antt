use Rattle.std.proofs.Common.{◌-◌, [], ◌∷◌, length, take, drop, get_or}
use Rattle.time_values.specs.Names.{month_name}
use Rattle.time_components.specs.Spelling.{month}
use Rattle.time_digits.proofs.WordBytes.{first_three}
use Rattle.time_components.proofs.NameLemmas.{months_titled, is_titled}
use Rattle.time_preparing.proofs.forms.fast.month_name.Goals as goal

pub returns : goal.returns
returns c =
    let s = c.args.input.now in
    is_titled month month_name months_titled c.args.modifiers.case_sensitive s (take (length s - 3) (drop 3 s))
    (get_or s 0 0 ∷ get_or s 1 0 ∷ get_or s 2 0 ∷ []) c.in_ok-month.month (first_three s c.in-len3-up.len_at_least) c.in_ok-month.ensures
