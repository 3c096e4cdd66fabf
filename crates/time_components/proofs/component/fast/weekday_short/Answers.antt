use Rattle.std.proofs.Common.{◌-◌, [], ◌∷◌, length, take, drop, get_or}
use Rattle.time_values.specs.Names.{weekday_name}
use Rattle.time_components.specs.Spelling.{weekday}
use Rattle.time_digits.proofs.WordBytes.{first_three}
use Rattle.time_components.proofs.NameLemmas.{weekdays_titled, is_titled}
use Rattle.time_components.proofs.component.fast.weekday_short.Goals as goal

pub returns : goal.returns
returns c =
    let s = c.args.input.now in
    is_titled weekday weekday_name weekdays_titled c.args.case_sensitive s (take (length s - 3) (drop 3 s))
    (get_or s 0 0 ∷ get_or s 1 0 ∷ get_or s 2 0 ∷ []) c.in_ok-weekday.weekday (first_three s c.in-len3-up.len_at_least) c.in_ok-weekday.ensures
