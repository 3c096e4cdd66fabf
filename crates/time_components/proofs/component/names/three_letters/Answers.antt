use Rattle.std.proofs.Common.{◌≡◌, ◌∷◌, [], refl, get_or, true, rules}
use Rattle.time_components.specs.ShortNames as ShortNames
use Rattle.time_digits.proofs.WordBytes.{first_three}
use Rattle.time_components.proofs.component.names.three_letters.Goals as goal
use Rattle.time_components.proofs.component.names.three_letters.Goals.{else-case_sensitive-via-then-case_sensitive+else-not-is_title_case, else-case_sensitive-via-else-case_sensitive}

pub returns : goal.returns
returns c =
    let s = c.args.input.now in
    let three = get_or s 0 0 ∷ get_or s 1 0 ∷ get_or s 2 0 ∷ [] in
    let title : c.args.case_sensitive ≡ true → ShortNames.is_title_case three ≡ true =
    elim c.else-case_sensitive.branch [
      | else-case_sensitive-via-then-case_sensitive+else-not-is_title_case w ↦ λ sensitive. search rules
      | else-case_sensitive-via-else-case_sensitive w ↦ λ sensitive. search rules
    ] in (
      three,
      first_three s c.in-len3-up.len_at_least,
      (
        refl,
        (λ i. c.to_ascii_lowercase.ensures.value i ∷ c.to_ascii_lowercase-2.ensures.value i ∷ c.to_ascii_lowercase-3.ensures.value i ∷ []),
        title,
      ),
    )
