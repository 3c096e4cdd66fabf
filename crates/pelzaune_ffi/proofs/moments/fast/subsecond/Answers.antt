use Rattle.std.proofs.Common.{◌≡◌, ◌∷◌, ◌∙◌, ◌-◌, Some, ap, drop, get_or, length, refl, take, arith}
use Rattle.time_digits.proofs.WordBytes.{first_byte}
use Rattle.pelzaune_ffi.proofs.moments.fast.subsecond.Goals as goal

pub returns : goal.returns
returns c =
    let rest = c.args.rest.now in
    let found = c.in_ok-found.ensures in
    let dot : get_or rest 0 0 ≡ 46 = omega arith in (
      46 ∷ found.0,
      first_byte rest c.in-46.len_at_least ∙ ap (λ b. b ∷ take (length rest - 1) (drop 1 rest)) dot ∙ ap (λ r. 46 ∷ r) found.1,
      (Some c.in_ok-found.found.1, (found.0, refl, found.2), refl),
    )
