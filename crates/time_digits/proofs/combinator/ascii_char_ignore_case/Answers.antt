use Rattle.std.proofs.Common.{◌≡◌, ℕ, [], ◌∷◌, get_or, Bool, true, refl, sym, ◌∙◌, arith}
use Rattle.std.proofs.lemmas.Bool.Decides.{nat_tests}
use Rattle.std.specs.Char.{eq_ignore_ascii_case, to_ascii_lowercase}
use Rattle.time_digits.proofs.WordBytes.{first_byte}
use Rattle.time_digits.proofs.combinator.ascii_char_ignore_case.Goals as goal

same_letter : (answer : Bool) (a b : ℕ) → answer ≡ eq_ignore_ascii_case a b → answer ≡ true → to_ascii_lowercase a ≡ to_ascii_lowercase b
same_letter answer a b is same = let test : eq_ignore_ascii_case a b ≡ true = sym is ∙ same in grind (arith, nat_tests)

pub returns-in-len1-up : goal.returns-in-len1-up
returns-in-len1-up g c =
    let s = c.args.input.now in (
      get_or s 0 0 ∷ [],
      first_byte s c.in-len1-up.len_at_least,
      (get_or s 0 0, refl, same_letter _ (get_or s 0 0) g.row.C c.eq_ignore_ascii_case.ensures c.if-eq_ignore_ascii_case.true),
    )
