use Rattle.std.proofs.Common.{◌≡◌, ℕ, List, [], ◌∷◌, length, slice_index_or, refl, arith}
use Rattle.time_values.proofs.NumberLemmas.{two}
use Rattle.time_formatting.proofs.rfc2822.weekday_and_day.Goals as goal

-- ---- A list of three, by its elements

three : (xs : List ℕ) → length xs ≡ 3
    → xs ≡ slice_index_or xs 0 0 ∷ slice_index_or xs 1 0 ∷ slice_index_or xs 2 0 ∷ []
three [] is = absurd (omega arith)
three (x ∷ []) is = absurd (omega arith)
three (x ∷ y ∷ []) is = absurd (omega arith)
three (x ∷ y ∷ z ∷ []) is = refl
three (x ∷ y ∷ z ∷ w ∷ more) is = absurd (omega arith)

pub returns : goal.returns
returns c =
    rw (
      ← c.weekday_letters.ensures,
      ← c.month.ensures,
      ← c.month_letters.ensures,
      ← c.day.ensures,
      ← c.pair.ensures,
      three c.weekday_letters.result (omega arith),
      three c.month_letters.result (omega arith),
      two c.pair.result (omega arith),
    ) refl
