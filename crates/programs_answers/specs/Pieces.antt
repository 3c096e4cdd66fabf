-- No public contract rests on this file.
--
-- The pieces of a written line.
use Rattle.std.specs.Prelude.{◌≡◌, ℕ, ◌/◌, List, [], ◌∷◌, ◌++◌, ℤ, pos, if◌then◌else◌, int_lt, nat_lt, unsigned_abs}
use Rattle.std.specs.Fmt.{decimal}
use Rattle.programs_answers.specs.Output.{minus_if}

-- The decimal digits of a number before its last four; none below 10000.
abbrev pub leading_digits : ℕ → List ℕ
leading_digits n = if nat_lt n 10000 then [] else decimal (n / 10000)

-- The text before the last four digits of a year: a minus if it is negative, and any further digits; empty for 0 to
-- 9999.
abbrev pub year_front : ℤ → List ℕ
year_front y = minus_if (int_lt y (pos 0)) ++ leading_digits (unsigned_abs y)

-- The text is a line that has the property P, and then LF.
abbrev pub WithLineFeed : (List ℕ → Type 0) → List ℕ → Type 0
WithLineFeed P text = (line : List ℕ) × P line × (text ≡ line ++ 10 ∷ [])
