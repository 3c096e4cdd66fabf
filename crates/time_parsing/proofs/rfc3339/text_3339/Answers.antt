use Rattle.std.proofs.Common.{◌≡◌, ℕ, List, [], ◌∷◌, length, get_or, refl, arith, ap, ◌∙◌}
use Rattle.time_values.specs.Moments.{offset_date, offset_time, offset_of}
use Rattle.time_values.specs.DisplayTexts.{fixed}
use Rattle.time_values.specs.Times as Times
use Rattle.time_formatting.specs.WellKnown.{date_text, clock_text, numeric_text}
use Rattle.time_parsing.proofs.rfc3339.text_3339.Goals as goal

-- ---- Short lists, by their elements

-- a list of six, by its elements
six : (xs : List ℕ) → length xs ≡ 6
    → xs ≡ get_or xs 0 0 ∷ get_or xs 1 0 ∷ get_or xs 2 0 ∷ get_or xs 3 0 ∷ get_or xs 4 0 ∷ get_or xs 5 0 ∷ []
six [] is = absurd (omega arith)
six (x0 ∷ []) is = absurd (omega arith)
six (x0 ∷ x1 ∷ []) is = absurd (omega arith)
six (x0 ∷ x1 ∷ x2 ∷ []) is = absurd (omega arith)
six (x0 ∷ x1 ∷ x2 ∷ x3 ∷ []) is = absurd (omega arith)
six (x0 ∷ x1 ∷ x2 ∷ x3 ∷ x4 ∷ []) is = absurd (omega arith)
six (x0 ∷ x1 ∷ x2 ∷ x3 ∷ x4 ∷ x5 ∷ []) is = refl
six (x0 ∷ x1 ∷ x2 ∷ x3 ∷ x4 ∷ x5 ∷ y ∷ more) is = absurd (omega arith)

-- a list of eight, by its elements
eight : (xs : List ℕ) → length xs ≡ 8
    → xs ≡ get_or xs 0 0 ∷ get_or xs 1 0 ∷ get_or xs 2 0 ∷ get_or xs 3 0
    ∷ get_or xs 4 0 ∷ get_or xs 5 0 ∷ get_or xs 6 0 ∷ get_or xs 7 0 ∷ []
eight [] is = absurd (omega arith)
eight (x0 ∷ []) is = absurd (omega arith)
eight (x0 ∷ x1 ∷ []) is = absurd (omega arith)
eight (x0 ∷ x1 ∷ x2 ∷ []) is = absurd (omega arith)
eight (x0 ∷ x1 ∷ x2 ∷ x3 ∷ []) is = absurd (omega arith)
eight (x0 ∷ x1 ∷ x2 ∷ x3 ∷ x4 ∷ []) is = absurd (omega arith)
eight (x0 ∷ x1 ∷ x2 ∷ x3 ∷ x4 ∷ x5 ∷ []) is = absurd (omega arith)
eight (x0 ∷ x1 ∷ x2 ∷ x3 ∷ x4 ∷ x5 ∷ x6 ∷ []) is = absurd (omega arith)
eight (x0 ∷ x1 ∷ x2 ∷ x3 ∷ x4 ∷ x5 ∷ x6 ∷ x7 ∷ []) is = refl
eight (x0 ∷ x1 ∷ x2 ∷ x3 ∷ x4 ∷ x5 ∷ x6 ∷ x7 ∷ y ∷ more) is = absurd (omega arith)

-- a list of nine, by its elements
nine : (xs : List ℕ) → length xs ≡ 9
    → xs ≡ get_or xs 0 0 ∷ get_or xs 1 0 ∷ get_or xs 2 0 ∷ get_or xs 3 0 ∷ get_or xs 4 0
    ∷ get_or xs 5 0 ∷ get_or xs 6 0 ∷ get_or xs 7 0 ∷ get_or xs 8 0 ∷ []
nine [] is = absurd (omega arith)
nine (x0 ∷ []) is = absurd (omega arith)
nine (x0 ∷ x1 ∷ []) is = absurd (omega arith)
nine (x0 ∷ x1 ∷ x2 ∷ []) is = absurd (omega arith)
nine (x0 ∷ x1 ∷ x2 ∷ x3 ∷ []) is = absurd (omega arith)
nine (x0 ∷ x1 ∷ x2 ∷ x3 ∷ x4 ∷ []) is = absurd (omega arith)
nine (x0 ∷ x1 ∷ x2 ∷ x3 ∷ x4 ∷ x5 ∷ []) is = absurd (omega arith)
nine (x0 ∷ x1 ∷ x2 ∷ x3 ∷ x4 ∷ x5 ∷ x6 ∷ []) is = absurd (omega arith)
nine (x0 ∷ x1 ∷ x2 ∷ x3 ∷ x4 ∷ x5 ∷ x6 ∷ x7 ∷ []) is = absurd (omega arith)
nine (x0 ∷ x1 ∷ x2 ∷ x3 ∷ x4 ∷ x5 ∷ x6 ∷ x7 ∷ x8 ∷ []) is = refl
nine (x0 ∷ x1 ∷ x2 ∷ x3 ∷ x4 ∷ x5 ∷ x6 ∷ x7 ∷ x8 ∷ y ∷ more) is = absurd (omega arith)

-- a list of ten, by its elements
ten : (xs : List ℕ) → length xs ≡ 10
    → xs ≡ get_or xs 0 0 ∷ get_or xs 1 0 ∷ get_or xs 2 0 ∷ get_or xs 3 0 ∷ get_or xs 4 0
    ∷ get_or xs 5 0 ∷ get_or xs 6 0 ∷ get_or xs 7 0 ∷ get_or xs 8 0 ∷ get_or xs 9 0 ∷ []
ten [] is = absurd (omega arith)
ten (x0 ∷ []) is = absurd (omega arith)
ten (x0 ∷ x1 ∷ []) is = absurd (omega arith)
ten (x0 ∷ x1 ∷ x2 ∷ []) is = absurd (omega arith)
ten (x0 ∷ x1 ∷ x2 ∷ x3 ∷ []) is = absurd (omega arith)
ten (x0 ∷ x1 ∷ x2 ∷ x3 ∷ x4 ∷ []) is = absurd (omega arith)
ten (x0 ∷ x1 ∷ x2 ∷ x3 ∷ x4 ∷ x5 ∷ []) is = absurd (omega arith)
ten (x0 ∷ x1 ∷ x2 ∷ x3 ∷ x4 ∷ x5 ∷ x6 ∷ []) is = absurd (omega arith)
ten (x0 ∷ x1 ∷ x2 ∷ x3 ∷ x4 ∷ x5 ∷ x6 ∷ x7 ∷ []) is = absurd (omega arith)
ten (x0 ∷ x1 ∷ x2 ∷ x3 ∷ x4 ∷ x5 ∷ x6 ∷ x7 ∷ x8 ∷ []) is = absurd (omega arith)
ten (x0 ∷ x1 ∷ x2 ∷ x3 ∷ x4 ∷ x5 ∷ x6 ∷ x7 ∷ x8 ∷ x9 ∷ []) is = refl
ten (x0 ∷ x1 ∷ x2 ∷ x3 ∷ x4 ∷ x5 ∷ x6 ∷ x7 ∷ x8 ∷ x9 ∷ y ∷ more) is = absurd (omega arith)

pub returns : goal.returns
returns c =
    let date : c.date_of.result ≡ date_text (offset_date c.args.value) = c.date_of.ensures ∙ ap date_text c.date.ensures in
    let clock : c.clock_of.result ≡ clock_text (offset_time c.args.value) = c.clock_of.ensures ∙ ap clock_text c.time.ensures in
    let fraction : c.nine.result ≡ fixed 9 (Times.nanosecond (offset_time c.args.value)) =
    c.nine.ensures ∙ ap (λ n. fixed 9 n) (c.nanosecond.ensures ∙ ap Times.nanosecond c.time-2.ensures) in
    let offset : c.offset_with_colon.result ≡ numeric_text (offset_of c.args.value) =
    c.offset_with_colon.ensures ∙ ap numeric_text c.offset.ensures in
    rw (
      ← date,
      ← clock,
      ← fraction,
      ← offset,
      ten c.date_of.result (omega arith),
      eight c.clock_of.result (omega arith),
      nine c.nine.result (omega arith),
      six c.offset_with_colon.result (omega arith),
    ) refl
