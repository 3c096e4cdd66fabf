-- Worked values of fields and answers, by the definitions alone. A wrong rule in the specs fails to check here.
use Rattle.std.proofs.Common.{get_or, ◌≡◌, ℕ, List, [], ◌∷◌, ◌++◌, length, Some, None, codes, refl, ap, arith, length-append}
use Rattle.time_lines.specs.Output.{AreAnswers, IsAnswer, fields_of}

abbrev tab : List ℕ
tab = 9 ∷ []

-- ---- The fields of a line

pub three_fields : fields_of (codes "a" ++ tab ++ codes "b" ++ tab ++ codes "c") ≡ Some (record { format = codes "a"; target = codes "b"; text = codes "c" })
three_fields = refl

-- the text may be empty, and may contain tabs
pub tabs_of_the_text : fields_of (codes "a" ++ tab ++ codes "b" ++ tab ++ codes "c" ++ tab)
    ≡ Some (record { format = codes "a"; target = codes "b"; text = codes "c" ++ tab })
tabs_of_the_text = refl

pub empty_fields : fields_of (tab ++ tab) ≡ Some (record { format = []; target = []; text = [] })
empty_fields = refl

pub no_fields_of_nothing : fields_of [] ≡ None
no_fields_of_nothing = refl

pub no_fields_without_a_text : fields_of (codes "rfc3339" ++ tab ++ codes "date") ≡ None
no_fields_without_a_text = refl

pub no_fields_at_spaces : fields_of (codes "rfc3339 date x") ≡ None
no_fields_at_spaces = refl

-- ---- Answers that report the error of a line

pub answer_to_an_empty_line : IsAnswer [] (codes "error: line")
unfolding IsAnswer
answer_to_an_empty_line = refl

pub answer_to_an_unknown_target : IsAnswer (codes "rfc3339" ++ tab ++ codes "x" ++ tab ++ codes "y") (codes "error: target")
unfolding IsAnswer
answer_to_an_unknown_target = refl

-- the format is checked before the target
pub answer_to_an_unknown_format : IsAnswer (codes "x" ++ tab ++ codes "x" ++ tab ++ codes "y") (codes "error: format")
unfolding IsAnswer
answer_to_an_unknown_format = refl

-- and both after the fields are counted
pub answer_to_one_tab : IsAnswer (codes "x" ++ tab ++ codes "x") (codes "error: line")
unfolding IsAnswer
answer_to_one_tab = refl

pub answers_to_two_lines : AreAnswers ([] ∷ (codes "x" ++ tab ++ tab) ∷ []) (codes "error: line" ++ 10 ∷ codes "error: format" ++ 10 ∷ [])
unfolding IsAnswer
answers_to_two_lines =
    (codes "error: line", codes "error: format" ++ 10 ∷ [], refl, (codes "error: format", [], refl, refl, refl), refl)

pub no_empty_answer : IsAnswer [] [] → ⊥
unfolding IsAnswer
no_empty_answer h = omega (arith, ap length h)

pub no_target_before_the_format : IsAnswer (codes "x" ++ tab ++ codes "x" ++ tab ++ codes "y") (codes "error: target") → ⊥
unfolding IsAnswer
no_target_before_the_format h = omega (arith, ap (λ text. get_or text 7 0) h)

pub no_format_before_the_fields : IsAnswer (codes "x" ++ tab ++ codes "x") (codes "error: format") → ⊥
unfolding IsAnswer
no_format_before_the_fields h = omega (arith, ap length h)

-- a line has an answer, so two lines have more than one
pub no_line_without_an_answer : AreAnswers ([] ∷ []) [] → ⊥
unfolding IsAnswer
no_line_without_an_answer (answer, others, one, more, is) = omega (arith, ap length is, length-append answer (10 ∷ others))
