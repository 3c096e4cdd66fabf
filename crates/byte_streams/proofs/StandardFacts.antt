-- Examples of lines, so that a wrong rule in the specs fails to check. They follow from the definitions alone, without code.
use Rattle.std.proofs.Common.{◌≡◌, List, ℕ, [], ◌∷◌, ◌++◌, length, codes, refl, ap, arith}
use Rattle.byte_streams.specs.Lines.{AreEnded, ended, unended, joined, line_texts, lines_of}

-- a line feed, and a carriage return
abbrev feed : List ℕ
feed = 10 ∷ []

abbrev carriage : List ℕ
carriage = 13 ∷ []

-- the last line may have no line feed, and no line follows the last line feed
pub last_line_without_feed : lines_of (codes "a" ++ feed ++ codes "b") ≡ ended (codes "a") ∷ unended (codes "b") ∷ []
last_line_without_feed = refl

pub two_lines : line_texts (codes "a" ++ feed ++ codes "b" ++ feed) ≡ codes "a" ∷ codes "b" ∷ []
two_lines = refl

pub an_empty_line : line_texts (feed ++ codes "b") ≡ [] ∷ codes "b" ∷ []
an_empty_line = refl

pub no_line_of_nothing : lines_of [] ≡ []
no_line_of_nothing = refl

-- a carriage return is part of the line
pub carriage_return_in_a_line : line_texts (codes "a" ++ carriage ++ feed) ≡ (codes "a" ++ carriage) ∷ []
carriage_return_in_a_line = refl

pub bytes_of_lines : joined (ended (codes "a") ∷ unended (codes "b") ∷ []) ≡ codes "a" ++ feed ++ codes "b"
bytes_of_lines = refl

pub no_line_after_the_last_feed : line_texts (codes "a" ++ feed) ≡ codes "a" ∷ [] ∷ [] → ⊥
no_line_after_the_last_feed h = omega (arith, ap length h)

pub no_line_of_a_carriage_return : line_texts (codes "a" ++ carriage ++ codes "b") ≡ codes "a" ∷ codes "b" ∷ [] → ⊥
no_line_of_a_carriage_return h = omega (arith, ap length h)

pub no_empty_line_left_out : line_texts (feed ++ codes "b") ≡ codes "b" ∷ [] → ⊥
no_empty_line_left_out h = omega (arith, ap length h)

pub no_line_ended_by_a_carriage_return : AreEnded (unended (codes "a" ++ carriage) ∷ []) → ⊥
no_line_ended_by_a_carriage_return h = omega (arith, ap length h.1)
