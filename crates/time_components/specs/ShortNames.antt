-- No public contract rests on this file.
--
-- The first three letters of names, and the rest of names.
use Rattle.std.specs.Prelude.{◌≡◌, ◌≢◌, ℕ, List, [], ◌∷◌, length, take, Bool, true, false, ◌&&◌, Option, MatchOption, ◌+◌, ◌<◌}
use Rattle.std.specs.Char.{is_ascii_uppercase, is_ascii_lowercase}
use Rattle.std.specs.Str.{str_to_ascii_lowercase}
use Rattle.time_digits.specs.Digits.{Form}
use Rattle.time_components.specs.Spelling.{IsNamed, first_digit}

-- whether the text is three bytes, an ASCII capital and two small ASCII letters
abbrev pub is_title_case : List ℕ → Bool
is_title_case (a ∷ b ∷ c ∷ []) = is_ascii_uppercase a && (is_ascii_lowercase b && is_ascii_lowercase c)
is_title_case _ = false

-- The text is any three bytes, and the letters are these in lower case. If the case matters, the text is a capital and
-- two small letters.
abbrev pub IsTitleCase : Bool → Form (List ℕ)
IsTitleCase case_sensitive text rest letters =
    (length text ≡ 3) × (letters ≡ str_to_ascii_lowercase text) × (case_sensitive ≡ true → is_title_case text ≡ true)

-- the first three letters of a name, in lower case
abbrev pub letters_of : {A : Type 0} → (A → List ℕ) → A → List ℕ
letters_of name_of value = str_to_ascii_lowercase (take 3 (name_of value))

-- The result is a value for which `letters_of` gives exactly `letters`, or `None` if it gives them for no value.
abbrev pub IsWithLetters : {A : Type 0} → (A → List ℕ) → List ℕ → Option A → Type 0
IsWithLetters {A} name_of letters result =
    MatchOption result ((value : A) → letters ≢ letters_of name_of value) (λ value. letters ≡ letters_of name_of value)

-- The text is `ending`, the last letters of a name, in any ASCII case unless the case matters.
abbrev pub IsEnding : List ℕ → Bool → Form (Unit {0})
IsEnding ending case_sensitive text rest nothing = IsNamed case_sensitive ending text

-- ---- Single digits and pairs of letters

-- The text is the ASCII digit of n, or of n + 1 if days are one-indexed. n is 0 to 6.
abbrev pub IsDayDigit : Bool → Form ℕ
IsDayDigit one_indexed text rest n = (text ≡ (first_digit one_indexed + n) ∷ []) × (n < 7)

-- the letters, unchanged if the case matters, otherwise in lower case
abbrev pub folded : Bool → List ℕ → List ℕ
folded true letters = letters
folded false letters = str_to_ascii_lowercase letters

-- The text is any two bytes. The letters are these bytes, unchanged if the case matters, otherwise in lower case.
abbrev pub IsLetters : Bool → Form (List ℕ)
IsLetters case_sensitive text rest letters = (length text ≡ 2) × (letters ≡ folded case_sensitive text)
