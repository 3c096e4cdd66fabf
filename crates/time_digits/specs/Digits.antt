-- Runs of decimal digits, as relations between the text, the rest after it, and the number.
use Rattle.std.specs.Prelude.{◌≡◌, ℕ, List, ◌++◌, Option, MatchOption, ◌≢◌, ◌+◌, ◌-◌, ◌*◌, ◌^◌, ◌≤◌, ◌⊎◌, [], ◌∷◌, length, take, replicate, Bool, true, false}
use Rattle.std.specs.Char.{to_ascii_lowercase}
use Rattle.time_digits.specs.declared.ParsedItem.{ParsedItem}
use Rattle.time_digits.specs.declared.Padding.{Padding}
use Rattle.time_digits.specs.declared.Padding.TheVariants as padding
use Rattle.time_digits.specs.declared.Sign.{Sign}
use Rattle.time_digits.specs.declared.Sign.TheVariants.{Negative, Positive}

-- ---- The result of a parser: the text at the start of its input, the rest after it, and a value

-- a form: a relation between a text, the rest of the input after it, and the value that the text parses as
abbrev pub Form : Type 0 → Type 1
Form V = List ℕ → List ℕ → V → Type 0

-- the input is a text that parses as the value in the form S, followed by the rest
abbrev pub Cut : {V : Type 0} → Form V → List ℕ → List ℕ → V → Type 0
Cut S input rest v = (text : List ℕ) × (input ≡ text ++ rest) × S text rest v

-- no prefix of the input parses as any value in the form S
abbrev pub NoCut : {V : Type 0} → Form V → List ℕ → Type 0
NoCut {V} S input = (text rest : List ℕ) (v : V) → input ≡ text ++ rest → S text rest v → ⊥

-- the contract of a parser of the form S: `Some` with a rest and a value if a prefix of the input parses in the form S
-- as `view` of the value, and `None` if no prefix parses in the form S
abbrev pub Finds : {V A : Type 0} → Form V → (A → V) → List ℕ → Option (ParsedItem A) → Type 0
Finds S view input result = MatchOption result (NoCut S input) (λ found. Cut S input found.0.now (view found.1))

-- for each input, at most one prefix parses in the form S, and as one value
abbrev pub AtMostOneCut : {V : Type 0} → Form V → Type 0
AtMostOneCut {V} S = (input x y : List ℕ) (v w : V) → Cut S input x v → Cut S input y w → (x ≡ y) × (v ≡ w)

-- the byte is an ASCII digit, `0` to `9`
abbrev pub IsDigit : ℕ → Type 0
IsDigit c = (48 ≤ c) × (c ≤ 57)

-- each byte of the text is an ASCII digit; true of the empty text
abbrev pub AllDigits : List ℕ → Type 0
AllDigits [] = Unit {0}
AllDigits (c ∷ cs) = IsDigit c × AllDigits cs

-- the decimal value of a text of ASCII digits, 0 for the empty text
abbrev pub digits_value : List ℕ → ℕ
digits_value [] = 0
digits_value (c ∷ cs) = (c - 48) * 10 ^ length cs + digits_value cs

-- the text is empty, or its first byte is no ASCII digit
abbrev pub NoDigitFirst : List ℕ → Type 0
NoDigitFirst [] = Unit {0}
NoDigitFirst (c ∷ cs) = ¬ IsDigit c

-- the text is empty, or its first byte is no ASCII space
abbrev pub NoSpaceFirst : List ℕ → Type 0
NoSpaceFirst [] = Unit {0}
NoSpaceFirst (c ∷ cs) = c ≢ 32

-- The text is all leading ASCII digits of the input up to `most`, at least `least`. The value is their decimal value.
pub record IsDigitRun (least most : ℕ) (text rest : List ℕ) (value : ℕ) : Type 0 where
  pub digits : AllDigits text
  pub enough : least ≤ length text
  pub within : length text ≤ most
  pub ends : (length text ≡ most) ⊎ NoDigitFirst rest
  pub is : value ≡ digits_value text

-- The text is all leading spaces up to `least - 1`, and then all digits, `least` to `most` bytes in all. The value is
-- the decimal value of the digits.
pub record IsSpacedRun (least most : ℕ) (text rest : List ℕ) (value : ℕ) : Type 0 where
  pub spaces : ℕ
  pub digits : List ℕ
  pub cut : text ≡ replicate spaces 32 ++ digits
  pub few : spaces ≤ least - 1
  pub all : (spaces ≡ least - 1) ⊎ NoSpaceFirst (digits ++ rest)
  pub run : IsDigitRun (least - spaces) (most - spaces) digits rest value

-- the text is a number of `least` to `most` bytes with the padding; without padding, of 1 to `most` digits
abbrev pub IsPaddedRun : Padding → ℕ → ℕ → Form ℕ
IsPaddedRun padding.Space least most text rest value = IsSpacedRun least most text rest value
IsPaddedRun padding.Zero least most text rest value = IsDigitRun least most text rest value
IsPaddedRun padding.None least most text rest value = IsDigitRun 1 most text rest value

-- the text is all leading digits up to `most`, at least `least`, and their decimal value is at most `greatest`
abbrev pub IsDigitRunUpTo : ℕ → ℕ → ℕ → Form ℕ
IsDigitRunUpTo greatest least most text rest value = IsDigitRun least most text rest value × (value ≤ greatest)

-- the text is a number with the padding, as in `IsPaddedRun`, and its value is at most `greatest`
abbrev pub IsPaddedRunUpTo : ℕ → Padding → ℕ → ℕ → Form ℕ
IsPaddedRunUpTo greatest padding least most text rest value =
    IsPaddedRun padding least most text rest value × (value ≤ greatest)

-- the nanoseconds of the digits of a second after its decimal point; digits after the ninth are ignored
abbrev pub fraction_nanoseconds : List ℕ → ℕ
fraction_nanoseconds text = digits_value (take 9 text) * 10 ^ (9 - length text)

-- The text is all leading digits of the input, one or more, and the value is their nanoseconds as digits of a second
-- after its decimal point.
pub record IsFraction (text rest : List ℕ) (nanoseconds : ℕ) : Type 0 where
  pub digits : AllDigits text
  pub enough : 1 ≤ length text
  pub ends : NoDigitFirst rest
  pub is : nanoseconds ≡ fraction_nanoseconds text

-- ---- Texts of one byte

-- the text is only that byte
abbrev pub IsByte : ℕ → Form (Unit {0})
IsByte byte text rest nothing = text ≡ byte ∷ []

-- the text is only that byte, in either case if it is an ASCII letter
abbrev pub IsByteIgnoringCase : ℕ → Form (Unit {0})
IsByteIgnoringCase byte text rest nothing =
    (c : ℕ) × (text ≡ c ∷ []) × (to_ascii_lowercase c ≡ to_ascii_lowercase byte)

-- the text is one ASCII digit, and the value is its byte, 48 to 57
abbrev pub IsDigitByte : Form ℕ
IsDigitByte text rest byte = (text ≡ byte ∷ []) × IsDigit byte

-- the ASCII byte of the sign: `-` for a negative sign and `+` for a positive one
abbrev pub sign_byte : Sign → ℕ
sign_byte Negative = 45
sign_byte Positive = 43

-- the text is only the byte of that sign
abbrev pub IsSign : Form Sign
IsSign text rest sign = text ≡ sign_byte sign ∷ []

-- whether the sign is `-`
abbrev pub is_negative : Sign → Bool
is_negative Negative = true
is_negative Positive = false

-- ---- Laws of the definitions, each the contract of a function of module `laws`, which proves it

-- for given lengths, at most one prefix of an input parses as a run of digits, and as one value
abbrev pub OneDigitRun : Type 0
OneDigitRun = (least most : ℕ) → AtMostOneCut (IsDigitRun least most)

-- for a given padding and lengths, at most one prefix of an input parses as a padded number, and as one value
abbrev pub OnePaddedRun : Type 0
OnePaddedRun = (padding : Padding) (least most : ℕ) → AtMostOneCut (IsPaddedRun padding least most)
