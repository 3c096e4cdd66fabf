-- Readers as functions: from the bytes to the rest after what they consume, or nothing if the reader rejects them.
use Rattle.std.specs.Prelude.{◌≡◌, ℕ, List, [], ◌∷◌, ◌++◌, Bool, ◌==◌, if◌then◌else◌, Option, Some, None, option_and_then, ◌≤◌, true, false}
use Rattle.std.specs.Option.{option_or}
use Rattle.std.specs.Str.{byte}
use Prim.Native.String.{String}
use Rattle.time_digits.specs.Digits.{Form, Cut, NoCut, IsDigitRun}

-- from a state to the state after reading, or nothing if the reader rejects it
abbrev pub ReaderOf : Type 0 → Type 0
ReaderOf S = S → Option S

-- from bytes to the rest after those that the reader consumes, or nothing if it rejects them
abbrev pub Reader : Type 0
Reader = ReaderOf (List ℕ)

-- consumes one byte that passes the test, and rejects any other byte and the empty text
abbrev pub one_of : (ℕ → Bool) → Reader
one_of test [] = None
one_of test (c ∷ s) = if test c then Some s else None

-- consumes the byte of an ASCII character, and rejects any other byte and the empty text
abbrev pub char : String → Reader
char x = one_of (λ c. c == byte x)

infixr 20 ◌then◌
infixl 15 ◌or◌
-- the first reader, and then the second on its rest; rejects if either does
abbrev pub ◌then◌ : {S : Type 0} → ReaderOf S → ReaderOf S → ReaderOf S
◌then◌ p q s = option_and_then q (p s)

-- the first reader, or the second if the first rejects
abbrev pub ◌or◌ : {S : Type 0} → ReaderOf S → ReaderOf S → ReaderOf S
◌or◌ p q s = option_or (p s) (q s)

-- the reader, or no bytes if it rejects
abbrev pub optional : {S : Type 0} → ReaderOf S → ReaderOf S
optional p = p or Some

-- the reader repeated until it rejects, at most once for each byte of the list
unfoldable pub repeat : List ℕ → Reader → Reader
repeat [] p = Some
repeat (c ∷ cs) p = optional (p then repeat cs p)

-- the reader repeated until it rejects, if it consumes a byte or more each time: one repetition for each byte is enough
unfoldable pub zero_or_more : Reader → Reader
zero_or_more p s = repeat s p s

-- the reader once, and then repeated until it rejects
abbrev pub one_or_more : Reader → Reader
one_or_more p = p then zero_or_more p

-- the reader consumes exactly the text from the bytes that begin with it
abbrev pub IsRead : Reader → List ℕ → List ℕ → Type 0
IsRead p text after = p (text ++ after) ≡ Some after

-- ---- A format by places: the input is the texts of the places, one after another, and a rest. `A p n text after m`
-- states that the text, with these bytes after it, has the form of place p, and that the numbers m are n with the value
-- of the text.

-- the form of each place, which may depend on the numbers of the places before it
abbrev pub Format : Type 0 → Type 0 → Type 1
Format P N = P → N → Form N

-- The places match: the bytes are their texts, each of its form, and then the rest. The numbers are n before the first
-- place and m after the last.
unfoldable pub MatchesPlaces : {P N : Type 0} → Format P N → List P → N → List ℕ → List ℕ → N → Type 0
MatchesPlaces A [] n bytes rest m = (rest ≡ bytes) × (m ≡ n)
MatchesPlaces {P} {N} A (p ∷ ps) n bytes rest m =
    (mid : List ℕ) × (k : N) × Cut (A p n) bytes mid k × MatchesPlaces A ps k mid rest m

-- the first mismatch: the places before p match, and p doesn't match after them, with the numbers that they give
pub record StopsAt {P N : Type 0} (A : Format P N) (ps : List P) (n : N) (bytes : List ℕ) (p : P) : Type 0 where
  pub before : List P
  pub after : List P
  pub place : ps ≡ before ++ p ∷ after
  pub mid : List ℕ
  pub numbers : N
  pub stand : MatchesPlaces A before n bytes mid numbers
  pub stops : NoCut (A p numbers) mid

-- ---- Numbers of places, with or without a range check

-- the number is from `least` to `most`, inclusive, if the range is checked; else any number is allowed
abbrev pub IsWithin : Bool → ℕ → ℕ → ℕ → Type 0
IsWithin true least most v = (least ≤ v) × (v ≤ most)
IsWithin false least most v = Unit {0}

-- two digits, whose number is from `least` to `most` if the range is checked
abbrev pub IsTwoDigits : Bool → ℕ → ℕ → Form ℕ
IsTwoDigits check_ranges least most text after v = IsDigitRun 2 2 text after v × IsWithin check_ranges least most v
