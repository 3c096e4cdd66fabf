-- The pieces of ISO 8601 texts, as functions from bytes to the rest after a matching prefix, and its value; or to
-- nothing, if no prefix matches. Each function finds exactly the prefix that its relation allows (`law_iso_pieces`).
use Rattle.std.specs.Prelude.{ℕ, zero, suc, ℤ, pos, slice_get, List, [], ◌∷◌, length, take, drop, Bool, true, ◌&&◌, nat_eq, nat_le, if◌then◌else◌, Option, Some, None, option_map, option_and_then, ◌≡◌, Result, Ok, Err, ◌≤◌, ◌⊎◌, ◌↔◌, ◌++◌, false}
use Rattle.std.specs.Borrow.{Bor}
use Rattle.time_values.specs.Sign.{signed_by}
use Rattle.time_values.specs.declared.month.Month.{Month}
use Rattle.time_values.specs.declared.month.Month.TheVariants.{January, February, March, April, May, June, July, August, September, October, November, December}
use Rattle.time_values.specs.declared.weekday.Weekday.{Weekday}
use Rattle.time_values.specs.declared.weekday.Weekday.TheVariants.{Monday, Tuesday, Wednesday, Thursday, Friday, Saturday, Sunday}
use Rattle.time_values.specs.Refusal.{Refusal, refusal_of_description}
use Rattle.time_values.specs.declared.error.ParseFromDescription.{ParseFromDescription}
use Rattle.time_digits.specs.Digits.{is_negative, digits_value, Form, Cut, AllDigits, NoDigitFirst, IsDigitRun}
use Rattle.time_digits.specs.declared.Sign.{Sign}
use Rattle.time_digits.specs.declared.Sign.TheVariants.{Negative, Positive}
use Rattle.time_digits.specs.declared.ParsedItem.{ParsedItem}
use Rattle.time_components.specs.Spelling.{IsSigned}
use Rattle.time_readers.specs.Readers.{Reader, one_of, ◌or◌}
use Rattle.time_readers.specs.declared.iso8601.ExtendedKind.{ExtendedKind}
use Rattle.time_readers.specs.declared.iso8601.Part.{Part}

-- from bytes to the rest after a matching prefix, and its value; or to nothing, if no prefix matches
abbrev pub Piece : Type 0 → Type 0
Piece V = List ℕ → Option (List ℕ × V)

-- the byte is one of `0` to `9`
abbrev pub is_digit : ℕ → Bool
is_digit c = nat_le 48 c && nat_le c 57

-- each byte of the text is a digit, which also holds for no bytes
abbrev pub all_digits : List ℕ → Bool
all_digits [] = true
all_digits (c ∷ cs) = is_digit c && all_digits cs

-- The first n digits as their decimal value, or nothing if the bytes begin with fewer. Later digits are in the rest.
unfoldable pub digits : ℕ → Piece ℕ
digits n bytes =
    if nat_le n (length bytes) && all_digits (take n bytes)
    then Some (drop n bytes, digits_value (take n bytes))
    else None

-- all digits with which the bytes begin, none or more
abbrev pub leading_digits : List ℕ → List ℕ
leading_digits [] = []
leading_digits (c ∷ cs) = if is_digit c then c ∷ leading_digits cs else []

-- the rest after the byte b at the front, or nothing if the bytes are empty or begin with another byte
unfoldable pub byte : ℕ → Reader
byte b = one_of (λ c. nat_eq c b)

-- the rest after a `.` or `,` at the front of the bytes, or nothing if they begin with neither
unfoldable pub point : Reader
point = byte 46 or byte 44

-- the rest after a `-` or `+` at the front of the bytes, and its sign; or nothing if they begin with neither
unfoldable pub sign : Piece Sign
sign [] = None
sign (c ∷ cs) =
    if nat_eq c 45 then Some (cs, Negative) else (if nat_eq c 43 then Some (cs, Positive) else None)

-- the number, negated if the sign is `-`
abbrev pub with_sign : Sign → ℕ → ℤ
with_sign s n = signed_by (is_negative s) (pos n)

-- A year: six digits after a sign, or four without a sign. The last parameter is the sign and the bytes after it, if
-- the bytes begin with one.
abbrev pub year_after : List ℕ → Option (List ℕ × Sign) → Option (List ℕ × ℤ)
year_after bytes None = option_map (λ f. (f.0, pos f.1)) (digits 4 bytes)
year_after bytes (Some s) = option_map (λ f. (f.0, with_sign s.1 f.1)) (digits 6 s.0)

-- a year: a sign and six digits, or four digits without a sign
unfoldable pub year : Piece ℤ
year bytes = year_after bytes (sign bytes)

-- the months in order, from January
abbrev pub months : List Month
months =
    January ∷ February ∷ March ∷ April ∷ May ∷ June ∷ July ∷ August ∷ September ∷ October ∷ November ∷ December ∷ []

-- the weekdays in order, from Monday
abbrev pub weekdays : List Weekday
weekdays = Monday ∷ Tuesday ∷ Wednesday ∷ Thursday ∷ Friday ∷ Saturday ∷ Sunday ∷ []

-- the value of that number in a list, from 1 for the first, or nothing for any other number
abbrev pub numbered : {A : Type 0} → List A → ℕ → Option A
numbered all zero = None
numbered all (suc n) = slice_get all n

-- the first n digits, as the value that `says` maps their number to; nothing if there are fewer digits, or no value
abbrev pub mapped_digits : {A : Type 0} → ℕ → (ℕ → Option A) → Piece A
mapped_digits n says bytes = option_and_then (λ f. option_map (λ a. (f.0, a)) (says f.1)) (digits n bytes)

-- two digits of 01 to 12, as the month
unfoldable pub month : Piece Month
month = mapped_digits 2 (numbered months)

-- one digit of 1 to 7, as the weekday, 1 for Monday
unfoldable pub weekday : Piece Weekday
weekday = mapped_digits 1 (numbered weekdays)

-- the number, or nothing if it is 0
abbrev pub not_zero : ℕ → Option ℕ
not_zero v = if nat_eq v 0 then None else Some v

-- n digits that are not all 0, as their number
unfoldable pub positive : ℕ → Piece ℕ
positive n = mapped_digits n not_zero

-- the number, or nothing if it is above the greatest
abbrev pub at_most : ℕ → ℕ → Option ℕ
at_most greatest v = if nat_le v greatest then Some v else None

-- n digits of a number up to the greatest, which is the first parameter
unfoldable pub up_to : ℕ → ℕ → Piece ℕ
up_to greatest n = mapped_digits n (at_most greatest)

-- a number without a fraction, or with the digits of one
pub data Number : Type 0 where
  plain : ℕ → Number
  fraction : ℕ → List ℕ → Number

-- A number with a fraction, from its whole part, the digits after a point, and all bytes after the point. Nothing
-- without digits.
abbrev pub after_point : ℕ → List ℕ → Piece Number
after_point whole [] bytes = None
after_point whole (d ∷ ds) bytes = Some (drop (length (d ∷ ds)) bytes, fraction whole (d ∷ ds))

-- a number from its whole part, the bytes after that, and the bytes after a point if there is one; nothing if no digit
-- follows the point
abbrev pub after_whole : ℕ → List ℕ → Option (List ℕ) → Option (List ℕ × Number)
after_whole whole bytes None = Some (bytes, plain whole)
after_whole whole bytes (Some after) = after_point whole (leading_digits after) after

-- Two digits and a fraction, which is `.` or `,` and all digits after it, at least one; or two digits with neither
-- `.` nor `,` after them.
unfoldable pub number : Piece Number
number bytes = option_and_then (λ f. after_whole f.1 f.0 (point f.0)) (digits 2 bytes)

-- ---- The results of the parsers of ISO 8601 texts: what the defining functions find, and `None` if they find nothing

-- a matching prefix of the bytes: the rest after it, its value, and the kind after it
pub record Found (V : Type 0) : Type 0 where
  pub rest : List ℕ
  pub value : V
  pub kind : ExtendedKind

-- a number from its whole part and the digits of its fraction, if it has one
abbrev pub number_of : ℕ → Option (Bor (List ℕ)) → Number
number_of whole None = plain whole
number_of whole (Some digits) = fraction whole digits.now

-- the parser of a piece returns the rest and the value as viewed, or `None` if nothing is found
abbrev pub ReturnsAs : {V W : Type 0} → (V → W) → Option (List ℕ × W) → Option (ParsedItem V) → Type 0
ReturnsAs view found None = found ≡ None
ReturnsAs view found (Some p) = found ≡ Some (p.0.now, view p.1)

-- the parser of a piece returns the rest and the value, or `None` if nothing is found
abbrev pub Returns : {V : Type 0} → Option (List ℕ × V) → Option (ParsedItem V) → Type 0
Returns found result = ReturnsAs (λ v. v) found result

-- the parser of a part returns the rest, the value, and the kind, or `None` if nothing is found
abbrev pub ReturnsPart : {V : Type 0} → Option (Found V) → Option (Part V) → Type 0
ReturnsPart found None = found ≡ None
ReturnsPart found (Some p) = found ≡ Some (record { rest = p.rest.now; value = p.value; kind = p.kind })

-- the parser of a part returns the rest, the value as viewed, and the kind; or the error
abbrev pub ReturnsPartOrFault : {V W : Type 0} → (V → W) → Result (Found W) Refusal
    → Result (Part V) ParseFromDescription → Type 0
ReturnsPartOrFault view found (Err e) = found ≡ Err (refusal_of_description e)
ReturnsPartOrFault view found (Ok p) = found ≡ Ok (record { rest = p.rest.now; value = view p.value; kind = p.kind })

-- ---- The pieces of ISO 8601 texts as relations of a text, the bytes after it, and its value

-- the function finds a rest and a value if and only if the relation has the prefix before that rest, with that value
abbrev pub IsCutOf : {V : Type 0} → Piece V → Form V → Type 0
IsCutOf {V} find S = (s rest : List ℕ) (v : V) → (find s ≡ Some (rest, v)) ↔ Cut S s rest v

-- a sign and six digits, or four digits
abbrev pub IsYear : Form ℤ
IsYear text rest v =
    (a : Sign × ℕ) × (v ≡ with_sign a.0 a.1) × IsSigned false (IsDigitRun 6 6) (IsDigitRun 4 4) text rest a

-- n digits, whose number `says` maps to that value
abbrev pub IsMappedDigits : {A : Type 0} → ℕ → (ℕ → Option A) → Form A
IsMappedDigits n says text rest a = (v : ℕ) × IsDigitRun n n text rest v × (says v ≡ Some a)

-- the byte is `.` or `,`
abbrev pub IsPoint : ℕ → Type 0
IsPoint c = (c ≡ 46) ⊎ (c ≡ 44)

-- the text is empty, or doesn't begin with `.` or `,`
abbrev pub NoPointFirst : List ℕ → Type 0
NoPointFirst [] = Unit {0}
NoPointFirst (c ∷ cs) = ¬ IsPoint c

-- two digits, a point, and one or more digits of a fraction, up to the first byte that isn't a digit
pub record IsFractional (text rest : List ℕ) (v : ℕ) (digits : List ℕ) : Type 0 where
  pub whole : List ℕ
  pub mark : ℕ
  pub cut : text ≡ whole ++ mark ∷ digits
  pub run : IsDigitRun 2 2 whole (mark ∷ digits ++ rest) v
  pub is_point : IsPoint mark
  pub all : AllDigits digits
  pub some : 1 ≤ length digits
  pub ends : NoDigitFirst rest

-- two digits with no point after them, or with a fraction
abbrev pub IsNumber : Form Number
IsNumber text rest (plain v) = IsDigitRun 2 2 text rest v × NoPointFirst rest
IsNumber text rest (fraction v digits) = IsFractional text rest v digits
