-- Laws of the definitions, each proved by the function of module `laws` that has it as its contract.
use Rattle.std.specs.Prelude.{◌≡◌, ◌≤◌, ◌↔◌, ℕ, List, ◌∷◌, ◌++◌, length, Some, None}
use Rattle.time_values.specs.Refusal.{Refusal}
use Rattle.time_values.specs.declared.offset_date_time.OffsetDateTime.{OffsetDateTime}
use Rattle.time_readers.specs.Readers.{Reader, zero_or_more, Format, MatchesPlaces, StopsAt}
use Rattle.time_digits.specs.Digits.{Form, IsDigitRun, IsSign}
use Rattle.time_readers.specs.IsoPieces.{IsCutOf, IsYear, IsMappedDigits, IsNumber}
use Rattle.time_readers.specs.IsoTimes.{IsFloor, IsRounded, floor_of, round_of, time_texts}
use Rattle.time_readers.specs.IsoOffsets.{offset_texts}
use Rattle.time_readers.specs.IsoPieces as IsoPieces
use Rattle.time_readers.specs.declared.iso8601.ExtendedKind.{ExtendedKind}

-- by these places, from the numbers `start`, the bytes have at most one result, at most one first place that doesn't
-- match, and never both
pub record OneForm {P N : Type 0} (A : Format P N) (ps : List P) (start : N) (bytes : List ℕ) : Type 0 where
  pub one_reading : (x y : List ℕ) (n m : N)
      → MatchesPlaces A ps start bytes x n → MatchesPlaces A ps start bytes y m → (x ≡ y) × (n ≡ m)
  pub one_place : (p q : P) → StopsAt A ps start bytes p → StopsAt A ps start bytes q → p ≡ q
  pub never_both : (x : List ℕ) (n : N) (p : P) → MatchesPlaces A ps start bytes x n → ¬ StopsAt A ps start bytes p

-- the reader consumes a byte or more whenever it succeeds
abbrev pub Consumes : Reader → Type 0
Consumes p = (s r : List ℕ) → p s ≡ Some r → (c : ℕ) × (text : List ℕ) × (s ≡ c ∷ (text ++ r))

-- `zero_or_more` repeats the reader until it rejects, and consumes nothing if it rejects at once
pub record IsRepeated (p : Reader) : Type 0 where
  pub repeats : (s r : List ℕ) → p s ≡ Some r → zero_or_more p s ≡ zero_or_more p r
  pub ends : (s : List ℕ) → p s ≡ None → zero_or_more p s ≡ Some s

-- the function of each piece of ISO 8601 finds a prefix and a value if and only if the relation of the piece has them
pub record IsoPiecesAreCuts : Type 0 where
  pub digits : (n : ℕ) → IsCutOf (IsoPieces.digits n) (IsDigitRun n n)
  pub sign : IsCutOf IsoPieces.sign IsSign
  pub year : IsCutOf IsoPieces.year IsYear
  pub month : IsCutOf IsoPieces.month (IsMappedDigits 2 (IsoPieces.numbered IsoPieces.months))
  pub weekday : IsCutOf IsoPieces.weekday (IsMappedDigits 1 (IsoPieces.numbered IsoPieces.weekdays))
  pub positive : (n : ℕ) → IsCutOf (IsoPieces.positive n) (IsMappedDigits n IsoPieces.not_zero)
  pub up_to : (greatest n : ℕ) → IsCutOf (IsoPieces.up_to greatest n) (IsMappedDigits n (IsoPieces.at_most greatest))
  pub number : IsCutOf IsoPieces.number IsNumber

-- at most one row of the table of times matches
abbrev pub OneTimeRow : Type 0
OneTimeRow = (kind : ExtendedKind) (bytes : List ℕ) → length (time_texts kind bytes) ≤ 1

-- at most one row of the table of offsets matches
abbrev pub OneOffsetRow : Type 0
OneOffsetRow = (kind : ExtendedKind) (bytes : List ℕ) → length (offset_texts kind bytes) ≤ 1

-- exactly one number is the truncated fraction of a unit, and exactly one the rounded fraction
pub record OneFraction : Type 0 where
  pub floor : (digits : List ℕ) (unit m : ℕ) → IsFloor digits unit m ↔ (m ≡ floor_of digits unit)
  pub rounded : (digits : List ℕ) (unit m : ℕ) → IsRounded digits unit m ↔ (m ≡ round_of digits unit)

-- a text matches with range checks if and only if it matches without them and its numbers are in range
abbrev pub RangedForms : {N : Type 0} → Form N → Form N → (N → Type 0) → Type 0
RangedForms {N} check_ranges formed InRanges =
    (bytes rest : List ℕ) (n : N) → check_ranges bytes rest n ↔ (formed bytes rest n × InRanges n)

-- a direct path has at most one moment and at most one error for a text, and never both
pub record OneDirect (value : List ℕ → OffsetDateTime → Type 0) (refuses : List ℕ → Refusal → Type 0) : Type 0 where
  pub one_value : (bytes : List ℕ) (v w : OffsetDateTime) → value bytes v → value bytes w → v ≡ w
  pub one_refusal : (bytes : List ℕ) (e f : Refusal) → refuses bytes e → refuses bytes f → e ≡ f
  pub never_both : (bytes : List ℕ) (v : OffsetDateTime) (e : Refusal) → value bytes v → refuses bytes e → ⊥
