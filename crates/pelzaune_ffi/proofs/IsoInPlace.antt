-- Times of ISO 8601 that are parsed in place.
use Rattle.std.proofs.Common.{◌≡◌, refl, Option, Some, None, Result, Ok, Err, ◌≤◌, ◌<◌, ◌==◌, ◌-◌, ◌∙◌, ℕ, false, IfSome, List, [], ◌∷◌, length, take, drop, pos, ap, arith, ◌≢◌, ◌+◌, get_or, true}
use Rattle.std.proofs.lemmas.Bool.{ne_eqb, le-leb}
use Rattle.std.proofs.lemmas.List.{drop_all, drop_more, take_rest}
use Rattle.time_values.specs.Refusal.{Refusal, Constructs}
use Rattle.time_values.specs.declared.error.ComponentRange.{ComponentRange}
use Rattle.time_values.specs.Dates.{calendar_date_refusal}
use Rattle.time_values.specs.Dates as Dates
use Rattle.time_values.specs.Moments.{offset_date, offset_time, offset_of}
use Rattle.time_values.specs.Names.{month_number, month_refusal}
use Rattle.time_values.specs.Offsets.{HasOffset, offset_refusal}
use Rattle.time_values.specs.Calendar.{greatest_year}
use Rattle.time_values.specs.Times.{HasClock, time_refusal}
use Rattle.time_values.specs.declared.date.Date.{Date}
use Rattle.time_values.specs.declared.month.Month.{Month}
use Rattle.time_values.specs.declared.offset_date_time.OffsetDateTime.{OffsetDateTime}
use Rattle.time_digits.specs.Digits.{Cut, IsDigit}
use Rattle.time_readers.specs.Direct.{HasDate, IsMade, IsLeapSecondValid, RefusesRfc3339, date_refusal, rfc3339_numbers}
use Rattle.time_readers.specs.Readers.{MatchesPlaces}
use Rattle.time_readers.specs.Rfc3339.{PlaceSyntax, HasForm, nothing_read, offset_places, to_second_places}
use Rattle.time_readers.specs.declared.direct.MomentNumbers.{MomentNumbers}
use Rattle.time_readers.specs.declared.rfc3339.Numbers.{Numbers}
use Rattle.time_readers.specs.declared.rfc3339.Place.TheVariants.{Subsecond}
use Rattle.time_readers.specs.IsoGrammar.{two_digits}
use Rattle.time_readers.specs.IsoPieces.{byte, number, plain, point}
use Rattle.time_readers.specs.IsoTimes.{time_text}
use Rattle.time_readers.specs.declared.iso8601.ExtendedKind.TheVariants.{Basic, Extended}
use Rattle.time_readers.proofs.MailRanges.{minute_stands, of_parts}
use Rattle.time_readers.proofs.Walking.{MatchesPlaces-append}
use Rattle.time_readers.proofs.IsoDatesAndTimes.{two_found, byte_found, byte_missing}
use Rattle.time_readers.proofs.IsoPieces.{number-plain}
use Rattle.time_readers.proofs.IsoTimes.{colon_minute, minute_basic}
use Rattle.time_parsing.specs.Outcome.{IsMomentOutcome, direct}
use Rattle.time_parsing.specs.Rfc3339.{Reads, Refuses}
use Rattle.time_parsing.specs.exact.RecordedRfc3339.{direct-value}
use Rattle.pelzaune_ffi.specs.Results.{first_refusal}

-- ---- Values built from parts that may each be rejected

-- a value that is built isn't rejected
pub Constructs-made : {A : Type 0} (r : Option Refusal) (P : A → Type 0) (v : A) → Constructs r P (Ok v) → r ≡ None
Constructs-made None P v h = refl
Constructs-made (Some e) P v h = absurd h

-- a value that is built has the property
pub Constructs-property : {A : Type 0} (r : Option Refusal) (P : A → Type 0) (v : A) → Constructs r P (Ok v) → P v
Constructs-property None P v h = h
Constructs-property (Some e) P v h = absurd h

-- without an error, a value with the property is built
pub Constructs-ok : {A : Type 0} (r : Option Refusal) (P : A → Type 0) (v : A) → r ≡ None → P v → Constructs r P (Ok v)
Constructs-ok r P v e h = rw e h

-- a property may be replaced by one that it implies
pub Constructs-map : {A : Type 0} (r : Option Refusal) (P Q : A → Type 0) (result : Result A ComponentRange)
    → ((v : A) → P v → Q v) → Constructs r P result → Constructs r Q result
Constructs-map None P Q (Ok v) f h = f v h
Constructs-map None P Q (Err e) f h = absurd h
Constructs-map (Some r) P Q (Ok v) f h = absurd h
Constructs-map (Some r) P Q (Err e) f h = h

-- if the first check passes, the error is that of the later check
pub Constructs-later : {A : Type 0} (r later : Option Refusal) (P : A → Type 0) (result : Result A ComponentRange)
    → r ≡ None → Constructs later P result → Constructs (first_refusal r later) P result
Constructs-later r later P result e h = rw e h

-- ---- Moments of RFC 3339 that are parsed in place

-- the date of numbers that are in range
pub date_of : (s : MomentNumbers) (m : Month) (d : Date) → month_refusal s.month ≡ None → month_number m ≡ s.month
    → Constructs (calendar_date_refusal greatest_year (pos s.year) (month_number m) s.day) (Dates.HasParts (pos s.year) m s.day)
    (Ok d)
    → Constructs (date_refusal greatest_year s) (HasDate s) (Ok d)
date_of s m d none named made =
    let refused = calendar_date_refusal greatest_year (pos s.year) (month_number m) s.day in
    let parts = Constructs-property refused (Dates.HasParts (pos s.year) m s.day) d made in
    let later : calendar_date_refusal greatest_year (pos s.year) s.month s.day ≡ None =
    rw named at (Constructs-made refused (Dates.HasParts (pos s.year) m s.day) d made) in
    Constructs-ok (date_refusal greatest_year s) (HasDate s) d (rw (none, later) refl)
    (record { year = parts.0; month = ap month_number parts.1 ∙ named; day = parts.2 })

-- numbers that are in range, with a second below 60, build a moment
pub made_of : (s : MomentNumbers) (v : OffsetDateTime) → s.second < 60
    → Constructs (date_refusal greatest_year s) (HasDate s) (Ok (offset_date v))
    → Constructs (time_refusal s.hour s.minute s.second s.nanosecond) (HasClock s.hour s.minute s.second s.nanosecond)
    (Ok (offset_time v))
    → Constructs (offset_refusal s.offset_hour s.offset_minute (pos 0)) (HasOffset s.offset_hour s.offset_minute (pos 0))
    (Ok (offset_of v))
    → IsMade greatest_year s v
unfolding IsLeapSecondValid
made_of s v below date clock offset =
    let other : (s.second == 60) ≡ false = ne_eqb s.second 60 (λ leap. absurd (omega arith)) in
    let found = of_parts greatest_year s _ _ _ v refl refl refl date (rw other clock) offset in
    (found.0, found.1, λ leap. absurd (omega arith))

-- the places of a text's start, one after another
pub whole_matches : (bytes mid left rest : List ℕ) (n k m : Numbers) → MatchesPlaces (PlaceSyntax false) to_second_places nothing_read bytes mid n
    → Cut (PlaceSyntax false Subsecond n) mid left k → MatchesPlaces (PlaceSyntax false) offset_places k left rest m → HasForm false bytes rest m
unfolding MatchesPlaces
whole_matches bytes mid left rest n k m first fraction last =
    MatchesPlaces-append (PlaceSyntax false) to_second_places (Subsecond ∷ offset_places) nothing_read n m bytes mid rest first (left, k, fraction, last)

-- nothing follows all bytes
pub nothing_left : (xs : List ℕ) (n : ℕ) → length xs ≡ n → take (length xs - n) (drop n xs) ≡ []
nothing_left xs n all = take_rest xs n ∙ drop_all n xs (omega arith)

-- parsing the whole text results in the moment of its numbers
pub outcome_of : (bytes : List ℕ) (n : Numbers) (o : Option OffsetDateTime) → HasForm false bytes [] n → n.offset_minute ≤ 59
    → IfSome o (λ v. IsMade greatest_year (rfc3339_numbers n) v)
    → IfSome o (λ v. IsMomentOutcome greatest_year (direct (RefusesRfc3339 greatest_year)) (Reads greatest_year)
    (Refuses greatest_year) bytes None (Ok v))
outcome_of bytes n None form minute made = made
outcome_of bytes n (Some v) form minute made = direct-value bytes v (n, form, minute_stands n minute, made)

-- no fraction without a point or a comma
pub no_point : (s : List ℕ) → get_or s 0 0 ≢ 46 → get_or s 0 0 ≢ 44 → point s ≡ None
unfolding point byte
no_point [] dot comma = refl
no_point (c ∷ s) dot comma = rw (byte_missing 46 c s dot, byte_missing 44 c s comma) refl

-- no fraction in an empty text
pub no_bytes : (s : List ℕ) → length s ≡ 0 → point s ≡ None
unfolding point byte
no_bytes [] e = refl
no_bytes (c ∷ s) e = absurd (omega (arith, e))

-- two digits with no point after them
plain_found : (a b c : ℕ) (rest : List ℕ) → IsDigit a → IsDigit b → 48 ≤ c → number (a ∷ b ∷ c ∷ rest) ≡ Some (c ∷ rest, plain (two_digits a b))
plain_found a b c rest p q high =
    number-plain (a ∷ b ∷ c ∷ rest) (c ∷ rest) (two_digits a b) (two_found a b (c ∷ rest) p q)
    (no_point (c ∷ rest) (λ e. omega (arith, high, e)) (λ e. omega (arith, high, e)))

last_found : (a b : ℕ) (rest : List ℕ) → IsDigit a → IsDigit b → point rest ≡ None → number (a ∷ b ∷ rest) ≡ Some (rest, plain (two_digits a b))
last_found a b rest p q none = number-plain (a ∷ b ∷ rest) rest (two_digits a b) (two_found a b rest p q) none

extended_bytes : (t h0 h1 c n0 n1 e s0 s1 : ℕ) (after : List ℕ) → t ≡ 84 → IsDigit h0 → IsDigit h1 → two_digits h0 h1 ≤ 23
    → c ≡ 58 → IsDigit n0 → n0 ≤ 53 → IsDigit n1 → e ≡ 58 → IsDigit s0 → s0 ≤ 53 → IsDigit s1 → point after ≡ None
    → time_text true Extended (t ∷ h0 ∷ h1 ∷ c ∷ n0 ∷ n1 ∷ e ∷ s0 ∷ s1 ∷ after) ≡ Some (record {
      rest = after;
      value = record { hour = two_digits h0 h1; minute = two_digits n0 n1; second = two_digits s0 s1; subsecond = 0 };
      kind = Extended;
    })
extended_bytes t h0 h1 c n0 n1 e s0 s1 after mark p0 p1 small colon q0 five q1 colon2 r0 six r1 none =
    let left = s0 ∷ s1 ∷ after in
    rw (
      byte_found 84 t (h0 ∷ h1 ∷ c ∷ n0 ∷ n1 ∷ e ∷ left) mark,
      colon_minute (h0 ∷ h1 ∷ c ∷ n0 ∷ n1 ∷ e ∷ left) (c ∷ n0 ∷ n1 ∷ e ∷ left) (two_digits h0 h1)
          (plain_found h0 h1 c (n0 ∷ n1 ∷ e ∷ left) p0 p1 (omega (arith, colon))) small Extended
          (n0 ∷ n1 ∷ e ∷ left) (e ∷ left) (two_digits n0 n1) (Some left) refl
          (byte_found 58 c (n0 ∷ n1 ∷ e ∷ left) colon)
          (plain_found n0 n1 e left q0 q1 (omega (arith, colon2))) (omega (arith, five, q1))
          (byte_found 58 e left colon2),
      last_found s0 s1 after r0 r1 none,
      le-leb (two_digits s0 s1) 60 (omega (arith, six, r1)),
    ) refl

basic_bytes : (t h0 h1 n0 n1 s0 s1 : ℕ) (after : List ℕ) → t ≡ 84 → IsDigit h0 → IsDigit h1 → two_digits h0 h1 ≤ 23
    → IsDigit n0 → n0 ≤ 53 → IsDigit n1 → IsDigit s0 → s0 ≤ 53 → IsDigit s1 → point after ≡ None
    → time_text true Basic (t ∷ h0 ∷ h1 ∷ n0 ∷ n1 ∷ s0 ∷ s1 ∷ after) ≡ Some (record {
      rest = after;
      value = record { hour = two_digits h0 h1; minute = two_digits n0 n1; second = two_digits s0 s1; subsecond = 0 };
      kind = Basic;
    })
basic_bytes t h0 h1 n0 n1 s0 s1 after mark p0 p1 small q0 five q1 r0 six r1 none =
    rw (
      byte_found 84 t (h0 ∷ h1 ∷ n0 ∷ n1 ∷ s0 ∷ s1 ∷ after) mark,
      minute_basic (h0 ∷ h1 ∷ n0 ∷ n1 ∷ s0 ∷ s1 ∷ after) (n0 ∷ n1 ∷ s0 ∷ s1 ∷ after) (two_digits h0 h1)
          (plain_found h0 h1 n0 (n1 ∷ s0 ∷ s1 ∷ after) p0 p1 q0.0) small Basic (s0 ∷ s1 ∷ after) (two_digits n0 n1)
          (Some (after, plain (two_digits s0 s1))) refl (byte_missing 58 n0 (n1 ∷ s0 ∷ s1 ∷ after) (λ e. omega (arith, five, e)))
          (plain_found n0 n1 s0 (s1 ∷ after) q0 q1 r0.0) (omega (arith, five, q1))
          (last_found s0 s1 after r0 r1 none),
      le-leb (two_digits s0 s1) 60 (omega (arith, six, r1)),
    ) refl

-- one more byte of the rest
next : (s : List ℕ) (k : ℕ) (t : List ℕ) → k < length s → drop (k + 1) s ≡ t → drop k s ≡ get_or s k 0 ∷ t
next s k t h e = drop_more s k 0 h ∙ ap (λ r. get_or s k 0 ∷ r) e

first_seven : (s : List ℕ) → 7 ≤ length s
    → s ≡ get_or s 0 0 ∷ get_or s 1 0 ∷ get_or s 2 0 ∷ get_or s 3 0 ∷ get_or s 4 0 ∷ get_or s 5 0 ∷ get_or s 6 0 ∷ drop 7 s
first_seven s h =
    next s 0 _ (omega (arith, h)) (next s 1 _ (omega (arith, h)) (next s 2 _ (omega (arith, h)) (next s 3 _ (omega (arith, h))
    (next s 4 _ (omega (arith, h)) (next s 5 _ (omega (arith, h)) (next s 6 _ (omega (arith, h)) refl))))))

first_nine : (s : List ℕ) → 9 ≤ length s
    → s ≡ get_or s 0 0 ∷ get_or s 1 0 ∷ get_or s 2 0 ∷ get_or s 3 0 ∷ get_or s 4 0 ∷ get_or s 5 0 ∷ get_or s 6 0
    ∷ get_or s 7 0 ∷ get_or s 8 0 ∷ drop 9 s
first_nine s h =
    next s 0 _ (omega (arith, h)) (next s 1 _ (omega (arith, h)) (next s 2 _ (omega (arith, h)) (next s 3 _ (omega (arith, h))
    (next s 4 _ (omega (arith, h)) (next s 5 _ (omega (arith, h)) (next s 6 _ (omega (arith, h)) (next s 7 _ (omega (arith, h))
    (next s 8 _ (omega (arith, h)) refl))))))))

-- `T` and a time up to the second, with separators
pub extended_time : (s : List ℕ) → 9 ≤ length s → get_or s 0 0 ≡ 84 → IsDigit (get_or s 1 0) → IsDigit (get_or s 2 0)
    → two_digits (get_or s 1 0) (get_or s 2 0) ≤ 23 → get_or s 3 0 ≡ 58
    → IsDigit (get_or s 4 0) → get_or s 4 0 ≤ 53 → IsDigit (get_or s 5 0) → get_or s 6 0 ≡ 58
    → IsDigit (get_or s 7 0) → get_or s 7 0 ≤ 53 → IsDigit (get_or s 8 0) → point (drop 9 s) ≡ None
    → time_text true Extended s ≡ Some (record {
      rest = drop 9 s;
      value = record {
        hour = two_digits (get_or s 1 0) (get_or s 2 0);
        minute = two_digits (get_or s 4 0) (get_or s 5 0);
        second = two_digits (get_or s 7 0) (get_or s 8 0);
        subsecond = 0;
      };
      kind = Extended;
    })
extended_time s long mark p0 p1 small colon q0 five q1 colon2 r0 six r1 none =
    ap (time_text true Extended) (first_nine s long)
    ∙ extended_bytes _ _ _ _ _ _ _ _ _ (drop 9 s) mark p0 p1 small colon q0 five q1 colon2 r0 six r1 none

-- `T` and a time up to the second, without separators
pub basic_time : (s : List ℕ) → 7 ≤ length s → get_or s 0 0 ≡ 84 → IsDigit (get_or s 1 0) → IsDigit (get_or s 2 0)
    → two_digits (get_or s 1 0) (get_or s 2 0) ≤ 23
    → IsDigit (get_or s 3 0) → get_or s 3 0 ≤ 53 → IsDigit (get_or s 4 0)
    → IsDigit (get_or s 5 0) → get_or s 5 0 ≤ 53 → IsDigit (get_or s 6 0) → point (drop 7 s) ≡ None
    → time_text true Basic s ≡ Some (record {
      rest = drop 7 s;
      value = record {
        hour = two_digits (get_or s 1 0) (get_or s 2 0);
        minute = two_digits (get_or s 3 0) (get_or s 4 0);
        second = two_digits (get_or s 5 0) (get_or s 6 0);
        subsecond = 0;
      };
      kind = Basic;
    })
basic_time s long mark p0 p1 small q0 five q1 r0 six r1 none =
    ap (time_text true Basic) (first_seven s long)
    ∙ basic_bytes _ _ _ _ _ _ _ (drop 7 s) mark p0 p1 small q0 five q1 r0 six r1 none
