-- Known texts of RFC 3339 and their values, so that a wrong rule in the specs does not check.
use Rattle.std.proofs.Common.{◌≡◌, ◌<◌, ◌⊎◌, ℕ, List, [], ◌∷◌, ◌++◌, length, length-append, codes, Option, Some, None, Bool, true, false, inl, inr}
use Rattle.std.proofs.Common.{refl, ap, sym, subst, ◌∙◌, arith, rules}
use Rattle.std.specs.Char.{to_ascii_lowercase}
use Rattle.time_digits.specs.declared.Sign.TheVariants.{Negative, Positive}
use Rattle.time_digits.specs.Digits.{Cut, NoCut, IsDigitRun, digits_value, sign_byte}
use Rattle.time_digits.proofs.Runs.{IsDigitRun-unique}
use Rattle.time_digits.proofs.StandardFacts.{no_digit_first}
use Rattle.time_readers.specs.Readers.{Format, MatchesPlaces, IsTwoDigits}
use Rattle.time_readers.specs.Rfc3339.{NoDotFirst, IsSubsecond, PlaceSyntax, nothing_read, date_places, clock_places, to_second_places, offset_places}
use Rattle.time_readers.specs.Rfc3339.{places, HasForm, FailsAt}
use Rattle.time_readers.specs.declared.rfc3339.Numbers.{Numbers}
use Rattle.time_readers.specs.declared.rfc3339.Place.{Place}
use Rattle.time_readers.specs.declared.rfc3339.Place.TheVariants.{Year, YearDash, Month, Separator, Hour, Subsecond, OffsetHour, OffsetColon, OffsetMinute}
use Rattle.time_readers.proofs.ToSecond.{within}
use Rattle.time_readers.proofs.Walking.{MatchesPlaces-append}

-- the bytes are the texts of the places and the rest
pub record Texts {P N : Type 0} (A : Format P N) (ps : List P) (n : N) (bytes rest : List ℕ) (m : N) : Type 0 where
  pub form : MatchesPlaces A ps n bytes rest m

infixr 20 ◌next◌
-- the text of a place, and then those of the other places
pub ◌next◌ : {P N : Type 0} {A : Format P N} {p : P} {ps : List P} {n k m : N} {bytes mid rest : List ℕ} → Cut (A p n) bytes mid k
    → Texts A ps k mid rest m → Texts A (p ∷ ps) n bytes rest m
unfolding MatchesPlaces
◌next◌ first others = record { form = (_, _, first, others.form) }

pub done : {P N : Type 0} {A : Format P N} {n : N} {bytes : List ℕ} → Texts A [] n bytes bytes n
unfolding MatchesPlaces
done = record { form = (refl, refl) }

pub form_of : {P N : Type 0} {A : Format P N} {ps : List P} {n m : N} {bytes rest : List ℕ} → Texts A ps n bytes rest m
    → MatchesPlaces A ps n bytes rest m
form_of texts = texts.form

-- ---- Parts of these texts

abbrev pub dated : ℕ → ℕ → ℕ → Numbers
dated y m d = record nothing_read { year = y; month = m; day = d }

abbrev pub at_clock : Numbers → ℕ → ℕ → ℕ → Numbers
at_clock n h m s = record n { hour = h; minute = m; second = s }

date_2021 : (check : Bool) (after : List ℕ) → MatchesPlaces (PlaceSyntax check) date_places nothing_read (codes "2021-01-02" ++ after) after (dated 2021 1 2)
date_2021 check after = form_of (
    (codes "2021", refl, (2021, search rules, refl)) next
    (codes "-", refl, (refl, refl)) next
    (codes "01", refl, (1, (search rules, within check 1 12 1 (omega arith) (omega arith)), (λ e. omega arith), refl)) next
    (codes "-", refl, (refl, refl)) next
    (codes "02", refl, (2, (search rules, within check 1 31 2 (omega arith) (omega arith)), refl)) next done)

clock_030405 : (check : Bool) (n : Numbers) (after : List ℕ)
    → MatchesPlaces (PlaceSyntax check) clock_places n (codes "T03:04:05" ++ after) after (at_clock n 3 4 5)
clock_030405 check n after = form_of (
    (codes "T", refl, (refl, refl)) next
    (codes "03", refl, (3, (search rules, within check 0 23 3 (omega arith) (omega arith)), refl)) next
    (codes ":", refl, (refl, refl)) next
    (codes "04", refl, (4, (search rules, within check 0 59 4 (omega arith) (omega arith)), refl)) next
    (codes ":", refl, (refl, refl)) next
    (codes "05", refl, (5, (search rules, within check 0 60 5 (omega arith) (omega arith)), refl)) next done)

abbrev pub front : Numbers
front = at_clock (dated 2021 1 2) 3 4 5

to_second : (check : Bool) (after : List ℕ) → MatchesPlaces (PlaceSyntax check) to_second_places nothing_read (codes "2021-01-02T03:04:05" ++ after) after front
to_second check after =
    MatchesPlaces-append (PlaceSyntax check) date_places clock_places nothing_read (dated 2021 1 2) front (codes "2021-01-02T03:04:05" ++ after)
    (codes "T03:04:05" ++ after) after (date_2021 check (codes "T03:04:05" ++ after)) (clock_030405 check (dated 2021 1 2) after)

-- a text with that front
pub whole : (check : Bool) (after rest : List ℕ) (m : Numbers) → MatchesPlaces (PlaceSyntax check) (Subsecond ∷ offset_places) front after rest m
    → HasForm check (codes "2021-01-02T03:04:05" ++ after) rest m
whole check after rest m others =
    MatchesPlaces-append (PlaceSyntax check) to_second_places (Subsecond ∷ offset_places) nothing_read front m (codes "2021-01-02T03:04:05" ++ after)
    after rest (to_second check after) others

pub utc : (check : Bool) (n : Numbers) (rest : List ℕ) → MatchesPlaces (PlaceSyntax check) (Subsecond ∷ offset_places) n (codes "Z" ++ rest) rest
    (record n { subsecond = None; is_utc = true })
utc check n rest = form_of (
    ([], refl, (None, (refl, λ e. omega arith), refl)) next
    (codes "Z", refl, inl ((90, refl, refl), refl)) next
    ([], refl, (refl, refl)) next
    ([], refl, (refl, refl)) next done)

-- ---- Texts that match

pub text_of_the_standard : HasForm true (codes "1985-04-12T23:20:50.52Z") []
    (record (at_clock (dated 1985 4 12) 23 20 50) { subsecond = Some 520_000_000; is_utc = true })
text_of_the_standard = form_of (
    (codes "1985", refl, (1985, search rules, refl)) next
    (codes "-", refl, (refl, refl)) next
    (codes "04", refl, (4, search rules, (λ e. omega arith), refl)) next
    (codes "-", refl, (refl, refl)) next
    (codes "12", refl, (12, search rules, refl)) next
    (codes "T", refl, (refl, refl)) next
    (codes "23", refl, (23, search rules, refl)) next
    (codes ":", refl, (refl, refl)) next
    (codes "20", refl, (20, search rules, refl)) next
    (codes ":", refl, (refl, refl)) next
    (codes "50", refl, (50, search rules, refl)) next
    (codes ".52", refl, (Some 520_000_000, (codes "52", refl, search rules), refl)) next
    (codes "Z", refl, inl ((90, refl, refl), refl)) next
    ([], refl, (refl, refl)) next
    ([], refl, (refl, refl)) next done)

pub leap_second_with_an_offset : HasForm true (codes "1990-12-31T15:59:60-08:00") []
    (record (at_clock (dated 1990 12 31) 15 59 60) { offset_is_negative = true; offset_hour = 8 })
leap_second_with_an_offset = form_of (
    (codes "1990", refl, (1990, search rules, refl)) next
    (codes "-", refl, (refl, refl)) next
    (codes "12", refl, (12, search rules, (λ e. omega arith), refl)) next
    (codes "-", refl, (refl, refl)) next
    (codes "31", refl, (31, search rules, refl)) next
    (codes "T", refl, (refl, refl)) next
    (codes "15", refl, (15, search rules, refl)) next
    (codes ":", refl, (refl, refl)) next
    (codes "59", refl, (59, search rules, refl)) next
    (codes ":", refl, (refl, refl)) next
    (codes "60", refl, (60, search rules, refl)) next
    ([], refl, (None, (refl, λ e. omega arith), refl)) next
    (codes "-08", refl, inr (record { sign = Negative; digits = codes "08"; hour = 8; cut = refl; run = search rules; says = refl })) next
    (codes ":", refl, (refl, refl)) next
    (codes "00", refl, (0, search rules, refl)) next done)

pub tenth_digit_is_dropped : HasForm true (codes "2021-01-02T03:04:05.1234567899z") [] (record front { subsecond = Some 123_456_789; is_utc = true })
tenth_digit_is_dropped = whole true _ _ _ (form_of (
    (codes ".1234567899", refl, (Some 123_456_789, (codes "1234567899", refl, search rules), refl)) next
    (codes "z", refl, inl ((122, refl, refl), refl)) next
    ([], refl, (refl, refl)) next
    ([], refl, (refl, refl)) next done))

-- without range checks a minute of 60 matches
abbrev pub past_range : Numbers
past_range = record front { offset_hour = 5; offset_minute = 60 }

pub minute_60_has_the_form : (rest : List ℕ) → HasForm false (codes "2021-01-02T03:04:05+05:60" ++ rest) rest past_range
minute_60_has_the_form rest = whole false (codes "+05:60" ++ rest) rest past_range (form_of (
    ([], refl, (None, (refl, λ e. omega arith), refl)) next
    (codes "+05", refl, inr (record { sign = Positive; digits = codes "05"; hour = 5; cut = refl; run = search rules; says = refl })) next
    (codes ":", refl, (refl, refl)) next
    (codes "60", refl, (60, search rules, refl)) next done))

-- midnight of that date in UTC
abbrev pub midnight : ℕ → ℕ → Numbers
midnight m d = record (at_clock (dated 2021 m d) 0 0 0) { is_utc = true }

clock_000000 : (n : Numbers) (after : List ℕ) → MatchesPlaces (PlaceSyntax false) clock_places n (codes "T00:00:00" ++ after) after (at_clock n 0 0 0)
clock_000000 n after = form_of (
    (codes "T", refl, (refl, refl)) next
    (codes "00", refl, (0, search rules, refl)) next
    (codes ":", refl, (refl, refl)) next
    (codes "00", refl, (0, search rules, refl)) next
    (codes ":", refl, (refl, refl)) next
    (codes "00", refl, (0, search rules, refl)) next done)

date_13 : (after : List ℕ) → MatchesPlaces (PlaceSyntax false) date_places nothing_read (codes "2021-13-01" ++ after) after (dated 2021 13 1)
date_13 after = form_of (
    (codes "2021", refl, (2021, search rules, refl)) next
    (codes "-", refl, (refl, refl)) next
    (codes "13", refl, (13, search rules, (λ e. omega arith), refl)) next
    (codes "-", refl, (refl, refl)) next
    (codes "01", refl, (1, search rules, refl)) next done)

pub month_13_has_the_form : (rest : List ℕ) → HasForm false (codes "2021-13-01T00:00:00Z" ++ rest) rest (midnight 13 1)
month_13_has_the_form rest =
    MatchesPlaces-append (PlaceSyntax false) date_places _ nothing_read (dated 2021 13 1) (midnight 13 1) _ (codes "T00:00:00Z" ++ rest) rest (date_13 _)
    (MatchesPlaces-append (PlaceSyntax false) clock_places _ (dated 2021 13 1) (at_clock (dated 2021 13 1) 0 0 0) (midnight 13 1) _ (codes "Z" ++ rest) rest
    (clock_000000 _ _) (utc false _ rest))

-- ---- Texts that don't match, by the first place that doesn't match

-- two digits out of their range
pub outside : (least most : ℕ) (digits rest : List ℕ) (v : ℕ) → IsDigitRun 2 2 digits rest v → (v < least) ⊎ (most < v)
    → NoCut (IsTwoDigits true least most) (digits ++ rest)
outside least most digits rest v run (inl below) text left w e two =
    let is = IsDigitRun-unique 2 2 2 text digits left rest w v two.0 run (sym e) in
    omega (arith, two.1, is.2)
outside least most digits rest v run (inr above) text left w e two =
    let is = IsDigitRun-unique 2 2 2 text digits left rest w v two.0 run (sym e) in
    omega (arith, two.1, is.2)

fails_behind : (check : Bool) (p : Place) (after : List Place) (mid : List ℕ) → places ≡ to_second_places ++ p ∷ after
    → NoCut (PlaceSyntax check p front) mid → FailsAt check (codes "2021-01-02T03:04:05" ++ mid) p
fails_behind check p after mid place stops = record {
  before = to_second_places;
  after = after;
  place = place;
  mid = mid;
  numbers = front;
  stand = to_second check mid;
  stops = stops;
}

pub empty_text : FailsAt true [] Year
empty_text = record {
  before = [];
  after = _;
  place = refl;
  mid = [];
  numbers = nothing_read;
  stand = form_of done;
  stops = λ text rest m e h. omega (arith, h.1.enough, ap length e, length-append text rest);
}

pub month_13 : FailsAt true (codes "2021-13-01T00:00:00Z") Month
month_13 = record {
  before = Year ∷ YearDash ∷ [];
  after = _;
  place = refl;
  mid = codes "13-01T00:00:00Z";
  numbers = dated 2021 0 0;
  stand = form_of ((codes "2021", refl, (2021, search rules, refl)) next (codes "-", refl, (refl, refl)) next done);
  stops = λ text rest m e h. outside 1 12 (codes "13") (codes "-01T00:00:00Z") 13 (search rules) (inr (omega arith)) text rest h.0 e h.1;
}

-- without range checks too
pub month_00 : FailsAt false (codes "2021-00-01T00:00:00Z") Month
month_00 = record {
  before = Year ∷ YearDash ∷ [];
  after = _;
  place = refl;
  mid = codes "00-01T00:00:00Z";
  numbers = dated 2021 0 0;
  stand = form_of ((codes "2021", refl, (2021, search rules, refl)) next (codes "-", refl, (refl, refl)) next done);
  stops = λ text rest m e h.
      h.2 (IsDigitRun-unique 2 2 2 text (codes "00") rest (codes "-01T00:00:00Z") h.0 0 h.1.0 (search rules) (sym e)).2;
}

pub date_alone : FailsAt true (codes "2021-01-02") Separator
date_alone = record {
  before = date_places;
  after = _;
  place = refl;
  mid = [];
  numbers = dated 2021 1 2;
  stand = date_2021 true [];
  stops = λ text rest m e h. omega (arith, h.0, ap length e, length-append text rest);
}

-- a separator is one byte, and this character has two
pub two_bytes_between : FailsAt true (codes "2021-01-02" ++ 195 ∷ 169 ∷ codes "03:04:05Z") Hour
two_bytes_between = record {
  before = date_places ++ Separator ∷ [];
  after = _;
  place = refl;
  mid = 169 ∷ codes "03:04:05Z";
  numbers = dated 2021 1 2;
  stand = MatchesPlaces-append (PlaceSyntax true) date_places (Separator ∷ []) nothing_read (dated 2021 1 2) (dated 2021 1 2) _
      (195 ∷ 169 ∷ codes "03:04:05Z") (169 ∷ codes "03:04:05Z") (date_2021 true _) (form_of ((195 ∷ [], refl, (refl, refl)) next done));
  stops = λ text rest m e h. no_digit_first 2 2 169 _ (omega arith) (λ d. omega arith) text rest h.0 e h.1.0;
}

no_fraction : (text rest : List ℕ) (v : Option ℕ) → codes ".Z" ≡ text ++ rest → IsSubsecond text rest v → ⊥
no_fraction text rest None e s =
    let left : rest ≡ codes ".Z" = sym (e ∙ ap (λ t. t ++ rest) s.0) in
    subst NoDotFirst left s.1 refl
no_fraction text rest (Some v) e s =
    let bytes : 46 ∷ 90 ∷ [] ≡ 46 ∷ (s.0 ++ rest) = e ∙ ap (λ t. t ++ rest) s.1 in
    let tail : 90 ∷ [] ≡ s.0 ++ rest = cc in
    let run : IsDigitRun 1 (length s.0) s.0 rest (digits_value s.0) =
    record { digits = s.2.digits; enough = s.2.enough; within = omega arith; ends = inl refl; is = refl } in
    no_digit_first 1 (length s.0) 90 [] (omega arith) (λ d. omega arith) s.0 rest (digits_value s.0) tail run

pub point_without_digits : FailsAt true (codes "2021-01-02T03:04:05.Z") Subsecond
point_without_digits = fails_behind true Subsecond _ (codes ".Z") refl (λ text rest m e h. no_fraction text rest h.0 e h.1)

-- the places before an offset
before_offset : (after : List ℕ) → NoDotFirst after → MatchesPlaces (PlaceSyntax true) (to_second_places ++ Subsecond ∷ []) nothing_read
    (codes "2021-01-02T03:04:05" ++ after) after front
before_offset after no_dot =
    MatchesPlaces-append (PlaceSyntax true) to_second_places (Subsecond ∷ []) nothing_read front front (codes "2021-01-02T03:04:05" ++ after) after after
    (to_second true after) (form_of (([], refl, (None, (refl, no_dot), refl)) next done))

fails_at_offset : (after : List ℕ) → NoDotFirst after → NoCut (PlaceSyntax true OffsetHour front) after
    → FailsAt true (codes "2021-01-02T03:04:05" ++ after) OffsetHour
fails_at_offset after no_dot stops = record {
  before = to_second_places ++ Subsecond ∷ [];
  after = _;
  place = refl;
  mid = after;
  numbers = front;
  stand = before_offset after no_dot;
  stops = stops;
}

nothing_left : NoCut (PlaceSyntax true OffsetHour front) []
nothing_left text rest m e (inl z) = omega (arith, ap length e, length-append text rest, ap length z.0.1)
nothing_left text rest m e (inr s) = omega (arith, ap length e, length-append text rest, ap length s.cut)

pub offset_is_missing : FailsAt true (codes "2021-01-02T03:04:05") OffsetHour
offset_is_missing = fails_at_offset [] tt nothing_left

no_hour_24 : NoCut (PlaceSyntax true OffsetHour front) (codes "+24:00")
no_hour_24 text rest m e (inl z) =
    let bytes : 43 ∷ codes "24:00" ≡ z.0.0 ∷ rest = e ∙ ap (λ t. t ++ rest) z.0.1 in
    let head : 43 ≡ z.0.0 = cc in
    let lower : to_ascii_lowercase 43 ≡ to_ascii_lowercase 90 = ap to_ascii_lowercase head ∙ z.0.2 in
    omega arith
no_hour_24 text rest m e (inr s) =
    let bytes : 43 ∷ codes "24:00" ≡ sign_byte s.sign ∷ (s.digits ++ rest) = e ∙ ap (λ t. t ++ rest) s.cut in
    let tail : codes "24:00" ≡ s.digits ++ rest = cc in
    outside 0 23 (codes "24") (codes ":00") 24 (search rules) (inr (omega arith)) s.digits rest s.hour tail s.run

pub offset_hour_24 : FailsAt true (codes "2021-01-02T03:04:05+24:00") OffsetHour
offset_hour_24 = fails_at_offset (codes "+24:00") (λ e. omega arith) no_hour_24

pub offset_minute_60 : FailsAt true (codes "2021-01-02T03:04:05+05:60") OffsetMinute
offset_minute_60 = record {
  before = (to_second_places ++ Subsecond ∷ []) ++ OffsetHour ∷ OffsetColon ∷ [];
  after = [];
  place = refl;
  mid = codes "60";
  numbers = record front { offset_hour = 5 };
  stand = MatchesPlaces-append (PlaceSyntax true) (to_second_places ++ Subsecond ∷ []) (OffsetHour ∷ OffsetColon ∷ []) nothing_read front
      (record front { offset_hour = 5 }) _ (codes "+05:60") (codes "60") (before_offset (codes "+05:60") (λ e. omega arith)) (form_of (
      (codes "+05", refl, inr (record { sign = Positive; digits = codes "05"; hour = 5; cut = refl; run = search rules; says = refl })) next
      (codes ":", refl, (refl, refl)) next done));
  stops = λ text rest m e h. outside 0 59 (codes "60") [] 60 (search rules) (inr (omega arith)) text rest h.0 e h.1;
}
