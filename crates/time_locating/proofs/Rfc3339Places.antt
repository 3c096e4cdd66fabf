-- How many bytes the places of RFC 3339 take.
use Rattle.std.proofs.Common.{◌≡◌, ℕ, suc, ◌+◌, List, [], ◌∷◌, ◌++◌, length, take, refl, ap, sym, ◌∙◌, subst, arith, ◌≤◌, drop, inl, inr, true, false, Bool, Option, Some, None, IfSome, length-append}
use Rattle.std.proofs.lemmas.List.{take_at, drop_at, length-take-le, take-append-drop}
use Rattle.time_digits.specs.Digits.{IsByteIgnoringCase, Cut, NoCut, AllDigits, IsDigitRun, NoDigitFirst}
use Rattle.time_digits.proofs.Runs.{AllDigits-unique}
use Rattle.time_readers.specs.Readers.{Format, MatchesPlaces, StopsAt}
use Rattle.time_readers.specs.Rfc3339.{PlaceSyntax, FailsAt, IsOffsetColon, IsOffsetMinute, IsSubsecond, places, nothing_read}
use Rattle.time_readers.specs.declared.rfc3339.Numbers.{Numbers}
use Rattle.time_readers.specs.declared.rfc3339.Place.{Place}
use Rattle.time_readers.specs.declared.rfc3339.Place.TheVariants.{Year, YearDash, Month, MonthDash, Day, Separator, Hour, HourColon, Minute, MinuteColon, Second, Subsecond, OffsetHour, OffsetColon, OffsetMinute}
use Rattle.time_readers.proofs.Walking.{MatchesPlaces-ends, MatchesPlaces-split}

-- ---- Which place doesn't match, if the places have ranks

-- the ranks of the places rise by one from that number
abbrev pub RankedFrom : {P : Type 0} → (P → ℕ) → ℕ → List P → Type 0
RankedFrom rank k [] = Unit {0}
RankedFrom rank k (p ∷ ps) = (rank p ≡ k) × RankedFrom rank (suc k) ps

-- as many places precede a place as its rank is
pub rank-before : {P : Type 0} (rank : P → ℕ) (k : ℕ) (ps before after : List P) (p : P) → RankedFrom rank k ps
    → ps ≡ before ++ p ∷ after → rank p ≡ k + length before
rank-before rank k ps [] after p ranked is = let h = subst (RankedFrom rank k) is ranked in omega (arith, h.0)
rank-before rank k ps (q ∷ before) after p ranked is =
    let h = subst (RankedFrom rank k) is ranked in
    let later = rank-before rank (suc k) (before ++ p ∷ after) before after p h.1 refl in
    omega (arith, later)

-- the places before the one that doesn't match
pub stands-before : {P N : Type 0} (A : Format P N) (rank : P → ℕ) (ps : List P) (n : N) (bytes : List ℕ) (p : P)
    → RankedFrom rank 0 ps → (s : StopsAt A ps n bytes p) → MatchesPlaces A (take (rank p) ps) n bytes s.mid s.numbers
stands-before A rank ps n bytes p ranked s =
    let many : length s.before ≡ rank p = omega (arith, rank-before rank 0 ps s.before s.after p ranked s.place) in
    let same : s.before ≡ take (rank p) ps =
    sym (take_at s.before (p ∷ s.after) (rank p) many) ∙ ap (take (rank p)) (sym s.place) in
    subst (λ qs. MatchesPlaces A qs n bytes s.mid s.numbers) same s.stand

-- its position among the places
abbrev pub rank : Place → ℕ
rank Year = 0
rank YearDash = 1
rank Month = 2
rank MonthDash = 3
rank Day = 4
rank Separator = 5
rank Hour = 6
rank HourColon = 7
rank Minute = 8
rank MinuteColon = 9
rank Second = 10
rank Subsecond = 11
rank OffsetHour = 12
rank OffsetColon = 13
rank OffsetMinute = 14

rfc3339_before : (bytes : List ℕ) (p : Place) (s : FailsAt true bytes p)
    → MatchesPlaces (PlaceSyntax true) (take (rank p) places) nothing_read bytes s.mid s.numbers
rfc3339_before bytes p s =
    stands-before (PlaceSyntax true) rank places nothing_read bytes p
    (refl, (refl, (refl, (refl, (refl, (refl, (refl, (refl, (refl, (refl, (refl, (refl, (refl, (refl, (refl, tt))))))))))))))) s

-- how many bytes the text of a place takes; `None` if the number varies
abbrev width : Place → Option ℕ
width Year = Some 4
width YearDash = Some 1
width Month = Some 2
width MonthDash = Some 1
width Day = Some 2
width Separator = Some 1
width Hour = Some 2
width HourColon = Some 1
width Minute = Some 2
width MinuteColon = Some 1
width Second = Some 2
width _ = None

abbrev both : Option ℕ → Option ℕ → Option ℕ
both (Some k) (Some m) = Some (k + m)
both _ _ = None

abbrev pub widths : List Place → Option ℕ
widths [] = Some 0
widths (p ∷ ps) = both (width p) (widths ps)

pub run_length : (n : ℕ) (text after : List ℕ) (v : ℕ) → IsDigitRun n n text after v → length text ≡ n
run_length n text after v run = omega (arith, run.enough, run.within)

asks-width : (p : Place) (n m : Numbers) (text after : List ℕ) → PlaceSyntax true p n text after m → IfSome (width p) (λ k. length text ≡ k)
asks-width Year n m text after a = run_length 4 text after a.0 a.1
asks-width YearDash n m text after a = ap length a.0
asks-width Month n m text after a = run_length 2 text after a.0 a.1.0
asks-width MonthDash n m text after a = ap length a.0
asks-width Day n m text after a = run_length 2 text after a.0 a.1.0
asks-width Separator n m text after a = a.0
asks-width Hour n m text after a = run_length 2 text after a.0 a.1.0
asks-width HourColon n m text after a = ap length a.0
asks-width Minute n m text after a = run_length 2 text after a.0 a.1.0
asks-width MinuteColon n m text after a = ap length a.0
asks-width Second n m text after a = run_length 2 text after a.0 a.1.0
asks-width Subsecond n m text after a = tt
asks-width OffsetHour n m text after a = tt
asks-width OffsetColon n m text after a = tt
asks-width OffsetMinute n m text after a = tt

parted : (a b : Option ℕ) (k : ℕ) → both a b ≡ Some k → (x y : ℕ) × (a ≡ Some x) × (b ≡ Some y) × (k ≡ x + y)
parted None b k is = cc
parted (Some x) None k is = cc
parted (Some x) (Some y) k is = (x, y, refl, refl, cc)

stand-widths : (ps : List Place) (k : ℕ) (n m : Numbers) (bytes rest : List ℕ) → widths ps ≡ Some k → MatchesPlaces (PlaceSyntax true) ps n bytes rest m
    → k + length rest ≡ length bytes
unfolding MatchesPlaces
stand-widths [] k n m bytes rest is s = let same = ap length s.0 in let none : 0 ≡ k = cc in omega arith
stand-widths (p ∷ ps) k n m bytes rest is s =
    let parts = parted (width p) (widths ps) k is in
    let text = subst (λ w. IfSome w (λ x. length s.2.0 ≡ x)) parts.2 (asks-width p n s.1 s.2.0 s.0 s.2.2) in
    let others = stand-widths ps parts.1 s.1 m s.0 rest parts.3 s.3 in
    let cut = ap length s.2.1 ∙ length-append s.2.0 s.0 in
    omega (arith, parts.4)

-- the place that doesn't match begins after that many bytes
pub fixed : (bytes : List ℕ) (p q : Place) (k : ℕ) → p ≡ q → widths (take (rank q) places) ≡ Some k → (s : FailsAt true bytes p)
    → k + length s.mid ≡ length bytes
fixed bytes p q k is all s =
    stand-widths (take (rank p) places) k nothing_read s.numbers bytes s.mid (ap (λ x. widths (take (rank x) places)) is ∙ all)
    (rfc3339_before bytes p s)

-- how many bytes a fraction takes
abbrev pub IsFractionLength : List ℕ → ℕ → Type 0
IsFractionLength bytes k = (text rest : List ℕ) (v : Option ℕ) → bytes ≡ text ++ rest → IsSubsecond text rest v → k ≡ length text

fraction_digits : (digits text rest : List ℕ) (v : Option ℕ) (k : ℕ) → k ≤ length digits → AllDigits (take k digits)
    → NoDigitFirst (drop k digits) → 46 ∷ digits ≡ text ++ rest → IsSubsecond text rest v → 1 + k ≡ length text
fraction_digits digits text [] None k within all ends cut (is, point) =
    let clash : 46 ∷ digits ≡ [] = cut ∙ ap (λ t. t ++ []) is in cc
fraction_digits digits text (c ∷ rest) None k within all ends cut (is, point) =
    let heads : 46 ∷ digits ≡ c ∷ rest = cut ∙ ap (λ t. t ++ c ∷ rest) is in absurd (point (cc))
fraction_digits digits text rest (Some v) k within all ends cut (more, is, run) =
    let heads : 46 ∷ digits ≡ 46 ∷ (more ++ rest) = cut ∙ ap (λ t. t ++ rest) is in
    let tails : digits ≡ more ++ rest = cc in
    let same = AllDigits-unique (take k digits) more (drop k digits) rest all run.digits (take-append-drop k digits ∙ tails) ends run.ends in
    let long = ap length same.0 in
    let whole = ap length is in
    omega (arith, length-take-le k digits within)

-- a point and the digits after it
pub fraction_len-point : (bytes digits : List ℕ) (k : ℕ) → bytes ≡ 46 ∷ digits → k ≤ length digits → AllDigits (take k digits)
    → NoDigitFirst (drop k digits) → IsFractionLength bytes (1 + k)
fraction_len-point bytes digits k is within all ends text rest v cut form =
    fraction_digits digits text rest v k within all ends (sym is ∙ cut) form

-- no point
pub fraction_len-none : (bytes : List ℕ) → ((rest : List ℕ) → bytes ≡ 46 ∷ rest → ⊥) → IsFractionLength bytes 0
fraction_len-none bytes none text rest None cut form = sym (ap length form.0)
fraction_len-none bytes none text rest (Some v) cut form = absurd (none (form.0 ++ rest) (cut ∙ ap (λ t. t ++ rest) form.1))

-- the rest after the second
record AfterSecond (bytes mid : List ℕ) : Type 0 where
  text : List ℕ
  subsecond : Option ℕ
  is : IsSubsecond text mid subsecond
  whole : 19 + length (text ++ mid) ≡ length bytes
  tail : drop 19 bytes ≡ text ++ mid

after_second : (n m : Numbers) (bytes mid : List ℕ) → MatchesPlaces (PlaceSyntax true) (take 12 places) nothing_read bytes mid m → AfterSecond bytes mid
unfolding MatchesPlaces
after_second n m bytes mid s =
    let parts = MatchesPlaces-split (PlaceSyntax true) (take 11 places) (Subsecond ∷ []) nothing_read m bytes mid s in
    let ends = MatchesPlaces-ends (PlaceSyntax true) (take 11 places) nothing_read parts.1.0 bytes parts.0 parts.1.1 in
    let long = stand-widths (take 11 places) 19 nothing_read parts.1.0 bytes parts.0 refl parts.1.1 in
    let sub = parts.1.2 in
    let cut = sub.2 in
    let after : sub.0 ≡ mid = sym sub.3.0 in
    let here : parts.0 ≡ cut.0 ++ mid = cut.1 ∙ ap (λ t. cut.0 ++ t) after in
    let front : length ends.0 ≡ 19 = omega (arith, ap length ends.1 ∙ length-append ends.0 parts.0) in
    record {
      text = cut.0;
      subsecond = cut.2.0;
      is = subst (λ t. IsSubsecond cut.0 t cut.2.0) after cut.2.1;
      whole = subst (λ t. 19 + length t ≡ length bytes) here long;
      tail = ap (drop 19) ends.1 ∙ drop_at ends.0 parts.0 19 front ∙ here;
    }

offset_hour : (n k : Numbers) (bytes mid : List ℕ) → Cut (PlaceSyntax true OffsetHour n) bytes mid k → (k.is_utc ≡ true → ⊥)
    → length bytes ≡ 3 + length mid
offset_hour n k bytes mid (text, is, inl zulu) signed = absurd (signed (ap (λ (x : Numbers). x.is_utc) zulu.1))
offset_hour n k bytes mid (text, is, inr hour) signed =
    let whole = ap length is ∙ length-append text mid in
    let cut = ap length hour.cut in
    let run = run_length 2 hour.digits mid hour.hour hour.run.0 in
    omega arith

colon_stands : (n : Numbers) (bytes : List ℕ) → NoCut (PlaceSyntax true OffsetColon n) bytes → n.is_utc ≡ true → ⊥
colon_stands n bytes none is = none [] bytes n refl (subst (λ b. IsOffsetColon b []) (sym is) refl, refl)

minute_stands : (n : Numbers) (bytes : List ℕ) → NoCut (PlaceSyntax true OffsetMinute n) bytes → n.is_utc ≡ true → ⊥
minute_stands n bytes none is =
    none [] bytes n refl (subst (λ b. IsOffsetMinute true b n [] bytes n) (sym is) (refl, refl))

colon_length : (u : Bool) (text : List ℕ) → (u ≡ true → ⊥) → IsOffsetColon u text → length text ≡ 1
colon_length true text signed is = absurd (signed refl)
colon_length false text signed is = ap length is

-- the bytes after the second, if they begin with a fraction of that many bytes
abbrev pub AfterFraction : List ℕ → ℕ → Type 0
AfterFraction bytes fraction = 19 ≤ length bytes → IsFractionLength (drop 19 bytes) fraction

past_fraction : (bytes mid : List ℕ) (fraction : ℕ) → AfterFraction bytes fraction → AfterSecond bytes mid → 19 + fraction + length mid ≡ length bytes
past_fraction bytes mid fraction len a =
    let whole = a.whole in
    let text = len (omega arith) a.text mid a.subsecond a.tail a.is in
    omega (arith, length-append a.text mid)

offset_hour_at : (bytes : List ℕ) (fraction : ℕ) → AfterFraction bytes fraction → (s : FailsAt true bytes OffsetHour)
    → 19 + fraction + 0 + length s.mid ≡ length bytes
offset_hour_at bytes fraction len s =
    omega (arith, past_fraction bytes s.mid fraction len (after_second nothing_read s.numbers bytes s.mid (rfc3339_before bytes OffsetHour s)))

offset_colon_at : (bytes : List ℕ) (fraction : ℕ) → AfterFraction bytes fraction → (s : FailsAt true bytes OffsetColon)
    → 19 + fraction + 3 + length s.mid ≡ length bytes
unfolding MatchesPlaces
offset_colon_at bytes fraction len s =
    let parts =
    MatchesPlaces-split (PlaceSyntax true) (take 12 places) (OffsetHour ∷ []) nothing_read s.numbers bytes s.mid
    (rfc3339_before bytes OffsetColon s) in
    let hour = parts.1.2 in
    let after : hour.0 ≡ s.mid = sym hour.3.0 in
    let numbers : hour.1 ≡ s.numbers = sym hour.3.1 in
    let signed = λ (is : hour.1.is_utc ≡ true). colon_stands s.numbers s.mid s.stops (ap (λ (x : Numbers). x.is_utc) (sym numbers) ∙ is) in
    let long = offset_hour parts.1.0 hour.1 parts.0 hour.0 hour.2 signed in
    let same = ap length after in
    omega (arith, past_fraction bytes parts.0 fraction len (after_second nothing_read parts.1.0 bytes parts.0 parts.1.1))

offset_minute_at : (bytes : List ℕ) (fraction : ℕ) → AfterFraction bytes fraction → (s : FailsAt true bytes OffsetMinute)
    → 19 + fraction + 4 + length s.mid ≡ length bytes
unfolding MatchesPlaces
offset_minute_at bytes fraction len s =
    let before = rfc3339_before bytes OffsetMinute s in
    let parts = MatchesPlaces-split (PlaceSyntax true) (take 12 places) (OffsetHour ∷ OffsetColon ∷ []) nothing_read s.numbers bytes s.mid before in
    let hour = parts.1.2 in
    let colon = hour.3 in
    let after : colon.0 ≡ s.mid = sym colon.3.0 in
    let numbers : colon.1 ≡ s.numbers = sym colon.3.1 in
    let same : s.numbers ≡ hour.1 = sym numbers ∙ colon.2.2.1 in
    let signed = λ (is : hour.1.is_utc ≡ true). minute_stands s.numbers s.mid s.stops (ap (λ (x : Numbers). x.is_utc) same ∙ is) in
    let long = offset_hour parts.1.0 hour.1 parts.0 hour.0 hour.2 signed in
    let one = colon_length hour.1.is_utc colon.2.0 signed colon.2.2.0 in
    let whole = ap length colon.2.1 ∙ length-append colon.2.0 colon.0 in
    let end = ap length after in
    omega (arith, past_fraction bytes parts.0 fraction len (after_second nothing_read parts.1.0 bytes parts.0 parts.1.1))

-- a place that is one of those begins after that many bytes
pub at_offset_hour : (bytes : List ℕ) (fraction : ℕ) → AfterFraction bytes fraction → (p : Place) → p ≡ OffsetHour → (s : FailsAt true bytes p)
    → 19 + fraction + 0 + length s.mid ≡ length bytes
at_offset_hour bytes fraction len p is =
    subst (λ x. (s : FailsAt true bytes x) → 19 + fraction + 0 + length s.mid ≡ length bytes) (sym is) (offset_hour_at bytes fraction len)

pub at_offset_colon : (bytes : List ℕ) (fraction : ℕ) → AfterFraction bytes fraction → (p : Place) → p ≡ OffsetColon → (s : FailsAt true bytes p)
    → 19 + fraction + 3 + length s.mid ≡ length bytes
at_offset_colon bytes fraction len p is =
    subst (λ x. (s : FailsAt true bytes x) → 19 + fraction + 3 + length s.mid ≡ length bytes) (sym is) (offset_colon_at bytes fraction len)

pub at_offset_minute : (bytes : List ℕ) (fraction : ℕ) → AfterFraction bytes fraction → (p : Place) → p ≡ OffsetMinute → (s : FailsAt true bytes p)
    → 19 + fraction + 4 + length s.mid ≡ length bytes
at_offset_minute bytes fraction len p is =
    subst (λ x. (s : FailsAt true bytes x) → 19 + fraction + 4 + length s.mid ≡ length bytes) (sym is) (offset_minute_at bytes fraction len)

-- a sign and an hour, without `Z`
pub signed_hour : (n m : Numbers) (b rest : List ℕ) → NoCut (IsByteIgnoringCase 90) b → Cut (PlaceSyntax true OffsetHour n) b rest m
    → (text : List ℕ) × (b ≡ text ++ rest) × (length text ≡ 3) × (m.is_utc ≡ n.is_utc)
signed_hour n m b rest none (text, is, inl zulu) = absurd (none text rest tt is zulu.0)
signed_hour n m b rest none (text, is, inr hour) = (
  text,
  is,
  omega (arith, ap length hour.cut, run_length 2 hour.digits rest hour.hour hour.run.0),
  ap (λ (x : Numbers). x.is_utc) hour.says,
)

-- it is known whether the text is in UTC
abbrev pub InUtc : Numbers → Bool → Type 0
InUtc n is_utc = n.is_utc ≡ is_utc
