-- The rest after each place of a mail date.
use Rattle.std.proofs.Common.{◌≡◌, ℕ, zero, suc, ◌+◌, ◌<◌, ◌≤◌, List, [], ◌∷◌, ◌++◌, length, length-append, length-drop, drop, refl, ap, sym, ◌∙◌, subst, arith, true, false, Bool, Option, None, Some, is_some, unwrap_or}
use Rattle.time_values.specs.declared.weekday.Weekday.{Weekday}
use Rattle.time_digits.specs.Digits.{Cut, IsDigitRun}
use Rattle.time_digits.proofs.WordBytes.{IsUnique-cut}
use Rattle.time_digits.proofs.Runs.{IsDigitRun-one}
use Rattle.time_readers.specs.MailBlanks.{opt_cfws, opt_cfws_colon_opt_cfws}
use Rattle.time_readers.specs.Readers.{MatchesPlaces, Reader}
use Rattle.time_readers.specs.Rfc2822.{PlaceSyntax, FailsAt, IsWeekdayPart, IsYear, nothing_read, places}
use Rattle.time_readers.specs.declared.rfc2822.Numbers.{Numbers}
use Rattle.time_readers.specs.declared.rfc2822.Place.{Place}
use Rattle.time_readers.specs.declared.rfc2822.Place.TheVariants.{WeekdayName, Day, DayBlanks, MonthName, MonthBlanks, Year, YearBlanks, Hour, HourColon, Minute, Second, TimeBlanks, OffsetHour, OffsetMinute, EndBlanks}
use Rattle.time_readers.proofs.MailBlanks.{colon-leaves, opt_cfws-leaves}
use Rattle.time_readers.proofs.OneMailDate.{MailAsks-unique}
use Rattle.time_readers.proofs.Repeats.{Leaves}
use Rattle.time_locating.specs.MailPlaces.{Agrees, rank}
use Rattle.time_locating.specs.declared.rfc2822.Passed.{Passed}
use Rattle.time_locating.specs.Rfc2822.{past, expected_from}
use Rattle.time_locating.proofs.WholeTexts.{IsWithin}
use Rattle.time_locating.proofs.Rfc3339Places.{RankedFrom, rank-before}

pub day_same : (s x y : List ℕ) (v w : ℕ) → Cut (IsDigitRun 1 2) s x v → Cut (IsDigitRun 1 2) s y w → x ≡ y
day_same s x y v w p q = (IsUnique-cut (IsDigitRun 1 2) (IsDigitRun-one 1 2) s x y v w p q).0

pub weekday_same : (s x y : List ℕ) (v w : Option Weekday) → Cut IsWeekdayPart s x v → Cut IsWeekdayPart s y w → x ≡ y
weekday_same s x y v w p q =
    let one = record nothing_read { weekday = v } in
    let other = record nothing_read { weekday = w } in
    (MailAsks-unique true WeekdayName nothing_read s x y one other (p.0, p.1, (v, p.2, refl)) (q.0, q.1, (w, q.2, refl))).0

-- four digits match, so the year has four
pub year_full : (s x rest : List ℕ) (w v : ℕ) (full : Bool) → Cut (IsDigitRun 4 4) s x w → Cut (IsYear full) s rest v → (x ≡ rest) × (true ≡ full)
year_full s x rest w v true four cut =
    ((IsUnique-cut (IsDigitRun 4 4) (IsDigitRun-one 4 4) s x rest w v four (cut.0, cut.1, cut.2.0)).0, refl)
year_full s x rest w v false four cut = absurd (cut.2.0 four.0 x w (sym cut.1 ∙ four.1) four.2)

-- the syntax of an equal place
pub asked : (n m : Numbers) (s rest : List ℕ) (p q : Place) → p ≡ q → Cut (PlaceSyntax true p n) s rest m → Cut (PlaceSyntax true q n) s rest m
asked n m s rest p q is = subst (λ x. Cut (PlaceSyntax true x n) s rest m) is

-- a place that doesn't affect those after it
pub kept : (n m k : Numbers) (passed : Passed) → m ≡ k → k.year_is_full ≡ n.year_is_full → is_some k.offset_sign ≡ is_some n.offset_sign
    → Agrees n passed → Agrees m passed
kept n m k passed is year sign h = (
  ap (λ (x : Numbers). x.year_is_full) is ∙ year ∙ h.0,
  ap (λ (x : Numbers). is_some x.offset_sign) is ∙ sign ∙ h.1,
)

past_answer : (p : Reader) → Leaves p → (b : List ℕ) (o : Option (List ℕ)) → p b ≡ o → length (unwrap_or o b) ≤ length b
past_answer p leaves b None is = omega arith
past_answer p leaves b (Some rest) is = let text = leaves b rest is in omega (arith, ap length text.1, length-append text.0 rest)

past-within : (p : Reader) → Leaves p → (b : List ℕ) → length (past p b) ≤ length b
past-within p leaves b = past_answer p leaves b (p b) refl

-- the expected text of a place begins in the bytes that are left there
pub expected_from-within : IsWithin expected_from
expected_from-within WeekdayName b = omega (arith, past-within opt_cfws opt_cfws-leaves b, length-drop 3 (past opt_cfws b))
expected_from-within HourColon b = past-within opt_cfws opt_cfws-leaves b
expected_from-within Second b = past-within opt_cfws_colon_opt_cfws colon-leaves b
expected_from-within _ b = omega arith

pub rank-below : (p : Place) → rank p < 15
rank-below WeekdayName = omega arith
rank-below Day = omega arith
rank-below DayBlanks = omega arith
rank-below MonthName = omega arith
rank-below MonthBlanks = omega arith
rank-below Year = omega arith
rank-below YearBlanks = omega arith
rank-below Hour = omega arith
rank-below HourColon = omega arith
rank-below Minute = omega arith
rank-below Second = omega arith
rank-below TimeBlanks = omega arith
rank-below OffsetHour = omega arith
rank-below OffsetMinute = omega arith
rank-below EndBlanks = omega arith

RankedFrom-drop : (i k j : ℕ) (ps : List Place) → j ≡ k + i → RankedFrom rank k ps → RankedFrom rank j (drop i ps)
RankedFrom-drop zero k j ps is h = let same : k ≡ j = omega arith in subst (λ x. RankedFrom rank x ps) same h
RankedFrom-drop (suc i) k j [] is h = tt
RankedFrom-drop (suc i) k j (p ∷ ps) is h = RankedFrom-drop i (suc k) j ps (omega arith) h.1

ranked : (i : ℕ) → RankedFrom rank i (drop i places)
ranked i =
    RankedFrom-drop i 0 i places (omega arith)
    (refl, (refl, (refl, (refl, (refl, (refl, (refl, (refl, (refl, (refl, (refl, (refl, (refl, (refl, (refl, tt)))))))))))))))

-- that many places are passed, and the others match up to the one that doesn't
pub record Reached (bytes : List ℕ) (p : Place) (s : FailsAt true bytes p) (i : ℕ) (rest : List ℕ) (passed : Passed) : Type 0 where
  pub left : List Place
  pub numbers : Numbers
  pub ahead : drop i places ≡ left ++ p ∷ s.after
  pub stand : MatchesPlaces (PlaceSyntax true) left numbers rest s.mid s.numbers
  pub agrees : Agrees numbers passed

pub Reached-start : (bytes : List ℕ) (p : Place) (s : FailsAt true bytes p) (passed : Passed) → Agrees nothing_read passed
    → Reached bytes p s 0 bytes passed
Reached-start bytes p s passed h = record {
  left = s.before;
  numbers = nothing_read;
  ahead = s.place;
  stand = s.stand;
  agrees = h;
}

stands_empty : (left : List Place) (n m : Numbers) (rest mid : List ℕ) → length left ≡ 0 → MatchesPlaces (PlaceSyntax true) left n rest mid m → rest ≡ mid
unfolding MatchesPlaces
stands_empty [] n m rest mid none stand = sym stand.0
stands_empty (x ∷ left) n m rest mid none stand = absurd (omega arith)

-- the rest after a place, as it is returned, with what is known after it
abbrev pub Answers : Place → List ℕ → Passed → Option (List ℕ) → Passed → Type 0
Answers q rest passed found after =
    (n m : Numbers) (mid : List ℕ) → Agrees n passed → Cut (PlaceSyntax true q n) rest mid m → (found ≡ Some mid) × Agrees m after

-- the place is reached
pub Reached-here : (bytes : List ℕ) (p : Place) (s : FailsAt true bytes p) (i : ℕ) (rest : List ℕ) (passed : Passed) → i ≡ rank p
    → Reached bytes p s i rest passed → rest ≡ s.mid
Reached-here bytes p s i rest passed is r =
    let many = rank-before rank i (drop i places) r.left s.after p (ranked i) r.ahead in
    stands_empty r.left r.numbers s.numbers rest s.mid (omega arith) r.stand

module _ (bytes : List ℕ) (p : Place) (s : FailsAt true bytes p) (i : ℕ) (rest : List ℕ) (passed : Passed) (q : Place) (early : i < rank p) where
  further_on : (left : List Place) (n : Numbers) → drop i places ≡ q ∷ drop (suc i) places
      → drop i places ≡ left ++ p ∷ s.after → MatchesPlaces (PlaceSyntax true) left n rest s.mid s.numbers → Agrees n passed
      → (found : Option (List ℕ)) (after : Passed) → Answers q rest passed found after
      → (mid : List ℕ) × (found ≡ Some mid) × Reached bytes p s (suc i) mid after
  unfolding MatchesPlaces
  further_on [] n here ahead stand h found after step =
      let many = rank-before rank i (drop i places) [] s.after p (ranked i) ahead in absurd (omega arith)
  further_on (x ∷ left) n here ahead stand h found after step =
      let heads : q ∷ drop (suc i) places ≡ x ∷ (left ++ p ∷ s.after) = sym here ∙ ahead in
      let same : x ≡ q = cc in
      let tails : drop (suc i) places ≡ left ++ p ∷ s.after = cc in
      let found_is = step n stand.1 stand.0 h (asked n stand.1 rest stand.0 x q same stand.2) in
      (stand.0, found_is.0, record { left = left; numbers = stand.1; ahead = tails; stand = stand.3; agrees = found_is.1 })

  -- the place isn't reached, and the next is passed
  pub Reached-next : drop i places ≡ q ∷ drop (suc i) places → Reached bytes p s i rest passed
      → (found : Option (List ℕ)) (after : Passed) → Answers q rest passed found after
      → (mid : List ℕ) × (found ≡ Some mid) × Reached bytes p s (suc i) mid after
  Reached-next here r found after step =
      further_on r.left r.numbers here r.ahead r.stand r.agrees found after step
