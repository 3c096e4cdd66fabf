-- Known mail dates and their values, so that a wrong rule in the specs does not check.
use Rattle.std.specs.Str.{str_to_ascii_lowercase}
use Rattle.std.specs.Char.{to_ascii_lowercase}
use Rattle.std.proofs.Common.{◌≡◌, ◌≢◌, ◌<◌, ◌≤◌, ℕ, ℤ, pos, neg_ℤ, List, [], ◌∷◌, ◌++◌, get_or, take, codes, Option, Some, None, Bool, true, false}
use Rattle.std.proofs.Common.{inl, inr, refl, ap, sym, ◌∙◌, arith, rules}
use Rattle.time_values.specs.Names.{weekday_name}
use Rattle.time_values.specs.declared.month.Month.TheVariants.{January, November}
use Rattle.time_values.specs.declared.weekday.Weekday.{Weekday}
use Rattle.time_values.specs.declared.weekday.Weekday.TheVariants.{Monday}
use Rattle.time_digits.specs.declared.Sign.TheVariants.{Negative, Positive}
use Rattle.time_digits.specs.Digits.{NoCut, sign_byte}
use Rattle.time_digits.proofs.Runs.{IsDigitRun-unique}
use Rattle.time_digits.proofs.StandardFacts.{too_few_digits}
use Rattle.time_components.proofs.NumberLemmas.{each_weekday}
use Rattle.time_components.proofs.StandardFacts.{no_sign}
use Rattle.time_readers.specs.Readers.{MatchesPlaces, zero_or_more, repeat}
use Rattle.time_readers.specs.MailBlanks.{blanks, line_fold, no_crlf, fws, comment_end, comment, cfws, opt_cfws, opt_cfws_colon_opt_cfws}
use Rattle.time_readers.specs.MailBlanks.{zone_literal, hours_of}
use Rattle.time_readers.specs.Rfc2822.{IsShortWeekday, PlaceSyntax, nothing_read, offset_places, HasForm, FailsAt}
use Rattle.time_readers.specs.declared.rfc2822.Numbers.{Numbers}
use Rattle.time_readers.specs.declared.rfc2822.Place.{Place}
use Rattle.time_readers.specs.declared.rfc2822.Place.TheVariants.{WeekdayName, Day, DayBlanks, MonthName, MonthBlanks, Year, YearBlanks, Hour}
use Rattle.time_readers.specs.declared.rfc2822.Place.TheVariants.{HourColon, Minute, Second, TimeBlanks, OffsetHour}
use Rattle.time_readers.proofs.MailBlanks.{no_year, no_comma}
use Rattle.time_readers.proofs.ToSecond.{within}
use Rattle.time_readers.proofs.Walking.{MatchesPlaces-append}
use Rattle.time_readers.proofs.TimestampFacts.{outside, ◌next◌, done, form_of}

-- ---- Parts of these dates

abbrev pub dated : ℕ → ℕ → Bool → Numbers
dated d y full = record nothing_read { day = d; month = January; year = y; year_is_full = full }

abbrev pub at_clock : Numbers → ℕ → ℕ → Option ℕ → Numbers
at_clock n h m s = record n { hour = h; minute = m; second = s }

letter_first : (v : Weekday) → 97 ≤ get_or (str_to_ascii_lowercase (take 3 (weekday_name v))) 0 0
letter_first = each_weekday (λ v. 97 ≤ get_or (str_to_ascii_lowercase (take 3 (weekday_name v))) 0 0)
    (omega arith, omega arith, omega arith, omega arith, omega arith, omega arith, omega arith)

no_weekday : (c : ℕ) (cs : List ℕ) → to_ascii_lowercase c < 97 → NoCut IsShortWeekday (c ∷ cs)
no_weekday c cs low [] rest v e h =
    let first : 0 ≡ get_or (str_to_ascii_lowercase (take 3 (weekday_name v))) 0 0 = ap (λ t. get_or t 0 0) h in
    omega (arith, letter_first v)
no_weekday c cs low (d ∷ text) rest v e h =
    let head : c ≡ d = cc in
    let first : to_ascii_lowercase c ≡ get_or (str_to_ascii_lowercase (take 3 (weekday_name v))) 0 0 = ap to_ascii_lowercase head ∙ ap (λ t. get_or t 0 0) h in
    omega (arith, letter_first v)

-- the places before the year
abbrev to_month_places : List Place
to_month_places = WeekdayName ∷ Day ∷ DayBlanks ∷ MonthName ∷ MonthBlanks ∷ []

to_month : (check : Bool) (after : List ℕ)
    → MatchesPlaces (PlaceSyntax check) to_month_places nothing_read (codes "02 Jan 2" ++ after) (codes "2" ++ after)
    (dated 2 0 false)
unfolding opt_cfws cfws fws blanks line_fold no_crlf comment comment_end zero_or_more repeat
to_month check after = form_of (
    ([], refl, (None, (refl, no_weekday 48 _ (omega arith)), refl)) next
    (codes "02", refl, (2, search rules, within check 1 31 2 (omega arith) (omega arith), refl)) next
    (codes " ", refl, (refl, refl)) next
    (codes "Jan", refl, (January, refl, refl)) next
    (codes " ", refl, (refl, refl)) next done)

-- the places of the year and the clock
abbrev clock_places : List Place
clock_places = Year ∷ YearBlanks ∷ Hour ∷ HourColon ∷ Minute ∷ []

abbrev pub front : Numbers
front = at_clock (dated 2 2021 true) 3 4 None

to_minute : (check : Bool) (after : List ℕ)
    → MatchesPlaces (PlaceSyntax check) (to_month_places ++ clock_places) nothing_read (codes "02 Jan 2021 03:04" ++ after)
    after front
unfolding opt_cfws_colon_opt_cfws opt_cfws cfws fws blanks line_fold no_crlf comment comment_end zero_or_more repeat
to_minute check after = MatchesPlaces-append (PlaceSyntax check) to_month_places clock_places nothing_read (dated 2 0 false) front
    (codes "02 Jan 2021 03:04" ++ after) (codes "2021 03:04" ++ after) after (to_month check (codes "021 03:04" ++ after)) (form_of (
    (codes "2021", refl, (true, 2021, search rules, refl)) next
    (codes " ", refl, (refl, refl)) next
    (codes "03", refl, (3, (search rules, within check 0 23 3 (omega arith) (omega arith)), refl)) next
    (codes ":", refl, (refl, refl)) next
    (codes "04", refl, (4, (search rules, within check 0 59 4 (omega arith) (omega arith)), refl)) next done))

-- the places of the second, the offset and the end
abbrev end_places : List Place
end_places = Second ∷ TimeBlanks ∷ offset_places

whole : (check : Bool) (after rest : List ℕ) (m : Numbers) → MatchesPlaces (PlaceSyntax check) end_places front after rest m
    → HasForm check (codes "02 Jan 2021 03:04" ++ after) rest m
whole check after rest m others =
    MatchesPlaces-append (PlaceSyntax check) (to_month_places ++ clock_places) end_places nothing_read front m (codes "02 Jan 2021 03:04" ++ after) after rest
    (to_minute check after) others

-- ---- Dates that match

pub weekday_and_second : HasForm true (codes "Mon, 02 Jan 2021 03:04:05 +0607") []
    (record (at_clock (dated 2 2021 true) 3 4 (Some 5)) { weekday = Some Monday; offset_sign = Some Positive; offset_hour = pos 6; offset_minute = pos 7 })
unfolding opt_cfws_colon_opt_cfws opt_cfws cfws fws blanks line_fold no_crlf comment comment_end zero_or_more repeat zone_literal hours_of
weekday_and_second = form_of (
    (codes "Mon, ", refl, (Some Monday, ([], codes "Mon", codes " ", refl, refl, refl, refl), refl)) next
    (codes "02", refl, (2, search rules, search rules, refl)) next
    (codes " ", refl, (refl, refl)) next
    (codes "Jan", refl, (January, refl, refl)) next
    (codes " ", refl, (refl, refl)) next
    (codes "2021", refl, (true, 2021, search rules, refl)) next
    (codes " ", refl, (refl, refl)) next
    (codes "03", refl, (3, search rules, refl)) next
    (codes ":", refl, (refl, refl)) next
    (codes "04", refl, (4, search rules, refl)) next
    (codes ":05", refl, (Some 5, (codes ":", codes "05", refl, refl, search rules), refl)) next
    (codes " ", refl, (refl, refl)) next
    (codes "+06", refl, inr (record { no_zone = refl; sign = Positive; digits = codes "06"; hour = 6; cut = refl; run = search rules; says = refl })) next
    (codes "07", refl, (7, search rules, refl)) next
    ([], refl, (refl, refl)) next done)

pub two_digit_year_and_a_zone : HasForm true (codes "02 Jan 49 03:04 EST") [] (record (at_clock (dated 2 2049 false) 3 4 None) { offset_hour = neg_ℤ (pos 5) })
unfolding opt_cfws_colon_opt_cfws opt_cfws cfws fws blanks line_fold no_crlf comment comment_end zero_or_more repeat zone_literal hours_of
two_digit_year_and_a_zone = form_of (
    ([], refl, (None, (refl, no_weekday 48 _ (omega arith)), refl)) next
    (codes "02", refl, (2, search rules, search rules, refl)) next
    (codes " ", refl, (refl, refl)) next
    (codes "Jan", refl, (January, refl, refl)) next
    (codes " ", refl, (refl, refl)) next
    (codes "49", refl, (false, 2049, (too_few_digits 4 4 (codes "49") (codes " 03:04 EST") (search rules) (omega arith), (49, search rules, refl)), refl)) next
    (codes " ", refl, (refl, refl)) next
    (codes "03", refl, (3, search rules, refl)) next
    (codes ":", refl, (refl, refl)) next
    (codes "04", refl, (4, search rules, refl)) next
    ([], refl, (None, (refl, refl), refl)) next
    (codes " ", refl, (refl, refl)) next
    (codes "EST", refl, inl (neg_ℤ (pos 5), refl, refl)) next
    ([], refl, (refl, refl)) next
    ([], refl, (refl, refl)) next done)

-- an obsolete date of the RFC's appendix, and its numbers
abbrev pub obsolete : Numbers
obsolete = at_clock (record nothing_read { day = 21; month = November; year = 1997 }) 9 55 (Some 6)

pub obsolete_date : HasForm true (codes "21 Nov 97 09:55:06 GMT") [] obsolete
unfolding opt_cfws_colon_opt_cfws opt_cfws cfws fws blanks line_fold no_crlf comment comment_end zero_or_more repeat zone_literal hours_of
obsolete_date = form_of (
    ([], refl, (None, (refl, no_weekday 50 _ (omega arith)), refl)) next
    (codes "21", refl, (21, search rules, search rules, refl)) next
    (codes " ", refl, (refl, refl)) next
    (codes "Nov", refl, (November, refl, refl)) next
    (codes " ", refl, (refl, refl)) next (
      codes "97",
      refl,
      (
        false,
        1997,
        (
          too_few_digits 4 4 (codes "97") (codes " 09:55:06 GMT") (search rules) (omega arith),
          (97, search rules, refl),
        ),
        refl,
      ),
    ) next
    (codes " ", refl, (refl, refl)) next
    (codes "09", refl, (9, search rules, refl)) next
    (codes ":", refl, (refl, refl)) next
    (codes "55", refl, (55, search rules, refl)) next
    (codes ":06", refl, (Some 6, (codes ":", codes "06", refl, refl, search rules), refl)) next
    (codes " ", refl, (refl, refl)) next
    (codes "GMT", refl, inl (pos 0, refl, refl)) next
    ([], refl, (refl, refl)) next
    ([], refl, (refl, refl)) next done)

pub minus_of_offset_hour_0 : HasForm true (codes "02 Jan 2021 03:04 -0030") [] (record front { offset_sign = Some Negative; offset_minute = neg_ℤ (pos 30) })
unfolding opt_cfws_colon_opt_cfws opt_cfws cfws fws blanks line_fold no_crlf comment comment_end zero_or_more repeat zone_literal hours_of
minus_of_offset_hour_0 = whole true _ _ _ (form_of (
    ([], refl, (None, (refl, refl), refl)) next
    (codes " ", refl, (refl, refl)) next
    (codes "-00", refl, inr (record { no_zone = refl; sign = Negative; digits = codes "00"; hour = 0; cut = refl; run = search rules; says = refl })) next
    (codes "30", refl, (30, search rules, refl)) next
    ([], refl, (refl, refl)) next done))

pub comment_after_a_zone : (check : Bool) → HasForm check (codes "02 Jan 2021 03:04 GMT (x)") [] front
unfolding opt_cfws_colon_opt_cfws opt_cfws cfws fws blanks line_fold no_crlf comment comment_end zero_or_more repeat zone_literal hours_of
comment_after_a_zone check = whole check _ _ _ (form_of (
    ([], refl, (None, (refl, refl), refl)) next
    (codes " ", refl, (refl, refl)) next
    (codes "GMT", refl, inl (pos 0, refl, refl)) next
    ([], refl, (refl, refl)) next
    (codes " (x)", refl, (refl, refl)) next done))

pub rest_after_a_zone : HasForm false (codes "02 Jan 2021 03:04 Zx") (codes "x") front
unfolding opt_cfws_colon_opt_cfws opt_cfws cfws fws blanks line_fold no_crlf comment comment_end zero_or_more repeat zone_literal hours_of
rest_after_a_zone = whole false _ _ _ (form_of (
    ([], refl, (None, (refl, refl), refl)) next
    (codes " ", refl, (refl, refl)) next
    (codes "Z", refl, inl (pos 0, refl, refl)) next
    ([], refl, (refl, refl)) next
    ([], refl, (refl, refl)) next done))

-- bytes may follow the zone
hour_24 : (after : List ℕ) → zone_literal (codes "GMT" ++ after) ≡ Some (pos 0, after) → opt_cfws after ≡ Some after
    → HasForm false (codes "02 Jan 2021 24:00 GMT" ++ after) after (at_clock (dated 2 2021 true) 24 0 None)
unfolding opt_cfws_colon_opt_cfws opt_cfws cfws fws blanks line_fold no_crlf comment comment_end zero_or_more repeat
hour_24 after zone no_blank = MatchesPlaces-append (PlaceSyntax false) to_month_places (clock_places ++ end_places) nothing_read (dated 2 0 false) _
    (codes "02 Jan 2021 24:00 GMT" ++ after) (codes "2021 24:00 GMT" ++ after) after (to_month false (codes "021 24:00 GMT" ++ after)) (form_of (
    (codes "2021", refl, (true, 2021, search rules, refl)) next
    (codes " ", refl, (refl, refl)) next
    (codes "24", refl, (24, search rules, refl)) next
    (codes ":", refl, (refl, refl)) next
    (codes "00", refl, (0, search rules, refl)) next
    ([], refl, (None, (refl, refl), refl)) next
    (codes " ", refl, (refl, refl)) next
    (codes "GMT", refl, inl (pos 0, zone, refl)) next
    ([], refl, (refl, refl)) next
    ([], refl, (no_blank, refl)) next done))

pub hour_24_has_the_form : HasForm false (codes "02 Jan 2021 24:00 GMT") [] (at_clock (dated 2 2021 true) 24 0 None)
unfolding opt_cfws cfws fws blanks line_fold no_crlf comment comment_end zero_or_more repeat zone_literal hours_of
hour_24_has_the_form = hour_24 [] refl refl

pub rest_after_hour_24 : HasForm false (codes "02 Jan 2021 24:00 GMTx") (codes "x") (at_clock (dated 2 2021 true) 24 0 None)
unfolding opt_cfws cfws fws blanks line_fold no_crlf comment comment_end zero_or_more repeat zone_literal hours_of
rest_after_hour_24 = hour_24 (codes "x") refl refl

-- ---- Dates that don't match, by the first place that doesn't match

pub weekday_without_a_comma : (check : Bool) → FailsAt check (codes "Mon 02 Jan 2021 03:04 +0000") WeekdayName
unfolding opt_cfws cfws fws blanks line_fold no_crlf comment comment_end zero_or_more repeat
weekday_without_a_comma check = record {
  before = [];
  after = _;
  place = refl;
  mid = codes "Mon 02 Jan 2021 03:04 +0000";
  numbers = nothing_read;
  stand = form_of done;
  stops = λ text rest m e h.
      no_comma (codes "Mon 02 Jan 2021 03:04 +0000") (codes "Mon 02 Jan 2021 03:04 +0000") (codes " 02 Jan 2021 03:04 +0000") Monday refl
      (codes "Mon", refl, refl)
      (λ t r v f b. let head : ◌≡◌ {A = ℕ} 32 44 = ap (λ x. get_or x 0 0) (f ∙ ap (λ x. x ++ r) b) in omega arith)
      text rest h.0 e h.1;
}

pub day_32 : FailsAt true (codes "32 Jan 2021 03:04 GMT") Day
unfolding opt_cfws cfws fws blanks line_fold no_crlf comment comment_end zero_or_more repeat
day_32 = record {
  before = WeekdayName ∷ [];
  after = _;
  place = refl;
  mid = codes "32 Jan 2021 03:04 GMT";
  numbers = nothing_read;
  stand = form_of (([], refl, (None, (refl, no_weekday 51 _ (omega arith)), refl)) next done);
  stops = λ text rest m e h.
      let is = IsDigitRun-unique 1 1 2 text (codes "32") rest (codes " Jan 2021 03:04 GMT") h.0 32 h.1 (search rules) (sym e) in
      omega (arith, h.2, is.2);
}

pub year_1899 : FailsAt true (codes "02 Jan 1899 03:04 +0000") Year
unfolding opt_cfws cfws fws blanks line_fold no_crlf comment comment_end zero_or_more repeat
year_1899 = record {
  before = to_month_places;
  after = _;
  place = refl;
  mid = codes "1899 03:04 +0000";
  numbers = dated 2 0 false;
  stand = form_of (
      ([], refl, (None, (refl, no_weekday 48 _ (omega arith)), refl)) next
      (codes "02", refl, (2, search rules, search rules, refl)) next
      (codes " ", refl, (refl, refl)) next
      (codes "Jan", refl, (January, refl, refl)) next
      (codes " ", refl, (refl, refl)) next done);
  stops = λ text rest m e h.
      no_year (codes "1899 03:04 +0000") (codes " 03:04 +0000") 1899 (codes "1899", refl, search rules) (omega arith) text rest e h.0 h.1 h.2;
}

-- the places up to the year
to_year : (after : List ℕ)
    → MatchesPlaces (PlaceSyntax true) (to_month_places ++ Year ∷ []) nothing_read (codes "02 Jan 2021" ++ after) after
    (dated 2 2021 true)
to_year after =
    MatchesPlaces-append (PlaceSyntax true) to_month_places (Year ∷ []) nothing_read (dated 2 0 false) (dated 2 2021 true)
    (codes "02 Jan 2021" ++ after)
    (codes "2021" ++ after) after (to_month true (codes "021" ++ after)) (form_of ((codes "2021", refl, (true, 2021, search rules, refl)) next done))

no_blanks_after_the_year : (after : List ℕ) → fws after ≡ None → FailsAt true (codes "02 Jan 2021" ++ after) YearBlanks
no_blanks_after_the_year after missing = record {
  before = to_month_places ++ Year ∷ [];
  after = _;
  place = refl;
  mid = after;
  numbers = dated 2 2021 true;
  stand = to_year after;
  stops = λ text rest m e h. let found : None ≡ Some rest = sym missing ∙ ap fws e ∙ h.0 in cc;
}

pub return_after_a_year : FailsAt true (codes "02 Jan 2021\r03:04 +0000") YearBlanks
unfolding fws blanks line_fold no_crlf zero_or_more repeat
return_after_a_year = no_blanks_after_the_year (codes "\r03:04 +0000") refl

pub comment_after_a_full_year : FailsAt true (codes "02 Jan 2021(x)03:04 GMT") YearBlanks
unfolding fws blanks line_fold no_crlf zero_or_more repeat
comment_after_a_full_year = no_blanks_after_the_year (codes "(x)03:04 GMT") refl

-- the places before the offset
before_offset : (c : ℕ) (after : List ℕ) → cfws (32 ∷ c ∷ after) ≡ Some (c ∷ after) → opt_cfws_colon_opt_cfws (32 ∷ c ∷ after) ≡ None
    → MatchesPlaces (PlaceSyntax true) ((to_month_places ++ clock_places) ++ Second ∷ TimeBlanks ∷ []) nothing_read
    (codes "02 Jan 2021 03:04 " ++ c ∷ after) (c ∷ after) front
before_offset c after blank no_colon =
    MatchesPlaces-append (PlaceSyntax true) (to_month_places ++ clock_places) (Second ∷ TimeBlanks ∷ []) nothing_read front front
    (codes "02 Jan 2021 03:04 " ++ c ∷ after)
    (32 ∷ c ∷ after) (c ∷ after) (to_minute true (32 ∷ c ∷ after))
    (form_of (([], refl, (None, (refl, no_colon), refl)) next (codes " ", refl, (blank, refl)) next done))

fails_at_offset : (c : ℕ) (after : List ℕ) → cfws (32 ∷ c ∷ after) ≡ Some (c ∷ after) → opt_cfws_colon_opt_cfws (32 ∷ c ∷ after) ≡ None
    → NoCut (PlaceSyntax true OffsetHour front) (c ∷ after) → FailsAt true (codes "02 Jan 2021 03:04 " ++ c ∷ after) OffsetHour
fails_at_offset c after blank no_colon stops = record {
  before = (to_month_places ++ clock_places) ++ Second ∷ TimeBlanks ∷ [];
  after = _;
  place = refl;
  mid = c ∷ after;
  numbers = front;
  stand = before_offset c after blank no_colon;
  stops = stops;
}

neither_zone_nor_sign : (c : ℕ) (after : List ℕ) → zone_literal (c ∷ after) ≡ None → c ≢ 45 → c ≢ 43 → NoCut (PlaceSyntax true OffsetHour front) (c ∷ after)
neither_zone_nor_sign c after missing minus plus text rest m e (inl z) =
    let found : ◌≡◌ {A = Option (ℤ × List ℕ)} None (Some (z.0, rest)) = sym missing ∙ ap zone_literal e ∙ z.1 in
    cc
neither_zone_nor_sign c after missing minus plus text rest m e (inr s) =
    no_sign c after minus plus (sign_byte s.sign ∷ []) (s.digits ++ rest) s.sign (e ∙ ap (λ t. t ++ rest) s.cut) refl

pub letter_j_is_no_zone : FailsAt true (codes "02 Jan 2021 03:04 J") OffsetHour
unfolding opt_cfws_colon_opt_cfws opt_cfws cfws fws blanks line_fold no_crlf comment comment_end zero_or_more repeat zone_literal hours_of
letter_j_is_no_zone = fails_at_offset 74 [] refl refl (neither_zone_nor_sign 74 [] refl (λ e. omega arith) (λ e. omega arith))

pub letter_before_a_comment : FailsAt true (codes "02 Jan 2021 03:04 Z (x)") OffsetHour
unfolding opt_cfws_colon_opt_cfws opt_cfws cfws fws blanks line_fold no_crlf comment comment_end zero_or_more repeat zone_literal hours_of
letter_before_a_comment = fails_at_offset 90 (codes " (x)") refl refl (neither_zone_nor_sign 90 (codes " (x)") refl (λ e. omega arith) (λ e. omega arith))

hour_26 : zone_literal (codes "-2600") ≡ None → NoCut (PlaceSyntax true OffsetHour front) (codes "-2600")
hour_26 missing text rest m e (inl z) =
    let found : ◌≡◌ {A = Option (ℤ × List ℕ)} None (Some (z.0, rest)) = sym missing ∙ ap zone_literal e ∙ z.1 in
    cc
hour_26 missing text rest m e (inr s) =
    let bytes : 45 ∷ codes "2600" ≡ sign_byte s.sign ∷ (s.digits ++ rest) = e ∙ ap (λ t. t ++ rest) s.cut in
    let tail : codes "2600" ≡ s.digits ++ rest = cc in
    outside 0 25 (codes "26") (codes "00") 26 (search rules) (inr (omega arith)) s.digits rest s.hour tail s.run

pub offset_hour_26 : FailsAt true (codes "02 Jan 2021 03:04 -2600") OffsetHour
unfolding opt_cfws_colon_opt_cfws opt_cfws cfws fws blanks line_fold no_crlf comment comment_end zero_or_more repeat zone_literal hours_of
offset_hour_26 = fails_at_offset 45 (codes "2600") refl refl (hour_26 refl)
