-- Known texts and their values, so that a wrong rule in the specs does not check.
use Rattle.std.proofs.Common.{◌≡◌, ℕ, pos, neg_ℤ, List, [], ◌∷◌, ◌++◌, replicate, codes, Option, Some, None, option_map, Ok, Err, true, false, refl, arith}
use Rattle.time_values.specs.Refusal.{component}
use Rattle.time_values.specs.declared.month.Month.TheVariants.{January, December}
use Rattle.time_values.specs.declared.weekday.Weekday.TheVariants.{Saturday}
use Rattle.time_readers.specs.Readers.{zero_or_more, repeat}
use Rattle.time_readers.specs.MailBlanks.{blanks, line_fold, no_crlf, fws, comment_end, comment, cfws, opt_cfws, opt_cfws_colon_opt_cfws}
use Rattle.time_readers.specs.MailBlanks.{zone_literal, hours_of}
use Rattle.time_readers.specs.IsoPieces.{Found, digits, byte, point, sign, year, month as month_of, weekday, positive, up_to, number}
use Rattle.time_readers.specs.IsoDates.{IsoDate, calendar, ordinal, week, forms, date_text}
use Rattle.time_readers.specs.IsoTimes.{IsFloor, IsRounded, time_after, time_text, first_fitting}
use Rattle.time_readers.specs.IsoOffsets as offsets
use Rattle.time_readers.specs.declared.iso8601.ExtendedKind.{ExtendedKind}
use Rattle.time_readers.specs.declared.iso8601.ExtendedKind.TheVariants.{Basic, Extended, Unknown}
use Rattle.time_readers.specs.declared.iso8601.OffsetNumbers.{OffsetNumbers}
use Rattle.time_readers.specs.declared.iso8601.OffsetNumbers.TheVariants.{Zulu, Numeric}
use Rattle.time_readers.specs.declared.iso8601.TimeNumbers.{TimeNumbers}

-- ---- Blanks

pub spaces_and_tabs : fws (codes " \t x") ≡ Some (codes "x")
unfolding fws blanks line_fold no_crlf zero_or_more repeat
spaces_and_tabs = refl

pub line_end_before_a_blank : fws (codes "\r\n 03") ≡ Some (codes "03")
unfolding fws blanks line_fold no_crlf zero_or_more repeat
line_end_before_a_blank = refl

pub two_folded_lines : fws (codes " \r\n \r\n 03") ≡ Some (codes "03")
unfolding fws blanks line_fold no_crlf zero_or_more repeat
two_folded_lines = refl

pub return_after_a_blank_is_left : fws (codes " \r03") ≡ Some (codes "\r03")
unfolding fws blanks line_fold no_crlf zero_or_more repeat
return_after_a_blank_is_left = refl

pub return_is_no_blank : fws (codes "\r03") ≡ None
unfolding fws blanks line_fold no_crlf zero_or_more repeat
return_is_no_blank = refl

pub line_feed_is_no_blank : fws (codes "\n03") ≡ None
unfolding fws blanks line_fold no_crlf zero_or_more repeat
line_feed_is_no_blank = refl

pub line_end_without_a_blank : fws (codes "  \r\n03") ≡ None
unfolding fws blanks line_fold no_crlf zero_or_more repeat
line_end_without_a_blank = refl

pub first_fold_ends_the_blanks : fws (codes "\r\n \r\n 03") ≡ Some (codes "\r\n 03")
unfolding fws blanks line_fold no_crlf zero_or_more repeat
first_fold_ends_the_blanks = refl

-- ---- Comments

pub quoted_bracket_in_an_inner_comment : cfws (codes " (a(b\\)c)) Jan") ≡ Some (codes "Jan")
unfolding cfws fws blanks line_fold no_crlf comment comment_end zero_or_more repeat
quoted_bracket_in_an_inner_comment = refl

pub comments_side_by_side : cfws (codes "(a) (b)(c)x") ≡ Some (codes "x")
unfolding cfws fws blanks line_fold no_crlf comment comment_end zero_or_more repeat
comments_side_by_side = refl

pub comments_31_deep : cfws (replicate 31 40 ++ (replicate 31 41 ++ codes "x")) ≡ Some (codes "x")
unfolding cfws fws blanks line_fold no_crlf comment comment_end zero_or_more repeat
comments_31_deep = refl

pub colon_between_blanks : opt_cfws_colon_opt_cfws (codes " (x): 04") ≡ Some (codes "04")
unfolding opt_cfws_colon_opt_cfws opt_cfws cfws fws blanks line_fold no_crlf comment comment_end zero_or_more repeat
colon_between_blanks = refl

pub no_blanks_are_needed : opt_cfws (codes "x") ≡ Some (codes "x")
unfolding opt_cfws cfws fws blanks line_fold no_crlf comment comment_end zero_or_more repeat
no_blanks_are_needed = refl

pub comments_32_deep : cfws (replicate 32 40 ++ replicate 32 41) ≡ None
unfolding cfws fws blanks line_fold no_crlf comment comment_end zero_or_more repeat
comments_32_deep = refl

pub comment_without_its_end : cfws (codes "(a") ≡ None
unfolding cfws fws blanks line_fold no_crlf comment comment_end zero_or_more repeat
comment_without_its_end = refl

pub quoted_return : cfws (codes "(\\\r)") ≡ None
unfolding cfws fws blanks line_fold no_crlf comment comment_end zero_or_more repeat
quoted_return = refl

pub blanks_without_a_colon : opt_cfws_colon_opt_cfws (codes " (x) 04") ≡ None
unfolding opt_cfws_colon_opt_cfws opt_cfws cfws fws blanks line_fold no_crlf comment comment_end zero_or_more repeat
blanks_without_a_colon = refl

-- ---- Zone names

pub eastern_standard_time : zone_literal (codes "eSt") ≡ Some (neg_ℤ (pos 5), [])
unfolding zone_literal hours_of
eastern_standard_time = refl

pub military_letter : zone_literal (codes "Zx") ≡ Some (pos 0, codes "x")
unfolding zone_literal hours_of
military_letter = refl

pub universal_time : zone_literal (codes "ut") ≡ Some (pos 0, [])
unfolding zone_literal hours_of
universal_time = refl

pub letter_j : zone_literal (codes "J") ≡ None
unfolding zone_literal hours_of
letter_j = refl

-- the first three of three bytes or more are the name
pub letter_before_a_comment : zone_literal (codes "Z (x)") ≡ None
unfolding zone_literal hours_of
letter_before_a_comment = refl

pub sign_is_no_zone : zone_literal (codes "+0607") ≡ None
unfolding zone_literal hours_of
sign_is_no_zone = refl

-- ---- Dates of ISO 8601

abbrev dated : List ℕ → IsoDate → ExtendedKind → Found IsoDate
dated rest date kind = record { rest = rest; value = date; kind = kind }

pub basic_date : date_text (codes "20210102T") ≡ Ok (dated (codes "T") (calendar (pos 2021) January 2) Basic)
unfolding date_text forms year month_of weekday positive digits sign byte
basic_date = refl

pub signed_year_of_six_digits : date_text (codes "+002021-01-02") ≡ Ok (dated [] (calendar (pos 2021) January 2) Extended)
unfolding date_text forms year month_of weekday positive digits sign byte
signed_year_of_six_digits = refl

pub day_of_the_year : date_text (codes "2021-060") ≡ Ok (dated [] (ordinal (pos 2021) 60) Extended)
unfolding date_text forms year month_of weekday positive digits sign byte
day_of_the_year = refl

pub week_date : date_text (codes "2020-W53-6") ≡ Ok (dated [] (week (pos 2020) 53 Saturday) Extended)
unfolding date_text forms year month_of weekday positive digits sign byte
week_date = refl

-- the record checks the day's range, and no later form is tried
pub first_form_that_fits : date_text (codes "20211234") ≡ Ok (dated [] (calendar (pos 2021) December 34) Basic)
unfolding date_text forms year month_of weekday positive digits sign byte
first_form_that_fits = refl

pub thirteenth_month : date_text (codes "2021-13-01") ≡ Err (component (codes "month"))
unfolding date_text forms year month_of weekday positive digits sign byte
thirteenth_month = refl

pub four_digits_after_a_sign : date_text (codes "+2021-01-02") ≡ Err (component (codes "year"))
unfolding date_text forms year month_of weekday positive digits sign byte
four_digits_after_a_sign = refl

pub mixed_separators : date_text (codes "2021-0102") ≡ Ok (dated (codes "2") (ordinal (pos 2021) 10) Extended)
unfolding date_text forms year month_of weekday positive digits sign byte
mixed_separators = refl

pub year_and_month : date_text (codes "202101") ≡ Err (component (codes "day"))
unfolding date_text forms year month_of weekday positive digits sign byte
year_and_month = refl

pub eighth_weekday : date_text (codes "2020-W53-8") ≡ Err (component (codes "weekday"))
unfolding date_text forms year month_of weekday positive digits sign byte
eighth_weekday = refl

-- ---- Times of ISO 8601

abbrev timed : List ℕ → TimeNumbers → ExtendedKind → Option (Found TimeNumbers)
timed rest time kind = Some (record { rest = rest; value = time; kind = kind })

abbrev clock : ℕ → ℕ → ℕ → ℕ → TimeNumbers
clock h m s n = record { hour = h; minute = m; second = s; subsecond = n }

pub hour_alone : time_text false Unknown (codes "12") ≡ timed [] (clock 12 0 0 0) Unknown
unfolding time_after number digits point byte
hour_alone = refl

pub fraction_of_an_hour : time_text false Unknown (codes "03.0001") ≡ timed [] (clock 3 0 0 360_000_000) Unknown
unfolding time_after number digits point byte
fraction_of_an_hour = refl

pub comma_before_a_fraction : time_text true Basic (codes "T0304,25Z") ≡ timed (codes "Z") (clock 3 4 15 0) Basic
unfolding time_after number digits point byte
comma_before_a_fraction = refl

pub hour_and_minute_without_a_colon : time_text false Unknown (codes "2021-01") ≡ timed (codes "-01") (clock 20 21 0 0) Basic
unfolding time_after number digits point byte
hour_and_minute_without_a_colon = refl

pub colon_makes_it_extended : time_text false Unknown (codes "05:30Z") ≡ timed (codes "Z") (clock 5 30 0 0) Extended
unfolding time_after number digits point byte
colon_makes_it_extended = refl

pub second_60 : time_text false Unknown (codes "235960") ≡ timed [] (clock 23 59 60 0) Basic
unfolding time_after number digits point byte
second_60 = refl

pub last_nanosecond : time_text false Unknown (codes "12:34:56.9999999994") ≡ timed [] (clock 12 34 56 999_999_999) Extended
unfolding time_after number digits point byte
last_nanosecond = refl

pub rounded_to_a_whole_second : time_text false Unknown (codes "12:34:56.9999999995") ≡ None
unfolding time_after number digits point byte
rounded_to_a_whole_second = refl

pub sixtieth_minute : time_text false Unknown (codes "0360") ≡ None
unfolding time_after number digits point byte
sixtieth_minute = refl

pub second_61 : time_text false Unknown (codes "030461") ≡ None
unfolding time_after number digits point byte
second_61 = refl

pub hour_24 : time_text true Extended (codes "T24") ≡ None
unfolding time_after number digits point byte
hour_24 = refl

pub no_t_after_a_date : time_text true Basic (codes "03") ≡ None
unfolding time_after number digits point byte
no_t_after_a_date = refl

pub second_without_its_colon : time_text false Unknown (codes "03:0405") ≡ timed (codes "05") (clock 3 4 0 0) Extended
unfolding time_after number digits point byte
second_without_its_colon = refl

pub colon_in_a_basic_text : time_text true Basic (codes "T03:04") ≡ None
unfolding time_after number digits point byte
colon_in_a_basic_text = refl

-- ---- Offsets of ISO 8601

-- the rest after an offset, and its value
abbrev offset_of : ExtendedKind → List ℕ → Option (List ℕ × OffsetNumbers)
offset_of kind bytes =
    option_map (λ f. (f.rest, offsets.numbers_of f.value.signed f.value.hour f.value.minute))
    (first_fitting offsets.stands offsets.no_offset_parts offsets.offset_rows kind bytes)

pub utc : offset_of Basic (codes "Zx") ≡ Some (codes "x", Zulu)
unfolding digits up_to sign byte
utc = refl

pub hour_of_an_offset : offset_of Unknown (codes "-05") ≡ Some ([], Numeric (neg_ℤ (pos 5)) (pos 0))
unfolding digits up_to sign byte
hour_of_an_offset = refl

pub minute_takes_the_sign : offset_of Extended (codes "-00:30") ≡ Some ([], Numeric (pos 0) (neg_ℤ (pos 30)))
unfolding digits up_to sign byte
minute_takes_the_sign = refl

pub minute_without_a_colon : offset_of Extended (codes "+0530") ≡ Some ([], Numeric (pos 5) (pos 30))
unfolding digits up_to sign byte
minute_without_a_colon = refl

pub colon_after_a_basic_text_is_left : offset_of Basic (codes "+05:30") ≡ Some (codes ":30", Numeric (pos 5) (pos 0))
unfolding digits up_to sign byte
colon_after_a_basic_text_is_left = refl

pub minute_60_of_an_offset : offset_of Unknown (codes "+0160") ≡ None
unfolding digits up_to sign byte
minute_60_of_an_offset = refl

pub hour_26_of_an_offset : offset_of Unknown (codes "+26") ≡ None
unfolding digits up_to sign byte
hour_26_of_an_offset = refl

pub colon_without_a_minute : offset_of Extended (codes "+05:") ≡ None
unfolding digits up_to sign byte
colon_without_a_minute = refl

-- ---- Exact fractions

pub ten_thousandth_of_an_hour : IsFloor (codes "0001") 3_600_000_000_000 360_000_000
ten_thousandth_of_an_hour = record { low = omega arith; high = omega arith }

pub twenty_nines_of_a_minute : IsFloor (replicate 20 57) 60_000_000_000 59_999_999_999
twenty_nines_of_a_minute = record { low = omega arith; high = omega arith }

pub rounded_down : IsRounded (codes "9999999994") 1_000_000_000 999_999_999
rounded_down = record { low = omega arith; high = omega arith }

pub half_is_rounded_up : IsRounded (codes "9999999995") 1_000_000_000 1_000_000_000
half_is_rounded_up = record { low = omega arith; high = omega arith }

pub half_of_one : IsRounded (codes "5") 1 1
half_of_one = record { low = omega arith; high = omega arith }

pub below_a_half : IsRounded (52 ∷ replicate 40 57) 1 0
below_a_half = record { low = omega arith; high = omega arith }

pub no_digits_are_0 : IsRounded [] 1_000_000_000 0
no_digits_are_0 = record { low = omega arith; high = omega arith }

pub floor_is_not_rounded : IsFloor (replicate 20 57) 60_000_000_000 60_000_000_000 → ⊥
floor_is_not_rounded found = omega (arith, found.low)

-- all digits count, also after the twelfth
pub thirteenth_digit_counts : IsFloor (codes "0000000000005") 3_600_000_000_000 1
thirteenth_digit_counts = record { low = omega arith; high = omega arith }

pub thirteenth_digit_is_not_dropped : IsFloor (codes "0000000000005") 3_600_000_000_000 0 → ⊥
thirteenth_digit_is_not_dropped found = omega (arith, found.high)

pub half_is_not_rounded_down : IsRounded (codes "9999999995") 1_000_000_000 999_999_999 → ⊥
half_is_not_rounded_down found = omega (arith, found.high)

pub below_a_half_is_not_1 : IsRounded (52 ∷ replicate 40 57) 1 1 → ⊥
below_a_half_is_not_1 found = omega (arith, found.low)
