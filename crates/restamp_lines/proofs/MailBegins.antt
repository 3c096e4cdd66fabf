-- RFC 2822 rejects a text whose first bytes no mail date starts with.
use Rattle.std.proofs.Common.{◌≡◌, ℕ, ◌≤◌, ◌==◌, ◌++◌, Bool, true, false, List, [], ◌∷◌, length, get_or, take, refl, sym, ap, subst, arith, ◌∙◌, None, Some, ◌&&◌, if◌then◌else◌}
use Rattle.std.specs.Char.{is_ascii_digit, to_ascii_lowercase}
use Rattle.std.specs.Str.{str_to_ascii_lowercase}
use Rattle.std.proofs.lemmas.Bool.{and_from, le-leb, or_parts, true≢false}
use Rattle.std.proofs.lemmas.Bool.Decides.{nat_tests}
use Rattle.time_values.specs.Names.{weekday_name}
use Rattle.time_values.specs.declared.weekday.Weekday.{Weekday}
use Rattle.time_values.specs.declared.weekday.Weekday.TheVariants.{Monday}
use Rattle.time_digits.specs.Digits.{NoCut, IsDigit, IsDigitRun}
use Rattle.time_readers.specs.MailBlanks.{blanks, cfws, comment, comment_end, crlf, fws, is_blank, line_fold, opt_cfws}
use Rattle.time_readers.specs.Readers.{Reader, MatchesPlaces, one_of, ◌then◌, zero_or_more}
use Rattle.time_readers.specs.Rfc2822.{FailsAt, IsShortWeekday, nothing_read, to_offset_places, offset_places}
use Rattle.time_readers.specs.declared.rfc2822.Place.TheVariants.{WeekdayName, Day}
use Rattle.time_readers.proofs.MailBlanks.{blanks_or_comment, fws-blanks, fws-none, more_lines-end, opt_cfws-leaves, read-cut}
use Rattle.time_readers.proofs.Repeats.{or-none, or-some, then-none, then-some, zero_or_more-none}
use Rattle.restamp_lines.specs.Begins.{begins_day, is_gap, is_weekday, is_weekday_second, may_be_mail}

pub digit-first : (c : ℕ) → IsDigit c → is_ascii_digit c ≡ true
digit-first c h = and_from _ _ (le-leb _ _ h.0) (le-leb _ _ h.1)

-- a run of digits starts with a digit
pub run-first : (least most : ℕ) (text rest : List ℕ) (v : ℕ) → 1 ≤ least → IsDigitRun least most text rest v
    → is_ascii_digit (get_or (text ++ rest) 0 0) ≡ true
run-first least most [] rest v some h = let enough = h.enough in absurd (omega arith)
run-first least most (c ∷ cs) rest v some h = digit-first c h.digits.0

-- a reader of one byte rejects a different one
one_of-none : (test : ℕ → Bool) (bytes : List ℕ) → test (get_or bytes 0 0) ≡ false → one_of test bytes ≡ None
one_of-none test [] other = refl
one_of-none test (x ∷ xs) other = rw other refl

-- neither white space nor a comment starts with another byte
module _ (bytes : List ℕ) (other : is_gap (get_or bytes 0 0) ≡ false) where
  no_byte : (test : ℕ → Bool) → test (get_or bytes 0 0) ≡ false → (p : Reader) → (one_of test then p) bytes ≡ None
  no_byte test none p = then-none (one_of test) p bytes (one_of-none test bytes none)

  no_end : crlf bytes ≡ None
  no_end = grind (arith, no_byte, or_parts)

  no_blank : one_of is_blank bytes ≡ None
  no_blank = grind (arith, one_of-none, or_parts)

  no_gap : blanks_or_comment bytes ≡ None
  unfolding blanks line_fold comment
  no_gap =
      or-none fws (comment 31) bytes (fws-none bytes (then-none crlf blanks bytes no_end) (then-none (one_of is_blank) _ bytes no_blank))
      ∙ no_byte (λ c. c == 40) (or_parts _ _ other).1 (comment_end (comment 30))

  gap-none : opt_cfws bytes ≡ Some bytes
  unfolding opt_cfws cfws
  gap-none = or-none cfws Some bytes (then-none blanks_or_comment (zero_or_more blanks_or_comment) bytes no_gap)

  -- neither follows one space
  one_gap : blanks_or_comment (32 ∷ bytes) ≡ Some bytes
  unfolding blanks line_fold
  one_gap =
      let one_blank = then-some (one_of is_blank) (zero_or_more (one_of is_blank)) (32 ∷ bytes) bytes refl
      ∙ zero_or_more-none (one_of is_blank) bytes no_blank in
      or-some fws (comment 31) (32 ∷ bytes) bytes
      (fws-blanks (32 ∷ bytes) bytes (then-none crlf blanks (32 ∷ bytes) refl) one_blank ∙ more_lines-end bytes no_end)

  gap-one : opt_cfws (32 ∷ bytes) ≡ Some bytes
  unfolding opt_cfws cfws
  gap-one =
      or-some cfws Some (32 ∷ bytes) bytes
      (then-some blanks_or_comment (zero_or_more blanks_or_comment) (32 ∷ bytes) bytes one_gap
      ∙ zero_or_more-none blanks_or_comment bytes no_gap)

-- the first two letters of a weekday
letters : (w : Weekday) (t u : ℕ) → to_ascii_lowercase t ≡ get_or (str_to_ascii_lowercase (take 3 (weekday_name w))) 0 0
    → to_ascii_lowercase u ≡ get_or (str_to_ascii_lowercase (take 3 (weekday_name w))) 1 0
    → (is_weekday t && is_weekday_second u) ≡ true
letters Monday t u first second = grind (arith, nat_tests)
letters _ t u first second = grind (arith, nat_tests)

three : (w : Weekday) → length (str_to_ascii_lowercase (take 3 (weekday_name w))) ≡ 3
three Monday = refl
three _ = refl

-- two bytes that no weekday starts with
abbrev begin_none : List ℕ → Type 0
begin_none bytes = (is_weekday (get_or bytes 0 0) && is_weekday_second (get_or bytes 1 0)) ≡ false

weekday-begins : (w : Weekday) (text rest : List ℕ) → str_to_ascii_lowercase text ≡ str_to_ascii_lowercase (take 3 (weekday_name w))
    → (is_weekday (get_or (text ++ rest) 0 0) && is_weekday_second (get_or (text ++ rest) 1 0)) ≡ true
weekday-begins w (t ∷ u ∷ ts) rest is = letters w t u (ap (λ (xs : List ℕ). get_or xs 0 0) is) (ap (λ (xs : List ℕ). get_or xs 1 0) is)
weekday-begins w text rest is = absurd (omega (arith, ap length is, three w))

no_weekday : (bytes : List ℕ) → begin_none bytes → NoCut IsShortWeekday bytes
no_weekday bytes none text rest w cut is = true≢false (sym (weekday-begins w text rest is) ∙ rw cut at none)

-- the day fails, because no day follows the bytes before it
day-fails : (bytes mid : List ℕ) → opt_cfws bytes ≡ Some mid → is_ascii_digit (get_or mid 0 0) ≡ false → begin_none mid → FailsAt true bytes Day
unfolding MatchesPlaces
day-fails bytes mid gap no_digit none =
    let front = read-cut opt_cfws opt_cfws-leaves bytes mid gap in
    record {
      before = WeekdayName ∷ [];
      after = to_offset_places ++ offset_places;
      place = refl;
      mid = mid;
      numbers = nothing_read;
      stand = (mid, nothing_read, (front.0, front.1, (None, (front.2, no_weekday mid none), refl)), (refl, refl));
      stops = λ text rest v cut h. true≢false (sym (run-first 1 2 text rest h.0 (omega arith) h.1) ∙ rw cut at no_digit);
    }

-- the day fails if the bytes start with no white space, no comment, no day and no weekday
begun-fails : (bytes mid : List ℕ) → (is_gap (get_or mid 0 0) ≡ false → opt_cfws bytes ≡ Some mid)
    → begins_day (get_or mid 0 0) (get_or mid 1 0) ≡ false → FailsAt true bytes Day
begun-fails bytes mid gap none =
    day-fails bytes mid (gap (grind (arith, or_parts))) (grind (arith, or_parts)) (grind (arith, or_parts))

space-fails : (bytes : List ℕ) (space : Bool) → (get_or bytes 0 0 == 32) ≡ space
    → (if space then begins_day (get_or bytes 1 0) (get_or bytes 2 0) else begins_day (get_or bytes 0 0) (get_or bytes 1 0)) ≡ false
    → FailsAt true bytes Day
space-fails bytes false other none = begun-fails bytes bytes (gap-none bytes) none
space-fails [] true is none = absurd (true≢false (sym is))
space-fails (x ∷ bytes) true is none =
    let same : 32 ≡ x = grind (arith, nat_tests) in
    subst (λ (b : ℕ). FailsAt true (b ∷ bytes) Day) same (begun-fails (32 ∷ bytes) bytes (gap-one bytes) none)

-- No mail date starts with these bytes.
pub mail-fails : (bytes : List ℕ) → may_be_mail bytes ≡ false → FailsAt true bytes Day
mail-fails bytes none = space-fails bytes (get_or bytes 0 0 == 32) refl none
