-- Worked values of readings and errors, so that a wrong rule in the specs fails the check. They follow from the definitions, without any code. `Y` is the
-- greatest year.
use Rattle.std.proofs.Common.{◌≡◌, ℕ, ◌+◌, ◌/◌, ◌%◌, ◌<◌, List, [], ◌∷◌, ◌++◌, length, false, Option, Some, None, codes, refl, sym, ap, subst, ◌∙◌}
use Rattle.std.proofs.Common.{inl, inr, arith, pos, rules}
use Rattle.time_values.specs.Refusal.{Refusal, literal as of_literal, component as of_component, trailing}
use Rattle.time_digits.specs.Digits.{AllDigits, IsDigitRun, NoCut, NoDigitFirst, digits_value}
use Rattle.time_values.proofs.CalendarTests.{first_is, last_is}
use Rattle.time_digits.specs.declared.Padding.TheVariants as padding
use Rattle.time_digits.specs.declared.Sign.TheVariants.{Positive}
use Rattle.time_digits.proofs.Runs.{IsDigitRun-unique}
use Rattle.time_components.specs.Spelling.{Spells, number, signed}
use Rattle.time_components.specs.Tree.{Tree, literal, component, sequence, optional, first_of, none, trees}
use Rattle.time_components.specs.declared.format_description.Component.{Component}
use Rattle.time_components.specs.declared.format_description.Component.TheVariants as kind
use Rattle.time_components.specs.declared.modifier.TrailingInput.TheVariants.{Prohibit}
use Rattle.time_components.proofs.OneSpelling.{Spells-unique}
use Rattle.time_components.proofs.StandardFacts.{six_digits_behind_a_sign}
use Rattle.time_record.specs.Components.{put_value}
use Rattle.time_record.specs.Reading.{Reads, ReadsAll, ReadsSome, NoReading, IsFault, IsFaultAll, Refuses}
use Rattle.time_record.specs.Record.{Record, empty, put, hour_24_is, minute_is, unix_timestamp_nanos_is}
use Rattle.time_record.proofs.Unique.{Reads-unique, Refuses-unique}

abbrev pub hour : Tree
hour = component false (kind.Hour24 (record { padding = padding.Zero }))

abbrev pub minute : Tree
minute = component false (kind.Minute (record { padding = padding.Zero }))

abbrev pub colon : Tree
colon = literal (codes ":")

-- `12:34`
abbrev pub clock : Tree
clock = sequence (trees (hour ∷ colon ∷ minute ∷ []))

-- `12:34`, or else `12`
abbrev pub clock_or_hour : Tree
clock_or_hour = first_of (trees (clock ∷ hour ∷ []))

-- two digits of a number are a run
two : (n : ℕ) (rest : List ℕ) → n < 100 → IsDigitRun 2 2 ((48 + n / 10) ∷ (48 + n % 10) ∷ []) rest n
two n rest few = record {
  digits = ((omega arith, omega arith), ((omega arith, omega arith), tt));
  enough = omega arith;
  within = omega arith;
  ends = inl refl;
  is = omega arith;
}

-- fewer than two digits don't match
no_two : (front rest : List ℕ) → AllDigits front → NoDigitFirst rest → length front < 2 → NoCut (IsDigitRun 2 2) (front ++ rest)
no_two front rest digits ends few text after v e run =
    let found : IsDigitRun 0 2 front rest (digits_value front) = record {
      digits = digits;
      enough = omega arith;
      within = omega arith;
      ends = inr
          ends;
      is = refl;
    } in
    let is = IsDigitRun-unique 2 0 2 text front after rest v (digits_value front) run found (sym e) in
    let l : length text ≡ length front = ap length is.0 in
    omega (arith, run.enough)

no_two_at_x : (rest : List ℕ) → NoCut (IsDigitRun 2 2) (120 ∷ rest)
no_two_at_x rest = no_two [] (120 ∷ rest) tt (λ d. omega (arith, d)) (omega arith)

no_two_at_1x : NoCut (IsDigitRun 2 2) (codes "1x")
no_two_at_1x = no_two (codes "1") (codes "x") ((omega arith, omega arith), tt) (λ d. omega (arith, d)) (omega arith)

pub reads_hour : (Y : ℕ) (r : Record) (n : ℕ) (rest : List ℕ) (q : Record) → n < 100 → put Y (hour_24_is n) r ≡ Some q
    → Reads Y hour ((48 + n / 10) ∷ (48 + n % 10) ∷ rest) r rest q
unfolding Reads
reads_hour Y r n rest q few puts = record {
  text = (48 + n / 10) ∷ (48 + n % 10) ∷ [];
  value = number n;
  cut = refl;
  spells = (n, refl, two n rest few);
  puts = puts;
}

pub reads_minute : (Y : ℕ) (r : Record) (n : ℕ) (rest : List ℕ) (q : Record) → n < 100 → put Y (minute_is n) r ≡ Some q
    → Reads Y minute ((48 + n / 10) ∷ (48 + n % 10) ∷ rest) r rest q
unfolding Reads
reads_minute Y r n rest q few puts = record {
  text = (48 + n / 10) ∷ (48 + n % 10) ∷ [];
  value = number n;
  cut = refl;
  spells = (n, refl, two n rest few);
  puts = puts;
}

pub no_hour : (Y : ℕ) (r : Record) (bytes : List ℕ) → NoCut (IsDigitRun 2 2) bytes → NoReading Y hour bytes r
unfolding Reads
no_hour Y r bytes unread = λ rest q h. unread h.text rest h.spells.0 h.cut h.spells.2

pub no_minute : (Y : ℕ) (r : Record) (bytes : List ℕ) → NoCut (IsDigitRun 2 2) bytes → NoReading Y minute bytes r
unfolding Reads
no_minute Y r bytes unread = λ rest q h. unread h.text rest h.spells.0 h.cut h.spells.2

pub no_colon : (Y : ℕ) (r : Record) (rest : List ℕ) → NoReading Y colon (120 ∷ rest) r
unfolding Reads
no_colon Y r rest = λ after q h. let e : 120 ∷ rest ≡ 58 ∷ after = h.0 in cc

module _ (Y : ℕ) (r : Record) where
  -- 12 hours, with or without 34 minutes
  abbrev pub at_12 : Record
  at_12 = record r { hour_24 = Some 12 }

  abbrev pub at_12_34 : Record
  at_12_34 = record r { hour_24 = Some 12; minute = Some 34 }

  -- the rest is what follows the text
  pub hour_reads_two_digits : Reads Y hour (codes "12x") r (codes "x") at_12
  hour_reads_two_digits = reads_hour Y r 12 (codes "x") at_12 (omega arith) refl

  pub hour_leaves_a_third_digit : Reads Y hour (codes "123") r (codes "3") at_12
  hour_leaves_a_third_digit = reads_hour Y r 12 (codes "3") at_12 (omega arith) refl

  pub literal_reads_itself : Reads Y colon (codes ":34") r (codes "34") r
  unfolding Reads
  literal_reads_itself = (refl, refl)

  -- each tree of a list reads the rest of the one before it, and changes its record
  pub list_reads_in_turn : Reads Y clock (codes "12:34x") r (codes "x") at_12_34
  unfolding Reads ReadsAll
  list_reads_in_turn = (
    codes ":34x",
    at_12,
    reads_hour Y r 12 (codes ":34x") at_12 (omega arith) refl,
    (
      codes "34x",
      at_12,
      (refl, refl),
      (codes "x", at_12_34, reads_minute Y at_12 34 (codes "x") at_12_34 (omega arith) refl, (refl, refl)),
    ),
  )

  pub no_clock_at_12x : NoReading Y clock (codes "12x") r
  unfolding Reads ReadsAll
  no_clock_at_12x = λ rest q h.
      let same = Reads-unique Y hour (codes "12x") r (codes "x") at_12 h.0 h.1 hour_reads_two_digits h.2 in
      no_colon Y h.1 [] h.3.0 h.3.1 (subst (λ b. Reads Y colon b h.1 h.3.0 h.3.1) (sym same.0) h.3.2)

  no_clock_at_12_x : NoReading Y clock (codes "12:x") r
  unfolding Reads ReadsAll
  no_clock_at_12_x = λ rest q h.
      let same = Reads-unique Y hour (codes "12:x") r (codes ":x") at_12 h.0 h.1 (reads_hour Y r 12 (codes ":x") at_12 (omega arith) refl) h.2 in
      let colon_text : codes ":x" ≡ 58 ∷ h.3.0 = same.0 ∙ h.3.2.0 in
      let left : codes "x" ≡ h.3.0 = cc in
      no_minute Y h.3.1 (codes "x") (no_two_at_x []) h.3.3.0 h.3.3.1 (subst (λ b. Reads Y minute b h.3.1 h.3.3.0 h.3.3.1) (sym left) h.3.3.2)

  -- an optional part that fails halfway stores nothing: the next tree starts from the old bytes and record
  pub optional_keeps_no_half : Reads Y (optional clock) (codes "12:x") r (codes "12:x") r
  unfolding Reads
  optional_keeps_no_half = inr (no_clock_at_12_x, refl, refl)

  pub optional_reads_its_part : Reads Y (optional hour) (codes "12x") r (codes "x") at_12
  unfolding Reads
  optional_reads_its_part = inl hour_reads_two_digits

  -- the second alternative reads from the beginning, if the first has no reading
  pub second_alternative_reads : Reads Y clock_or_hour (codes "12x") r (codes "x") at_12
  unfolding Reads ReadsSome
  second_alternative_reads = inr (no_clock_at_12x, inl hour_reads_two_digits)

  pub first_alternative_that_reads_counts : Reads Y (first_of (trees (hour ∷ clock ∷ []))) (codes "12:34") r (codes ":34") at_12
  unfolding Reads ReadsSome
  first_alternative_that_reads_counts = inl (reads_hour Y r 12 (codes ":34") at_12 (omega arith) refl)

  pub empty_list_reads_nothing : Reads Y (sequence none) (codes "x") r (codes "x") r
  unfolding Reads ReadsAll
  empty_list_reads_nothing = (refl, refl)

  pub no_alternative_reads_nothing : Reads Y (first_of none) (codes "x") r (codes "x") r
  unfolding Reads
  no_alternative_reads_nothing = (refl, refl)

  -- no readings

  pub no_hour_of_one_digit : NoReading Y hour (codes "1x") r
  no_hour_of_one_digit = no_hour Y r (codes "1x") no_two_at_1x

  pub no_literal_in_another : NoReading Y colon (codes "x") r
  no_literal_in_another = no_colon Y r []

  -- for a number out of range, its first digit alone is no reading either
  pub no_minute_60 : NoReading Y minute (codes "60") r
  unfolding Reads
  no_minute_60 = λ rest q h.
      let is = IsDigitRun-unique 2 2 2 h.text (codes "60") rest [] h.spells.0 60 h.spells.2 (two 60 [] (omega arith)) (sym h.cut) in
      let none_is : None ≡ Some q = subst (λ v. put_value Y (kind.Minute (record { padding = padding.Zero })) v r
      ≡ Some q) (h.spells.1 ∙ ap number is.2) h.puts in
      cc

  -- no component leaves the whole input as its rest
  pub rest_is_not_the_input : (q : Record) → Reads Y hour (codes "12x") r (codes "12x") q → ⊥
  rest_is_not_the_input q h =
      let same = Reads-unique Y hour (codes "12x") r (codes "x") at_12 (codes "12x") q hour_reads_two_digits h in
      omega (arith, ap length same.0)

  -- the longer alternative doesn't win
  pub no_longer_alternative : (q : Record) → Reads Y (first_of (trees (hour ∷ clock ∷ []))) (codes "12:34") r [] q → ⊥
  no_longer_alternative q h =
      let same = Reads-unique Y (first_of (trees (hour ∷ clock ∷ []))) (codes "12:34") r (codes ":34") at_12 [] q first_alternative_that_reads_counts h in
      omega (arith, ap length same.0)

  pub no_alternative_takes_no_byte : (q : Record) → Reads Y (first_of none) (codes "x") r [] q → ⊥
  unfolding Reads
  no_alternative_takes_no_byte q h = omega (arith, ap length h.0)

  -- errors

  pub fault_of_a_literal : Refuses Y colon (codes "x") r of_literal
  unfolding IsFault
  fault_of_a_literal = record { unread = no_colon Y r []; fault = refl }

  pub fault_of_a_component : Refuses Y hour (codes "1x") r (of_component (codes "hour"))
  unfolding IsFault
  fault_of_a_component = record { unread = no_hour_of_one_digit; fault = refl }

  pub fault_of_a_value_out_of_range : Refuses Y minute (codes "60") r (of_component (codes "minute"))
  unfolding IsFault
  fault_of_a_value_out_of_range = record { unread = no_minute_60; fault = refl }

  -- bytes before the end are trailing characters
  pub fault_of_the_end : Refuses Y (component false (kind.End (record { trailing_input = Prohibit }))) (codes "x") r trailing
  unfolding Reads IsFault
  fault_of_the_end = record {
    unread = λ rest q h.
        let e : codes "x" ≡ [] = h.cut ∙ ap (λ t. t ++ rest) h.spells.2 ∙ h.spells.1 in
        cc;
    fault = refl;
  }

  -- a list has the error of its first item without a reading
  pub fault_of_a_list : Refuses Y clock (codes "12:x") r (of_component (codes "minute"))
  unfolding IsFault IsFaultAll Reads
  fault_of_a_list = record {
    unread = no_clock_at_12_x;
    fault =
        inr (
          codes ":x",
          at_12,
          reads_hour Y r 12 (codes ":x") at_12 (omega arith) refl,
          inr (codes "x", at_12, (refl, refl), inl (no_minute Y at_12 (codes "x") (no_two_at_x []), refl)),
        );
  }

  -- alternatives have the error of the first
  pub fault_of_alternatives : Refuses Y (first_of (trees (minute ∷ colon ∷ []))) (codes "x") r (of_component (codes "minute"))
  unfolding Reads ReadsSome IsFault
  fault_of_alternatives = record {
    unread = λ rest q h. elim h [
      | inl a ↦ no_minute Y r (codes "x") (no_two_at_x []) rest q a
      | inr a ↦ elim a.1 [ inl b ↦ no_colon Y r [] rest q b | inr b ↦ b.1 ]
    ];
    fault = refl;
  }

  pub no_fault_of_the_last : Refuses Y (first_of (trees (minute ∷ colon ∷ []))) (codes "x") r of_literal → ⊥
  no_fault_of_the_last h =
      let same : of_component (codes "minute")
      ≡ of_literal = Refuses-unique Y (first_of (trees (minute ∷ colon ∷ []))) (codes "x") r _ of_literal fault_of_alternatives h in
      cc

  pub no_fault_of_a_later_member : Refuses Y clock (codes "12:x") r of_literal → ⊥
  no_fault_of_a_later_member h =
      let same : of_component (codes "minute") ≡ of_literal = Refuses-unique Y clock (codes "12:x") r _ of_literal fault_of_a_list h in
      cc

  -- an optional tree has no error
  pub no_fault_of_an_optional : (t : Tree) (bytes : List ℕ) (e : Refusal) → Refuses Y (optional t) bytes r e → ⊥
  unfolding IsFault
  no_fault_of_an_optional t bytes e h = h.fault

  pub no_fault_of_what_is_read : (e : Refusal) → Refuses Y hour (codes "12x") r e → ⊥
  no_fault_of_what_is_read e h = h.unread (codes "x") at_12 hour_reads_two_digits

-- ---- Years and timestamps past 9999

abbrev extended_year : Component
extended_year = kind.CalendarYearFullExtendedRange (record { padding = padding.Zero; sign_is_mandatory = false })

abbrev nanoseconds : Component
nanoseconds = kind.UnixTimestampNanosecond (record { sign_is_mandatory = false })

-- the year `+012345`, or else that text
abbrev year_or_its_text : Tree
year_or_its_text = sequence (trees (first_of (trees (component false extended_year ∷ literal (codes "+012345") ∷ [])) ∷ []))

abbrev after_9999 : List ℕ
after_9999 = codes "253402300800000000000"

after_9999_is_spelled : Spells false nanoseconds after_9999 [] (signed (pos 253_402_300_800_000_000_000))
after_9999_is_spelled = ((Positive, 253_402_300_800_000_000_000), refl, inr (refl, refl, search rules))

module _ (r : Record) where
  abbrev in_12345 : Record
  in_12345 = record r { year = Some (pos 12_345) }

  abbrev at_second_after_9999 : Record
  at_second_after_9999 = record r { unix_timestamp_nanos = Some (pos 253_402_300_800_000_000_000) }

  pub year_12345_to_999999 : Reads 999_999 (component false extended_year) (codes "+012345") r [] in_12345
  unfolding Reads
  year_12345_to_999999 = record {
    text = codes "+012345";
    value = signed (pos 12_345);
    cut = refl;
    spells = six_digits_behind_a_sign;
    puts = refl;
  }

  pub no_year_12345_to_9999 : Refuses 9_999 (component false extended_year) (codes "+012345") r (of_component (codes "year"))
  unfolding Reads IsFault
  no_year_12345_to_9999 = record {
    unread = λ rest q h.
        let is = Spells-unique false extended_year h.text (codes "+012345") rest [] h.value _ h.spells six_digits_behind_a_sign (sym h.cut) in
        let none_is : None ≡ Some q = subst (λ v. put_value 9_999 extended_year v r ≡ Some q) is.1 h.puts in
        cc;
    fault = refl;
  }

  -- the greatest year decides which alternative of a whole text is read
  pub text_of_a_year_to_9999 : Reads 9_999 year_or_its_text (codes "+012345") r [] r
  unfolding Reads ReadsAll ReadsSome
  text_of_a_year_to_9999 = ([], r, inr (no_year_12345_to_9999.unread, inl (refl, refl)), (refl, refl))

  pub year_for_its_text_to_999999 : Reads 999_999 year_or_its_text (codes "+012345") r [] in_12345
  unfolding Reads ReadsAll ReadsSome
  year_for_its_text_to_999999 = ([], in_12345, inl year_12345_to_999999, (refl, refl))

  pub no_text_of_a_year_to_999999 : r.year ≡ None → Reads 999_999 year_or_its_text (codes "+012345") r [] r → ⊥
  no_text_of_a_year_to_999999 without h =
      let same = Reads-unique 999_999 year_or_its_text (codes "+012345") r [] r [] in_12345 h year_for_its_text_to_999999 in
      let years : r.year ≡ Some (pos 12_345) = ap (λ (q : Record). q.year) same.1 in
      cc

  pub second_after_9999_to_999999 : Reads 999_999 (component false nanoseconds) after_9999 r [] at_second_after_9999
  unfolding Reads
  second_after_9999_to_999999 = record {
    text = after_9999;
    value = signed (pos 253_402_300_800_000_000_000);
    cut = refl;
    spells = after_9999_is_spelled;
    puts = rw (first_is 999_999 refl, last_is 999_999 refl) refl;
  }

  no_put_after_9999 : put 9_999 (unix_timestamp_nanos_is (pos 253_402_300_800_000_000_000)) r ≡ None
  no_put_after_9999 = rw (first_is 9_999 refl, last_is 9_999 refl) refl

  pub no_second_after_9999_to_9999 : Refuses 9_999 (component false nanoseconds) after_9999 r (of_component (codes "unix_timestamp"))
  unfolding Reads IsFault
  no_second_after_9999_to_9999 = record {
    unread = λ rest q h.
        let is = Spells-unique false nanoseconds h.text after_9999 rest [] h.value _ h.spells after_9999_is_spelled (sym h.cut) in
        let none_is : None ≡ Some q = sym no_put_after_9999 ∙ subst (λ v. put_value 9_999 nanoseconds v r ≡ Some q) is.1 h.puts in
        cc;
    fault = refl;
  }

-- an optional part that fails halfway doesn't store its hour
pub no_hour_of_a_half_read_part : (Y : ℕ) → Reads Y (optional clock) (codes "12:x") empty (codes "12:x") (record empty { hour_24 = Some 12 }) → ⊥
no_hour_of_a_half_read_part Y h =
    let same = Reads-unique Y (optional clock) (codes "12:x") empty (codes "12:x") empty (codes "12:x") (record empty { hour_24 = Some 12 })
    (optional_keeps_no_half Y empty) h in
    let left : ◌≡◌ {A = Option ℕ} None (Some 12) = ap (λ (q : Record). q.hour_24) same.1 in
    cc
