-- An ISO 8601 text that is read whole if years have four digits is read whole, with that result, if they may have more.
-- A date with a longer year begins with a sign and six digits; no time begins with a sign, and no offset is that long.
use Rattle.std.specs.Prelude.{nat_le, option_map, option_and_then, unwrap_or, codes}
use Rattle.std.proofs.Common.{◌≡◌, ◌∙◌, ℕ, ◌+◌, ◌<◌, ◌≤◌, ℤ, pos, unsigned_abs, Bool, true, false, Option, None, Some, Result, Ok, Err, List, [], ◌∷◌}
use Rattle.std.proofs.Common.{◌++◌, length, length-append, refl, sym, ap, arith}
use Rattle.std.proofs.Math.Bool.{and-false}
use Rattle.std.proofs.lemmas.Bool.{le-leb, leb-true, leb-false}
use Rattle.std.proofs.lemmas.Option.{none-some, same_Some, cond_some, some_pair_parts, option_and_then_some}
use Rattle.time_values.specs.Refusal.{Refusal, component}
use Rattle.time_digits.specs.Digits.{sign_byte}
use Rattle.time_digits.specs.declared.Sign.{Sign}
use Rattle.time_digits.specs.declared.Sign.TheVariants.{Negative, Positive}
use Rattle.time_digits.proofs.Runs.{IsDigitRun-below}
use Rattle.time_readers.specs.IsoPieces.{Found, byte, digits, sign, with_sign, year, year_after, month, positive, up_to, weekday, number, at_most}
use Rattle.time_readers.specs.IsoDates.{IsoDate, calendar, ordinal as iso_ordinal, week, FormOrFault, need, dash, first_form, second_form, third_form}
use Rattle.time_readers.specs.IsoDates.{first_standing, forms, of_kind, after_year, date_text}
use Rattle.time_readers.specs.IsoGrammar.{with_kind, minute_or_none, minute_after, offset_minute, after_hour, offset_by_pieces}
use Rattle.time_readers.specs.IsoOffsets.{numbers_of, offset_text}
use Rattle.time_readers.specs.IsoTimes.{time_after, time_text}
use Rattle.time_readers.specs.declared.iso8601.ExtendedKind.{ExtendedKind}
use Rattle.time_readers.specs.declared.iso8601.ExtendedKind.TheVariants.{Basic, Extended, Unknown}
use Rattle.time_readers.specs.declared.iso8601.OffsetNumbers.{OffsetNumbers}
use Rattle.time_readers.specs.declared.iso8601.OffsetNumbers.TheVariants.{Zulu, Numeric}
use Rattle.time_readers.proofs.IsoTimes.{offset_by_pieces_is}
use Rattle.time_readers.proofs.IsoCuts.{digits-tells, said-tells, sign-tells}
use Rattle.time_record.specs.Record.{Record, put_all}
use Rattle.time_parsing.specs.Iso8601.{Reads as Iso8601Reads, date_entries, time_entries, offset_entries, put_or_fault, result_and_then, with_value}
use Rattle.time_parsing.specs.Iso8601.{date_over, time_over, offset_over}
use Rattle.time_parsing.specs.IsoSteps.{answer, after_offset, after_time, after_date, without_date, date_or_none}
use Rattle.time_parsing.specs.TreeLaws.{KeepsTexts}
use Rattle.time_parsing.specs.Rfc3339.{with_leap_second, without_offset_sign}
use Rattle.time_parsing.proofs.IsoParts.{answered-read, read-answered}

-- ---- the cases of a result

Ok-Err : {A : Type 0} (a : A) (e : Refusal) → ◌≡◌ {A = Result A Refusal} (Err e) (Ok a) → ⊥
Ok-Err a e h = cc

same_Ok : {A : Type 0} (a b : A) → ◌≡◌ {A = Result A Refusal} (Ok a) (Ok b) → a ≡ b
same_Ok a b h = cc

need-Ok : {A B P : Type 0} (o : Option A) (e : Refusal) (f : A → Result B Refusal) (b : B)
    → need o e f ≡ Ok b → ((a : A) → o ≡ Some a → f a ≡ Ok b → P) → P
need-Ok None e f b h k = absurd (Ok-Err b e h)
need-Ok (Some a) e f b h k = k a refl h

option_map_some : {A B P : Type 0} (f : A → B) (o : Option A) (b : B)
    → option_map f o ≡ Some b → ((a : A) → o ≡ Some a → f a ≡ b → P) → P
option_map_some f None b h k = absurd (none-some b h)
option_map_some f (Some a) b h k = k a refl (same_Some (f a) b h)

-- ---- the year of a date

abbrev year_in : IsoDate → ℤ
year_in (calendar y m d) = y
year_in (iso_ordinal y d) = y
year_in (week y w d) = y

-- the text of a form has the year before it
abbrev Says : ℤ → FormOrFault → Type 0
Says y f = (x : List ℕ × IsoDate) → f ≡ Ok x → year_in x.1 ≡ y

first_form-year : (extended : Bool) (y : ℤ) (b : List ℕ) → Says y (first_form extended y b)
first_form-year extended y b x h =
    need-Ok (month b) _ _ x h
    (λ m _ h1. need-Ok (dash extended m.0) _ _ x h1
    (λ after _ h2. need-Ok (positive 2 after) _ _ x h2 (λ d _ h3. sym (ap (λ z. year_in z.1) (same_Ok _ x h3)))))

third_form-year : (extended : Bool) (y : ℤ) (b : List ℕ) → Says y (third_form extended y b)
third_form-year extended y b x h =
    need-Ok (positive 2 b) _ _ x h
    (λ w _ h1. need-Ok (dash extended w.0) _ _ x h1
    (λ after _ h2. need-Ok (weekday after) _ _ x h2 (λ d _ h3. sym (ap (λ z. year_in z.1) (same_Ok _ x h3)))))

standing-year : (y : ℤ) (f : FormOrFault) (s : Option (List ℕ × IsoDate)) (t : Option FormOrFault)
    → Says y f → ((x : List ℕ × IsoDate) → s ≡ Some x → year_in x.1 ≡ y) → ((g : FormOrFault) → t ≡ Some g → Says y g)
    → Says y (first_standing f s t)
standing-year y (Ok a) s t first second third x h = first x h
standing-year y (Err e) (Some a) t first second third x h = second x (ap Some (same_Ok a x h))
standing-year y (Err e) None (Some g) first second third x h = third g refl x h
standing-year y (Err e) None None first second third x h = absurd (Ok-Err x e h)

forms-year : (extended : Bool) (y : ℤ) (b : List ℕ) → Says y (forms extended y b)
unfolding forms
forms-year extended y b =
    standing-year y (first_form extended y b) (second_form y b) (option_map (third_form extended y) (byte 87 b))
    (first_form-year extended y b)
    (λ x h. option_map_some (λ d. (d.0, iso_ordinal y d.1)) (positive 3 b) x h (λ d _ is. sym (ap (λ z. year_in z.1) is)))
    (λ g h. option_map_some (third_form extended y) (byte 87 b) g h
    (λ after _ is x k. third_form-year extended y after x (is ∙ k)))

kind-year : (y : ℤ) (kind : ExtendedKind) (f : FormOrFault) (d : Found IsoDate) → Says y f → of_kind kind f ≡ Ok d → year_in d.value ≡ y
kind-year y kind (Err e) d says h = absurd (Ok-Err d e h)
kind-year y kind (Ok x) d says h = sym (ap (λ z. year_in z.value) (same_Ok _ d h)) ∙ says x refl

after-year : (y : ℤ) (b : List ℕ) (o : Option (List ℕ)) (d : Found IsoDate) → after_year y b o ≡ Ok d → year_in d.value ≡ y
after-year y b None d h = kind-year y Basic (forms false y b) d (forms-year false y b) h
after-year y b (Some after) d h = kind-year y Extended (forms true y after) d (forms-year true y after) h

-- ---- how long texts are

digits-length : (n : ℕ) (b rest : List ℕ) (v : ℕ) → digits n b ≡ Some (rest, v) → length b ≡ n + length rest
digits-length n b rest v h =
    let cut = digits-tells n b rest v h in
    omega (arith, cut.2.enough, cut.2.within, ap length cut.1, length-append cut.0 rest)

up_to-length : (greatest n : ℕ) (b rest : List ℕ) (v : ℕ) → up_to greatest n b ≡ Some (rest, v) → length b ≡ n + length rest
unfolding up_to
up_to-length greatest n b rest v h =
    let cut = said-tells n (at_most greatest) b rest v h in
    omega (arith, cut.2.1.enough, cut.2.1.within, ap length cut.1, length-append cut.0 rest)

byte-length : (c : ℕ) (b rest : List ℕ) → byte c b ≡ Some rest → length b ≡ 1 + length rest
unfolding byte
byte-length c [] rest h = absurd (none-some rest h)
byte-length c (x ∷ b) rest h = let is = cond_some _ b rest h in omega (arith, ap length is.1)

kept_signed : (b rest : List ℕ) (s : Sign) → sign b ≡ Some (rest, s) → b ≡ sign_byte s ∷ rest
kept_signed b rest s h = let cut = sign-tells b rest s h in cut.1 ∙ ap (λ t. t ++ rest) cut.2

-- ---- an offset

minute_or_none-length : (b : List ℕ) (o : Option (List ℕ × ℕ)) (m : ℕ) → minute_or_none b o ≡ Some ([], m) → length b ≤ 2
minute_or_none-length b None m h = let is = some_pair_parts b [] 0 m h in omega (arith, ap length is.0)
minute_or_none-length b (Some f) m h = omega (arith, up_to-length 59 2 b [] m h)

-- a piece of that kind, after which nothing follows
whole_piece : (kind : ExtendedKind) (p : Option (List ℕ × ℕ)) (m : Found ℕ) → option_map (with_kind kind) p ≡ Some m → m.rest ≡ []
    → p ≡ Some ([], m.value)
whole_piece kind p m h end =
    option_map_some (with_kind kind) p m h
    (λ q found same. found ∙ ap (λ (z : Found ℕ). Some (z.rest, z.value)) same ∙ ap (λ x. Some (x, m.value)) end)

minute_after-length : (b : List ℕ) (o : Option (List ℕ)) (m : Found ℕ) → byte 58 b ≡ o → minute_after Unknown b o ≡ Some m
    → m.rest ≡ [] → length b ≤ 3
minute_after-length b None m is h end =
    omega (arith, minute_or_none-length b (digits 2 b) m.value (whole_piece Unknown (minute_or_none b (digits 2 b)) m h end))
minute_after-length b (Some after) m is h end =
    omega (arith, byte-length 58 b after is, up_to-length 59 2 after [] m.value (whole_piece Extended (up_to 59 2 after) m h end))

offset_minute-length : (b : List ℕ) (m : Found ℕ) → offset_minute Unknown b ≡ Some m → m.rest ≡ [] → length b ≤ 3
unfolding offset_minute
offset_minute-length b m h end = minute_after-length b (byte 58 b) m refl h end

after_hour-length : (s : Sign) (f : List ℕ × ℕ) (o : Found OffsetNumbers) → after_hour Unknown s f ≡ Some o → o.rest ≡ [] → length f.0 ≤ 3
after_hour-length s f o h end =
    option_map_some {A = Found ℕ} {B = Found OffsetNumbers} (λ m. record { rest = m.rest; value = numbers_of (Some s) f.1 m.value; kind = m.kind })
    (offset_minute Unknown f.0) o h
    (λ m found is. offset_minute-length f.0 m found (ap (λ (z : Found OffsetNumbers). z.rest) is ∙ end))

-- an offset after a sign has at most five bytes
offset-length : (s : Sign) (b : List ℕ) (o : Found OffsetNumbers) → offset_by_pieces Unknown (sign_byte s ∷ b) ≡ Some o → o.rest ≡ []
    → length b ≤ 5
unfolding offset_by_pieces byte sign
offset-length Negative b o h end =
    option_and_then_some (after_hour Unknown Negative) (up_to 25 2 b) o h
    (λ f found is. omega (arith, up_to-length 25 2 b f.0 f.1 found, after_hour-length Negative f o is end))
offset-length Positive b o h end =
    option_and_then_some (after_hour Unknown Positive) (up_to 25 2 b) o h
    (λ f found is. omega (arith, up_to-length 25 2 b f.0 f.1 found, after_hour-length Positive f o is end))

-- ---- a time

no_number : (s : Sign) (b : List ℕ) → number (sign_byte s ∷ b) ≡ None
unfolding number digits
no_number Negative b = rw (and-false (nat_le 2 (length (45 ∷ b)))) refl
no_number Positive b = rw (and-false (nat_le 2 (length (43 ∷ b)))) refl

no_row : (b : List ℕ) → number b ≡ None → time_after Unknown b ≡ None
unfolding time_after
no_row b none = rw none refl

-- no time begins with a sign
no_time : (s : Sign) (b : List ℕ) → time_text false Unknown (sign_byte s ∷ b) ≡ None
unfolding byte
no_time Negative b = no_row (45 ∷ b) (no_number Negative b)
no_time Positive b = no_row (43 ∷ b) (no_number Positive b)

-- ---- a date of a longer year

-- a year of more than four digits has six after a sign
abbrev HasLongYear : List ℕ → Type 0
HasLongYear b = (s : Sign) × (rest : List ℕ) × (b ≡ sign_byte s ∷ rest) × (6 ≤ length rest)

long_year-after : (b : List ℕ) (o : Option (List ℕ × Sign)) (y : List ℕ × ℤ) → sign b ≡ o → year_after b o ≡ Some y
    → 9999 < unsigned_abs y.1 → HasLongYear b
long_year-after b None y none h long =
    option_map_some (λ f. (f.0, pos f.1)) (digits 4 b) y h
    (λ f found is.
    let cut = digits-tells 4 b f.0 f.1 found in
    let below = IsDigitRun-below 4 4 cut.0 f.0 f.1 cut.2 in
    let same : unsigned_abs y.1 ≡ f.1 = sym (ap (λ z. unsigned_abs z.1) is) in
    absurd (omega (arith, below, same, long)))
long_year-after b (Some s) y found h long =
    option_map_some (λ f. (f.0, with_sign s.1 f.1)) (digits 6 s.0) y h
    (λ f six _. (s.1, s.0, kept_signed b s.0 s.1 found, omega (arith, digits-length 6 s.0 f.0 f.1 six)))

long_year : (b : List ℕ) (d : Found IsoDate) → date_text b ≡ Ok d → 9999 < unsigned_abs (year_in d.value) → HasLongYear b
unfolding date_text year
long_year b d h long =
    need-Ok (year b) _ _ d h
    (λ y found after.
    let same = after-year y.1 y.0 (byte 45 y.0) d after in
    long_year-after b (sign b) y refl found (omega (arith, ap unsigned_abs same, long)))

-- ---- over a record

module _ (Y Z : ℕ) where
  -- the entries of a time and of an offset don't depend on the range of years
  time_over-same : (needs_t : Bool) (kind : ExtendedKind) (b : List ℕ) (r : Record) → time_over Y needs_t kind b r ≡ time_over Z needs_t kind b r
  unfolding time_over
  time_over-same needs_t kind b r = refl

  put_offset-same : (o : OffsetNumbers) (r : Record) → put_all Y (offset_entries o) r ≡ put_all Z (offset_entries o) r
  put_offset-same Zulu r = refl
  put_offset-same (Numeric hour minute) r = refl

  offset_over-same : (kind : ExtendedKind) (b : List ℕ) (r : Record) → offset_over Y kind b r ≡ offset_over Z kind b r
  unfolding offset_over
  offset_over-same kind b r = λ i.
      option_and_then (λ o. option_map (with_value o) (put_offset-same o.value (without_offset_sign r) i)) (offset_text kind b)

  after_offset-same : (kind : ExtendedKind) (b : List ℕ) (r : Record) → after_offset Y kind b r ≡ after_offset Z kind b r
  after_offset-same kind b r = ap (option_map (λ (o : Found Record). (o.rest, o.value))) (offset_over-same kind b r)

  after_time-same : (kind : ExtendedKind) (b : List ℕ) (r : Record) → after_time Y kind b r ≡ after_time Z kind b r
  unfolding after_time
  after_time-same kind b r = ap (λ o. unwrap_or o (b, r)) (after_offset-same kind b r)

  after_date-same : (d : Found Record) (t : Option (Found Record)) → after_date Y d t ≡ after_date Z d t
  after_date-same d (Some t) = after_time-same t.kind t.rest t.value
  after_date-same d None = refl

  without_date-same : (fault : Refusal) (b : List ℕ) (r : Record) (t : Option (Found Record)) → without_date Y fault b r t ≡ without_date Z fault b r t
  without_date-same fault b r (Some t) = ap (λ x. Ok x) (after_time-same t.kind t.rest t.value)
  without_date-same fault b r None = ap (λ o. need o fault (λ x. Ok x)) (after_offset-same Unknown b r)

  date_or_none-same : (b : List ℕ) (r : Record) (d : Result (Found Record) Refusal) → date_or_none Y b r d ≡ date_or_none Z b r d
  date_or_none-same b r (Ok d) =
      ap (λ x. Ok x)
      (ap (after_date Y d) (time_over-same true d.kind d.rest d.value) ∙ after_date-same d (time_over Z true d.kind d.rest d.value))
  date_or_none-same b r (Err fault) =
      ap (without_date Y fault b r) (time_over-same false Unknown b r) ∙ without_date-same fault b r (time_over Z false Unknown b r)

  -- those of a date depend on it only by the year
  put_date-same : (d : IsoDate) (r : Record) → nat_le (unsigned_abs (year_in d)) Y ≡ true → nat_le (unsigned_abs (year_in d)) Z ≡ true
      → put_or_fault Y (date_entries d) r ≡ put_or_fault Z (date_entries d) r
  put_date-same (calendar y m d) r before now = rw (before, now) refl
  put_date-same (iso_ordinal y d) r before now = rw (before, now) refl
  put_date-same (week y w d) r before now = rw (before, now) refl

module _ (Y : ℕ) where
  put_date-fault : (d : IsoDate) (r : Record) → nat_le (unsigned_abs (year_in d)) Y ≡ false
      → put_or_fault Y (date_entries d) r ≡ Err (component (codes "year"))
  put_date-fault (calendar y m d) r out = rw out refl
  put_date-fault (iso_ordinal y d) r out = rw out refl
  put_date-fault (week y w d) r out = rw out refl

  -- after a longer year no whole text is read as anything but a date
  no_offset_over : (b : List ℕ) (r : Record) (f : Found Record) → HasLongYear b → offset_over Y Unknown b r ≡ Some f → f.rest ≡ [] → ⊥
  unfolding offset_over
  no_offset_over b r f (s, after, is, long) h end =
      option_and_then_some (λ o. option_map (with_value o) (put_all Y (offset_entries o.value) (without_offset_sign r)))
      (offset_text Unknown b) f h
      (λ o found put. option_map_some (with_value o) (put_all Y (offset_entries o.value) (without_offset_sign r)) f put
      (λ p _ same.
      let whole : offset_by_pieces Unknown (sign_byte s ∷ after) ≡ Some o =
      sym (offset_by_pieces_is Unknown (sign_byte s ∷ after)) ∙ ap (offset_text Unknown) (sym is) ∙ found in
      omega (arith, offset-length s after o whole (ap (λ (z : Found Record). z.rest) same ∙ end), long)))

  no_offset : (b : List ℕ) (r q : Record) → HasLongYear b → after_offset Y Unknown b r ≡ Some ([], q) → ⊥
  no_offset b r q long h =
      option_map_some (λ (o : Found Record). (o.rest, o.value)) (offset_over Y Unknown b r) ([], q) h
      (λ f found same. no_offset_over b r f long found (ap (λ (z : List ℕ × Record). z.0) same))

  no_time_over : (b : List ℕ) (r : Record) → HasLongYear b → time_over Y false Unknown b r ≡ None
  unfolding time_over
  no_time_over b r (s, after, is, long) =
      ap (option_and_then (λ t. option_map (with_value t) (put_all Y (time_entries t.value) r)))
      (ap (time_text false Unknown) is ∙ no_time s after)

  no_other : (fault : Refusal) (b : List ℕ) (r q : Record) → HasLongYear b
      → without_date Y fault b r (time_over Y false Unknown b r) ≡ Ok ([], q) → ⊥
  no_other fault b r q long h =
      need-Ok (after_offset Y Unknown b r) fault (λ o. Ok o) ([], q) (rw (no_time_over b r long) at h)
      (λ o found is. no_offset b r q long (found ∙ ap (λ x. Some x) (same_Ok o ([], q) is)))

-- storing a date in a record, and the result for a text whose date is stored or rejected
abbrev dated : ℕ → Record → Found IsoDate → Result (Found Record) Refusal
dated Y r d = result_and_then (λ q. Ok (with_value d q)) (put_or_fault Y (date_entries d.value) r)

answer-by : (Y : ℕ) (b : List ℕ) (r : Record) (d : Result (Found IsoDate) Refusal) (x : Result (Found Record) Refusal)
    → date_text b ≡ d → result_and_then (dated Y r) d ≡ x → answer Y b r ≡ date_or_none Y b r x
unfolding answer date_over
answer-by Y b r d x is over = ap (date_or_none Y b r) (ap (result_and_then (dated Y r)) is ∙ over)

module _ (Y Z : ℕ) (four : 9999 ≤ Y) (wider : Y ≤ Z) where
  kept-dated : (b : List ℕ) (r q : Record) (d : Found IsoDate) (in_range : Bool) → date_text b ≡ Ok d
      → nat_le (unsigned_abs (year_in d.value)) Y ≡ in_range
      → answer Y b r ≡ Ok ([], q) → answer Z b r ≡ Ok ([], q)
  kept-dated b r q d true is t h =
      let size = unsigned_abs (year_in d.value) in
      let still = le-leb size Z (omega (arith, leb-true size Y t)) in
      let same : dated Y r d ≡ dated Z r d =
      ap (result_and_then (λ p. Ok (with_value d p))) (put_date-same Y Z d.value r t still) in
      answer-by Z b r (Ok d) (dated Y r d) is (sym same)
      ∙ sym (date_or_none-same Y Z b r (dated Y r d))
      ∙ sym (answer-by Y b r (Ok d) (dated Y r d) is refl) ∙ h
  kept-dated b r q d false is t h =
      let size = unsigned_abs (year_in d.value) in
      let fault = component (codes "year") in
      let none : dated Y r d ≡ Err fault =
      ap (result_and_then (λ p. Ok (with_value d p))) (put_date-fault Y d.value r t) in
      let long = long_year b d is (omega (arith, leb-false size Y t, four)) in
      absurd (no_other Y fault b r q long (sym (answer-by Y b r (Ok d) (Err fault) is none) ∙ h))

  kept : (b : List ℕ) (r q : Record) (d : Result (Found IsoDate) Refusal) → date_text b ≡ d
      → answer Y b r ≡ Ok ([], q) → answer Z b r ≡ Ok ([], q)
  kept b r q (Err fault) is h =
      answer-by Z b r (Err fault) (Err fault) is refl
      ∙ sym (date_or_none-same Y Z b r (Err fault))
      ∙ sym (answer-by Y b r (Err fault) (Err fault) is refl) ∙ h
  kept b r q (Ok d) is h = kept-dated b r q d (nat_le (unsigned_abs (year_in d.value)) Y) is refl h

  pub keeps_iso8601 : KeepsTexts (Iso8601Reads Y) (Iso8601Reads Z)
  keeps_iso8601 b r q h =
      let old = with_leap_second r in
      answered-read Z b old ([], q) (kept b old q (date_text b) refl (read-answered Y b old ([], q) h))
