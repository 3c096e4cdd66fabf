-- The date with which an ISO 8601 text begins: where its number begins, its year, and the misses of a rejected one.
use Rattle.std.specs.Prelude.{option_map, codes, nat_le, unsigned_abs, if◌then◌else◌, option_and_then, unwrap_or}
use Rattle.std.specs.Option.{option_or}
use Rattle.std.proofs.Common.{◌≡◌, ◌∙◌, ℕ, ◌+◌, ◌≤◌, ◌<◌, ℤ, List, [], ◌∷◌, ◌++◌, length, Bool, true, false, Option, Some, None, Result, Ok, Err, refl, ap, sym, subst, inl, inr, arith, ◌-◌}
use Rattle.std.proofs.lemmas.Bool.{le-leb}
use Rattle.std.proofs.lemmas.Option.{none-some, same_Some}
use Rattle.time_values.specs.Calendar.{greatest_year}
use Rattle.time_values.specs.Refusal.{Refusal, component, literal}
use Rattle.time_digits.specs.Digits.{is_negative, IsDigitRun}
use Rattle.time_digits.specs.declared.Sign.{Sign}
use Rattle.time_digits.proofs.Runs.{IsDigitRun-below}
use Rattle.time_components.specs.Spelling.{IsSigned}
use Rattle.time_readers.specs.IsoPieces.{Found, byte, month, positive, weekday, year}
use Rattle.time_readers.specs.IsoDates.{IsoDate, FormOrFault, after_year, calendar, dash, date_text, first_form, first_standing, forms, need, of_kind, ordinal, second_form, third_form, week}
use Rattle.time_readers.specs.declared.iso8601.ExtendedKind.{ExtendedKind}
use Rattle.time_readers.specs.declared.iso8601.ExtendedKind.TheVariants.{Basic, Extended, Unknown}
use Rattle.time_readers.specs.IsoOffsets.{offset_rows}
use Rattle.time_readers.specs.IsoTimes.{time_rows, time_text}
use Rattle.time_readers.specs.declared.iso8601.TimeNumbers.{TimeNumbers}
use Rattle.time_readers.proofs.IsoCuts.{year-tells}
use Rattle.time_readers.proofs.MailRanges.{signed-abs}
use Rattle.time_record.specs.Record.{Record}
use Rattle.time_parsing.specs.Iso8601.{date_entries, put_or_fault, reading}
use Rattle.time_parsing.specs.Rfc3339.{with_leap_second}
use Rattle.time_locating.specs.Iso8601.{date_rows, left_at_number, miss_or_rest_misses, rest_of, row_misses, rows_misses, after, offset_piece, rows_after, time_piece, expected_at}
use Rattle.time_locating.specs.IsoNumbers.{IsYearInRange, year_of}
use Rattle.time_locating.specs.Misses.{Miss}
use Rattle.time_locating.specs.declared.iso8601.Piece.TheVariants as piece
use Rattle.time_locating.specs.IsoMarks.{Marks, after_date, after_row, by_date, from_time, is_piece_of, leaves, offset_mark, row_mark, rows_mark, text_mark, time_mark, expects_name, without_date}
use Rattle.time_locating.specs.Located.{IsMarked}
use Rattle.time_locating.specs.declared.iso8601.Piece.{Piece}
use Rattle.time_locating.proofs.IsoLengths.{byte-length, month-within, positive-length, weekday-length, year-within, after-within, time_text-within}
use Rattle.time_locating.proofs.MarkSteps.{IsUpTo, up_to-or}

pub Ok-Err : {A : Type 0} (a : A) (e : Refusal) → ◌≡◌ {A = Result A Refusal} (Err e) (Ok a) → ⊥
Ok-Err a e h = cc

pub same_Ok : {A : Type 0} (a b : A) → ◌≡◌ {A = Result A Refusal} (Ok a) (Ok b) → a ≡ b
same_Ok a b h = cc

pub need-Ok : {A B P : Type 0} (o : Option A) (e : Refusal) (f : A → Result B Refusal) (b : B)
    → need o e f ≡ Ok b → ((a : A) → o ≡ Some a → f a ≡ Ok b → P) → P
need-Ok None e f b h k = absurd (Ok-Err b e h)
need-Ok (Some a) e f b h k = k a refl h

-- ---- the numbers of a date that matches

-- the date has that year, and its number begins among those bytes
abbrev Within : ExtendedKind → ℤ → List ℕ → FormOrFault → Type 0
Within kind y b f =
    (x : List ℕ × IsoDate) → f ≡ Ok x → (left_at_number kind x.1 (length x.0) ≤ length b) × (year_of x.1 ≡ y)

abbrev kind_of : Bool → ExtendedKind
kind_of true = Extended
kind_of false = Basic

dash-within : (extended : Bool) (b after : List ℕ) → dash extended b ≡ Some after → length after ≤ length b
dash-within true b after h = omega (arith, byte-length 45 b after h)
dash-within false b after h = omega (arith, ap length (same_Some b after h))

first_form-within : (kind : ExtendedKind) (extended : Bool) (y : ℤ) (b : List ℕ) → Within kind y b (first_form extended y b)
first_form-within kind extended y b x h =
    need-Ok (month b) (component (codes "month")) _ x h
    (λ m e h1. need-Ok (dash extended m.0) literal _ x h1
    (λ after f h2. need-Ok (positive 2 after) (component (codes "day")) _ x h2
    (λ d g h3.
    let same = same_Ok (d.0, calendar y m.1 d.1) x h3 in
    let room : 2 + length d.0 ≤ length b =
    omega (arith, month-within b m.0 m.1 e, dash-within extended m.0 after f, positive-length 2 after d.0 d.1 g) in
    subst (λ z. (left_at_number kind z.1 (length z.0) ≤ length b) × (year_of z.1 ≡ y)) same (room, refl))))

second_form-within : (kind : ExtendedKind) (y : ℤ) (b : List ℕ) (o : Option (List ℕ × ℕ)) (x : List ℕ × IsoDate) → positive 3 b ≡ o
    → option_map (λ d. (d.0, ordinal y d.1)) o ≡ Some x → (left_at_number kind x.1 (length x.0) ≤ length b) × (year_of x.1 ≡ y)
second_form-within kind y b None x e h = absurd (none-some x h)
second_form-within kind y b (Some d) x e h =
    let same = same_Some (d.0, ordinal y d.1) x h in
    let room : 3 + length d.0 ≤ length b = omega (arith, positive-length 3 b d.0 d.1 e) in
    subst (λ z. (left_at_number kind z.1 (length z.0) ≤ length b) × (year_of z.1 ≡ y)) same (room, refl)

week-within : (extended : Bool) (y : ℤ) (b w after rest : List ℕ) (n : ℕ) (d : _) → length b ≡ 2 + length w
    → dash extended w ≡ Some after → length after ≡ 1 + length rest → left_at_number (kind_of extended) (week y n d) (length rest) ≤ length b
week-within true y b w after rest n d e f g = omega (arith, byte-length 45 w after f)
week-within false y b w after rest n d e f g = omega (arith, ap length (same_Some w after f))

third_form-within : (extended : Bool) (y : ℤ) (b : List ℕ) → Within (kind_of extended) y b (third_form extended y b)
third_form-within extended y b x h =
    need-Ok (positive 2 b) (component (codes "week")) _ x h
    (λ w e h1. need-Ok (dash extended w.0) literal _ x h1
    (λ after f h2. need-Ok (weekday after) (component (codes "weekday")) _ x h2
    (λ d g h3.
    let same = same_Ok (d.0, week y w.1 d.1) x h3 in
    let room = week-within extended y b w.0 after d.0 w.1 d.1 (positive-length 2 b w.0 w.1 e) f (weekday-length after d.0 d.1 g) in
    subst (λ z. (left_at_number (kind_of extended) z.1 (length z.0) ≤ length b) × (year_of z.1 ≡ y)) same (room, refl))))

standing-within : (kind : ExtendedKind) (y : ℤ) (b : List ℕ) (f : FormOrFault) (s : Option (List ℕ × IsoDate)) (t : Option FormOrFault)
    → Within kind y b f
    → ((x : List ℕ × IsoDate) → s ≡ Some x → (left_at_number kind x.1 (length x.0) ≤ length b) × (year_of x.1 ≡ y))
    → ((g : FormOrFault) → t ≡ Some g → Within kind y b g)
    → Within kind y b (first_standing f s t)
standing-within kind y b (Ok a) s t first second third x h = first x h
standing-within kind y b (Err e) (Some a) t first second third x h = second x (ap Some (same_Ok a x h))
standing-within kind y b (Err e) None (Some g) first second third x h = third g refl x h
standing-within kind y b (Err e) None None first second third x h = absurd (Ok-Err x e h)

third-within : (extended : Bool) (y : ℤ) (b : List ℕ) (o : Option (List ℕ)) (g : FormOrFault) → byte 87 b ≡ o
    → option_map (third_form extended y) o ≡ Some g → Within (kind_of extended) y b g
third-within extended y b None g e h x k = absurd (none-some g h)
third-within extended y b (Some after) g e h x k =
    let found = third_form-within extended y after x (same_Some (third_form extended y after) g h ∙ k) in
    (omega (arith, found.0, byte-length 87 b after e), found.1)

forms-within : (extended : Bool) (y : ℤ) (b : List ℕ) → Within (kind_of extended) y b (forms extended y b)
unfolding forms
forms-within extended y b =
    standing-within (kind_of extended) y b (first_form extended y b) (second_form y b) (option_map (third_form extended y) (byte 87 b))
    (first_form-within (kind_of extended) extended y b)
    (λ x h. second_form-within (kind_of extended) y b (positive 3 b) x refl h)
    (λ g h. third-within extended y b (byte 87 b) g refl h)

abbrev DateWithin : ℤ → List ℕ → Found IsoDate → Type 0
DateWithin y b d = (left_at_number d.kind d.value (length d.rest) ≤ length b) × (year_of d.value ≡ y)

kind-within : (kind : ExtendedKind) (y : ℤ) (b : List ℕ) (f : FormOrFault) (d : Found IsoDate) → Within kind y b f → of_kind kind f ≡ Ok d
    → DateWithin y b d
kind-within kind y b (Err e) d within h = absurd (Ok-Err d e h)
kind-within kind y b (Ok x) d within h = subst (λ z. DateWithin y b z) (same_Ok _ d h) (within x refl)

after_year-within : (y : ℤ) (b : List ℕ) (o : Option (List ℕ)) (d : Found IsoDate) → byte 45 b ≡ o → after_year y b o ≡ Ok d → DateWithin y b d
after_year-within y b None d e h = kind-within Basic y b (forms false y b) d (forms-within false y b) h
after_year-within y b (Some after) d e h =
    let found = kind-within Extended y after (forms true y after) d (forms-within true y after) h in
    (omega (arith, found.0, byte-length 45 b after e), found.1)

-- a year of a text has at most six digits
digits-held : (text rest : List ℕ) (a : Sign × ℕ) → IsSigned false (IsDigitRun 6 6) (IsDigitRun 4 4) text rest a → a.1 ≤ 999999
digits-held text rest a (inl (tail, cut, run)) = let below : a.1 < 1000000 = IsDigitRun-below 6 6 tail rest a.1 run in omega arith
digits-held text rest a (inr (free, plus, run)) = let below : a.1 < 10000 = IsDigitRun-below 4 4 text rest a.1 run in omega arith

year-held : (b rest : List ℕ) (y : ℤ) → year b ≡ Some (rest, y) → nat_le (unsigned_abs y) greatest_year ≡ true
year-held b rest y h =
    let cut = year-tells b rest y h in
    let a = cut.2.0 in
    let same : unsigned_abs y ≡ a.1 = ap unsigned_abs cut.2.1 ∙ signed-abs (is_negative a.0) a.1 in
    ap (λ n. nat_le n greatest_year) same ∙ le-leb a.1 greatest_year (digits-held cut.0 rest a cut.2.2)

pub date-number : (b : List ℕ) (d : Found IsoDate) → date_text b ≡ Ok d
    → (left_at_number d.kind d.value (length d.rest) ≤ length b) × IsYearInRange d.value
unfolding date_text
date-number b d h =
    need-Ok (year b) (component (codes "year")) _ d h
    (λ y e k.
    let found = after_year-within y.1 y.0 (byte 45 y.0) d refl k in
    let room : left_at_number d.kind d.value (length d.rest) ≤ length b = omega (arith, found.0, year-within b y.0 y.1 e) in
    (room, subst (λ v. nat_le (unsigned_abs v) greatest_year ≡ true) (sym found.1) (year-held b y.0 y.1 e)))

-- at least as many bytes are left at the start of a date's number as after the date
pub rest-below : (kind : ExtendedKind) (v : IsoDate) (rest n : ℕ) → left_at_number kind v rest ≤ n → rest ≤ n
rest-below kind (calendar y m d) rest n h = omega arith
rest-below kind (ordinal y d) rest n h = omega arith
rest-below Basic (week y w d) rest n h = omega arith
rest-below Extended (week y w d) rest n h = omega arith
rest-below Unknown (week y w d) rest n h = omega arith

-- ---- a date that doesn't match

none_missed : (m : Miss) (later : List ℕ → List Miss) (o : Option (List ℕ)) → miss_or_rest_misses m later o ≡ []
    → (rest : List ℕ) × (o ≡ Some rest) × (later rest ≡ [])
none_missed m later None h = let clash : m ∷ [] ≡ [] = h in absurd cc
none_missed m later (Some rest) h = (rest, refl, h)

rested : {V : Type 0} (o : Option (List ℕ × V)) (rest : List ℕ) → rest_of o ≡ Some rest → (v : V) × (o ≡ Some (rest, v))
rested None rest h = absurd (none-some rest h)
rested (Some (x, v)) rest h = (v, ap (λ y. Some (y, v)) (same_Some x rest h))

-- a date of the calendar with separators
parse_places-Ok : (b r1 r2 r3 r4 r5 : List ℕ) (y : ℤ) (m : _) (n : ℕ) (e : Refusal) → year b ≡ Some (r1, y) → byte 45 r1 ≡ Some r2
    → month r2 ≡ Some (r3, m) → byte 45 r3 ≡ Some r4 → positive 2 r4 ≡ Some (r5, n) → date_text b ≡ Err e → ⊥
unfolding date_text forms
parse_places-Ok b r1 r2 r3 r4 r5 y m n e year_is dash_is month_is other_dash_is day_is h =
    Ok-Err (record { rest = r5; value = calendar y m n; kind = Extended }) e
    (sym h ∙ rw (year_is, dash_is, month_is, other_dash_is, day_is) refl)

calendar-misses : (b : List ℕ) (e : Refusal) → date_text b ≡ Err e
    → row_misses (piece.Year ∷ piece.Dash ∷ piece.Month ∷ piece.Dash ∷ piece.Day ∷ []) b ≡ [] → ⊥
calendar-misses b e h none =
    let y = none_missed _ _ (rest_of (year b)) none in
    let x = none_missed _ _ (byte 45 y.0) y.2 in
    let m = none_missed _ _ (rest_of (month x.0)) x.2 in
    let z = none_missed _ _ (byte 45 m.0) m.2 in
    let d = none_missed _ _ (rest_of (positive 2 z.0)) z.2 in
    let year_is = rested (year b) y.0 y.1 in
    let month_is = rested (month x.0) m.0 m.1 in
    let day_is = rested (positive 2 z.0) d.0 d.1 in
    parse_places-Ok b y.0 x.0 m.0 z.0 d.0 year_is.0 month_is.0 day_is.0 e year_is.1 x.1 month_is.1 z.1 day_is.1 h

joined_none : (ms ns : List Miss) → ms ++ ns ≡ [] → (ms ≡ []) × (ns ≡ [])
joined_none [] ns h = (refl, h)
joined_none (m ∷ ms) ns h = let clash : m ∷ (ms ++ ns) ≡ [] = h in absurd cc

pub no_date-misses : (b : List ℕ) (e : Refusal) → date_text b ≡ Err e → rows_misses date_rows b ≡ [] → ⊥
no_date-misses b e h none =
    let second = (joined_none (row_misses (piece.Year ∷ piece.Month ∷ piece.Day ∷ []) b) _ none).1 in
    let third = (joined_none (row_misses (piece.Year ∷ piece.Ordinal ∷ []) b) _ second).1 in
    let fourth = (joined_none (row_misses (piece.Year ∷ piece.WeekLetter ∷ piece.Week ∷ piece.Weekday ∷ []) b) _ third).1 in
    calendar-misses b e h (joined_none (row_misses (piece.Year ∷ piece.Dash ∷ piece.Month ∷ piece.Dash ∷ piece.Day ∷ []) b) _ fourth).0

-- ---- Where the components of an ISO 8601 text begin.

pub other_piece : (name : List ℕ) (p : Piece) → (p ≡ piece.Zulu → ⊥) → is_piece_of name p ≡ expects_name name (expected_at p)
other_piece name piece.Zulu other = absurd (other refl)
other_piece name _ other = refl

-- ---- no mark leaves more bytes than there are

module _ (most : ℕ) (name : List ℕ) where
  later-within : (ps : List Piece) (o : Option (List ℕ)) → ((rest : List ℕ) → length rest ≤ most → IsUpTo most (row_mark name ps rest))
      → ((rest : List ℕ) → o ≡ Some rest → length rest ≤ most) → IsUpTo most (option_and_then (row_mark name ps) o)
  later-within ps None later room = tt
  later-within ps (Some rest) later room = later rest (room rest refl)

  row_mark-within : (row : List Piece) (b : List ℕ) → length b ≤ most → IsUpTo most (row_mark name row b)
  row_mark-within [] b h = tt
  row_mark-within (p ∷ ps) b h =
      elim (is_piece_of name p) as (λ v. IsUpTo most (if v then Some (length b) else option_and_then (row_mark name ps) (after p b))) [
        | true ↦ h
        | false ↦
            later-within ps (after p b) (λ rest room. row_mark-within ps rest room) (λ rest is. omega (arith, after-within p b rest is))
      ]

  rows_mark-within : (left : ℕ) (rows : List (List Piece)) (b : List ℕ) → length b ≤ most → IsUpTo most (rows_mark name left rows b)
  rows_mark-within left [] b h = tt
  rows_mark-within left (row ∷ rows) b h =
      elim (leaves left (after_row row b)) as (λ v. IsUpTo most (if v then row_mark name row b else rows_mark name left rows b))
      [ true ↦ row_mark-within row b h | false ↦ rows_mark-within left rows b h ]

  offset-within : (left : ℕ) (kind : ExtendedKind) (b : List ℕ) → length b ≤ most → IsUpTo most (offset_mark name left kind b)
  offset-within left kind b h = rows_mark-within left (rows_after offset_piece offset_rows kind) b h

  past_letter : (b : List ℕ) (o : Option (List ℕ)) → byte 84 b ≡ o → length (unwrap_or o b) ≤ length b
  past_letter b None is = omega arith
  past_letter b (Some rest) is = omega (arith, byte-length 84 b rest is)

  time-within : (left : ℕ) (kind : ExtendedKind) (b : List ℕ) → length b ≤ most → IsUpTo most (time_mark name left kind b)
  time-within left kind b h =
      rows_mark-within left (rows_after time_piece time_rows kind) (unwrap_or (byte 84 b) b) (omega (arith, past_letter b (byte 84 b) refl))

  from_time-within : (left : ℕ) (needs_t : Bool) (kind : ExtendedKind) (b : List ℕ) (o : Option (Found TimeNumbers)) (otherwise : Option ℕ)
      → time_text needs_t kind b ≡ o → length b ≤ most → IsUpTo most otherwise → IsUpTo most (from_time name left kind b o otherwise)
  from_time-within left needs_t kind b None otherwise is h k = k
  from_time-within left needs_t kind b (Some t) otherwise is h k =
      let room : length t.rest ≤ most = omega (arith, time_text-within needs_t kind b t is) in
      up_to-or most most (offset_mark name left t.kind t.rest) (time_mark name (length t.rest) kind b) (omega arith)
      (offset-within left t.kind t.rest room) (time-within (length t.rest) kind b h)

  without_date-within : (left : ℕ) (b : List ℕ) → length b ≤ most → IsUpTo most (without_date name left b)
  without_date-within left b h =
      from_time-within left false Unknown b (time_text false Unknown b) (offset_mark name left Unknown b) refl h
      (offset-within left Unknown b h)

module _ (name : List ℕ) (left : ℕ) (b : List ℕ) where
  after_date-within : (d : Found IsoDate) (p : Result Record Refusal) → date_text b ≡ Ok d
      → IsUpTo (length b) (after_date name left b d p)
  after_date-within d (Err e) is = without_date-within (length b) name left b (omega arith)
  after_date-within d (Ok q) is =
      let room = rest-below d.kind d.value (length d.rest) (length b) (date-number b d is).0 in
      up_to-or (length b) (length b) (from_time name left d.kind d.rest (time_text true d.kind d.rest) None)
      (rows_mark name (length d.rest) date_rows b) (omega arith)
      (from_time-within (length b) name left true d.kind d.rest (time_text true d.kind d.rest) None refl room tt)
      (rows_mark-within (length b) name (length d.rest) date_rows b (omega arith))

  by_date-within : (r : Record) (o : Result (Found IsoDate) Refusal) → date_text b ≡ o
      → IsUpTo (length b) (by_date name left b r o)
  by_date-within r (Err e) is = without_date-within (length b) name left b (omega arith)
  by_date-within r (Ok d) is = after_date-within d (put_or_fault greatest_year (date_entries d.value) r) is

  text_mark-within : (r : Record) → IsUpTo (length b) (text_mark name left b r)
  unfolding text_mark
  text_mark-within r = by_date-within r (date_text b) refl

-- ---- the result

module _ (name b : List ℕ) (r : Record) where
  -- the index of a mark
  pub iso_marked : (rest : List ℕ) (q : Record) (mark : Option ℕ) → reading greatest_year b (with_leap_second r) ≡ Some (rest, q)
      → mark ≡ text_mark name (length rest) b (with_leap_second r)
      → IsMarked Marks name b r (option_map (λ left. length b - left) mark)
  iso_marked rest q None h is = rw h is
  iso_marked rest q (Some left) h is =
      let within : IsUpTo (length b) (Some left) =
      subst (IsUpTo (length b)) (sym is) (text_mark-within name (length rest) b (with_leap_second r)) in
      (left, rw h is, omega arith)

  -- nothing matches
  pub iso_unmarked : reading greatest_year b (with_leap_second r) ≡ None → IsMarked Marks name b r None
  iso_unmarked h = rw h refl

-- the mark of a text by its date
module _ (name : List ℕ) (left : ℕ) (b : List ℕ) (r : Record) where
  pub no_date-mark : (e : Refusal) (mark : Option ℕ) → date_text b ≡ Err e → mark ≡ without_date name left b
      → mark ≡ text_mark name left b r
  unfolding text_mark
  no_date-mark e mark is h = rw is h

  pub great_date-mark : (d : Found IsoDate) (e : Refusal) (mark : Option ℕ) → date_text b ≡ Ok d
      → put_or_fault greatest_year (date_entries d.value) r ≡ Err e → mark ≡ without_date name left b → mark ≡ text_mark name left b r
  unfolding text_mark
  great_date-mark d e mark is put h = rw (is, put) h

  pub held_date-mark : (d : Found IsoDate) (q : Record) (mark : Option ℕ) → date_text b ≡ Ok d
      → put_or_fault greatest_year (date_entries d.value) r ≡ Ok q
      → mark ≡ option_or (from_time name left d.kind d.rest (time_text true d.kind d.rest) None) (rows_mark name (length d.rest) date_rows b)
      → mark ≡ text_mark name left b r
  unfolding text_mark
  held_date-mark d q mark is put h = rw (is, put) h

pub either : (mark x y a b : Option ℕ) → mark ≡ option_or x y → x ≡ a → y ≡ b → mark ≡ option_or a b
either mark x y a b h k l = h ∙ ap (λ z. option_or z y) k ∙ ap (λ z. option_or a z) l
