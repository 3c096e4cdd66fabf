-- No piece and no part of an ISO 8601 text leaves more bytes than there were.
use Rattle.std.specs.Prelude.{if◌then◌else◌, option_map, option_and_then, nat_eq, nat_le}
use Rattle.std.specs.Option.{option_or}
use Rattle.std.proofs.Common.{◌≡◌, ℕ, ◌+◌, ◌≤◌, List, [], ◌∷◌, length, length-append, Bool, true, false, Option, Some, None, refl, ap, arith, ◌∙◌, suc, ◌<◌, ◌++◌, drop, map, get_or, drop-cons, add-one, Bor, subst, Ok, Err, sym}
use Rattle.std.proofs.lemmas.Option.{none-some, same_Some, cond_some, some_pair_parts, option_and_then_some}
use Rattle.std.proofs.lemmas.Bool.{le-leb}
use Rattle.time_values.specs.Calendar.{greatest_year}
use Rattle.time_values.specs.Refusal.{Refusal, component}
use Rattle.time_digits.specs.Digits.{Form, Cut, IsSign, IsByte, Finds}
use Rattle.time_digits.specs.declared.ParsedItem.{ParsedItem}
use Rattle.time_digits.specs.declared.Sign.{Sign}
use Rattle.time_readers.specs.IsoPieces.{Found, IsNumber, IsYear, Number, at_most, byte, mapped_digits, month, months, not_zero, number, numbered, positive, sign, up_to, weekday, weekdays, year, digits}
use Rattle.time_readers.specs.IsoOffsets as offsets
use Rattle.time_readers.specs.IsoOffsets.{OffsetParts, offset_rows, offset_text, no_offset_parts, numbers_found}
use Rattle.time_readers.specs.IsoTimes.{Row, PlaceParser, parse_places, first_fitting, fits, when, nothing_given, says, time_after, time_rows, time_text}
use Rattle.time_readers.specs.IsoTimes as times
use Rattle.time_readers.specs.declared.iso8601.ExtendedKind.{ExtendedKind}
use Rattle.time_readers.specs.declared.iso8601.OffsetNumbers.{OffsetNumbers}
use Rattle.time_readers.specs.declared.iso8601.TimeNumbers.{TimeNumbers}
use Rattle.time_readers.specs.IsoDates.{IsoDate, calendar, date_text, ordinal, week}
use Rattle.time_readers.proofs.IsoCuts.{number-tells, said-tells, sign-tells, year-tells}
use Rattle.time_readers.proofs.IsoPieces.{byte-cut, byte-no_cut, finds-sign}
use Rattle.time_record.specs.Record.{Record, day_is, iso_week_number_is, iso_year_is, month_is, ordinal_is, put_here, weekday_is, year_is}
use Rattle.time_parsing.specs.Iso8601.{date_entries, put_or_fault}
use Rattle.time_locating.specs.Iso8601.{after, rest_of, after_t, after_time, date_rows, from_time, left_at_number, misses, row_misses, rows_misses, without_date}
use Rattle.time_locating.specs.declared.iso8601.Piece.{Piece}
use Rattle.time_locating.specs.declared.iso8601.Piece.TheVariants as piece
use Rattle.time_locating.specs.IsoNumbers.{IsYearInRange}
use Rattle.time_locating.specs.Misses.{Miss, further, furthest, missed, named}
use Rattle.time_locating.proofs.TurnSteps.{further-assoc, furthest-append}

-- ---- single pieces

cut-within : {V : Type 0} (S : Form V) (s rest : List ℕ) (v : V) → Cut S s rest v → length rest ≤ length s
cut-within S s rest v cut = omega (arith, ap length cut.1, length-append cut.0 rest)

pub byte-length : (c : ℕ) (b rest : List ℕ) → byte c b ≡ Some rest → length b ≡ 1 + length rest
unfolding byte
byte-length c [] rest h = absurd (none-some rest h)
byte-length c (x ∷ b) rest h = let is = cond_some (nat_eq x c) b rest h in omega (arith, ap length is.1)

pub said-length : {A : Type 0} (n : ℕ) (says : ℕ → Option A) (b rest : List ℕ) (a : A) → mapped_digits n says b ≡ Some (rest, a)
    → length b ≡ n + length rest
said-length n says b rest a h =
    let cut = said-tells n says b rest a h in
    omega (arith, cut.2.1.enough, cut.2.1.within, ap length cut.1, length-append cut.0 rest)

pub month-within : (b rest : List ℕ) (v : _) → month b ≡ Some (rest, v) → length rest ≤ length b
unfolding month
month-within b rest v h = omega (arith, said-length 2 (numbered months) b rest v h)

pub positive-length : (n : ℕ) (b rest : List ℕ) (v : ℕ) → positive n b ≡ Some (rest, v) → length b ≡ n + length rest
unfolding positive
positive-length n b rest v h = said-length n not_zero b rest v h

pub weekday-length : (b rest : List ℕ) (v : _) → weekday b ≡ Some (rest, v) → length b ≡ 1 + length rest
unfolding weekday
weekday-length b rest v h = said-length 1 (numbered weekdays) b rest v h

up_to-within : (greatest : ℕ) (b rest : List ℕ) (v : ℕ) → up_to greatest 2 b ≡ Some (rest, v) → length rest ≤ length b
unfolding up_to
up_to-within greatest b rest v h = omega (arith, said-length 2 (at_most greatest) b rest v h)

pub year-within : (b rest : List ℕ) (v : _) → year b ≡ Some (rest, v) → length rest ≤ length b
year-within b rest v h = cut-within IsYear b rest v (year-tells b rest v h)

-- what is kept of what is read
kept : {A V P : Type 0} (g : (List ℕ × A) → V) (o : Option (List ℕ × A)) (rest : List ℕ) (v : V)
    → option_map {U = List ℕ × V} (λ f. (f.0, g f)) o ≡ Some (rest, v) → ((a : A) → o ≡ Some (rest, a) → P) → P
kept g None rest v h k = absurd (none-some (rest, v) h)
kept g (Some (x, a)) rest v h k = k a (ap (λ y. Some (y, a)) (some_pair_parts x rest (g (x, a)) v h).0)

kept_byte : {V : Type 0} (v u : V) (c : ℕ) (b rest : List ℕ) (o : Option (List ℕ)) → byte c b ≡ o
    → option_map {U = List ℕ × V} (λ x. (x, v)) o ≡ Some (rest, u) → length rest ≤ length b
kept_byte v u c b rest None e h = absurd (none-some (rest, u) h)
kept_byte v u c b rest (Some x) e h =
    let same = some_pair_parts x rest v u h in omega (arith, byte-length c b x e, ap length same.0)

value_kept : {U P : Type 0} (x rest : List ℕ) (o : Option U) (u : U) → option_map {U = List ℕ × U} (λ w. (x, w)) o ≡ Some (rest, u) → (x ≡ rest → P) → P
value_kept x rest None u h k = absurd (none-some (rest, u) h)
value_kept x rest (Some w) u h k = k (some_pair_parts x rest w u h).0

number-within : {U : Type 0} (s : Number → Option U) (b rest : List ℕ) (u : U)
    → option_and_then {U = List ℕ × U} (λ f. option_map {U = List ℕ × U} (λ w. (f.0, w)) (s f.1)) (number b) ≡ Some (rest, u) → length rest ≤ length b
number-within {U} s b rest u h =
    option_and_then_some (λ f. option_map {U = List ℕ × U} (λ w. (f.0, w)) (s f.1)) (number b) (rest, u) h
    (λ x e is. value_kept x.0 rest (s x.1) u is
    (λ same. omega (arith, cut-within IsNumber b x.0 x.1 (number-tells b x.0 x.1 e), ap length same)))

-- ---- the places of a time and of an offset

abbrev pub Shortens : {P V : Type 0} → PlaceParser P V → Type 0
Shortens {P} {V} stands =
    (p : P) (b : List ℕ) (v : V) (rest : List ℕ) (u : V) → stands p b v ≡ Some (rest, u) → length rest ≤ length b

time-within : Shortens times.stands
time-within times.whole_hour b v rest u h = number-within (λ n. says times.whole_hour n v) b rest u h
time-within times.hour_and_fraction b v rest u h = number-within (λ n. says times.hour_and_fraction n v) b rest u h
time-within times.whole_minute b v rest u h = number-within (λ n. says times.whole_minute n v) b rest u h
time-within times.minute_and_fraction b v rest u h = number-within (λ n. says times.minute_and_fraction n v) b rest u h
time-within times.any_second b v rest u h = number-within (λ n. says times.any_second n v) b rest u h
time-within times.colon b v rest u h = kept_byte v u 58 b rest (byte 58 b) refl h

offset-within : Shortens offsets.stands
offset-within offsets.z b v rest u h = kept_byte v u 90 b rest (byte 90 b) refl h
offset-within offsets.plus_or_minus b v rest u h =
    kept (λ f. record v { signed = Some f.1 }) (sign b) rest u h (λ a e. cut-within IsSign b rest a (sign-tells b rest a e))
offset-within offsets.hour b v rest u h =
    kept (λ f. record v { hour = f.1 }) (up_to 25 2 b) rest u h (λ a e. up_to-within 25 b rest a e)
offset-within offsets.colon b v rest u h = kept_byte v u 58 b rest (byte 58 b) refl h
offset-within offsets.minute b v rest u h =
    kept (λ f. record v { minute = f.1 }) (up_to 59 2 b) rest u h (λ a e. up_to-within 59 b rest a e)

-- ---- all pieces

rested : {V P : Type 0} (o : Option (List ℕ × V)) (rest : List ℕ) → rest_of o ≡ Some rest → ((v : V) → o ≡ Some (rest, v) → P) → P
rested None rest h k = absurd (none-some rest h)
rested (Some (x, v)) rest h k = k v (ap (λ y. Some (y, v)) (same_Some x rest h))

byte-within : (c : ℕ) (b rest : List ℕ) → byte c b ≡ Some rest → length rest ≤ length b
byte-within c b rest h = omega (arith, byte-length c b rest h)

positive-within : (n : ℕ) (b rest : List ℕ) → rest_of (positive n b) ≡ Some rest → length rest ≤ length b
positive-within n b rest h = rested (positive n b) rest h (λ v e. omega (arith, positive-length n b rest v e))

time_piece-within : (p : times.Place) (b rest : List ℕ) → rest_of (times.stands p b nothing_given) ≡ Some rest → length rest ≤ length b
time_piece-within p b rest h = rested (times.stands p b nothing_given) rest h (λ v e. time-within p b nothing_given rest v e)

offset_piece-within : (p : offsets.OffsetPlace) (b rest : List ℕ) → rest_of (offsets.stands p b no_offset_parts) ≡ Some rest
    → length rest ≤ length b
offset_piece-within p b rest h = rested (offsets.stands p b no_offset_parts) rest h (λ v e. offset-within p b no_offset_parts rest v e)

pub after-within : (p : Piece) (b rest : List ℕ) → after p b ≡ Some rest → length rest ≤ length b
after-within piece.Year b rest h = rested (year b) rest h (λ v e. year-within b rest v e)
after-within piece.Dash b rest h = byte-within 45 b rest h
after-within piece.Month b rest h = rested (month b) rest h (λ v e. month-within b rest v e)
after-within piece.Day b rest h = positive-within 2 b rest h
after-within piece.Ordinal b rest h = positive-within 3 b rest h
after-within piece.WeekLetter b rest h = byte-within 87 b rest h
after-within piece.Week b rest h = positive-within 2 b rest h
after-within piece.Weekday b rest h = rested (weekday b) rest h (λ v e. omega (arith, weekday-length b rest v e))
after-within piece.WholeHour b rest h = time_piece-within times.whole_hour b rest h
after-within piece.HourAndFraction b rest h = time_piece-within times.hour_and_fraction b rest h
after-within piece.WholeMinute b rest h = time_piece-within times.whole_minute b rest h
after-within piece.MinuteAndFraction b rest h = time_piece-within times.minute_and_fraction b rest h
after-within piece.Second b rest h = time_piece-within times.any_second b rest h
after-within piece.Colon b rest h = byte-within 58 b rest h
after-within piece.Zulu b rest h = byte-within 90 b rest h
after-within piece.Sign b rest h = offset_piece-within offsets.plus_or_minus b rest h
after-within piece.OffsetHour b rest h = offset_piece-within offsets.hour b rest h
after-within piece.OffsetMinute b rest h = offset_piece-within offsets.minute b rest h

-- ---- the texts of a table

if-some : {A : Type 0} (t : Bool) (o : Option A) (a : A) → (if t then o else None) ≡ Some a → o ≡ Some a
if-some true o a h = h
if-some false o a h = absurd (none-some a h)

or-some : {A P : Type 0} (o q : Option A) (a : A) → option_or o q ≡ Some a → (o ≡ Some a → P) → (q ≡ Some a → P) → P
or-some None q a h first second = second h
or-some (Some x) q a h first second = first h

module _ {P V : Type 0} (stands : PlaceParser P V) (shortens : Shortens stands) where
  parse_places-within : (ps : List P) (b : List ℕ) (v : V) (rest : List ℕ) (u : V) → parse_places stands ps b v ≡ Some (rest, u)
      → length rest ≤ length b
  parse_places-within [] b v rest u h = omega (arith, ap length (some_pair_parts b rest v u h).0)
  parse_places-within (p ∷ ps) b v rest u h =
      option_and_then_some (λ f. parse_places stands ps f.0 f.1) (stands p b v) (rest, u) h
      (λ f e k. omega (arith, shortens p b v f.0 f.1 e, parse_places-within ps f.0 f.1 rest u k))

  module _ (nothing : V) (kind : ExtendedKind) (b : List ℕ) where
    fits-within : (r : Row P) (t : Found V) → fits stands nothing r kind b ≡ Some t → length t.rest ≤ length b
    fits-within r t h =
        let found : (List ℕ × V) → Option (Found V) =
        λ f. when (r.follows f.0) (record { rest = f.0; value = f.1; kind = r.after kind }) in
        let stood = if-some (r.before kind) (option_and_then found (parse_places stands r.text b nothing)) t h in
        option_and_then_some found (parse_places stands r.text b nothing) t stood
        (λ f e k. omega (
          arith,
          parse_places-within r.text b nothing f.0 f.1 e,
          ap (λ (x : Found V). length x.rest)
              (cond_some (r.follows f.0) (record { rest = f.0; value = f.1; kind = r.after kind }) t k).1,
        ))

    first_fitting-within : (rs : List (Row P)) (t : Found V) → first_fitting stands nothing rs kind b ≡ Some t
        → length t.rest ≤ length b
    first_fitting-within [] t h = absurd (none-some t h)
    first_fitting-within (r ∷ rs) t h =
        or-some (fits stands nothing r kind b) (first_fitting stands nothing rs kind b) t h
        (λ first. fits-within r t first) (λ later. first_fitting-within rs t later)

time_after-within : (kind : ExtendedKind) (b : List ℕ) (t : Found TimeNumbers) → time_after kind b ≡ Some t → length t.rest ≤ length b
unfolding time_after
time_after-within kind b t h = first_fitting-within times.stands time-within nothing_given kind b time_rows t h

after_t-within : (needs_t : Bool) (kind : ExtendedKind) (b : List ℕ) (o : Option (List ℕ)) (t : Found TimeNumbers) → byte 84 b ≡ o
    → times.after_t needs_t kind b o ≡ Some t → length t.rest ≤ length b
after_t-within needs_t kind b (Some x) t e h = omega (arith, byte-length 84 b x e, time_after-within kind x t h)
after_t-within true kind b None t e h = absurd (none-some t h)
after_t-within false kind b None t e h = time_after-within kind b t h

pub time_text-within : (needs_t : Bool) (kind : ExtendedKind) (b : List ℕ) (t : Found TimeNumbers) → time_text needs_t kind b ≡ Some t
    → length t.rest ≤ length b
time_text-within needs_t kind b t h = after_t-within needs_t kind b (byte 84 b) t refl h

mapped : {A B P : Type 0} (f : A → B) (o : Option A) (b : B) → option_map f o ≡ Some b → ((a : A) → o ≡ Some a → f a ≡ b → P) → P
mapped f None b h k = absurd (none-some b h)
mapped f (Some a) b h k = k a refl (same_Some (f a) b h)

pub offset_text-within : (kind : ExtendedKind) (b : List ℕ) (o : Found OffsetNumbers) → offset_text kind b ≡ Some o
    → length o.rest ≤ length b
unfolding offset_text
offset_text-within kind b o h =
    mapped numbers_found (first_fitting offsets.stands no_offset_parts offset_rows kind b) o h
    (λ t e is. omega (
      arith,
      first_fitting-within offsets.stands offset-within no_offset_parts kind b offset_rows t e,
      ap (λ (x : Found OffsetNumbers). length x.rest) is,
    ))

-- ---- What the pieces of ISO 8601 leave, from the results of their readers, and the misses of their rows

-- the rest after a byte
pub finds_byte : (c : ℕ) (s : List ℕ) (answer : Option (ParsedItem (Unit {0}))) → Finds (IsByte c) (λ v. v) s answer
    → option_map (λ p. p.0.now) answer ≡ byte c s
finds_byte c s None h = sym (byte-no_cut c s h)
finds_byte c s (Some p) h = sym (byte-cut c s p.0.now h)

-- the rest after a sign
pub signed : (s : List ℕ) (answer : Option (ParsedItem Sign)) → Finds IsSign (λ v. v) s answer
    → option_map (λ p. p.0.now) answer ≡ after piece.Sign s
signed s None h = rw (finds-sign s None h) refl
signed s (Some p) h = rw (finds-sign s (Some p) h) refl

-- the rest after two digits of a number up to the greatest, or beyond it
pub digits_there : (greatest v : ℕ) (s mid : List ℕ) → digits 2 s ≡ Some (mid, v) → nat_le v greatest ≡ true
    → Some mid ≡ rest_of (up_to greatest 2 s)
unfolding up_to
digits_there greatest v s mid h small = rw (h, small) refl

pub digits_beyond : (greatest v : ℕ) (s mid : List ℕ) → digits 2 s ≡ Some (mid, v) → nat_le v greatest ≡ false
    → None ≡ rest_of (up_to greatest 2 s)
unfolding up_to
digits_beyond greatest v s mid h great = rw (h, great) refl

pub no_digits : (greatest : ℕ) (s : List ℕ) → digits 2 s ≡ None → None ≡ rest_of (up_to greatest 2 s)
unfolding up_to
no_digits greatest s h = rw h refl

-- the rows before are joined to those from a row on
abbrev pub Joined : Option Miss → List (List Piece) → List (List Piece) → List ℕ → Type 0
Joined before rows all b = further before (furthest (rows_misses rows b)) ≡ furthest (rows_misses all b)

Joined-next : (before : Option Miss) (row : List Piece) (rows all : List (List Piece)) (b : List ℕ) → Joined before (row ∷ rows) all b
    → Joined (further before (furthest (row_misses row b))) rows all b
Joined-next before row rows all b h =
    further-assoc before (furthest (row_misses row b)) (furthest (rows_misses rows b))
    ∙ ap (λ m. further before m) (sym (furthest-append (row_misses row b) (rows_misses rows b))) ∙ h

pub rows_next : (before : Option Miss) (rows : List (Bor (List Piece))) (i : ℕ) (row : Bor (List Piece)) (all : List (List Piece))
    (b : List ℕ) → i < length rows → Joined before (map (λ r. r.now) (drop i rows)) all b
    → Joined (further before (furthest (row_misses (get_or rows i row).now b))) (map (λ r. r.now) (drop (i + 1) rows)) all b
rows_next before rows i row all b h is =
    let here = subst (λ (x : List (Bor (List Piece))). Joined before (map (λ r. r.now) x) all b) (drop-cons rows i row h) is in
    rw add-one (Joined-next before (get_or rows i row).now (map (λ r. r.now) (drop (suc i) rows)) all b here)

-- ---- a time, a date, a text

pub joined : (m n : Option Miss) (ms ns : List Miss) → m ≡ furthest ms → n ≡ furthest ns → further m n ≡ furthest (ms ++ ns)
joined m n ms ns h k =
    ap (λ x. further x n) h ∙ ap (λ x. further (furthest ms) x) k ∙ sym (furthest-append ms ns)

pub time_joined : (needs_t : Bool) (kind : ExtendedKind) (b : List ℕ) (t : Option (Found TimeNumbers)) (m n : Option Miss)
    → time_text needs_t kind b ≡ t → m ≡ furthest (after_time t) → n ≡ furthest (after_t needs_t kind b (byte 84 b))
    → further m n ≡ furthest (from_time needs_t kind b)
unfolding from_time
time_joined needs_t kind b t m n is h k =
    rw is (joined m n (after_time t) (after_t needs_t kind b (byte 84 b)) h k)

module _ (b : List ℕ) (r : Record) where
  pub no_date : (e : Refusal) (m n : Option Miss) → date_text b ≡ Err e → m ≡ furthest (rows_misses date_rows b)
      → n ≡ furthest (without_date b) → further m n ≡ furthest (misses b r)
  unfolding misses
  no_date e m n is h k = rw is (joined m n (rows_misses date_rows b) (without_date b) h k)

  pub great_date : (d : Found IsoDate) (name : List ℕ) (n : Option Miss) → date_text b ≡ Ok d
      → put_or_fault greatest_year (date_entries d.value) r ≡ Err (component name) → n ≡ furthest (without_date b)
      → further (Some (missed (left_at_number d.kind d.value (length d.rest)) (named name))) n ≡ furthest (misses b r)
  unfolding misses
  great_date d name n is put k =
      rw (is, put) (ap (λ x. further (Some (missed (left_at_number d.kind d.value (length d.rest)) (named name))) x) k)

  pub held_date : (d : Found IsoDate) (q : Record) (m : Option Miss) → date_text b ≡ Ok d
      → put_or_fault greatest_year (date_entries d.value) r ≡ Ok q → m ≡ furthest (from_time true d.kind d.rest) → m ≡ furthest (misses b r)
  unfolding misses
  held_date d q m is put h = rw (is, put) h

-- the numbers of a date that a record allows
abbrev pub Small : IsoDate → Type 0
Small (calendar y m d) = (1 ≤ d) × (d ≤ 31)
Small (ordinal y d) = (1 ≤ d) × (d ≤ 366)
Small (week y w d) = (1 ≤ w) × (w ≤ 53)

pub held : (d : IsoDate) (r : Record) → IsYearInRange d → Small d → (q : Record) × (put_or_fault greatest_year (date_entries d) r ≡ Ok q)
held (calendar y m d) r year small = (
  put_here (day_is d) (put_here (month_is m) (put_here (year_is y) r)),
  rw (year, le-leb 1 d small.0, le-leb d 31 small.1) refl,
)
held (ordinal y d) r year small = (
  put_here (ordinal_is d) (put_here (year_is y) r),
  rw (year, le-leb 1 d small.0, le-leb d 366 small.1) refl,
)
held (week y w d) r year small = (
  put_here (weekday_is d) (put_here (iso_week_number_is w) (put_here (iso_year_is y) r)),
  rw (year, le-leb 1 w small.0, le-leb w 53 small.1) refl,
)
