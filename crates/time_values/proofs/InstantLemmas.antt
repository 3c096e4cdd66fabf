-- Instants: the day of 1970-01-01, and the range.
use Rattle.std.specs.Int.{IsInRange}
use Rattle.std.specs.Int.Signed.{le_z}
use Rattle.std.proofs.Common.{◌≡◌, ℕ, ◌+◌, ◌*◌, ◌<◌, refl, arith, IsTrue, ◌↔◌, ◌&&◌, ℤ, pos, neg_ℤ, ◌+ℤ◌, ◌-ℤ◌, ◌*ℤ◌, [], suc, ◌-◌, ◌%◌, ◌≤◌, inl}
use Rattle.std.proofs.Common.{inr, sym, ap, ◌∙◌, ◌≤ℤ◌, ◌<ℤ◌, zero, subst}
use Rattle.std.proofs.lemmas.Int.{ints, by_lt_z}
use Rattle.std.proofs.lemmas.Bool.{cases_order}
use Rattle.std.proofs.lemmas.Bool.Decides.{nat_tests}
use Rattle.std.proofs.Props.{props}
use mathlib.Core.HLevel.{is_prop→PathP}
use Rattle.time_values.specs.declared.date.Date.{Date}
use Rattle.time_values.specs.Names.{month_number}
use Rattle.time_values.specs.Calendar.{year_length, IsBetween, years_before, day_limit, greatest_year, IsYear, year_start, month_length}
use Rattle.time_values.specs.Calendar.{days_of_months, ordinal_of, weekdays_in, thursday_of, days_of_years}
use Rattle.time_values.specs.Dates.{IsDateWithin, ordinal, day_number, weekday, weekdays_so_far, IsIsoDate, IsIsoDay}
use Rattle.time_values.specs.declared.time.Time.{Time}
use Rattle.time_values.specs.declared.utc_offset.UtcOffset.{UtcOffset}
use Rattle.time_values.specs.MovedClocks.{IsNear}
use Rattle.time_values.specs.Times.{nanos_of_day, HasClock}
use Rattle.time_values.specs.Offsets.{offset_seconds, HasOffset}
use Rattle.time_values.specs.Instants.{IsInstant, is_instant, first_instant, last_instant, epoch_day, nanos_per_day, clock_nanos, instant}
use Rattle.time_values.specs.declared.aligned.Aligned.{Aligned}
use Rattle.time_values.specs.declared.timestamp.Timestamp.{Timestamp}
use Rattle.time_values.specs.Sign.{HasOneSign}
use Rattle.time_values.proofs.YearLemmas.{ordinal_within, days_of_years_closed, year_end, year_start-next, closed_mono, days_of_months_closed}
use Rattle.time_values.proofs.YearLemmas.{weekdays_in_closed}
use Rattle.time_values.proofs.NumberLemmas.{month_number_in, same_month}

-- ---- Facts of each date

-- the day of the year of a date is one of its year's
pub ordinal_in : (d : Date) → IsInRange 1 (year_length d.year) (ordinal d)
ordinal_in d = ordinal_within d.year (month_number d.month) d.day (month_number_in d.month) d.day_in

pub epoch_day_is : epoch_day greatest_year ≡ 365_961_662
epoch_day_is = omega (arith, days_of_years_closed greatest_year (years_before greatest_year (pos 1970)) refl)

pub day_limit_is : day_limit greatest_year ≡ 730_484_634
day_limit_is = omega (arith, days_of_years_closed greatest_year (2 * greatest_year + 1) refl)

pub day_number_within : (Y : ℕ) (d : Date) → (Y + 1) % 400 ≡ 0 → IsDateWithin Y d → day_number Y d < day_limit Y
day_number_within Y d whole within = omega (arith, ordinal_in d, year_end Y d.year whole within)

pub day_number_in : (d : Date) → day_number greatest_year d < day_limit greatest_year
day_number_in d = day_number_within greatest_year d refl d.year_in

-- the limits of instants
pub first_instant_is : first_instant greatest_year ≡ neg_ℤ (pos 31_619_087_596_800_000_000_000)
unfolding first_instant
first_instant_is = rw epoch_day_is refl

pub last_instant_is : last_instant greatest_year ≡ pos 31_494_784_780_799_999_999_999
unfolding last_instant
last_instant_is = rw (epoch_day_is, day_limit_is) refl

-- a test of both ends decides whether a number lies between them
pub between_tested : (low high z : ℤ) → IsTrue (le_z low z && le_z z high) ↔ IsBetween low high z
between_tested low high z = (λ h. grind (arith, ints), λ h. grind (arith, ints))

pub is_instant-IsInstant : (Y : ℕ) (n : ℤ) → IsTrue (is_instant Y n) ↔ IsInstant Y n
is_instant-IsInstant Y n = between_tested (first_instant Y) (last_instant Y) n

-- the definitions, for a proof that doesn't unfold them
clock_nanos_by : (Y : ℕ) (d : Date) (t : Time)
    → clock_nanos Y d t ≡ (pos (day_number Y d) -ℤ pos (epoch_day Y)) *ℤ pos nanos_per_day +ℤ pos (nanos_of_day t)
unfolding clock_nanos
clock_nanos_by Y d t = refl

pub clock_nanos_is : (d : Date) (t : Time)
    → clock_nanos greatest_year d t ≡ (pos (day_number greatest_year d) -ℤ pos 365_961_662) *ℤ pos nanos_per_day +ℤ pos (nanos_of_day t)
unfolding clock_nanos
clock_nanos_is d t = rw epoch_day_is

pub instant_is : (d : Date) (t : Time) (o : UtcOffset) → instant greatest_year d t o ≡ clock_nanos greatest_year d t -ℤ offset_seconds o *ℤ pos 1_000_000_000
unfolding instant
instant_is d t o = refl

-- each date and time in UTC is an instant
pub clock_nanos_within : (Y : ℕ) (d : Date) (t : Time) → (Y + 1) % 400 ≡ 0 → IsDateWithin Y d → IsInstant Y (clock_nanos Y d t)
unfolding first_instant last_instant
clock_nanos_within Y d t whole within =
    let time : nanos_of_day t < nanos_per_day = omega arith in
    let is = clock_nanos_by Y d t in
    (omega (arith, ints, is), omega (arith, ints, is, day_number_within Y d whole within))

pub clock_nanos_range : (d : Date) (t : Time) → IsInstant greatest_year (clock_nanos greatest_year d t)
clock_nanos_range d t = clock_nanos_within greatest_year d t refl d.year_in

pub ruleset instant_facts = (first_instant_is, last_instant_is, day_limit_is, day_number_in, clock_nanos_is, instant_is)

-- each moment is near 1970
pub clock_nanos_near : (d : Date) (t : Time) → IsNear (clock_nanos greatest_year d t)
clock_nanos_near d t = omega (arith, ints, clock_nanos_range d t, first_instant_is, last_instant_is)

pub instant_near : (d : Date) (t : Time) (o : UtcOffset) → IsNear (instant greatest_year d t o)
instant_near d t o =
    omega (arith, ints, instant_is d t o, clock_nanos_range d t, first_instant_is, last_instant_is, o.hours_in, o.minutes_in, o.seconds_in)

-- moving a local time from one offset to another keeps its instant
pub moved_same : (clock later from to : ℤ) → later ≡ clock +ℤ (to -ℤ from) *ℤ pos 1_000_000_000
    → later -ℤ to *ℤ pos 1_000_000_000 ≡ clock -ℤ from *ℤ pos 1_000_000_000
moved_same clock later from to h = omega (arith, ints, h)

pub moved_shown : (clock from to : ℤ)
    → (clock -ℤ from *ℤ pos 1_000_000_000) +ℤ to *ℤ pos 1_000_000_000 ≡ clock +ℤ (to -ℤ from) *ℤ pos 1_000_000_000
moved_shown clock from to = omega (arith, ints)

-- ---- What determines a date, a time, an offset and a moment

-- a later year begins after the days of an earlier one
pub year_start_later : (Y : ℕ) (y later : ℤ) → (Y + 1) % 400 ≡ 0 → neg_ℤ (pos Y) ≤ℤ y → y <ℤ later → year_start Y y + year_length y ≤ year_start Y later
year_start_later Y y later whole low lt =
    let n = years_before Y y in
    let m = years_before Y later in
    let next = year_start-next Y y (y +ℤ pos 1) low refl in
    let after : years_before Y (y +ℤ pos 1) ≡ suc n = omega (arith, ints) in
    let order : suc n ≤ m = omega (arith, ints) in
    omega (arith, rw after at next, days_of_years_closed Y (suc n) whole, days_of_years_closed Y m whole, closed_mono (suc n) m order)

-- a day of the year determines its month and day
month_end : (y : ℤ) (m : ℕ) → IsInRange 1 12 m → days_of_months y m ≡ days_of_months y (m - 1) + month_length y m
month_end y m h =
    let e = days_of_months_closed y (m - 1) (omega arith) in
    let f = days_of_months_closed y m (omega arith) in
    grind (arith, nat_tests)

months_mono : (y : ℤ) (m n : ℕ) → m ≤ n → n < 13 → days_of_months y m ≤ days_of_months y n
months_mono y m n h k =
    let e = days_of_months_closed y m (omega arith) in
    let f = days_of_months_closed y n k in
    grind (arith, nat_tests)

pub ordinal_later : (y : ℤ) (m d n e : ℕ) → IsInRange 1 12 m → IsInRange 1 12 n → d ≤ month_length y m → 1 ≤ e → m < n → ordinal_of y m d < ordinal_of y n e
ordinal_later y m d n e h k top low lt =
    omega (arith, month_end y m h, months_mono y m (n - 1) (omega arith) (omega arith))

same_ordinal : (y : ℤ) (m d n e : ℕ) → IsInRange 1 12 m → IsInRange 1 12 n → IsInRange 1 (month_length y m) d → IsInRange 1 (month_length y n) e
    → ordinal_of y m d ≡ ordinal_of y n e → (m ≡ n) × (d ≡ e)
same_ordinal y m d n e h k p q same =
    elim (cases_order m n) [
      | inl eq ↦ (eq, omega (arith, ap (λ x. days_of_months y (x - 1)) eq))
      | inr (inl lt) ↦ absurd (omega (arith, ordinal_later y m d n e h k p.1 q.0 lt))
      | inr (inr gt) ↦ absurd (omega (arith, ordinal_later y n e m d k h q.1 p.0 gt))
    ]

same_aligned : (a b : Aligned) → a ≡ b
same_aligned a b = λ i. record {
  words = (a.no_words ∙ sym b.no_words) i;
  no_words = is_prop→PathP (λ j. (a.no_words ∙ sym b.no_words) j ≡ []) (λ j. hlevel props) a.no_words b.no_words i;
}

-- dates with one year, month and day are equal
pub same_date_by_parts : (a b : Date) → a.year ≡ b.year → a.month ≡ b.month → a.day ≡ b.day → a ≡ b
same_date_by_parts a b y m d = λ i. record {
  year = y i;
  month = m i;
  day = d i;
  aligned = same_aligned a.aligned b.aligned i;
  year_in = is_prop→PathP (λ j. IsYear greatest_year (y j)) (λ j. hlevel props) a.year_in b.year_in i;
  day_in = is_prop→PathP (λ j. IsInRange 1 (month_length (y j) (month_number (m j))) (d j)) (λ j. hlevel props) a.day_in b.day_in i;
}

-- and so are dates with one year and day of the year
pub same_date_by_ordinal : (a b : Date) → a.year ≡ b.year → ordinal a ≡ ordinal b → a ≡ b
same_date_by_ordinal a b year places =
    let place = places ∙ ap (λ y. ordinal_of y (month_number b.month) b.day) (sym year) in
    let p = same_ordinal a.year (month_number a.month) a.day (month_number b.month) b.day
    (month_number_in a.month) (month_number_in b.month) a.day_in (rw year b.day_in) place in
    same_date_by_parts a b year (same_month _ _ p.0) p.1

same_year : (Y : ℕ) (a b : Date) → (Y + 1) % 400 ≡ 0 → IsDateWithin Y a → IsDateWithin Y b → day_number Y a ≡ day_number Y b → a.year ≡ b.year
same_year Y a b whole a_in b_in e =
    by_lt_z a.year b.year
    (λ lt. absurd (omega (arith, ordinal_in a, ordinal_in b, year_start_later Y a.year b.year whole a_in.0 lt)))
    (λ ge. by_lt_z b.year a.year
    (λ gt. absurd (omega (arith, ordinal_in a, ordinal_in b, year_start_later Y b.year a.year whole b_in.0 gt)))
    (λ le. omega (arith, ints)))

-- and so are dates within the range of years with one day number
pub same_date_within : (Y : ℕ) (a b : Date) → (Y + 1) % 400 ≡ 0 → IsDateWithin Y a → IsDateWithin Y b → day_number Y a ≡ day_number Y b → a ≡ b
same_date_within Y a b whole a_in b_in e =
    let year = same_year Y a b whole a_in b_in e in
    same_date_by_ordinal a b year (omega (arith, ap (year_start Y) year, ordinal_in a, ordinal_in b))

pub same_date : (a b : Date) → day_number greatest_year a ≡ day_number greatest_year b → a ≡ b
same_date a b e = same_date_within greatest_year a b refl a.year_in b.year_in e

-- a weekday, and the number of those weekdays, or of weekdays w, in a stretch of days determine its length
same_count : (w start m n : ℕ) → w < 7 → 1 ≤ m → 1 ≤ n → weekdays_in w start m ≡ weekdays_in w start n → (start + (m - 1)) % 7 ≡ (start + (n - 1)) % 7 → m ≡ n
same_count w start m n small low high counts days =
    omega (arith, weekdays_in_closed w start m small, weekdays_in_closed w start n small)

-- dates with one year, weekday and week, which begins on the weekday w, are equal
pub same_date_by_week : (w : ℕ) (a b : Date) → w < 7 → a.year ≡ b.year → weekdays_so_far greatest_year w a ≡ weekdays_so_far greatest_year w b
    → weekday greatest_year a ≡ weekday greatest_year b → a ≡ b
same_date_by_week w a b small year weeks days =
    let start = ap (year_start greatest_year) year in
    same_date_by_ordinal a b year
    (same_count w (year_start greatest_year b.year) (ordinal a) (ordinal b) small (ordinal_in a).0 (ordinal_in b).0 (rw start at weeks) (rw start at days))

-- the Thursday of a day's week and its weekday determine the day
pub same_iso_day : (Y : ℕ) (y : ℤ) (week w m n : ℕ) → IsIsoDay Y y week w m → IsIsoDay Y y week w n → m ≡ n
same_iso_day Y y week w m n h k =
    let start = year_start Y y in
    omega (arith, weekdays_in_closed 3 start (thursday_of m + 1 - start) (omega arith), weekdays_in_closed 3 start (thursday_of n + 1 - start) (omega arith))

-- dates with one ISO year, week and weekday are equal
pub same_date_by_iso_week : (y : ℤ) (week w : ℕ) (a b : Date) → IsIsoDate greatest_year y week w a → IsIsoDate greatest_year y week w b → a ≡ b
same_date_by_iso_week y week w a b h k =
    same_date a b (same_iso_day greatest_year y week w (day_number greatest_year a) (day_number greatest_year b) h.1 k.1)

-- times with equal parts are equal
pub same_time_by_parts : (a b : Time) → a.hour ≡ b.hour → a.minute ≡ b.minute → a.second ≡ b.second → a.nanosecond ≡ b.nanosecond → a ≡ b
same_time_by_parts a b h m s n = λ i. record {
  hour = h i;
  minute = m i;
  second = s i;
  nanosecond = n i;
  aligned = same_aligned a.aligned b.aligned i;
  hour_in = is_prop→PathP (λ j. h j < 24) (λ j. hlevel props) a.hour_in b.hour_in i;
  minute_in = is_prop→PathP (λ j. m j < 60) (λ j. hlevel props) a.minute_in b.minute_in i;
  second_in = is_prop→PathP (λ j. s j < 60) (λ j. hlevel props) a.second_in b.second_in i;
  nanosecond_in = is_prop→PathP (λ j. n j < 1_000_000_000) (λ j. hlevel props) a.nanosecond_in b.nanosecond_in i;
}

pub same_time_by_clock : (h m s n : ℕ) (a b : Time) → HasClock h m s n a → HasClock h m s n b → a ≡ b
same_time_by_clock h m s n a b p q =
    same_time_by_parts a b (p.0 ∙ sym q.0) (p.1 ∙ sym q.1) (p.2 ∙ sym q.2) (p.3 ∙ sym q.3)

same_clock : (a b : Time) → nanos_of_day a ≡ nanos_of_day b → (a.hour ≡ b.hour) × (a.minute ≡ b.minute) × (a.second ≡ b.second) × (a.nanosecond ≡ b.nanosecond)
same_clock a b e = omega arith

-- and so are times with equal nanoseconds since midnight
pub same_time : (a b : Time) → nanos_of_day a ≡ nanos_of_day b → a ≡ b
same_time a b e = let p = same_clock a b e in same_time_by_parts a b p.0 p.1 p.2 p.3

-- offsets with equal parts are equal
pub same_offset_by_parts : (a b : UtcOffset) → a.hours ≡ b.hours → a.minutes ≡ b.minutes → a.seconds ≡ b.seconds → a ≡ b
same_offset_by_parts a b h m s = λ i. record {
  hours = h i;
  minutes = m i;
  seconds = s i;
  hours_in = is_prop→PathP (λ j. IsBetween (neg_ℤ (pos 25)) (pos 25) (h j)) (λ j. hlevel props) a.hours_in b.hours_in i;
  minutes_in = is_prop→PathP (λ j. IsBetween (neg_ℤ (pos 59)) (pos 59) (m j)) (λ j. hlevel props) a.minutes_in b.minutes_in i;
  seconds_in = is_prop→PathP (λ j. IsBetween (neg_ℤ (pos 59)) (pos 59) (s j)) (λ j. hlevel props) a.seconds_in b.seconds_in i;
  one_sign = is_prop→PathP (λ j. HasOneSign (h j) (m j) (s j)) (λ j. hlevel props) a.one_sign b.one_sign i;
}

pub same_offset : (h m s : ℤ) (a b : UtcOffset) → HasOffset h m s a → HasOffset h m s b → a ≡ b
same_offset h m s a b p q = same_offset_by_parts a b (p.0 ∙ sym q.0) (p.1 ∙ sym q.1) (p.2 ∙ sym q.2)

-- the nanoseconds of a local time determine the day and the nanoseconds of the day
clock_nanos-apart : (Y : ℕ) (a b : Date) (s t : Time) → clock_nanos Y a s ≡ clock_nanos Y b t
    → (day_number Y a ≡ day_number Y b) × (nanos_of_day s ≡ nanos_of_day t)
clock_nanos-apart Y a b s t e = omega (arith, ints, clock_nanos_by Y a s, clock_nanos_by Y b t)

-- one moment in UTC has one date and time within the range of years
pub same_moment_within : (Y : ℕ) (a b : Date) (s t : Time) → (Y + 1) % 400 ≡ 0 → IsDateWithin Y a → IsDateWithin Y b
    → clock_nanos Y a s ≡ clock_nanos Y b t → (a ≡ b) × (s ≡ t)
same_moment_within Y a b s t whole a_in b_in e =
    let apart = clock_nanos-apart Y a b s t e in
    (same_date_within Y a b whole a_in b_in apart.0, same_time s t apart.1)

pub same_moment : (a b : Date) (s t : Time) → clock_nanos greatest_year a s ≡ clock_nanos greatest_year b t → (a ≡ b) × (s ≡ t)
same_moment a b s t e = same_moment_within greatest_year a b s t refl a.year_in b.year_in e

-- timestamps with equal nanoseconds are equal
pub same_timestamp : (a b : Timestamp) → a.nanoseconds ≡ b.nanoseconds → a ≡ b
same_timestamp a b n = λ i. record {
  nanoseconds = n i;
  in_range = is_prop→PathP (λ j. IsInstant greatest_year (n j)) (λ j. hlevel props) a.in_range b.in_range i;
}

-- ---- A wider range of years has the instants of a narrower one. `Y` is the narrower one's greatest year, and the wider one has c more years on either side.

-- the days of the wider range are those of its first c years, and then those of the narrower one
days_of_years-wider : (Y c n : ℕ) → days_of_years (Y + c) (n + c) ≡ days_of_years (Y + c) c + days_of_years Y n
unfolding days_of_years
days_of_years-wider Y c zero = let e : 0 + c ≡ c = omega arith in rw e (omega arith)
days_of_years-wider Y c (suc n) =
    let e : suc n + c ≡ suc (n + c) = omega arith in
    let same : pos (n + c) -ℤ pos (Y + c) ≡ pos n -ℤ pos Y = omega (arith, ints) in
    rw e (omega (arith, days_of_years-wider Y c n, ap year_length same))

days_of_years-mono : (Y n k : ℕ) → days_of_years Y n ≤ days_of_years Y (n + k)
unfolding days_of_years
days_of_years-mono Y n zero = let e : n + 0 ≡ n = omega arith in rw e (omega arith)
days_of_years-mono Y n (suc k) =
    let e : n + suc k ≡ suc (n + k) = omega arith in
    rw e (omega (arith, days_of_years-mono Y n k))

epoch_day-wider : (Y c : ℕ) → epoch_day (Y + c) ≡ days_of_years (Y + c) c + epoch_day Y
epoch_day-wider Y c =
    let before : years_before (Y + c) (pos 1970) ≡ years_before Y (pos 1970) + c = omega (arith, ints) in
    ap (days_of_years (Y + c)) before ∙ days_of_years-wider Y c (years_before Y (pos 1970))

day_limit-wider : (Y c : ℕ) → days_of_years (Y + c) c + day_limit Y ≤ day_limit (Y + c)
day_limit-wider Y c =
    let years : 2 * (Y + c) + 1 ≡ 2 * Y + 1 + c + c = omega arith in
    omega (arith, ap (days_of_years (Y + c)) years, days_of_years-wider Y c (2 * Y + 1 + c), days_of_years-mono Y (2 * Y + 1) c)

first_instant-wider : (Y c : ℕ) → first_instant (Y + c) ≤ℤ first_instant Y
unfolding first_instant
first_instant-wider Y c = omega (arith, ints, epoch_day-wider Y c)

last_instant-wider : (Y c : ℕ) → last_instant Y ≤ℤ last_instant (Y + c)
unfolding last_instant
last_instant-wider Y c = omega (arith, ints, epoch_day-wider Y c, day_limit-wider Y c)

is_instant-more : (Y c : ℕ) (n : ℤ) → IsTrue (is_instant Y n) → IsTrue (is_instant (Y + c) n)
is_instant-more Y c n h =
    let old = (is_instant-IsInstant Y n).0 h in
    (is_instant-IsInstant (Y + c) n).1
    (omega (arith, ints, first_instant-wider Y c, old.0), omega (arith, ints, last_instant-wider Y c, old.1))

-- an instant of the narrower range is one of the wider
pub is_instant-wider : (Y Z : ℕ) (n : ℤ) → Y ≤ Z → IsTrue (is_instant Y n) → IsTrue (is_instant Z n)
is_instant-wider Y Z n h is =
    let sum : Y + (Z - Y) ≡ Z = omega arith in
    subst (λ y. IsTrue (is_instant y n)) sum (is_instant-more Y (Z - Y) n is)
