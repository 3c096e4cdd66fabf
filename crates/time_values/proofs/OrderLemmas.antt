-- Orders by parts and by one number.
use Rattle.std.proofs.Common.{Ordering, Less, Equal, Greater, ◌≡◌, ℕ, ◌-◌, ◌<◌, refl, sym, ap, ◌∙◌, arith, ℤ, ◌<ℤ◌}
use Rattle.std.specs.Ordering.{ordering_then, nat_cmp, int_cmp}
use Rattle.std.proofs.lemmas.Bool.Decides.{nat_tests}
use Rattle.std.proofs.lemmas.Int.{ints}
use Rattle.std.proofs.lemmas.Cmp.{by_ranked, ranked, int_ranked}
use Rattle.time_values.specs.declared.date.Date.{Date}
use Rattle.time_values.specs.declared.time.Time.{Time}
use Rattle.time_values.specs.Names.{month_number}
use Rattle.time_values.specs.Calendar.{year_start, days_of_months, ordinal_of, greatest_year}
use Rattle.time_values.specs.Dates.{day_number}
use Rattle.time_values.specs.Times.{nanos_of_day}
use Rattle.time_values.specs.Instants.{clock_nanos, nanos_per_day}
use Rattle.time_values.proofs.InstantLemmas.{ordinal_in, year_start_later, ordinal_later, clock_nanos_is}
use Rattle.time_values.proofs.NumberLemmas.{month_number_in}

nat_less : (n m : ℕ) → n < m → nat_cmp n m ≡ Less
nat_less n m h = grind (arith, nat_tests)

nat_equal : (n m : ℕ) → n ≡ m → nat_cmp n m ≡ Equal
nat_equal n m h = grind (arith, nat_tests)

nat_greater : (n m : ℕ) → m < n → nat_cmp n m ≡ Greater
nat_greater n m h = grind (arith, nat_tests)

int_less : (n m : ℤ) → n <ℤ m → int_cmp n m ≡ Less
int_less n m h = grind (arith, ints)

int_equal : (n m : ℤ) → n ≡ m → int_cmp n m ≡ Equal
int_equal n m h = grind (arith, ints)

int_greater : (n m : ℤ) → m <ℤ n → int_cmp n m ≡ Greater
int_greater n m h = grind (arith, ints)

-- an order by one part and then by others, if each step agrees with the order of the numbers
by_int_then : (a b : ℤ) (rest : Ordering) (n m : ℕ) → (a <ℤ b → n < m) → (a ≡ b → rest ≡ nat_cmp n m) → (b <ℤ a → m < n)
    → ordering_then (int_cmp a b) rest ≡ nat_cmp n m
by_int_then a b rest n m less same greater =
    by_ranked (a <ℤ b) (a ≡ b) (b <ℤ a) (int_cmp a b) (int_ranked a b (int_cmp a b) refl)
    (λ is h. ap (λ o. ordering_then o rest) is ∙ sym (nat_less n m (less h)))
    (λ is h. ap (λ o. ordering_then o rest) is ∙ same h)
    (λ is h. ap (λ o. ordering_then o rest) is ∙ sym (nat_greater n m (greater h)))

by_nat_then : (a b : ℕ) (rest : Ordering) (n m : ℕ) → (a < b → n < m) → (a ≡ b → rest ≡ nat_cmp n m) → (b < a → m < n)
    → ordering_then (nat_cmp a b) rest ≡ nat_cmp n m
by_nat_then a b rest n m less same greater =
    by_ranked (a < b) (a ≡ b) (b < a) (nat_cmp a b) (ranked a b (nat_cmp a b) refl)
    (λ is h. ap (λ o. ordering_then o rest) is ∙ sym (nat_less n m (less h)))
    (λ is h. ap (λ o. ordering_then o rest) is ∙ same h)
    (λ is h. ap (λ o. ordering_then o rest) is ∙ sym (nat_greater n m (greater h)))

by_nat_int : (a b : ℕ) (n m : ℤ) → (a < b → n <ℤ m) → (a ≡ b → n ≡ m) → (b < a → m <ℤ n) → nat_cmp a b ≡ int_cmp n m
by_nat_int a b n m less same greater =
    by_ranked (a < b) (a ≡ b) (b < a) (nat_cmp a b) (ranked a b (nat_cmp a b) refl)
    (λ is h. is ∙ sym (int_less n m (less h)))
    (λ is h. is ∙ sym (int_equal n m (same h)))
    (λ is h. is ∙ sym (int_greater n m (greater h)))

by_nat_then_int : (a b : ℕ) (rest : Ordering) (n m : ℤ) → (a < b → n <ℤ m) → (a ≡ b → rest ≡ int_cmp n m) → (b < a → m <ℤ n)
    → ordering_then (nat_cmp a b) rest ≡ int_cmp n m
by_nat_then_int a b rest n m less same greater =
    by_ranked (a < b) (a ≡ b) (b < a) (nat_cmp a b) (ranked a b (nat_cmp a b) refl)
    (λ is h. ap (λ o. ordering_then o rest) is ∙ sym (int_less n m (less h)))
    (λ is h. ap (λ o. ordering_then o rest) is ∙ same h)
    (λ is h. ap (λ o. ordering_then o rest) is ∙ sym (int_greater n m (greater h)))

-- year, month and day in turn order dates as their day numbers do
pub date_cmp : (a b : Date) (rest : Ordering) → rest ≡ Equal
    → ordering_then (int_cmp a.year b.year) (ordering_then (nat_cmp (month_number a.month) (month_number b.month)) (ordering_then (nat_cmp a.day b.day) rest))
    ≡ nat_cmp (day_number greatest_year a) (day_number greatest_year b)
date_cmp a b rest none =
    let Y = greatest_year in
    let m = month_number a.month in
    let n = month_number b.month in
    let p = ordinal_in a in
    let q = ordinal_in b in
    by_int_then a.year b.year _ (day_number Y a) (day_number Y b)
    (λ lt. omega (arith, p, q, year_start_later Y a.year b.year refl a.year_in.0 lt))
    (λ year.
    let start = ap (year_start Y) year in
    let mine = ap (λ y. ordinal_of y m a.day) year in
    let other = ap (λ y. ordinal_of y n b.day) year in
    by_nat_then m n _ (day_number Y a) (day_number Y b)
    (λ lt.
    let places = ordinal_later a.year m a.day n b.day (month_number_in a.month) (month_number_in b.month) a.day_in.1 b.day_in.0 lt in
    omega (arith, start, mine, other, p, q, places))
    (λ month.
    let before = ap (λ k. days_of_months a.year (k - 1)) month in
    by_nat_then a.day b.day rest (day_number Y a) (day_number Y b)
    (λ lt. omega (arith, start, mine, other, before, p, q))
    (λ same. none ∙ sym (nat_equal (day_number Y a) (day_number Y b) (omega (arith, start, mine, other, before, p, q))))
    (λ gt. omega (arith, start, mine, other, before, p, q)))
    (λ gt.
    let places = ordinal_later b.year n b.day m a.day (month_number_in b.month) (month_number_in a.month) b.day_in.1 a.day_in.0 gt in
    omega (arith, start, mine, other, p, q, places)))
    (λ gt. omega (arith, p, q, year_start_later Y b.year a.year refl b.year_in.0 gt))

-- a day and a time in turn order date-times as their nanoseconds do
pub clock_cmp : (a b : Date) (t u : Time)
    → ordering_then (nat_cmp (day_number greatest_year a) (day_number greatest_year b)) (nat_cmp (nanos_of_day t) (nanos_of_day u))
    ≡ int_cmp (clock_nanos greatest_year a t) (clock_nanos greatest_year b u)
clock_cmp a b t u =
    let first : nanos_of_day t < nanos_per_day = omega arith in
    let second : nanos_of_day u < nanos_per_day = omega arith in
    let p = clock_nanos_is a t in
    let q = clock_nanos_is b u in
    by_nat_then_int (day_number greatest_year a) (day_number greatest_year b) _ (clock_nanos greatest_year a t) (clock_nanos greatest_year b u)
    (λ lt. omega (arith, ints, p, q, first, second))
    (λ same.
    by_nat_int (nanos_of_day t) (nanos_of_day u) (clock_nanos greatest_year a t) (clock_nanos greatest_year b u)
    (λ lt. omega (arith, ints, p, q)) (λ eq. omega (arith, ints, p, q))
    (λ gt. omega (arith, ints, p, q)))
    (λ gt. omega (arith, ints, p, q, first, second))
