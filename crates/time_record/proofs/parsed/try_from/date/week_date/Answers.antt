use Rattle.std.proofs.Common.{◌≡◌, ℕ, ◌+◌, ◌-◌, ◌*◌, ◌%◌, ◌<◌, ◌≤◌, true, Result, MatchResult, IsTrue, ap, arith, ℤ, codes, Ok, Err, refl, w32, FitsSigned}
use Rattle.std.proofs.lemmas.Result.{MatchResult-weaker, err_from_is_err_and}
use Rattle.std.proofs.lemmas.Int.{to_z-of_z}
use Rattle.time_values.specs.declared.date.Date.{Date}
use Rattle.time_values.specs.declared.error.ComponentRange.{ComponentRange}
use Rattle.time_values.specs.Calendar.{weekdays_in, year_start, greatest_year}
use Rattle.time_values.specs.Dates.{is_year, ordinal_date_refusal, ordinal, weekday}
use Rattle.time_values.specs.Refusal.{Constructs, range}
use Rattle.time_values.specs.Names.{days_from_monday}
use Rattle.time_values.proofs.InstantLemmas.{ordinal_in}
use Rattle.time_values.proofs.YearLemmas.{weekdays_in_closed}
use Rattle.time_values.proofs.NumberLemmas.{days_from_monday_in, Constructs-Ok}
use Rattle.time_record.specs.Resolution.{IsWeekDate}
use Rattle.time_record.proofs.ComponentLemmas.{IsRowDate-ordinal, range_seen}
use Rattle.time_record.proofs.parsed.try_from.date.week_date.Goals as goal
use Rattle.time_record.proofs.parsed.try_from.date.week_date.Goals.{After-days_since-2}

-- ---- The place of a day in its year, from its week and weekday

-- the place, counted so that 1 January is 8, of a week and weekday, if weeks begin on the weekday `start` and 1 January has the weekday `first`
abbrev week_place : (first start week w : ℕ) → ℕ
week_place first start week w = (start + 7 - first) % 7 + 1 + 7 * week + (w + 7 - start) % 7

-- a day is at the place of its week and weekday
place_of_week : (begin n start week w : ℕ) → 1 ≤ n → start < 7 → weekdays_in start begin n ≡ week →
    (begin + (n - 1)) % 7 ≡ w → n + 7 ≡ week_place (begin % 7) start week w
place_of_week begin n start week w low small count day =
    omega (arith, weekdays_in_closed start begin n small)

-- and the day at that place has that week and weekday
week_of_place : (begin n start week w : ℕ) → 1 ≤ n → start < 7 → w < 7 →
    n + 7 ≡ week_place (begin % 7) start week w → (weekdays_in start begin n ≡ week) × ((begin + (n - 1)) % 7 ≡ w)
week_of_place begin n start week w low small within e =
    (omega (arith, weekdays_in_closed start begin n small), omega arith)

-- the place in a year
abbrev place_in_year : (y : ℤ) (start week w : ℕ) → ℕ
place_in_year y start week w = week_place (year_start greatest_year y % 7) start week w

-- a date is at the place of its week and weekday
place_of_date : (y : ℤ) (start week w : ℕ) (d : Date) → start < 7 → IsWeekDate greatest_year start y week w d →
    ordinal d + 7 ≡ place_in_year y start week w
place_of_date y start week w d small h =
    let begin = year_start greatest_year d.year in
    let place = place_of_week begin (ordinal d) start week w (ordinal_in d).0 small h.1 h.2 in
    omega (arith, ap (year_start greatest_year) h.0)

date_of_place : (y : ℤ) (start week w : ℕ) (d : Date) → start < 7 → w < 7 → d.year ≡ y →
    ordinal d + 7 ≡ place_in_year y start week w → IsWeekDate greatest_year start y week w d
date_of_place y start week w d small within year e =
    let begin = year_start greatest_year d.year in
    let here : ordinal d + 7 ≡ week_place (begin % 7) start week w = omega (arith, ap (year_start greatest_year) year) in
    let found = week_of_place begin (ordinal d) start week w (ordinal_in d).0 small within here in
    (year, found.0, found.1, d.year_in)

-- the place that the code computes from the weekday of the first day
week_place_is : (y : ℤ) (d : Date) (first since days week start w : ℕ) → (d.year ≡ y) × (ordinal d ≡ 1) →
    first ≡ weekday greatest_year d → since ≡ (start + 7 - first) % 7 → days ≡ (w + 7 - start) % 7 →
    since + 1 + 7 * week + days ≡ place_in_year y start week w
week_place_is y d first since days week start w h is e f =
    let g : first ≡ year_start greatest_year y % 7 = omega (arith, ap (year_start greatest_year) h.0) in
    rw (e, f, g)

-- no date is at a place before the first of January
no_early_week : (y : ℤ) (start week w place : ℕ) → start < 7 → place ≡ place_in_year y start week w → place ≤ 7 →
    (d : Date) → IsWeekDate greatest_year start y week w d → ⊥
no_early_week y start week w place small e low d h =
    omega (arith, place_of_date y start week w d small h, ordinal_in d)

-- and from there on the constructor decides
week_date_seen : (y : ℤ) (start week w n : ℕ) (r : Result Date ComponentRange) → start < 7 → w < 7 →
    IsTrue (is_year greatest_year y) → n + 7 ≡ place_in_year y start week w →
    Constructs (ordinal_date_refusal greatest_year y n) (λ (d : Date). (d.year ≡ y) × (ordinal d ≡ n)) r →
    MatchResult (range_seen r) (IsWeekDate greatest_year start y week w)
    (λ e. ((d : Date) → IsWeekDate greatest_year start y week w d → ⊥) × (e ≡ range (codes "ordinal") true))
week_date_seen y start week w n r small within year e a =
    MatchResult-weaker (range_seen r) (IsRowDate-ordinal greatest_year y n r year a)
    (λ d h. date_of_place y start week w d small within h.0 (omega (arith, h.1)))
    (λ e' h. (λ d k. h.0 d (k.0, omega (arith, place_of_date y start week w d small k), k.3), h.1))

-- the place that the code computes is the one of the week and weekday
place_is : (c : After-days_since-2) → c.days_since.result + 1 + 7 * c.args.week + c.days_since-2.result ≡
    place_in_year c.args.year (days_from_monday c.args.start) c.args.week (days_from_monday c.args.weekday)
place_is c =
    let y = c.args.year in
    let fits : FitsSigned w32 y = c.ranges.year in
    let day = c.in_ok-from_ordinal_date.field-0 in
    let made = simp to_z-of_z at c.in_ok-from_ordinal_date.ensures in
    let first = Constructs-Ok (ordinal_date_refusal greatest_year y 1) (λ (d : Date). (d.year ≡ y) × (ordinal d ≡ 1)) day made in
    week_place_is y day _ _ _ c.args.week _ _ first.1 c.weekday-first.ensures c.days_since.ensures c.days_since-2.ensures

pub returns-then-shifted-le7 : goal.returns-then-shifted-le7
returns-then-shifted-le7 c =
    let is = place_is (goal.at.returns-then-shifted-le7 c).After-days_since-2 in
    (no_early_week _ _ _ _ _ (days_from_monday_in c.args.start) is c.if-shifted-le7.true, refl)

pub returns-in_err-from_ordinal_date-2 : goal.returns-in_err-from_ordinal_date-2
returns-in_err-from_ordinal_date-2 c =
    let fits : FitsSigned w32 c.args.year = c.ranges.year in
    let start = days_from_monday c.args.start in
    let w = days_from_monday c.args.weekday in
    let small = days_from_monday_in c.args.start in
    let within = days_from_monday_in c.args.weekday in
    let place = c.days_since.result + 1 + 7 * c.args.week + c.days_since-2.result in
    let is = place_is (goal.at.returns-in_err-from_ordinal_date-2 c).After-days_since-2 in
    let p = err_from_is_err_and c.from_residual-in_err-from_ordinal_date-2.result c.from_residual-in_err-from_ordinal_date-2.ensures.1 in
    let at : place - 7 + 7 ≡ place_in_year c.args.year start c.args.week w = omega (arith, c.if-shifted-le7.false) in
    let refused = simp to_z-of_z at c.in_err-from_ordinal_date-2.ensures in
    let error = Err c.in_err-from_ordinal_date-2.field-0.0 in
    rw (p.1, p.2) (week_date_seen c.args.year start c.args.week w (place - 7) error small within c.requires at refused)

pub returns : goal.returns
returns c =
    let fits : FitsSigned w32 c.args.year = c.ranges.year in
    let start = days_from_monday c.args.start in
    let w = days_from_monday c.args.weekday in
    let small = days_from_monday_in c.args.start in
    let within = days_from_monday_in c.args.weekday in
    let place = c.days_since.result + 1 + 7 * c.args.week + c.days_since-2.result in
    let is = place_is (goal.at.returns c).After-days_since-2 in
    let at : place - 7 + 7 ≡ place_in_year c.args.year start c.args.week w = omega (arith, c.if-shifted-le7.false) in
    let made = simp to_z-of_z at c.in_ok-from_ordinal_date-2.ensures in
    let date = Ok c.in_ok-from_ordinal_date-2.field-0 in
    week_date_seen c.args.year start c.args.week w (place - 7) date small within c.requires at made
