-- At most one cut of a text spells a component.
use Rattle.std.specs.List.{find}
use Rattle.std.specs.Str.{str_to_ascii_lowercase, bytes_eq}
use Rattle.std.proofs.Common.{◌≡◌, ◌≢◌, ℕ, ◌≤◌, List, ◌++◌, length, refl, ap, sym, ◌∙◌, arith, subst, Bool, true, false, ◌&&◌, Err, ◌+◌, [], ◌∷◌, take, drop, append_assoc, Option, Some, ◌==◌, inl, inr}
use Rattle.std.proofs.lemmas.List.{take-append-drop}
use Rattle.time_values.specs.declared.month.Month.{Month}
use Rattle.time_values.specs.Names.{month_number, month_refusal, days_from_monday, month_name, weekday_name}
use Rattle.time_values.specs.Refusal.{Constructs}
use Rattle.time_values.specs.declared.error.ComponentRange.{ComponentRange}
use Rattle.time_values.specs.declared.weekday.Weekday.{Weekday}
use Rattle.time_digits.specs.declared.Padding.{Padding}
use Rattle.time_digits.specs.Digits.{Cut, NoCut, IsPaddedRun, sign_byte, Form, AtMostOneCut, digits_value, fraction_nanoseconds}
use Rattle.time_digits.specs.declared.Padding.TheVariants.{Zero}
use Rattle.time_digits.specs.declared.Sign.{Sign}
use Rattle.time_digits.proofs.Runs.{IsPaddedRun-unique, IsDigitRun-unique}
use Rattle.time_digits.proofs.WordBytes.{IsUnique, IsUnique-cut}
use Rattle.time_components.specs.ShortNames.{IsLetters, folded}
use Rattle.time_components.specs.Spelling.{IsNamed, period_name, Value, HasMappedValue, number, period, IsNameOf, IsPositiveRun, IsNumberOf, SpellsYear, SpellsCentury, SpellsTimestamp, IsSigned, Spells, IsShortOf, IsDigitOf, IsFractionRun, least_digits, most_digits, first_digit, days_from_sunday, month as spelling_month, weekday, positive, signed_value, flagged_value, scaled_value}
use Rattle.time_components.specs.declared.format_description.Period.{Period}
use Rattle.time_components.specs.declared.format_description.Period.TheVariants.{Am, Pm}
use Rattle.time_components.specs.declared.format_description.Component.{Component}
use Rattle.time_components.specs.declared.format_description.Component.TheVariants as component
use Rattle.time_components.proofs.NumberLemmas.{each_month, each_weekday, months, weekdays, no_sign_first, sign_byte-one}
use Rattle.time_components.proofs.NameLemmas.{IsNamed-length, same_front, IsNamed-parts, Told, told_apart, same_name, months_told, weekdays_told}

-- ---- Results of the parsers of components

-- two runs at the start of one input have one value
other_run : (padding : Padding) (least most : ℕ) (input rest text rest' : List ℕ) (n m : ℕ)
    → Cut (IsPaddedRun padding least most) input rest n → input ≡ text ++ rest' → IsPaddedRun padding least most text rest' m → m ≡ n
other_run padding least most input rest text rest' n m cut e run =
    (IsPaddedRun-unique padding least most text cut.0 rest' rest m n run cut.2 (sym e ∙ cut.1)).1

-- a run of 0
pub no_positive : (padding : Padding) (places : ℕ) (input rest : List ℕ) (n : ℕ) → n ≡ 0
    → Cut (IsPaddedRun padding places places) input rest n → NoCut (HasMappedValue number (IsPositiveRun padding places)) input
no_positive padding places input rest n none cut = λ text rest' v e s.
    let same = other_run padding places places input rest text rest' n s.0 cut e s.2.0 in
    let positive = s.2.1 in
    omega arith

-- a run whose value is no value's number
pub no_number : {A : Type 0} (says : A → Value) (number_of : A → ℕ) (padding : Padding) (input rest : List ℕ) (n : ℕ)
    → ((a : A) → number_of a ≢ n) → Cut (IsPaddedRun padding 2 2) input rest n → NoCut (HasMappedValue says (IsNumberOf padding number_of)) input
no_number says number_of padding input rest n none cut =
    λ text rest' v e s. none s.0 (other_run padding 2 2 input rest text rest' n (number_of s.0) cut e s.2)

pub month_number-positive : (month : Month) → 1 ≤ month_number month
month_number-positive = each_month (λ m. 1 ≤ month_number m) (
  omega arith,
  omega arith,
  omega arith,
  omega arith,
  omega arith,
  omega arith,
  omega arith,
  omega arith,
  omega arith,
  omega arith,
  omega arith,
  omega arith,
)

month_taken : (P : Month → Type 0) (e : ComponentRange) (month : Month) → Constructs (month_refusal (month_number month)) P (Err e) → ⊥
month_taken P e = each_month (λ m. Constructs (month_refusal (month_number m)) P (Err e) → ⊥)
    (λ h. h, λ h. h, λ h. h, λ h. h, λ h. h, λ h. h, λ h. h, λ h. h, λ h. h, λ h. h, λ h. h, λ h. h)

-- a number that is rejected is no month's number
pub month_refused : (P : Month → Type 0) (n : ℕ) (e : ComponentRange) → Constructs (month_refusal n) P (Err e) → (month : Month) → month_number month ≢ n
month_refused P n e h month same = month_taken P e month (subst (λ k. Constructs (month_refusal k) P (Err e)) (sym same) h)

-- two letters that name a half of the day, in the parser's case
pub period_letters : (upper case_sensitive : Bool) (period : Period) (text : List ℕ)
    → IsNamed case_sensitive (period_name upper period) text → folded case_sensitive text ≡ period_name (upper && case_sensitive) period
period_letters true true Am text h = h
period_letters true true Pm text h = h
period_letters true false Am text h = h
period_letters true false Pm text h = h
period_letters false true Am text h = h
period_letters false true Pm text h = h
period_letters false false Am text h = h
period_letters false false Pm text h = h

pub period_name-length : (upper : Bool) (period : Period) → length (period_name upper period) ≡ 2
period_name-length true Am = refl
period_name-length true Pm = refl
period_name-length false Am = refl
period_name-length false Pm = refl

-- fewer than two bytes
pub no_letters : (upper case_sensitive : Bool) (input : List ℕ) → NoCut (IsLetters case_sensitive) input
    → NoCut (HasMappedValue period (IsNameOf case_sensitive (period_name upper))) input
no_letters upper case_sensitive input none =
    λ text rest v e s. none text rest (folded case_sensitive text) e
    (IsNamed-length case_sensitive (period_name upper s.0) text s.2 ∙ period_name-length upper s.0, refl)

-- two letters that don't name a half of the day
pub no_period : (upper case_sensitive : Bool) (input rest letters : List ℕ) → Cut (IsLetters case_sensitive) input rest letters
    → ((period : Period) → letters ≢ period_name (upper && case_sensitive) period)
    → NoCut (HasMappedValue period (IsNameOf case_sensitive (period_name upper))) input
no_period upper case_sensitive input rest letters cut none = λ text rest' v e s.
    let two : length text ≡ 2 = IsNamed-length case_sensitive (period_name upper s.0) text s.2 ∙ period_name-length upper s.0 in
    let same = same_front text cut.0 rest' rest (two ∙ sym cut.2.0) (sym e ∙ cut.1) in
    none s.0 (cut.2.1 ∙ ap (folded case_sensitive) (sym same.0) ∙ period_letters upper case_sensitive s.0 text s.2)

HasMappedValue-unique : {A : Type 0} (says : A → Value) (S : Form A) → IsUnique S → IsUnique (HasMappedValue says S)
HasMappedValue-unique says S unique a b x y v w p q e =
    let is = unique a b x y p.0 q.0 p.2 q.2 e in
    (is.0, p.1 ∙ ap says is.1 ∙ sym q.1)

same_signed : (v w : Sign × ℕ) → v.0 ≡ w.0 → v.1 ≡ w.1 → v ≡ w
same_signed v w s n = ap (λ sign. (sign, v.1)) s ∙ ap (λ m. (w.0, m)) n

IsSigned-unique : (mandatory : Bool) (behind : Form ℕ) (padding : Padding) (least most : ℕ)
    → 1 ≤ least → IsUnique behind → IsUnique (IsSigned mandatory behind (IsPaddedRun padding least most))
IsSigned-unique mandatory behind padding least most h unique a b x y v w (inl (tail, cut, run)) (inl (tail', cut', run')) e =
    let whole : sign_byte v.0 ∷ (tail ++ x) ≡ sign_byte w.0 ∷ (tail' ++ y) =
    ap (λ u. u ++ x) (sym cut) ∙ e ∙ ap (λ u. u ++ y) cut' in
    let heads : sign_byte v.0 ≡ sign_byte w.0 = cc in
    let tails : tail ++ x ≡ tail' ++ y = cc in
    let same = unique tail tail' x y v.1 w.1 run run' tails in
    (same.0, same_signed v w (sign_byte-one v.0 w.0 heads) same.1)
IsSigned-unique mandatory behind padding least most h unique a b x y v w (inl (tail, cut, run)) (inr (free, plus, run')) e =
    absurd (no_sign_first padding least most b y (tail ++ x) w.1 v.0 h run' (sym e ∙ ap (λ u. u ++ x) cut))
IsSigned-unique mandatory behind padding least most h unique a b x y v w (inr (free, plus, run)) (inl (tail', cut', run')) e =
    absurd (no_sign_first padding least most a x (tail' ++ y) v.1 w.0 h run (e ∙ ap (λ u. u ++ y) cut'))
IsSigned-unique mandatory behind padding least most h unique a b x y v w (inr (free, plus, run)) (inr (free', plus', run')) e =
    let same = IsPaddedRun-unique padding least most a b x y v.1 w.1 run run' e in
    (same.0, same_signed v w (plus ∙ sym plus') same.1)

signed_run-unique : (says : Sign × ℕ → Value) (mandatory : Bool) (p q : Padding) (least most least' most' : ℕ) → 1 ≤ least'
    → IsUnique (HasMappedValue says (IsSigned mandatory (IsPaddedRun p least most) (IsPaddedRun q least' most')))
signed_run-unique says mandatory p q least most least' most' h =
    HasMappedValue-unique says (IsSigned mandatory (IsPaddedRun p least most) (IsPaddedRun q least' most'))
    (IsSigned-unique mandatory (IsPaddedRun p least most) q least' most' h (IsPaddedRun-unique p least most))

SpellsYear-unique : (mandatory : Bool) (padding : Padding) (most : ℕ) → IsUnique (SpellsYear mandatory padding most)
SpellsYear-unique mandatory padding most = signed_run-unique signed_value mandatory padding padding 4 most 4 4 (omega arith)

SpellsCentury-unique : (mandatory : Bool) (padding : Padding) (most : ℕ) → IsUnique (SpellsCentury mandatory padding most)
SpellsCentury-unique mandatory padding most = signed_run-unique flagged_value mandatory padding Zero 2 most 1 2 (omega arith)

SpellsTimestamp-unique : (unit : ℕ) (mandatory : Bool) (most : ℕ) → IsUnique (SpellsTimestamp unit mandatory most)
SpellsTimestamp-unique unit mandatory most = signed_run-unique (scaled_value unit) mandatory Zero Zero 1 most 1 most (omega arith)

IsPositiveRun-unique : (padding : Padding) (places : ℕ) → IsUnique (IsPositiveRun padding places)
IsPositiveRun-unique padding places a b x y v w p q = IsPaddedRun-unique padding places places a b x y v w p.0 q.0

IsFractionRun-unique : (least most : ℕ) → IsUnique (IsFractionRun least most)
IsFractionRun-unique least most a b x y v w p q e =
    let same = IsDigitRun-unique least least most a b x y (digits_value a) (digits_value b) p.0 q.0 e in
    (same.1, p.1 ∙ ap fraction_nanoseconds same.0 ∙ sym q.1)

IsNumberOf-unique : {A : Type 0} (padding : Padding) (number_of : A → ℕ) → ((v w : A) → number_of v ≡ number_of w → v ≡ w)
    → IsUnique (IsNumberOf padding number_of)
IsNumberOf-unique padding number_of apart a b x y v w p q e =
    let same = IsPaddedRun-unique padding 2 2 a b x y (number_of v) (number_of w) p q e in
    (same.0, apart v w same.1)

IsDigitOf-unique : {A : Type 0} (one_indexed : Bool) (number_of : A → ℕ) → ((v w : A) → number_of v ≡ number_of w → v ≡ w)
    → IsUnique (IsDigitOf one_indexed number_of)
IsDigitOf-unique one_indexed number_of apart a b x y v w p q e =
    let whole : (first_digit one_indexed + number_of v) ∷ x ≡ (first_digit one_indexed + number_of w) ∷ y =
    ap (λ u. u ++ x) (sym p) ∙ e ∙ ap (λ u. u ++ y) q in
    let heads : first_digit one_indexed + number_of v ≡ first_digit one_indexed + number_of w = cc in
    let tails : x ≡ y = cc in
    (tails, apart v w (omega arith))

-- names whose first three letters differ
IsNameOf-unique : {A : Type 0} (case_sensitive : Bool) (name_of : A → List ℕ) → Told (λ v. take 3 (name_of v)) 3 → IsUnique (IsNameOf case_sensitive name_of)
IsNameOf-unique case_sensitive name_of told a b x y v w p q e =
    let parts : (u : _) → take 3 (name_of u) ++ drop 3 (name_of u) ≡ name_of u = λ u. take-append-drop 3 (name_of u) in
    let first = IsNamed-parts case_sensitive (take 3 (name_of v)) (drop 3 (name_of v)) a (subst (λ n. IsNamed case_sensitive n a) (sym (parts v)) p) in
    let second = IsNamed-parts case_sensitive (take 3 (name_of w)) (drop 3 (name_of w)) b (subst (λ n. IsNamed case_sensitive n b) (sym (parts w)) q) in
    let whole : first.front ++ (first.back ++ x) ≡ second.front ++ (second.back ++ y) =
    sym (append_assoc first.front first.back x) ∙ ap (λ u. u ++ x) (sym first.cut) ∙ e ∙ ap (λ u. u ++ y) second.cut
    ∙ append_assoc second.front second.back y in
    let is : v ≡ w = (same_name case_sensitive (λ u. take 3 (name_of u)) 3 told first.front second.front (first.back ++ x)
    (second.back ++ y) v w first.first second.first whole).1 in
    let long : length a ≡ length b =
    IsNamed-length case_sensitive (name_of v) a p ∙ ap (λ u. length (name_of u)) is
    ∙ sym (IsNamed-length case_sensitive (name_of w) b q) in
    ((same_front a b x y long e).1, is)

abbrev period_key : Bool → Period → List ℕ
period_key upper v = str_to_ascii_lowercase (period_name upper v)

abbrev period_of : Bool → List ℕ → Option Period
period_of upper k = find (λ v. bytes_eq (period_key upper v) k) (Am ∷ Pm ∷ [])

period_of-key : (upper : Bool) (v : Period) → period_of upper (period_key upper v) ≡ Some v
period_of-key true Am = refl
period_of-key true Pm = refl
period_of-key false Am = refl
period_of-key false Pm = refl

periods_told : (upper : Bool) → Told (period_name upper) 2
periods_told upper = record { length_is = period_name-length upper; apart = told_apart (period_key upper) (period_of upper) (period_of-key upper) }

month_number-one : (v w : Month) → month_number v ≡ month_number w → v ≡ w
month_number-one =
    let of : ℕ → Option Month = λ n. find (λ m. month_number m == n) months in
    told_apart month_number of (each_month (λ m. of (month_number m) ≡ Some m) (refl, refl, refl, refl, refl, refl, refl, refl, refl, refl, refl, refl))

days_from_monday-one : (v w : Weekday) → days_from_monday v ≡ days_from_monday w → v ≡ w
days_from_monday-one =
    let of : ℕ → Option Weekday = λ n. find (λ d. days_from_monday d == n) weekdays in
    told_apart days_from_monday of (each_weekday (λ d. of (days_from_monday d) ≡ Some d) (refl, refl, refl, refl, refl, refl, refl))

days_from_sunday-one : (v w : Weekday) → days_from_sunday v ≡ days_from_sunday w → v ≡ w
days_from_sunday-one =
    let of : ℕ → Option Weekday = λ n. find (λ d. days_from_sunday d == n) weekdays in
    told_apart days_from_sunday of (each_weekday (λ d. of (days_from_sunday d) ≡ Some d) (refl, refl, refl, refl, refl, refl, refl))

two_places-unique : (says : ℕ → Value) (padding : Padding) → IsUnique (HasMappedValue says (IsPaddedRun padding 2 2))
two_places-unique says padding = HasMappedValue-unique says (IsPaddedRun padding 2 2) (IsPaddedRun-unique padding 2 2)

-- two spellings at the start of one input leave one rest and have one value
pub Spells-unique : (whole : Bool) (c : Component) → IsUnique (Spells whole c)
Spells-unique whole (component.Day m) = HasMappedValue-unique number (IsPositiveRun m.padding 2) (IsPositiveRun-unique m.padding 2)
Spells-unique whole (component.MonthShort m) =
    HasMappedValue-unique spelling_month (IsShortOf m.case_sensitive month_name) (same_name m.case_sensitive (λ v. take 3 (month_name v)) 3 months_told)
Spells-unique whole (component.MonthLong m) =
    HasMappedValue-unique spelling_month (IsNameOf m.case_sensitive month_name) (IsNameOf-unique m.case_sensitive month_name months_told)
Spells-unique whole (component.MonthNumerical m) =
    HasMappedValue-unique spelling_month (IsNumberOf m.padding month_number) (IsNumberOf-unique m.padding month_number month_number-one)
Spells-unique whole (component.Ordinal m) = HasMappedValue-unique number (IsPositiveRun m.padding 3) (IsPositiveRun-unique m.padding 3)
Spells-unique whole (component.WeekdayShort m) =
    HasMappedValue-unique weekday (IsShortOf m.case_sensitive weekday_name)
    (same_name m.case_sensitive (λ v. take 3 (weekday_name v)) 3 weekdays_told)
Spells-unique whole (component.WeekdayLong m) =
    HasMappedValue-unique weekday (IsNameOf m.case_sensitive weekday_name) (IsNameOf-unique m.case_sensitive weekday_name weekdays_told)
Spells-unique whole (component.WeekdaySunday m) =
    HasMappedValue-unique weekday (IsDigitOf m.one_indexed days_from_sunday) (IsDigitOf-unique m.one_indexed days_from_sunday days_from_sunday-one)
Spells-unique whole (component.WeekdayMonday m) =
    HasMappedValue-unique weekday (IsDigitOf m.one_indexed days_from_monday) (IsDigitOf-unique m.one_indexed days_from_monday days_from_monday-one)
Spells-unique whole (component.WeekNumberIso m) = two_places-unique number m.padding
Spells-unique whole (component.WeekNumberSunday m) = two_places-unique number m.padding
Spells-unique whole (component.WeekNumberMonday m) = two_places-unique number m.padding
Spells-unique whole (component.CalendarYearFullExtendedRange m) = SpellsYear-unique m.sign_is_mandatory m.padding 6
Spells-unique whole (component.CalendarYearFullStandardRange m) = SpellsYear-unique m.sign_is_mandatory m.padding 4
Spells-unique whole (component.IsoYearFullExtendedRange m) = SpellsYear-unique m.sign_is_mandatory m.padding 6
Spells-unique whole (component.IsoYearFullStandardRange m) = SpellsYear-unique m.sign_is_mandatory m.padding 4
Spells-unique whole (component.CalendarYearCenturyExtendedRange m) = SpellsCentury-unique m.sign_is_mandatory m.padding 4
Spells-unique whole (component.CalendarYearCenturyStandardRange m) = SpellsCentury-unique m.sign_is_mandatory m.padding 2
Spells-unique whole (component.IsoYearCenturyExtendedRange m) = SpellsCentury-unique m.sign_is_mandatory m.padding 4
Spells-unique whole (component.IsoYearCenturyStandardRange m) = SpellsCentury-unique m.sign_is_mandatory m.padding 2
Spells-unique whole (component.CalendarYearLastTwo m) = two_places-unique number m.padding
Spells-unique whole (component.IsoYearLastTwo m) = two_places-unique number m.padding
Spells-unique whole (component.Hour12 m) = two_places-unique number m.padding
Spells-unique whole (component.Hour24 m) = two_places-unique number m.padding
Spells-unique whole (component.Minute m) = two_places-unique number m.padding
Spells-unique whole (component.Period m) =
    HasMappedValue-unique period (IsNameOf m.case_sensitive (period_name m.is_uppercase))
    (same_name m.case_sensitive (period_name m.is_uppercase) 2 (periods_told m.is_uppercase))
Spells-unique whole (component.Second m) = two_places-unique number m.padding
Spells-unique whole (component.Subsecond m) =
    HasMappedValue-unique number (IsFractionRun (least_digits m.digits) (most_digits m.digits))
    (IsFractionRun-unique (least_digits m.digits) (most_digits m.digits))
Spells-unique whole (component.OffsetHour m) = signed_run-unique flagged_value m.sign_is_mandatory m.padding m.padding 2 2 2 2 (omega arith)
Spells-unique whole (component.OffsetMinute m) = two_places-unique positive m.padding
Spells-unique whole (component.OffsetSecond m) = two_places-unique positive m.padding
Spells-unique whole (component.Ignore m) = λ a b x y v w p q e. ((same_front a b x y (p.1 ∙ sym q.1) e).1, p.0 ∙ sym q.0)
Spells-unique whole (component.UnixTimestampSecond m) = SpellsTimestamp-unique 1000000000 m.sign_is_mandatory 14
Spells-unique whole (component.UnixTimestampMillisecond m) = SpellsTimestamp-unique 1000000 m.sign_is_mandatory 17
Spells-unique whole (component.UnixTimestampMicrosecond m) = SpellsTimestamp-unique 1000 m.sign_is_mandatory 20
Spells-unique whole (component.UnixTimestampNanosecond m) = SpellsTimestamp-unique 1 m.sign_is_mandatory 23
Spells-unique whole (component.End m) = λ a b x y v w p q e. (p.1 ∙ sym q.1, p.0 ∙ sym q.0)

pub one_spelling : (whole : Bool) (c : Component) → AtMostOneCut (Spells whole c)
one_spelling whole c = IsUnique-cut (Spells whole c) (Spells-unique whole c)
