-- Known texts and their values: with a wrong rule in the specs, these don't check.
use Rattle.std.proofs.Common.{◌≡◌, ◌≢◌, ◌+◌, ℕ, pos, neg_ℤ, Bool, true, false, List, [], ◌∷◌, ◌++◌, length, length-append, get_or, ◌≤◌, map, codes, Bor, inl, inr, refl, ap, sym, subst, ◌∙◌, arith, rules}
use Rattle.time_values.specs.Names.{month_number, month_name}
use Rattle.time_values.specs.declared.month.Month.TheVariants.{September}
use Rattle.time_values.specs.declared.weekday.Weekday.TheVariants.{Sunday}
use Rattle.time_digits.specs.declared.Padding.TheVariants as padding
use Rattle.time_digits.specs.declared.Sign.TheVariants.{Negative, Positive}
use Rattle.time_digits.specs.Digits.{Form, NoCut, IsSign, IsPaddedRun}
use Rattle.time_digits.proofs.StandardFacts.{no_digit_first, too_few_digits}
use Rattle.time_components.specs.Spelling.{Value, number, signed, flagged, month, weekday, period, nothing, HasMappedValue, IsNamed, IsIgnored, BeginsCharacter, period_name, signed_value, flagged_value, days_from_sunday, Spells}
use Rattle.time_components.specs.Tree.{Tree, literal, sequence, optional, first_of, none, more, trees, component as component_tree, borrowed_shape, borrowed_step, owned_shape, owned_step, v3_shape, v3_step, steps_shape, trees_in}
use Rattle.time_components.specs.declared.format_description.Component.{Component}
use Rattle.time_components.specs.declared.format_description.Component.TheVariants as component
use Rattle.time_components.specs.declared.format_description.Period.{Period}
use Rattle.time_components.specs.declared.format_description.Period.TheVariants.{Am, Pm}
use Rattle.time_components.specs.declared.format_description.BorrowedFormatItem.{BorrowedFormatItem}
use Rattle.time_components.specs.declared.format_description.BorrowedFormatItem.TheVariants as borrowed
use Rattle.time_components.specs.declared.format_description.BorrowedFormatItem.TheOpen as borrowed_layer
use Rattle.time_components.specs.declared.format_description.BorrowedFormatItem.TheFolds.{fold-roll-BorrowedFormatItem}
use Rattle.time_components.specs.declared.format_description.OwnedFormatItem.TheVariants as owned
use Rattle.time_components.specs.declared.format_description.OwnedFormatItem.TheOpen as owned_layer
use Rattle.time_components.specs.declared.format_description.OwnedFormatItem.TheFolds.{fold-roll-OwnedFormatItem}
use Rattle.time_components.specs.declared.format_description.FormatDescriptionV3Inner.TheVariants as v3
use Rattle.time_components.specs.declared.format_description.FormatDescriptionV3Inner.TheOpen as v3_layer
use Rattle.time_components.specs.declared.format_description.FormatDescriptionV3Inner.TheFolds.{fold-roll-FormatDescriptionV3Inner}
use Rattle.time_components.specs.declared.inspect.Step.TheVariants as step
use Rattle.time_components.specs.declared.inspect.Group.TheVariants as groups
use Rattle.time_components.specs.declared.modifier.SubsecondDigits.TheVariants.{Nine, OneOrMore}
use Rattle.time_components.specs.declared.modifier.TrailingInput.TheVariants.{Prohibit, Discard}
use Rattle.time_components.proofs.NumberLemmas.{each_month, no_signed, no_unsigned}
use Rattle.time_components.proofs.NameLemmas.{IsNamed-length, same_front, months_titled, no_ending}
use Rattle.time_components.proofs.OneSpelling.{no_positive, no_number, no_period, Spells-unique}

-- ---- Components of these facts

abbrev day : Component
day = component.Day (record { padding = padding.Zero })

abbrev long_month : Component
long_month = component.MonthLong (record { case_sensitive = false })

abbrev short_month : Component
short_month = component.MonthShort (record { case_sensitive = false })

abbrev numerical_month : Component
numerical_month = component.MonthNumerical (record { padding = padding.Zero })

abbrev one_indexed_weekday : Component
one_indexed_weekday = component.WeekdaySunday (record { one_indexed = true })

abbrev extended_year : Component
extended_year = component.CalendarYearFullExtendedRange (record { padding = padding.Zero; sign_is_mandatory = false })

abbrev signed_year : Component
signed_year = component.CalendarYearFullStandardRange (record { padding = padding.Zero; sign_is_mandatory = true })

abbrev century : Component
century = component.CalendarYearCenturyStandardRange (record { padding = padding.Zero; sign_is_mandatory = false })

abbrev offset_hour : Component
offset_hour = component.OffsetHour (record { padding = padding.Zero; sign_is_mandatory = false })

abbrev unix_second : Component
unix_second = component.UnixTimestampSecond (record { sign_is_mandatory = false })

abbrev nine_digits : Component
nine_digits = component.Subsecond (record { digits = Nine })

abbrev any_digits : Component
any_digits = component.Subsecond (record { digits = OneOrMore })

abbrev one_byte : Component
one_byte = component.Ignore (record { count = record { value = 1; ok = omega arith } })

abbrev three_bytes : Component
three_bytes = component.Ignore (record { count = record { value = 3; ok = omega arith } })

-- ---- Numbers

pub two_digit_day : Spells false day (codes "07") (codes "x") (number 7)
two_digit_day = (7, refl, search rules)

pub day_with_a_space : Spells false (component.Day (record { padding = padding.Space })) (codes " 7") [] (number 7)
day_with_a_space = (
  7,
  refl,
  (record { spaces = 1; digits = codes "7"; cut = refl; few = search rules; all = search rules; run = search rules }, omega arith),
)

pub sunday_is_the_first_day : Spells false one_indexed_weekday (codes "1") [] (weekday Sunday)
sunday_is_the_first_day = (Sunday, refl, refl)

pub first_sunday_week_is_0 : Spells false (component.WeekNumberSunday (record { padding = padding.Zero })) (codes "00") [] (number 0)
first_sunday_week_is_0 = (0, refl, search rules)

pub zero_day : NoCut (Spells false day) (codes "00")
zero_day = no_positive padding.Zero 2 (codes "00") [] 0 refl (codes "00", refl, search rules)

pub thirteenth_month : NoCut (Spells false numerical_month) (codes "13")
thirteenth_month =
    no_number month month_number padding.Zero (codes "13") [] 13
    (each_month (λ m. month_number m ≢ 13) (
      λ e. omega arith,
      λ e. omega arith,
      λ e. omega arith,
      λ e. omega arith,
      λ e. omega arith,
      λ e. omega arith,
      λ e. omega arith,
      λ e. omega arith,
      λ e. omega arith,
      λ e. omega arith,
      λ e. omega arith,
      λ e. omega arith,
    ))
    (codes "13", refl, search rules)

-- bytes that don't begin with a weekday's digit
other_digit : (c : ℕ) (cs : List ℕ) → ((n : ℕ) → n ≤ 6 → 49 + n ≢ c) → NoCut (Spells false one_indexed_weekday) (c ∷ cs)
other_digit c cs other text rest v e s =
    let whole : c ∷ cs ≡ (49 + days_from_sunday s.0) ∷ rest = e ∙ ap (λ t. t ++ rest) s.2 in
    let head : 49 + days_from_sunday s.0 ≡ c = cc in
    other (days_from_sunday s.0) (omega arith) head

pub zero_is_no_one_indexed_day : NoCut (Spells false one_indexed_weekday) (codes "0")
zero_is_no_one_indexed_day = other_digit 48 [] (λ n h e. omega arith)

pub eight_is_no_one_indexed_day : NoCut (Spells false one_indexed_weekday) (codes "8")
eight_is_no_one_indexed_day = other_digit 56 [] (λ n h e. omega arith)

-- ---- Numbers with a sign

pub four_digits_without_a_sign : Spells false extended_year (codes "2021") (codes "5") (signed (pos 2021))
four_digits_without_a_sign = ((Positive, 2021), refl, inr (refl, refl, search rules))

pub six_digits_behind_a_sign : Spells false extended_year (codes "+012345") [] (signed (pos 12345))
six_digits_behind_a_sign = ((Positive, 12345), refl, inl (codes "012345", refl, search rules))

pub one_digit_century : Spells false century (codes "5") (codes "x") (flagged (pos 5) false)
one_digit_century = ((Positive, 5), refl, inr (refl, refl, search rules))

pub minus_of_century_0 : Spells false century (codes "-00") [] (flagged (pos 0) true)
minus_of_century_0 = ((Negative, 0), refl, inl (codes "00", refl, search rules))

pub minus_of_offset_hour_0 : Spells false offset_hour (codes "-00") (codes "30") (flagged (pos 0) true)
minus_of_offset_hour_0 = ((Negative, 0), refl, inl (codes "00", refl, search rules))

pub fourteen_digits_of_a_timestamp : Spells false unix_second (codes "00000000000000") (codes "1") (signed (pos 0))
fourteen_digits_of_a_timestamp = ((Positive, 0), refl, inr (refl, refl, search rules))

pub second_before_the_epoch : Spells false unix_second (codes "-1") [] (signed (neg_ℤ (pos 1_000_000_000)))
second_before_the_epoch = ((Negative, 1), refl, inl (codes "1", refl, search rules))

pub five_digits_without_a_sign : (v : Value) → Spells false extended_year (codes "20215") [] v → ⊥
five_digits_without_a_sign v s =
    let is = Spells-unique false extended_year (codes "20215") (codes "2021") [] (codes "5") v (signed (pos 2021)) s four_digits_without_a_sign refl in
    let rest : [] ≡ codes "5" = is.0 in
    cc

pub minus_of_0_is_kept : Spells false century (codes "-00") [] (flagged (pos 0) false) → ⊥
minus_of_0_is_kept s =
    let is = Spells-unique false century (codes "-00") (codes "-00") [] [] (flagged (pos 0) false) (flagged (pos 0) true) s minus_of_century_0 refl in
    let flag : flagged (pos 0) false ≡ flagged (pos 0) true = is.1 in
    cc

-- bytes that don't begin with a text of the form spell no value
nothing_says : {A : Type 0} (says : A → Value) (S : Form A) (input : List ℕ) → NoCut S input → NoCut (HasMappedValue says S) input
nothing_says says S input missing text rest v e s = missing text rest s.0 e s.2

pub one_digit_behind_a_sign : NoCut (Spells false century) (codes "+5x")
one_digit_behind_a_sign =
    nothing_says flagged_value _ _
    (no_signed false (IsPaddedRun padding.Zero 2 2) padding.Zero 1 2 (codes "+5x") (codes "5x") Positive (omega arith)
    (codes "+", refl, refl) (too_few_digits 2 2 (codes "5") (codes "x") (search rules) (omega arith)))

pub no_sign : (c : ℕ) (cs : List ℕ) → c ≢ 45 → c ≢ 43 → NoCut IsSign (c ∷ cs)
no_sign c cs minus plus text rest Negative e s =
    let whole : c ∷ cs ≡ 45 ∷ rest = e ∙ ap (λ t. t ++ rest) s in
    minus (cc)
no_sign c cs minus plus text rest Positive e s =
    let whole : c ∷ cs ≡ 43 ∷ rest = e ∙ ap (λ t. t ++ rest) s in
    plus (cc)

pub year_without_its_sign : NoCut (Spells false signed_year) (codes "2021")
year_without_its_sign =
    nothing_says signed_value _ _
    (no_unsigned true (IsPaddedRun padding.Zero 4 4) (IsPaddedRun padding.Zero 4 4) (codes "2021")
    (no_sign 50 _ (λ e. omega arith) (λ e. omega arith)) (λ e. cc))

-- ---- Fractions of a second

pub nine_digits_count : Spells false any_digits (codes "11111111111111111111111111111111") (codes "1") (number 111_111_111)
nine_digits_count = (111_111_111, refl, (search rules, refl))

pub nine_digits_of_a_fraction : Spells false nine_digits (codes "023456789") (codes "1") (number 23_456_789)
nine_digits_of_a_fraction = (23_456_789, refl, (search rules, refl))

pub slash_in_a_fraction : NoCut (Spells false nine_digits) (codes "/234567891")
slash_in_a_fraction text rest v e s =
    no_digit_first 9 9 47 (codes "234567891") (omega arith) (λ d. omega arith) text rest _ e s.2.0

-- ---- Names

pub name_in_capitals : Spells false long_month (codes "SEPTEMBER") [] (month September)
name_in_capitals = (September, refl, refl)

pub short_name : Spells false short_month (codes "Sep") (codes "tembre") (month September)
short_name = (September, refl, refl)

pub half_of_the_day_in_any_case : Spells false (component.Period (record { is_uppercase = true; case_sensitive = false })) (codes "aM") [] (period Am)
half_of_the_day_in_any_case = (Am, refl, refl)

-- bytes that don't begin with the name
other_name : (case_sensitive : Bool) (name text rest : List ℕ) → length text ≡ length name → ¬ IsNamed case_sensitive name text
    → (t r : List ℕ) → text ++ rest ≡ t ++ r → IsNamed case_sensitive name t → ⊥
other_name case_sensitive name text rest long other t r e named =
    let same = same_front t text r rest (IsNamed-length case_sensitive name t named ∙ sym long) (sym e) in
    other (subst (IsNamed case_sensitive name) same.0 named)

other_letter : ¬ IsNamed false (codes "tember") (codes "tembre")
other_letter e =
    let fifth : ◌≡◌ {A = ℕ} 114 101 = ap (λ t. get_or t 4 0) e in
    omega arith

pub french_name : NoCut (Spells false long_month) (codes "Septembre")
french_name =
    no_ending month month_name months_titled false (codes "Septembre") (codes "tembre") (codes "tember") September refl
    (codes "Sep", refl, (September, refl, refl))
    (λ text rest v e named. other_name false (codes "tember") (codes "tembre") [] refl other_letter text rest e named)

capitals : (p : Period) → codes "AM" ≢ period_name false p
capitals Am e =
    let first : ◌≡◌ {A = ℕ} 65 97 = ap (λ t. get_or t 0 0) e in
    omega arith
capitals Pm e =
    let first : ◌≡◌ {A = ℕ} 65 112 = ap (λ t. get_or t 0 0) e in
    omega arith

pub capitals_for_small_letters : NoCut (Spells false (component.Period (record { is_uppercase = false; case_sensitive = true }))) (codes "AM")
capitals_for_small_letters = no_period false true (codes "AM") [] (codes "AM") (codes "AM", refl, (refl, refl)) capitals

-- ---- Bytes that are skipped, and the end of the input

pub first_byte_of_a_character : Spells false one_byte (195 ∷ []) (169 ∷ []) nothing
first_byte_of_a_character = (refl, refl, tt)

pub whole_character : Spells true one_byte (codes "a") (195 ∷ 169 ∷ []) nothing
whole_character = (refl, refl, search rules)

pub rest_is_dropped : Spells false (component.End (record { trailing_input = Discard })) (codes "x") [] nothing
rest_is_dropped = (refl, refl, tt)

half : NoCut (IsIgnored true 1) (195 ∷ 169 ∷ [])
half [] rest v e s = omega (arith, s.1)
half (c ∷ []) rest v e s =
    let tail : rest ≡ 169 ∷ [] = cc in
    let begins : BeginsCharacter (169 ∷ []) = subst BeginsCharacter tail s.2 in
    elim begins [ inl h ↦ omega arith | inr h ↦ omega arith ]
half (c ∷ d ∷ text) rest v e s = omega (arith, s.1)

pub half_a_character : NoCut (Spells true one_byte) (195 ∷ 169 ∷ [])
half_a_character = half

pub two_bytes_are_not_three : NoCut (Spells false three_bytes) (codes "ab")
two_bytes_are_not_three text rest v e s =
    omega (arith, s.1, ap length e, length-append text rest)

pub end_before_a_byte : NoCut (Spells false (component.End (record { trailing_input = Prohibit }))) (codes "x")
end_before_a_byte text rest v e s =
    let whole : codes "x" ≡ [] = e ∙ ap (λ t. t ++ rest) s.2 ∙ s.1 in
    cc

-- ---- Trees of descriptions

pub borrowed_component : (c : Component) → borrowed_shape (borrowed.Component c) ≡ component_tree false c
borrowed_component c =
    ap borrowed_shape (sym (borrowed.rolls-Component c)) ∙ fold-roll-BorrowedFormatItem Tree borrowed_step (borrowed_layer.Component c)

-- an `Ignore` of version 3 must end between characters
pub component_of_version_3 : (c : Component) → v3_shape (v3.Component c) ≡ component_tree true c
component_of_version_3 c =
    ap v3_shape (sym (v3.rolls-Component c)) ∙ fold-roll-FormatDescriptionV3Inner Tree v3_step (v3_layer.Component c)

pub literal_item : (text : Bor (List ℕ)) → borrowed_shape (borrowed.Literal text) ≡ literal text.now
literal_item text =
    ap borrowed_shape (sym (borrowed.rolls-Literal text)) ∙ fold-roll-BorrowedFormatItem Tree borrowed_step (borrowed_layer.Literal text)

pub optional_item : (item : Bor BorrowedFormatItem) → borrowed_shape (borrowed.Optional item) ≡ optional (borrowed_shape item.now)
optional_item item =
    ap borrowed_shape (sym (borrowed.rolls-Optional item)) ∙ fold-roll-BorrowedFormatItem Tree borrowed_step (borrowed_layer.Optional item)

pub list_of_items : (items : Bor (List BorrowedFormatItem)) → borrowed_shape (borrowed.Compound items) ≡ sequence (trees (map borrowed_shape items.now))
list_of_items items =
    ap borrowed_shape (sym (borrowed.rolls-Compound items)) ∙ fold-roll-BorrowedFormatItem Tree borrowed_step (borrowed_layer.Compound items)

pub first_of_items : (items : Bor (List BorrowedFormatItem)) → borrowed_shape (borrowed.First items) ≡ first_of (trees (map borrowed_shape items.now))
first_of_items items =
    ap borrowed_shape (sym (borrowed.rolls-First items)) ∙ fold-roll-BorrowedFormatItem Tree borrowed_step (borrowed_layer.First items)

pub owned_list : (items : _) → owned_shape (owned.Compound items) ≡ sequence (trees (map owned_shape items.items))
owned_list items = ap owned_shape (sym (owned.rolls-Compound items)) ∙ fold-roll-OwnedFormatItem Tree owned_step (owned_layer.Compound items)

pub hour_and_minute_in_steps :
    steps_shape (step.Component day ∷ step.Group groups.Optional 3 ∷ step.Literal 58 ∷ step.More 32 ∷ step.Component century ∷ [])
    ≡ sequence (more (component_tree false day) (more (optional (sequence (more (literal (codes ": ")) (more (component_tree false century) none)))) none))
unfolding trees_in
hour_and_minute_in_steps = refl

pub versions_differ_by_marks : (c : Component) → v3_shape (v3.Component c) ≢ borrowed_shape (borrowed.Component c)
versions_differ_by_marks c e =
    let marks : component_tree true c ≡ component_tree false c = sym (component_of_version_3 c) ∙ e ∙ borrowed_component c in
    cc

pub optional_item_is_not_its_part : (item : Bor BorrowedFormatItem) (text : Bor (List ℕ)) → item.now ≡ borrowed.Literal text
    → borrowed_shape (borrowed.Optional item) ≢ literal text.now
optional_item_is_not_its_part item text is e =
    let whole : optional (borrowed_shape item.now) ≡ literal text.now = sym (optional_item item) ∙ e in
    cc

pub list_is_not_first_of : (items : Bor (List BorrowedFormatItem)) → borrowed_shape (borrowed.First items) ≢ borrowed_shape (borrowed.Compound items)
list_is_not_first_of items e =
    let whole : first_of (trees (map borrowed_shape items.now)) ≡ sequence (trees (map borrowed_shape items.now)) =
    sym (first_of_items items) ∙ e ∙ list_of_items items in
    cc
