-- The text of a component parses back as the component.
use Rattle.std.specs.List.{prefix_len}
use Rattle.std.specs.Char.{is_ascii_digit}
use Rattle.std.specs.Fmt.{decimal}
use Rattle.std.specs.Prelude.{codes, if◌then◌else◌}
use Rattle.std.specs.Str.{str_eq_ignore_ascii_case}
use Rattle.std.proofs.Common.{◌≡◌, ℕ, zero, suc, ◌<◌, List, [], ◌∷◌, length, Some, refl, ap, sym, subst, arith, pred, drop, take, ◌==◌, false, Ok, Err, ◌+◌, ◌-◌, ◌*◌, ◌/◌, ◌%◌, ◌≤◌, ◌++◌, true, None, ◌∙◌, append_assoc, length-append, Bool, map, get_or, Bor}
use Rattle.std.proofs.Math.Nat.{zero-lt-suc}
use Rattle.std.proofs.lemmas.Bool.Decides.{nat_tests}
use Rattle.std.proofs.Math.Seq.{take-append_seam, drop-append_seam}
use Rattle.std.proofs.lemmas.Bool.{agree_below_at, le-ltb, ne_eqb}
use Rattle.std.proofs.lemmas.Fmt.{decimal_by_steps}
use denote.Struct.Props.{props}
use Rattle.time_digits.specs.declared.Padding.{Padding}
use Rattle.time_digits.specs.declared.Padding.TheVariants as padding
use Rattle.time_components.specs.declared.modifier.Ignore.{Ignore}
use Rattle.time_components.specs.declared.format_description.Component.{Component}
use Rattle.time_components.specs.declared.format_description.Component.TheVariants as component
use Rattle.time_components.specs.declared.modifier.SubsecondDigits.{SubsecondDigits}
use Rattle.time_components.specs.declared.modifier.SubsecondDigits.TheVariants as digits_
use Rattle.time_components.specs.declared.modifier.TrailingInput.{TrailingInput}
use Rattle.time_components.specs.declared.modifier.TrailingInput.TheVariants as trailing
use Rattle.time_descriptions.specs.Values.{ignored, count_on, is_space, is_of_word, component_names, modifier_keys, ignore_count, look_up, bases, bools, cases, digits, paddings, precisions, ranges, representations, signs, trailing_inputs}
use Rattle.time_descriptions.specs.declared.error.Fault.{Fault}
use Rattle.time_descriptions.specs.declared.modifiers.Modifiers.{Modifiers}
use Rattle.time_descriptions.specs.declared.names.ComponentName.{ComponentName}
use Rattle.time_descriptions.specs.declared.values.Modifier.{Modifier}
use Rattle.time_descriptions.specs.Components.{modifier, modifiers, bracketed}
use Rattle.time_descriptions.specs.Modifiers.{with_modifier, component_of}
use Rattle.time_descriptions.specs.declared.names.ComponentName.TheVariants as name
use Rattle.time_descriptions.specs.declared.values.Modifier.TheVariants as made
use Rattle.time_descriptions.specs.Grammar.{group_word}
use Rattle.time_descriptions.specs.Modifiers as chosen
use Rattle.time_descriptions.specs.Writing.{words_of}

-- ---- A component that skips bytes is determined by its number of bytes

ignored_make : (n : ℕ) → 0 < n → Ignore
ignored_make n p = record { count = record { value = n; ok = p } }

one_proof : (n : ℕ) (p q : 0 < n) → p ≡ q
one_proof n = hlevel props

pub ignored_of : (i : Ignore) (n : ℕ) → i.count.value ≡ n → ignored n ≡ Some i
unfolding ignored_make
ignored_of i zero e = absurd (omega (arith, e, i.count.ok))
ignored_of i (suc n) e =
    let P : ℕ → Type 0 = λ m. (p : 0 < m) → Some (ignored_make (suc n) (zero-lt-suc n)) ≡ Some (ignored_make m p) in
    subst P (sym e) (λ p. ap (λ q. Some (ignored_make (suc n) q)) (one_proof (suc n) (zero-lt-suc n) p)) i.count.ok

pub count_end : (n : ℕ) (rest : List ℕ) → length rest < 1 → count_on n rest ≡ ignored n
count_end n [] h = refl
count_end n (b ∷ rest) h = absurd (omega (arith, h))

-- ---- One step of the modifiers

is_some : (n : ℕ) → 0 < n → (n == 0) ≡ false
is_some n h = grind (arith, nat_tests)

pub below_pred : (a b n : ℕ) → a < b → b < n → a < pred n
below_pred a b zero h k = absurd (omega arith)
below_pred a b (suc n) h k = omega arith

module _ (k : ComponentName) (values : Modifiers) (text begun : List ℕ) (blank : ℕ) (b : blank ≡ prefix_len is_space text) (g : begun ≡ drop blank text) where
  -- no word follows
  pub stops : (n len : ℕ) → length text < n → len ≡ prefix_len is_of_word begun → len ≡ 0 → modifiers k n values text ≡ Ok (values, begun)
  unfolding modifiers
  stops zero len h l e = absurd (omega arith)
  stops (suc n) zero h l e = rw (← b, ← g, ← l) refl
  stops (suc n) (suc len) h l e = absurd (omega arith)

  -- a word follows that is a modifier
  pub goes : (n len : ℕ) (made : Modifier) → length text < n → len ≡ prefix_len is_of_word begun → 0 < len
      → modifier k (take len begun) (length begun) ≡ Ok made
      → modifiers k n values text ≡ modifiers k (pred n) (with_modifier values made) (drop len begun)
  unfolding modifiers
  goes zero len made h l e m = absurd (omega arith)
  goes (suc n) len made h l e m = let z = is_some len e in rw (← b, ← g, ← l, z, m) refl

  -- a word follows that isn't a modifier
  pub fails : (n len : ℕ) (fault : Fault) → length text < n → len ≡ prefix_len is_of_word begun → 0 < len
      → modifier k (take len begun) (length begun) ≡ Err fault
      → modifiers k n values text ≡ Err fault
  unfolding modifiers
  fails zero len fault h l e m = absurd (omega arith)
  fails (suc n) len fault h l e m = let z = is_some len e in rw (← b, ← g, ← l, z, m) refl

-- ---- The text of a component that skips bytes parses back as the component: its digits give its count

-- a component that a text can name
abbrev pub Fits : Component → Type 0
Fits (component.Ignore m) = m.count.value ≤ 65535
Fits _ = Unit {0}

-- the text of the component parses as the component, and opens no group
abbrev pub Back : Component → List ℕ → Type 0
Back c after =
    (bracketed (91 ∷ (words_of c ++ 93 ∷ after)) ≡ Ok (c, after)) × (group_word (91 ∷ (words_of c ++ 93 ∷ after)) ≡ None)

digit_of_word : (n : ℕ) → n < 10 → is_of_word (48 + n) ≡ true
digit_of_word n h = agree_below_at (λ n. is_of_word (48 + n)) (λ n. true) 10 n refl h

digit_is : (n : ℕ) → n < 10 → is_ascii_digit (48 + n) ≡ true
digit_is n h = agree_below_at (λ n. is_ascii_digit (48 + n)) (λ n. true) 10 n refl h

-- one more digit
count_digit : (n d m : ℕ) (rest : List ℕ) → d < 10 → m ≤ 65535 → n * 10 + d ≡ m → count_on n ((48 + d) ∷ rest) ≡ count_on m rest
count_digit n d m rest h l e =
    let a : n * 10 + (48 + d - 48) ≡ m = omega (arith, e) in
    let b = le-ltb 65535 m l in
    rw (digit_is d h, a, b) refl

-- digits are one word, and give their number
abbrev Says : ℕ → List ℕ → Type 0
Says n ds =
    ((rest : List ℕ) → prefix_len is_of_word (ds ++ rest) ≡ length ds + prefix_len is_of_word rest)
    × (n ≤ 65535 → (rest : List ℕ) → count_on 0 (ds ++ rest) ≡ count_on n rest)

one_digit : (n : ℕ) → n < 10 → Says n ((48 + n) ∷ [])
one_digit n h = (
  λ rest. rw (digit_of_word n h) (omega arith),
  λ l rest. count_digit 0 n n rest h l (omega arith),
)

more_digits : (n : ℕ) (ds : List ℕ) → 10 ≤ n → Says (n / 10) ds → Says n (ds ++ ((48 + n % 10) ∷ []))
more_digits n ds h s =
    let d = n % 10 in
    let small : d < 10 = omega arith in (
      λ rest. ap (prefix_len is_of_word) (append_assoc ds ((48 + d) ∷ []) rest) ∙ s.0 ((48 + d) ∷ rest)
          ∙ rw (digit_of_word d small) (omega (arith, length-append ds ((48 + d) ∷ []))),
      λ l rest. ap (count_on 0) (append_assoc ds ((48 + d) ∷ []) rest) ∙ s.1 (omega (arith, l)) ((48 + d) ∷ rest)
          ∙ count_digit (n / 10) d n rest small l (omega arith),
    )

says : (n : ℕ) → n ≤ 65535 → Says n (decimal n)
says n h = decimal_by_steps Says one_digit more_digits n (omega (arith, h))

append_none : (ds : List ℕ) → ds ++ [] ≡ ds
append_none [] = refl
append_none (d ∷ ds) = ap (λ (xs : List ℕ). d ∷ xs) (append_none ds)

module _ (m : Ignore) (f : m.count.value ≤ 65535) (after : List ℕ) where
  written_digits : List ℕ
  written_digits = decimal m.count.value

  word : List ℕ
  word = codes "count:" ++ written_digits

  counted : ignore_count written_digits ≡ Some m
  unfolding written_digits
  counted =
      ap (count_on 0) (sym (append_none (decimal m.count.value))) ∙ (says m.count.value f).1 f [] ∙ ignored_of m m.count.value refl

  word_len : length word ≡ prefix_len is_of_word (word ++ 93 ∷ after)
  unfolding written_digits word
  word_len = let e = (says m.count.value f).0 (93 ∷ after) in rw e (omega arith)

  word_says : (left : ℕ) → modifier name.Ignore word left ≡ Ok (made.Count m)
  unfolding written_digits word modifier modifier_keys look_up
  word_says left =
      let long : (5 == length word) ≡ false = ne_eqb 5 (length word) (λ e. omega (arith, e)) in
      let e = counted in
      rw (long, e) refl

  read : (n : ℕ) → length (word ++ 93 ∷ after) + 1 < n
      → modifiers name.Ignore n chosen.default (32 ∷ (word ++ 93 ∷ after)) ≡ Ok (record chosen.default { count = Some m }, 93 ∷ after)
  unfolding word
  read n h =
      let begun : List ℕ = word ++ 93 ∷ after in
      let w : modifier name.Ignore (take (length word) begun) (length begun) ≡ Ok (made.Count m) =
      ap (λ (x : List ℕ). modifier name.Ignore x (length begun)) (take-append_seam word (93 ∷ after)) ∙ word_says (length begun) in
      goes name.Ignore chosen.default (32 ∷ begun) begun 1 refl refl n (length word) (made.Count m) (omega (arith, h)) word_len (omega arith) w
      ∙ ap (modifiers name.Ignore (pred n) (record chosen.default { count = Some m })) (drop-append_seam word (93 ∷ after))
      ∙ stops name.Ignore (record chosen.default { count = Some m }) (93 ∷ after) (93 ∷ after) 0 refl refl (pred n) 0
      (omega (arith, h, length-append word (93 ∷ after))) refl refl

pub ignore : (m : Ignore) → m.count.value ≤ 65535 → (after : List ℕ) → Back (component.Ignore m) after
unfolding bracketed component_names component_of look_up group_word word written_digits
ignore m f after =
    let text : List ℕ = word m f after ++ 93 ∷ after in
    let e = read m f after (suc (length (32 ∷ text))) (omega arith) in
    (rw e refl, refl)

-- a component with a padding parses back if it does with each padding
by_padding : (make : Padding → Component) (after : List ℕ) → Back (make padding.Zero) after → Back (make padding.Space) after
    → Back (make padding.None) after → (p : Padding) → Back (make p) after
by_padding make after by_zero by_space by_none padding.Zero = by_zero
by_padding make after by_zero by_space by_none padding.Space = by_space
by_padding make after by_zero by_space by_none padding.None = by_none

-- likewise a component with a flag
by_flag : (make : Bool → Component) (after : List ℕ) → Back (make true) after → Back (make false) after → (b : Bool) → Back (make b) after
by_flag make after set unset true = set
by_flag make after set unset false = unset

-- likewise a component with a padding and a flag
by_padding_and_flag : (make : Padding → Bool → Component) (after : List ℕ) → Back (make padding.Zero true) after → Back (make padding.Space true) after
    → Back (make padding.None true) after → Back (make padding.Zero false) after → Back (make padding.Space false) after
    → Back (make padding.None false) after → (p : Padding) (b : Bool) → Back (make p b) after
by_padding_and_flag make after a b c d e f p true = by_padding (λ p. make p true) after a b c p
by_padding_and_flag make after a b c d e f p false = by_padding (λ p. make p false) after d e f p

subsecond : (after : List ℕ) (d : SubsecondDigits) → Back (component.Subsecond (record { digits = d })) after
unfolding bracketed modifier modifiers group_word component_of component_names modifier_keys look_up digits
subsecond after digits_.One = (refl, refl)
subsecond after d = (refl, refl)

ending : (after : List ℕ) (t : TrailingInput) → Back (component.End (record { trailing_input = t })) after
unfolding bracketed modifier modifiers group_word component_of component_names modifier_keys look_up trailing_inputs
ending after trailing.Prohibit = (refl, refl)
ending after t = (refl, refl)

-- the text of a component parses back as the component
pub component_back : (c : Component) → Fits c → (after : List ℕ) → Back c after
unfolding bracketed modifier modifiers group_word component_of component_names modifier_keys look_up paddings representations bases ranges
    signs bools cases precisions digits trailing_inputs
component_back (component.Day m) f after = by_padding (λ p. component.Day (record { padding = p })) after (refl, refl) (refl, refl) (refl, refl) m.padding
component_back (component.MonthNumerical m) f after =
    by_padding (λ p. component.MonthNumerical (record { padding = p })) after (refl, refl) (refl, refl) (refl, refl) m.padding
component_back (component.Ordinal m) f after =
    by_padding (λ p. component.Ordinal (record { padding = p })) after (refl, refl) (refl, refl) (refl, refl) m.padding
component_back (component.WeekNumberIso m) f after =
    by_padding (λ p. component.WeekNumberIso (record { padding = p })) after (refl, refl) (refl, refl) (refl, refl) m.padding
component_back (component.WeekNumberSunday m) f after =
    by_padding (λ p. component.WeekNumberSunday (record { padding = p })) after (refl, refl) (refl, refl) (refl, refl) m.padding
component_back (component.WeekNumberMonday m) f after =
    by_padding (λ p. component.WeekNumberMonday (record { padding = p })) after (refl, refl) (refl, refl) (refl, refl) m.padding
component_back (component.CalendarYearLastTwo m) f after =
    by_padding (λ p. component.CalendarYearLastTwo (record { padding = p })) after (refl, refl) (refl, refl) (refl, refl) m.padding
component_back (component.IsoYearLastTwo m) f after =
    by_padding (λ p. component.IsoYearLastTwo (record { padding = p })) after (refl, refl) (refl, refl) (refl, refl) m.padding
component_back (component.Hour12 m) f after = by_padding (λ p. component.Hour12 (record { padding = p })) after (refl, refl) (refl, refl) (refl, refl) m.padding
component_back (component.Hour24 m) f after = by_padding (λ p. component.Hour24 (record { padding = p })) after (refl, refl) (refl, refl) (refl, refl) m.padding
component_back (component.Minute m) f after = by_padding (λ p. component.Minute (record { padding = p })) after (refl, refl) (refl, refl) (refl, refl) m.padding
component_back (component.Second m) f after = by_padding (λ p. component.Second (record { padding = p })) after (refl, refl) (refl, refl) (refl, refl) m.padding
component_back (component.OffsetMinute m) f after =
    by_padding (λ p. component.OffsetMinute (record { padding = p })) after (refl, refl) (refl, refl) (refl, refl) m.padding
component_back (component.OffsetSecond m) f after =
    by_padding (λ p. component.OffsetSecond (record { padding = p })) after (refl, refl) (refl, refl) (refl, refl) m.padding
component_back (component.CalendarYearFullExtendedRange m) f after =
    by_padding_and_flag (λ p b. component.CalendarYearFullExtendedRange (record { padding = p; sign_is_mandatory = b })) after
    (refl, refl) (refl, refl) (refl, refl) (refl, refl) (refl, refl) (refl, refl) m.padding m.sign_is_mandatory
component_back (component.CalendarYearFullStandardRange m) f after =
    by_padding_and_flag (λ p b. component.CalendarYearFullStandardRange (record { padding = p; sign_is_mandatory = b })) after
    (refl, refl) (refl, refl) (refl, refl) (refl, refl) (refl, refl) (refl, refl) m.padding m.sign_is_mandatory
component_back (component.IsoYearFullExtendedRange m) f after =
    by_padding_and_flag (λ p b. component.IsoYearFullExtendedRange (record { padding = p; sign_is_mandatory = b })) after (refl, refl) (refl, refl) (refl, refl)
    (refl, refl) (refl, refl) (refl, refl) m.padding m.sign_is_mandatory
component_back (component.IsoYearFullStandardRange m) f after =
    by_padding_and_flag (λ p b. component.IsoYearFullStandardRange (record { padding = p; sign_is_mandatory = b })) after (refl, refl) (refl, refl) (refl, refl)
    (refl, refl) (refl, refl) (refl, refl) m.padding m.sign_is_mandatory
component_back (component.CalendarYearCenturyExtendedRange m) f after =
    by_padding_and_flag (λ p b. component.CalendarYearCenturyExtendedRange (record { padding = p; sign_is_mandatory = b })) after
    (refl, refl) (refl, refl) (refl, refl) (refl, refl) (refl, refl) (refl, refl) m.padding m.sign_is_mandatory
component_back (component.CalendarYearCenturyStandardRange m) f after =
    by_padding_and_flag (λ p b. component.CalendarYearCenturyStandardRange (record { padding = p; sign_is_mandatory = b })) after
    (refl, refl) (refl, refl) (refl, refl) (refl, refl) (refl, refl) (refl, refl) m.padding m.sign_is_mandatory
component_back (component.IsoYearCenturyExtendedRange m) f after =
    by_padding_and_flag (λ p b. component.IsoYearCenturyExtendedRange (record { padding = p; sign_is_mandatory = b })) after
    (refl, refl) (refl, refl) (refl, refl) (refl, refl) (refl, refl) (refl, refl) m.padding m.sign_is_mandatory
component_back (component.IsoYearCenturyStandardRange m) f after =
    by_padding_and_flag (λ p b. component.IsoYearCenturyStandardRange (record { padding = p; sign_is_mandatory = b })) after
    (refl, refl) (refl, refl) (refl, refl) (refl, refl) (refl, refl) (refl, refl) m.padding m.sign_is_mandatory
component_back (component.OffsetHour m) f after =
    by_padding_and_flag (λ p b. component.OffsetHour (record { padding = p; sign_is_mandatory = b })) after (refl, refl) (refl, refl) (refl, refl)
    (refl, refl) (refl, refl) (refl, refl) m.padding m.sign_is_mandatory
component_back (component.MonthShort m) f after =
    by_flag (λ b. component.MonthShort (record { case_sensitive = b })) after (refl, refl) (refl, refl) m.case_sensitive
component_back (component.MonthLong m) f after =
    by_flag (λ b. component.MonthLong (record { case_sensitive = b })) after (refl, refl) (refl, refl) m.case_sensitive
component_back (component.WeekdayShort m) f after =
    by_flag (λ b. component.WeekdayShort (record { case_sensitive = b })) after (refl, refl) (refl, refl) m.case_sensitive
component_back (component.WeekdayLong m) f after =
    by_flag (λ b. component.WeekdayLong (record { case_sensitive = b })) after (refl, refl) (refl, refl) m.case_sensitive
component_back (component.WeekdaySunday m) f after =
    by_flag (λ b. component.WeekdaySunday (record { one_indexed = b })) after (refl, refl) (refl, refl) m.one_indexed
component_back (component.WeekdayMonday m) f after =
    by_flag (λ b. component.WeekdayMonday (record { one_indexed = b })) after (refl, refl) (refl, refl) m.one_indexed
component_back (component.UnixTimestampSecond m) f after =
    by_flag (λ b. component.UnixTimestampSecond (record { sign_is_mandatory = b })) after (refl, refl) (refl, refl) m.sign_is_mandatory
component_back (component.UnixTimestampMillisecond m) f after =
    by_flag (λ b. component.UnixTimestampMillisecond (record { sign_is_mandatory = b })) after (refl, refl) (refl, refl) m.sign_is_mandatory
component_back (component.UnixTimestampMicrosecond m) f after =
    by_flag (λ b. component.UnixTimestampMicrosecond (record { sign_is_mandatory = b })) after (refl, refl) (refl, refl) m.sign_is_mandatory
component_back (component.UnixTimestampNanosecond m) f after =
    by_flag (λ b. component.UnixTimestampNanosecond (record { sign_is_mandatory = b })) after (refl, refl) (refl, refl) m.sign_is_mandatory
component_back (component.Period m) f after = by_flag (λ s. component.Period (record { is_uppercase = m.is_uppercase; case_sensitive = s })) after
    (by_flag (λ u. component.Period (record { is_uppercase = u; case_sensitive = true })) after (refl, refl) (refl, refl) m.is_uppercase)
    (by_flag (λ u. component.Period (record { is_uppercase = u; case_sensitive = false })) after (refl, refl) (refl, refl) m.is_uppercase) m.case_sensitive
component_back (component.Subsecond m) f after = subsecond after m.digits
component_back (component.End m) f after = ending after m.trailing_input
component_back (component.Ignore m) f after = ignore m f after

-- ---- The first row of a table

-- a row, without memory addresses
abbrev pub seen_row : {V : Type 0} → Bor (List ℕ) × V → List ℕ × V
seen_row r = (r.0.now, r.1)

pub first_row : {V : Type 0} (left : List (Bor (List ℕ) × V)) (x : Bor (List ℕ) × V) (name : List ℕ) → 1 ≤ length left → x ≡ get_or left 0 x
    → look_up (map seen_row left) name ≡ (if str_eq_ignore_ascii_case x.0.now name then Some x.1 else look_up (map seen_row (drop 1 left)) name)
unfolding look_up
first_row [] x name h e = absurd (omega arith)
first_row {V} (y ∷ ys) x name h e =
    let P : Bor (List ℕ) × V → Type 0 = λ z. look_up (map seen_row (y ∷ ys)) name ≡ (if str_eq_ignore_ascii_case z.0.now name then Some z.1 else look_up
    (map seen_row (drop 1 (y ∷ ys))) name) in
    subst P (sym e) refl
