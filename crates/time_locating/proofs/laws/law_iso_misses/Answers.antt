use Rattle.time_values.specs.Calendar.{greatest_year}
use Rattle.std.specs.Prelude.{codes, nat_eq, nat_le, option_map}
use Rattle.std.proofs.Common.{◌≡◌, ◌<◌, ◌≤◌, ℕ, ℤ, suc, List, [], ◌∷◌, ◌++◌, length, append_assoc, Bool, true, false, Option, Some, None, Result, Ok, Err, refl, ap, sym, ◌∙◌, arith}
use Rattle.std.proofs.Math.Bool.{and-false}
use Rattle.std.proofs.lemmas.Bool.Decides.{nat_tests}
use Rattle.std.proofs.lemmas.List.Elements.{All-cons}
use Rattle.std.proofs.lemmas.Option.{none-some, cond_some}
use Rattle.time_values.specs.Refusal.{Refusal, component, literal}
use Rattle.time_readers.specs.IsoPieces.{Found, byte, digits, is_digit, month, positive, weekday, year}
use Rattle.time_readers.specs.IsoDates.{FormOrFault, IsoDate, after_year, calendar, date_text, first_form, first_standing, forms, need, of_kind, second_form, third_form, week}
use Rattle.time_readers.specs.declared.iso8601.ExtendedKind.{ExtendedKind}
use Rattle.time_readers.specs.declared.iso8601.ExtendedKind.TheVariants.{Basic, Extended}
use Rattle.time_record.specs.Record.{Entry, Record, put}
use Rattle.time_parsing.specs.Iso8601.{date_entries, date_over, put_or_fault, result_and_then, with_value}
use Rattle.time_locating.specs.Iso8601.{after_date, by_date, date_rows, misses, rows_misses, without_date}
use Rattle.time_locating.specs.Laws.{IsoOwnMiss, LeavesLeastSoFar, refusal_by}
use Rattle.time_locating.specs.Misses.{Miss, missed, named, these_bytes}
use Rattle.time_locating.proofs.IsoDates.{Ok-Err}
use Rattle.time_locating.proofs.IsoLengths.{byte-length, month-within, positive-length}
use Rattle.time_locating.proofs.MissLemmas.{all_none}
use Rattle.time_locating.proofs.laws.law_iso_misses.Goals as goal

-- ---- If the date of an ISO 8601 text is rejected, one miss of the text is that of the error, and those before it
-- leave more bytes

at_here : (m : Miss) (ms : List Miss) → LeavesLeastSoFar m (m ∷ ms)
at_here m ms = ([], ms, refl, all_none (λ n. m.left < n.left))

at_past : (m x : Miss) (ms : List Miss) → m.left < x.left → LeavesLeastSoFar m ms → LeavesLeastSoFar m (x ∷ ms)
at_past m x ms more (before, after, is, all) =
    (x ∷ before, after, ap (λ z. x ∷ z) is, All-cons (λ (n : Miss). m.left < n.left) x before more all)

at_more : (m : Miss) (ms ns : List Miss) → LeavesLeastSoFar m ms → LeavesLeastSoFar m (ms ++ ns)
at_more m ms ns (before, after, is, all) = (before, after ++ ns, ap (λ z. z ++ ns) is ∙ simp append_assoc, all)

same_Err : {A : Type 0} (e d : Refusal) → ◌≡◌ {A = Result A Refusal} (Err e) (Err d) → e ≡ d
same_Err e d h = cc

need-Err : {A B P : Type 0} (o : Option A) (e d : Refusal) (f : A → Result B Refusal) → need o e f ≡ Err d
    → (o ≡ None → e ≡ d → P) → ((a : A) → o ≡ Some a → f a ≡ Err d → P) → P
need-Err None e d f h k l = k refl (same_Err e d h)
need-Err (Some a) e d f h k l = l a refl h

-- ---- a byte that is no digit

same_byte : (x c : ℕ) → nat_eq x c ≡ true → x ≡ c
same_byte x c is = grind (arith, nat_tests)

begins : (c : ℕ) (b w : List ℕ) → byte c b ≡ Some w → b ≡ c ∷ w
unfolding byte
begins c [] w h = absurd (none-some w h)
begins c (x ∷ b) w h =
    let is = cond_some (nat_eq x c) b w h in
    ap (λ z. z ∷ b) (same_byte x c is.0) ∙ ap (λ z. c ∷ z) is.1

no_digits : (n c : ℕ) (w : List ℕ) → is_digit c ≡ false → digits (suc n) (c ∷ w) ≡ None
unfolding digits
no_digits n c w h = rw (h, and-false (nat_le (suc n) (length (c ∷ w)))) refl

no_month : (c : ℕ) (b w : List ℕ) → is_digit c ≡ false → byte c b ≡ Some w → month b ≡ None
unfolding month
no_month c b w h is = rw (begins c b w is, no_digits 1 c w h) refl

no_ordinal : (c : ℕ) (b w : List ℕ) → is_digit c ≡ false → byte c b ≡ Some w → positive 3 b ≡ None
unfolding positive
no_ordinal c b w h is = rw (begins c b w is, no_digits 2 c w h) refl

no_letter : (b w : List ℕ) → byte 45 b ≡ Some w → byte 87 b ≡ None
unfolding byte
no_letter b w is = rw (begins 45 b w is) refl

-- ---- the text of a date

-- one miss of the rows of a date is that of the error
abbrev Own : List ℕ → Refusal → Type 0
Own b e = (m : Miss) × LeavesLeastSoFar m (rows_misses date_rows b) × (refusal_by m.wanted ≡ e)

module _ (b rest : List ℕ) (y : ℤ) (year_is : year b ≡ Some (rest, y)) where
  first_basic : (d : Refusal) → first_form false y rest ≡ Err d → Own b d
  first_basic d h =
      need-Err (month rest) (component (codes "month")) d _ h
      (λ none same. (missed (length rest) (named (codes "month")), rw (year_is, none) (at_here _ _), same))
      (λ m is h1. need-Err (positive 2 m.0) (component (codes "day")) d _ h1
      (λ none same. (missed (length m.0) (named (codes "day")), rw (year_is, is, none) (at_here _ _), same))
      (λ n day h2. absurd (Ok-Err (n.0, calendar y m.1 n.1) d (sym h2))))

  third_basic : (d : Refusal) (w : List ℕ) → byte 87 rest ≡ Some w → third_form false y w ≡ Err d → Own b d
  third_basic d w letter h =
      let no = no_month 87 rest w refl letter in
      let none = no_ordinal 87 rest w refl letter in
      let shorter = byte-length 87 rest w letter in
      need-Err (positive 2 w) (component (codes "week")) d _ h
      (λ week_is same. (
        missed (length w) (named (codes "week")),
        rw (year_is, no, none, letter, week_is) (at_past _ _ _ (omega arith) (at_past _ _ _ (omega arith) (at_here _ _))),
        same,
      ))
      (λ v week_is h1. need-Err (weekday v.0) (component (codes "weekday")) d _ h1
      (λ day_is same. (
        missed (length v.0) (named (codes "weekday")),
        rw (year_is, no, none, letter, week_is, day_is)
            (at_past _ _ _ (omega (arith, positive-length 2 w v.0 v.1 week_is))
            (at_past _ _ _ (omega (arith, positive-length 2 w v.0 v.1 week_is)) (at_here _ _))),
        same,
      ))
      (λ n day_is h2. absurd (Ok-Err (n.0, week y v.1 n.1) d (sym h2))))

  module _ (x : List ℕ) (dash_is : byte 45 rest ≡ Some x) where
    past_basic : (m : Miss) (ms : List Miss) → m.left ≤ length x → LeavesLeastSoFar m ms
        → LeavesLeastSoFar m (missed (length rest) (named (codes "month")) ∷ missed (length rest) (named (codes "ordinal"))
        ∷ missed (length rest) (these_bytes (codes "W")) ∷ ms)
    past_basic m ms within h =
        let shorter = byte-length 45 rest x dash_is in
        at_past m _ _ (omega arith) (at_past m _ _ (omega arith) (at_past m _ _ (omega arith) h))

    first_extended : (d : Refusal) → first_form true y x ≡ Err d → Own b d
    first_extended d h =
        let no = no_month 45 rest x refl dash_is in
        let none = no_ordinal 45 rest x refl dash_is in
        let letter = no_letter rest x dash_is in
        need-Err (month x) (component (codes "month")) d _ h
        (λ month_is same. (
          missed (length x) (named (codes "month")),
          rw (year_is, no, none, letter, dash_is, month_is) (past_basic _ _ (omega arith) (at_here _ _)),
          same,
        ))
        (λ m month_is h1. need-Err (byte 45 m.0) literal d _ h1
        (λ other same. (
          missed (length m.0) (these_bytes (codes "-")),
          rw (year_is, no, none, letter, dash_is, month_is, other)
              (past_basic _ _ (omega (arith, month-within x m.0 m.1 month_is)) (at_here _ _)),
          same,
        ))
        (λ z other h2. need-Err (positive 2 z) (component (codes "day")) d _ h2
        (λ day_is same. (
          missed (length z) (named (codes "day")),
          rw (year_is, no, none, letter, dash_is, month_is, other, day_is)
              (past_basic _ _ (omega (arith, month-within x m.0 m.1 month_is, byte-length 45 m.0 z other)) (at_here _ _)),
          same,
        ))
        (λ n day_is h3. absurd (Ok-Err (n.0, calendar y m.1 n.1) d (sym h3)))))

    third_extended : (d : Refusal) (w : List ℕ) → byte 87 x ≡ Some w → third_form true y w ≡ Err d → Own b d
    third_extended d w letter_is h =
        let no = no_month 45 rest x refl dash_is in
        let none = no_ordinal 45 rest x refl dash_is in
        let letter = no_letter rest x dash_is in
        let no_x = no_month 87 x w refl letter_is in
        let none_x = no_ordinal 87 x w refl letter_is in
        let shorter = byte-length 87 x w letter_is in
        need-Err (positive 2 w) (component (codes "week")) d _ h
        (λ week_is same. (
          missed (length w) (named (codes "week")),
          rw (year_is, no, none, letter, dash_is, no_x, none_x, letter_is, week_is)
              (past_basic _ _ (omega arith) (at_past _ _ _ (omega arith) (at_past _ _ _ (omega arith) (at_here _ _)))),
          same,
        ))
        (λ v week_is h1. let within = positive-length 2 w v.0 v.1 week_is in need-Err (byte 45 v.0) literal d _ h1
        (λ other same. (
          missed (length v.0) (these_bytes (codes "-")),
          rw (year_is, no, none, letter, dash_is, no_x, none_x, letter_is, week_is, other)
              (past_basic _ _ (omega arith) (at_past _ _ _ (omega arith) (at_past _ _ _ (omega arith) (at_here _ _)))),
          same,
        ))
        (λ z other h2. let short = byte-length 45 v.0 z other in need-Err (weekday z) (component (codes "weekday")) d _ h2
        (λ day_is same. (
          missed (length z) (named (codes "weekday")),
          rw (year_is, no, none, letter, dash_is, no_x, none_x, letter_is, week_is, other, day_is)
              (past_basic _ _ (omega arith) (at_past _ _ _ (omega arith) (at_past _ _ _ (omega arith) (at_here _ _)))),
          same,
        ))
        (λ n day_is h3. absurd (Ok-Err (n.0, week y v.1 n.1) d (sym h3)))))

  -- the forms of a date, if none of them matches
  standing : (extended : Bool) (s : List ℕ) (e : Refusal) (first : FormOrFault) (second : Option (List ℕ × IsoDate)) (letter : Option (List ℕ))
      → first_form extended y s ≡ first → byte 87 s ≡ letter
      → first_standing first second (option_map (third_form extended y) letter) ≡ Err e
      → ((d : Refusal) → first_form extended y s ≡ Err d → Own b d)
      → ((d : Refusal) (w : List ℕ) → byte 87 s ≡ Some w → third_form extended y w ≡ Err d → Own b d) → Own b e
  standing extended s e (Ok a) second letter first_is letter_is h k l = absurd (Ok-Err a e (sym h))
  standing extended s e (Err d) (Some a) letter first_is letter_is h k l = absurd (Ok-Err a e (sym h))
  standing extended s e (Err d) None None first_is letter_is h k l = k e (first_is ∙ h)
  standing extended s e (Err d) None (Some w) first_is letter_is h k l = l e w letter_is h

  of_kind-Err : (kind : ExtendedKind) (f : FormOrFault) (e : Refusal) → of_kind kind f ≡ Err e → f ≡ Err e
  of_kind-Err kind (Ok f) e h = absurd (Ok-Err (record { rest = f.0; value = f.1; kind = kind }) e (sym h))
  of_kind-Err kind (Err d) e h = ap Err (same_Err d e h)

  by_dash : (e : Refusal) (o : Option (List ℕ)) → byte 45 rest ≡ o → after_year y rest o ≡ Err e → Own b e
  unfolding forms
  by_dash e None is h =
      standing false rest e (first_form false y rest) (second_form y rest) (byte 87 rest) refl refl
      (of_kind-Err Basic (forms false y rest) e h) first_basic third_basic
  by_dash e (Some x) is h =
      standing true x e (first_form true y x) (second_form y x) (byte 87 x) refl refl
      (of_kind-Err Extended (forms true y x) e h) (first_extended x is) (third_extended x is)

own_date : (b : List ℕ) (e : Refusal) → date_text b ≡ Err e → Own b e
unfolding date_text
own_date b e h =
    need-Err (year b) (component (codes "year")) e _ h
    (λ none same. (missed (length b) (named (codes "year")), rw none (at_here _ _), same))
    (λ y is h1. by_dash b y.0 y.1 is e (byte 45 y.0) refl h1)

-- ---- a date that no record allows

put-Err : (entries : List (Entry × List ℕ)) (r : Record) (e : Refusal) → put_or_fault greatest_year entries r ≡ Err e
    → (name : List ℕ) × (e ≡ component name)
put-Err [] r e h = absurd (Ok-Err r e (sym h))
put-Err (entry ∷ entries) r e h =
    need-Err (put greatest_year entry.0 r) (component entry.1) e (put_or_fault greatest_year entries) h
    (λ none same. (entry.1, sym same)) (λ q is h1. put-Err entries q e h1)

-- one miss of a text is that of the error
abbrev OwnOf : List Miss → Refusal → Type 0
OwnOf ms e = (m : Miss) × LeavesLeastSoFar m ms × (refusal_by m.wanted ≡ e)

own_put : (b : List ℕ) (d : Found IsoDate) (entries : List (Entry × List ℕ)) (r : Record) (o : Result Record Refusal) (e : Refusal)
    → put_or_fault greatest_year entries r ≡ o → result_and_then (λ q. Ok (with_value d q)) o ≡ Err e → OwnOf (after_date b d o) e
own_put b d entries r (Ok q) e is h = absurd (Ok-Err (with_value d q) e (sym h))
own_put b d entries r (Err f) e is h =
    let told = put-Err entries r f is in
    (_, at_here _ _, rw told.1 (sym told.1 ∙ same_Err f e h))

own_text : (b : List ℕ) (r : Record) (o : Result (Found IsoDate) Refusal) (e : Refusal) → date_text b ≡ o
    → result_and_then (λ d. result_and_then (λ q. Ok (with_value d q)) (put_or_fault greatest_year (date_entries d.value) r)) o ≡ Err e
    → OwnOf (by_date b r o) e
own_text b r (Err f) e is h =
    let own = own_date b f is in
    (own.0, at_more own.0 (rows_misses date_rows b) (without_date b) own.1, own.2 ∙ same_Err f e h)
own_text b r (Ok d) e is h = own_put b d (date_entries d.value) r (put_or_fault greatest_year (date_entries d.value) r) e refl h

iso_own_miss : IsoOwnMiss
unfolding date_over misses
iso_own_miss b r e h = own_text b r (date_text b) e refl h

pub returns : goal.returns
returns c = iso_own_miss
