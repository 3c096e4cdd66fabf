-- Answers, line by line.
use Rattle.std.specs.Prelude.{Option, IfSome}
use Rattle.std.specs.Io.KnownBytes.{Appends, Consumes, IsAtEnd, Keeps, append_known}
use Rattle.std.proofs.Common.{◌≡◌, ℕ, ◌+◌, ◌/◌, ◌%◌, ◌^◌, ◌<◌, ◌≤◌, Bool, true, false, nat_lt, refl, List, [], ◌∷◌, ◌++◌, length, take, drop, take_at, ap, ◌∙◌, sym, arith, ℤ, pos, int_lt, unsigned_abs, codes, append_assoc, append-nil, length-append, length-drop, zero, suc, ◌-◌, get_or, add-one, subst, Result, Ok, Err, OnOk, None, Some}
use Rattle.std.proofs.lemmas.List.{drop_all, take_all}
use Rattle.std.proofs.lemmas.Bool.Decides.{nat_tests}
use Rattle.std.proofs.KnownBytes.{Appends-trans, Consumes-trans, Consumes-whole, Appends-kept}
use borrow.Rule.Slice.PartMut.{put_mid}
use Rattle.itoa.proofs.Decimal.{decimal_four, pair}
use Rattle.time_values.specs.Calendar.{month_length, greatest_year}
use Rattle.time_values.specs.Names.{month_number}
use Rattle.time_values.specs.declared.date.Date.{Date}
use Rattle.time_values.specs.DisplayTexts.{fixed}
use Rattle.time_values.specs.declared.time.Time.{Time}
use Rattle.time_components.specs.Tree.{Tree}
use Rattle.time_readers.specs.Direct.{RefusesRfc3339, RefusesRfc2822}
use Rattle.time_record.specs.Laws.{OneResolution}
use Rattle.time_record.specs.Reading as Description
use Rattle.time_record.specs.Record.{empty}
use Rattle.time_record.specs.Resolution.{IsDated, IsTimed, IsOffset, IsPlain, IsUtcMoment, IsMoment, IsTimestamp}
use Rattle.time_record.proofs.ResolutionLemmas.{IsDated-one, IsTimed-one, IsOffset-one, IsPlain-one, IsUtcMoment-one, IsMoment-one, IsTimestamp-one}
use Rattle.time_parsing.specs.exact.Laws.{tree_exact, rfc3339_exact_path, rfc2822_exact_path, iso8601_exact, rfc2822_exact, rfc3339_exact}
use Rattle.time_parsing.specs.Outcome.{IsExact, IsExactPath, Path, over_record, direct, Reading, Refusing, Resolving}
use Rattle.time_parsing.specs.Iso8601 as Iso8601
use Rattle.time_parsing.specs.Rfc2822 as Rfc2822
use Rattle.time_parsing.specs.Rfc3339 as Rfc3339
use Rattle.time_parsing.proofs.OneOutcome.{one_outcome, one_moment_outcome}
use Rattle.byte_streams.specs.Lines.{line_texts}
use Rattle.programs_answers.specs.Output.{four_digits, minus_if, year_text, date_text, date_time_text, IsDescribed, AreAnswers, Writes, IsPrinted, IsPrintedMoment, IsAnswerFor, IsParsed, WritesAnswers, printed, time_text, offset_text, plain_text, utc_text, offset_date_time_text, timestamp_text}
use Rattle.programs_answers.specs.Pieces.{leading_digits, year_front, WithLineFeed}
use Rattle.programs_answers.specs.declared.formats.Target.{Target}
use Rattle.programs_answers.specs.Formats.{ymd, clock, unix, local}
use Rattle.programs_answers.specs.declared.formats.Format.{Format}
use Rattle.programs_answers.specs.declared.formats.Format.TheVariants as format
use Rattle.programs_answers.specs.declared.formats.Target.TheVariants as target

-- ---- Values are written piece by piece

-- four digits, two at a time
fixed_four : (n : ℕ) → n < 10000 → fixed 4 n ≡ pair (n / 100) ++ pair (n % 100)
unfolding fixed
fixed_four n h =
    let a : n / 10 / 10 / 10 % 10 ≡ n / 100 / 10 = omega arith in
    let b : n / 10 / 10 % 10 ≡ n / 100 % 10 = omega arith in
    let c : n / 10 % 10 ≡ n % 100 / 10 = omega arith in
    let d : n % 10 ≡ n % 100 % 10 = omega arith in
    rw (a, b, c, d) refl

-- the leading digits, and then the last four
leading_digits-then : (n : ℕ) (b : Bool) → nat_lt n 10000 ≡ b → n < 2 ^ 64 → leading_digits n ++ fixed 4 (n % 10000) ≡ four_digits n
leading_digits-then n true e fits =
    let small : n < 10000 = grind (arith, nat_tests) in
    let same : n % 10000 ≡ n = omega arith in
    rw (e, same) refl
leading_digits-then n false e fits =
    let large : 10000 ≤ n = grind (arith, nat_tests) in
    rw (e, fixed_four (n % 10000) (omega arith), decimal_four n large fits) refl

five : (a b c d e f : List ℕ) → a ++ (b ++ c ++ d ++ e ++ f) ≡ a ++ b ++ c ++ d ++ e ++ f
five a b c d e f = simp append_assoc

-- a date, with the text before the last four digits of its year
pub date_text-behind : (d : Date) (n m k : ℕ) (text : List ℕ)
    → n ≡ unsigned_abs d.year → n < 2 ^ 64 → m ≡ month_number d.month → k ≡ d.day
    → text ≡ fixed 4 (n % 10000) ++ codes "-" ++ fixed 2 m ++ codes "-" ++ fixed 2 k
    → year_front d.year ++ text ≡ date_text d
date_text-behind d n m k text nz fits mm kk is =
    let sign = minus_if (int_lt d.year (pos 0)) in
    let front = year_front d.year in
    let digits : leading_digits (unsigned_abs d.year) ++ fixed 4 (n % 10000) ≡ four_digits (unsigned_abs d.year) =
    ap (λ x. leading_digits x ++ fixed 4 (n % 10000)) (sym nz) ∙ leading_digits-then n (nat_lt n 10000) refl fits ∙ ap four_digits nz in
    let year : front ++ fixed 4 (n % 10000) ≡ year_text d.year =
    append_assoc sign (leading_digits (unsigned_abs d.year)) (fixed 4 (n % 10000)) ∙ ap (λ t. sign ++ t) digits in
    ap (λ t. front ++ t) is
    ∙ five front (fixed 4 (n % 10000)) (codes "-") (fixed 2 m) (codes "-") (fixed 2 k)
    ∙ ap (λ t. t ++ codes "-" ++ fixed 2 m ++ codes "-" ++ fixed 2 k) year
    ∙ ap (λ t. year_text d.year ++ codes "-" ++ fixed 2 t ++ codes "-" ++ fixed 2 k) mm
    ∙ ap (λ t. year_text d.year ++ codes "-" ++ fixed 2 (month_number d.month) ++ codes "-" ++ fixed 2 t) kk

-- an array of spaces after two texts were written to it, with one space between them
pub joined : (d t rest xs : List ℕ) (a k : ℕ) → xs ≡ d ++ 32 ∷ rest → a ≡ length d + 1 → length rest ≡ k
    → put_mid a k xs t ≡ d ++ codes " " ++ t
joined d t rest xs a k e p q =
    let split : xs ≡ (d ++ codes " ") ++ rest = e ∙ sym (append_assoc d (codes " ") rest) in
    let long : length xs ≡ a + k = omega (arith, ap length e, length-append d (32 ∷ rest)) in
    let front : take a xs ≡ d ++ codes " " = ap (take a) split ∙ take_at _ _ a (omega (arith, length-append d (codes " "))) in
    let none : drop k (drop a xs) ≡ [] = drop_all k _ (omega (arith, length-drop a xs, long)) in
    rw (front, none) (ap (λ l. d ++ codes " " ++ l) (append-nil t))

-- a sign before two texts is a sign before the first
pub signed : (sign d t x y text : List ℕ) → text ≡ d ++ codes " " ++ t → sign ++ d ≡ x → t ≡ y
    → sign ++ text ≡ x ++ codes " " ++ y
signed sign d t x y text e p q =
    let behind : sign ++ (d ++ codes " " ++ t) ≡ (sign ++ d) ++ codes " " ++ t = simp append_assoc in
    ap (λ l. sign ++ l) e ∙ behind ∙ ap (λ l. l ++ codes " " ++ t) p ∙ ap (λ l. x ++ codes " " ++ l) q

pub month_length-below : (y : ℤ) (m : ℕ) → month_length y m < 100
month_length-below y m = grind (arith, nat_tests)

pub same_date_time : (d d' : Date) (t t' : Time) → d ≡ d' → t ≡ t' → date_time_text d t ≡ date_time_text d' t'
same_date_time d d' t t' p q = ap (λ (x : Date). date_time_text x t) p ∙ ap (date_time_text d') q

-- ---- Reads and writes

-- the bytes that were read before the end are all bytes of the source
pub Consumes-end : (a b c : Option (List ℕ)) (xs : List ℕ) → Consumes a b xs → Consumes b c [] → IsAtEnd c → IfSome a (λ bytes. xs ≡ bytes)
Consumes-end a b c xs p q e =
    Consumes-whole a c (xs ++ []) (λ (bytes : List ℕ). xs ≡ bytes) (Consumes-trans a b c xs [] p q) e (sym (append-nil xs))

-- one more write
pub Appends-then : {E : Type 0} (r : Result (Unit {0}) E) (a b c : Option (List ℕ)) (x y z : List ℕ)
    → Appends a b x → OnOk r (Appends b c y) → x ++ y ≡ z → OnOk r (Appends a c z)
Appends-then (Ok u) a b c x y z p q e = subst (Appends a c) e (Appends-trans a b c x y p q)
Appends-then (Err f) a b c x y z p q e = tt

-- one more answer is written
pub AreAnswers-more : (P : List ℕ → List ℕ → Type 0) (lines others all : List (List ℕ)) (line written more : List ℕ)
    → lines ≡ line ∷ others → WithLineFeed (P line) more
    → ((text : List ℕ) → AreAnswers P lines text → AreAnswers P all (written ++ text))
    → (text : List ℕ) → AreAnswers P others text → AreAnswers P all ((written ++ more) ++ text)
AreAnswers-more P lines others all line written more cut answered before text after =
    let answer = answered.0 in
    let here : AreAnswers P (line ∷ others) (answer ++ 10 ∷ text) = (answer, text, answered.1, after, refl) in
    let joined : written ++ (answer ++ 10 ∷ text) ≡ (written ++ more) ++ text =
    sym (append_assoc written more text
    ∙ ap (λ t. written ++ t) (ap (λ t. t ++ text) answered.2 ∙ append_assoc answer (10 ∷ []) text)) in
    subst (AreAnswers P all) joined
    (before (answer ++ 10 ∷ text) (subst (λ ls. AreAnswers P ls (answer ++ 10 ∷ text)) (sym cut) here))

-- LF is written after a text
pub Writes_line_feed : {E : Type 0} (r : Result (Unit {0}) E) (P : List ℕ → Type 0) (a b c : Option (List ℕ))
    → Writes P a b → OnOk r (Appends b c (10 ∷ [])) → OnOk r (Writes (WithLineFeed P) a c)
Writes_line_feed (Ok u) P a b c w more = (w.0 ++ 10 ∷ [], (w.0, w.1, refl), Appends-trans a b c w.0 (10 ∷ []) w.2 more)
Writes_line_feed (Err e) P a b c w more = tt

-- equal trees have equal outcomes
pub Writes-described : {E : Type 0} (r : Result (Unit {0}) E) (tree same : Tree) (target : Target) (bytes : List ℕ)
    (a b : Option (List ℕ)) → tree ≡ same → OnOk r (Writes (IsDescribed tree target bytes) a b)
    → OnOk r (Writes (IsDescribed same target bytes) a b)
Writes-described r tree same target bytes a b e h =
    subst (λ (t : Tree). OnOk r (Writes (IsDescribed t target bytes) a b)) e h

-- an empty buffer adds nothing to a writer's contents
pub append_known-none : (a : Option (List ℕ)) (buffered : List ℕ) → buffered ≡ [] → Appends a (append_known a buffered) []
append_known-none None buffered e = tt
append_known-none (Some s) buffered e = ap (λ t. s ++ t) e

-- the buffered bytes are written at the end
pub Writes_flushed : {E : Type 0} (r : Result (Unit {0}) E) (P : List ℕ → Type 0) (a b c : Option (List ℕ))
    → Writes P a b → OnOk r (Keeps b c) → OnOk r (Writes P a c)
Writes_flushed (Err e) P a b c w kept = tt
Writes_flushed (Ok u) P a b c w kept = (w.0, w.1, Appends-kept a b c w.0 w.2 kept)

-- ---- A text has one answer, and an input one output

-- at most one text has the property
abbrev pub OneText : (List ℕ → Type 0) → Type 0
OneText P = (a b : List ℕ) → P a → P b → a ≡ b

pub IsThat-one : (that : List ℕ) → OneText (λ a. a ≡ that)
IsThat-one that a b h k = h ∙ sym k

module _ (R : Reading) (F : Refusing) (exact : IsExact R F) (bytes : List ℕ) where
  IsPrinted-one : {V : Type 0} (resolves : Resolving V) (value_text : V → List ℕ) → OneResolution resolves
      → OneText (IsPrinted resolves value_text R F bytes)
  IsPrinted-one resolves value_text one a b h k =
      h.2 ∙ ap (printed value_text) (one_outcome R F exact resolves one bytes empty h.0 k.0 h.1 k.1) ∙ sym k.2

  IsPrintedMoment-one : (path : Path) → IsExactPath greatest_year path R F → OneText (IsPrintedMoment path R F bytes)
  IsPrintedMoment-one path alone a b h k =
      h.2 ∙ ap (printed offset_date_time_text) (one_moment_outcome path R F exact alone IsMoment-one bytes None h.0 k.0 h.1 k.1)
      ∙ sym k.2

  IsAnswerFor-one : (path : Path) → IsExactPath greatest_year path R F → (t : Target)
      → OneText (IsAnswerFor t path R F bytes)
  IsAnswerFor-one path alone target.Date = IsPrinted-one (IsDated greatest_year) date_text IsDated-one
  IsAnswerFor-one path alone target.Time = IsPrinted-one IsTimed time_text IsTimed-one
  IsAnswerFor-one path alone target.Offset = IsPrinted-one IsOffset offset_text IsOffset-one
  IsAnswerFor-one path alone target.Plain = IsPrinted-one (IsPlain greatest_year) plain_text IsPlain-one
  IsAnswerFor-one path alone target.Utc = IsPrinted-one (IsUtcMoment greatest_year) utc_text IsUtcMoment-one
  IsAnswerFor-one path alone target.DateTime = IsPrintedMoment-one path alone
  IsAnswerFor-one path alone target.Staged = IsPrinted-one (IsMoment greatest_year) offset_date_time_text IsMoment-one
  IsAnswerFor-one path alone target.Timestamp = IsPrinted-one (IsTimestamp greatest_year) timestamp_text IsTimestamp-one

pub IsDescribed-one : (tree : Tree) (t : Target) (bytes : List ℕ) → OneText (IsDescribed tree t bytes)
IsDescribed-one tree t bytes =
    IsAnswerFor-one (Description.Reads greatest_year tree) (Description.Refuses greatest_year tree)
    (tree_exact greatest_year tree) bytes over_record tt t

pub IsParsed-one : (f : Format) (t : Target) (bytes : List ℕ) → OneText (IsParsed f t bytes)
IsParsed-one format.Rfc3339 t bytes =
    IsAnswerFor-one (Rfc3339.Reads greatest_year) (Rfc3339.Refuses greatest_year) (rfc3339_exact greatest_year) bytes
    (direct (RefusesRfc3339 greatest_year)) rfc3339_exact_path t
IsParsed-one format.Rfc2822 t bytes =
    IsAnswerFor-one (Rfc2822.Reads greatest_year) (Rfc2822.Refuses greatest_year) (rfc2822_exact greatest_year) bytes
    (direct (RefusesRfc2822 greatest_year)) rfc2822_exact_path t
IsParsed-one format.Iso8601 t bytes =
    IsAnswerFor-one (Iso8601.Reads greatest_year) (Iso8601.Refuses greatest_year) (iso8601_exact greatest_year) bytes
    over_record tt t
IsParsed-one format.Ymd t bytes = IsDescribed-one ymd t bytes
IsParsed-one format.Clock t bytes = IsDescribed-one clock t bytes
IsParsed-one format.Unix t bytes = IsDescribed-one unix t bytes
IsParsed-one format.Local t bytes = IsDescribed-one local t bytes

module _ (P : List ℕ → List ℕ → Type 0) (one : (line : List ℕ) → OneText (P line)) where
  pub AreAnswers-one : (lines : List (List ℕ)) → OneText (AreAnswers P lines)
  AreAnswers-one [] a b h k = h ∙ sym k
  AreAnswers-one (line ∷ lines) a b h k =
      h.4
      ∙ ap (λ (t : List ℕ). t ++ 10 ∷ h.1) (one line h.0 k.0 h.2 k.2)
      ∙ ap (λ (t : List ℕ). k.0 ++ 10 ∷ t) (AreAnswers-one lines h.1 k.1 h.3 k.3)
      ∙ sym k.4

  pub WritesAnswers-one : (input before new other : List ℕ)
      → WritesAnswers P (Some before) (Some new) input → WritesAnswers P (Some before) (Some other) input
      → new ≡ other
  WritesAnswers-one input before new other h k =
      h.2 ∙ ap (λ (t : List ℕ). before ++ t) (AreAnswers-one (line_texts input) h.0 k.0 h.1 k.1) ∙ sym k.2
