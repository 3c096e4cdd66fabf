-- A format has at most one result for a text over a record, and a direct path has at most one for a text. `Y` is the
-- greatest year.
use Rattle.std.specs.Prelude.{ℕ}
use Rattle.std.proofs.Common.{false, None, ◌≡◌, ◌∙◌, sym, ap, List, Option, Some, Result, Ok, Err, true}
use Rattle.time_values.specs.Calendar.{greatest_year}
use Rattle.time_values.specs.Refusal.{Refusal}
use Rattle.time_values.specs.Names.{month_number}
use Rattle.time_values.specs.declared.month.Month.{Month}
use Rattle.time_values.proofs.NumberLemmas.{same_month}
use Rattle.time_components.specs.Tree.{Tree}
use Rattle.time_readers.specs.Direct.{RefusesRfc3339, RefusesRfc2822, minute_refusal, rfc3339_numbers, rfc2822_numbers}
use Rattle.time_readers.specs.Rfc2822 as rfc2822
use Rattle.time_readers.specs.Rfc3339 as rfc3339
use Rattle.time_readers.specs.IsoPieces.{Found}
use Rattle.time_readers.specs.Rfc2822.{PlaceSyntax, places, nothing_read, fault}
use Rattle.time_readers.specs.declared.rfc2822.Numbers.{Numbers}
use Rattle.time_readers.specs.Laws.{OneForm}
use Rattle.time_readers.specs.Rfc3339.{PlaceSyntax as Rfc3339Syntax, places as rfc3339_places, nothing_read as rfc3339_nothing_read, fault as rfc3339_fault}
use Rattle.time_readers.specs.declared.rfc3339.Numbers.{Numbers as Rfc3339Numbers}
use Rattle.time_readers.proofs.Walking.{one_direct}
use Rattle.time_readers.proofs.OneMailDate.{MailAsks-unique}
use Rattle.time_readers.proofs.Repeats.{PlaceSyntax-unique, one_form}
use Rattle.time_record.specs.Reading.{Reads, Refuses}
use Rattle.time_record.specs.Record.{Record, put_all}
use Rattle.time_record.proofs.Unique.{Reads-unique, Refuses-unique, Reads-unrefused}
use Rattle.time_parsing.specs.Outcome.{IsExact, direct, IsExactPath}
use Rattle.time_parsing.specs.Rfc2822 as Rfc2822
use Rattle.time_parsing.specs.Rfc3339 as Rfc3339
use Rattle.time_parsing.specs.Rfc3339Strict as Strict
use Rattle.time_parsing.specs.Rfc3339Strict.{strict_text}
use Rattle.time_parsing.specs.exact.RecordedRfc2822 as RecordedRfc2822
use Rattle.time_parsing.specs.exact.RecordedRfc3339 as RecordedRfc3339
use Rattle.time_parsing.specs.Iso8601.{Reads as Iso8601Reads, Refuses as Iso8601Refuses}
use Rattle.time_parsing.specs.Rfc3339.{without_offset_sign, with_leap_second, entries as rfc3339_entries, Reads as Rfc3339Reads, Refuses as Rfc3339Refuses}
use Rattle.time_parsing.specs.Rfc2822.{entries, Reads as Rfc2822Reads, Refuses as Rfc2822Refuses}

-- ---- A description has one answer for a text over a record. `Y` is the greatest year.

-- for a text and a record, a description has at most one reading or one error, and never both
pub tree_exact : (Y : ℕ) (t : Tree) → IsExact (Reads Y t) (Refuses Y t)
tree_exact Y t = record {
  one_rest = λ b r x y p q u v. (Reads-unique Y t b r x p y q u v).0;
  one_record = λ b r x y p q u v. (Reads-unique Y t b r x p y q u v).1;
  one_refusal = λ b r e f u v. Refuses-unique Y t b r e f u v;
  not_both = λ b r x p e u v. Reads-unrefused Y t b r x p e u v;
}

-- ---- The direct paths of RFC 3339 and RFC 2822 have one answer for a text

-- the direct path of RFC 3339 has at most one error for a text, and none for one that is a moment over an empty record
pub rfc3339_exact_path :
    IsExactPath greatest_year (direct (RefusesRfc3339 greatest_year)) (Rfc3339.Reads greatest_year)
    (Rfc3339.Refuses greatest_year)
rfc3339_exact_path =
    let one =
    one_direct (rfc3339.PlaceSyntax false) rfc3339.places rfc3339.nothing_read rfc3339.fault minute_refusal
    rfc3339_numbers
    (one_form (rfc3339.PlaceSyntax false) (PlaceSyntax-unique false) rfc3339.places rfc3339.nothing_read) in (
      one.one_refusal,
      λ bytes v e told refused. one.never_both bytes v e (RecordedRfc3339.record-value bytes v told)
          refused,
    )

-- the direct path of RFC 2822 has at most one error for a text, and none for one that is a moment over an empty record
pub rfc2822_exact_path :
    IsExactPath greatest_year (direct (RefusesRfc2822 greatest_year)) (Rfc2822.Reads greatest_year)
    (Rfc2822.Refuses greatest_year)
rfc2822_exact_path =
    let one =
    one_direct (rfc2822.PlaceSyntax false) rfc2822.places rfc2822.nothing_read rfc2822.fault (λ n. None) rfc2822_numbers
    (one_form (rfc2822.PlaceSyntax false) (MailAsks-unique false) rfc2822.places rfc2822.nothing_read) in (
      one.one_refusal,
      λ bytes v e told refused. one.never_both bytes v e (RecordedRfc2822.record-value bytes v told)
          refused,
    )

-- ---- ISO 8601 has one answer for a text over a record, since a reading is a function. `Y` is the greatest year.

-- the rest of a reading, or x if there is no reading
abbrev rest_of : List ℕ → Option (List ℕ × Record) → List ℕ
rest_of x (Some p) = p.0
rest_of x None = x

-- the record of a reading, or r if there is no reading
abbrev record_of : Record → Option (List ℕ × Record) → Record
record_of r (Some p) = p.1
record_of r None = r

-- the error of a date, or e if there is a date
abbrev fault_of : Refusal → Result (Found Record) Refusal → Refusal
fault_of e (Ok d) = e
fault_of e (Err f) = f

-- for a text and a record, ISO 8601 has at most one reading or one error, and never both
pub iso8601_exact : (Y : ℕ) → IsExact (Iso8601Reads Y) (Iso8601Refuses Y)
iso8601_exact Y = record {
  one_rest = λ b r x y p q u v. ap (rest_of x) (sym u ∙ v);
  one_record = λ b r x y p q u v. ap (record_of r) (sym u ∙ v);
  one_refusal = λ b r e f u v. ap (fault_of e) (sym u.1 ∙ v.1);
  not_both = λ b r x p e u v.
      let clash : ◌≡◌ {A = Option (List ℕ × Record)} (Some (x, p)) None = sym u ∙ v.0 in cc;
}

-- ---- RFC 2822 has one answer for a text over a record. `Y` is the greatest year.

rfc2822_form : (b : List ℕ) → OneForm (PlaceSyntax true) places nothing_read b
rfc2822_form b = one_form (PlaceSyntax true) (MailAsks-unique true) places nothing_read b

same_value : (p q : Record) → Some p ≡ Some q → p ≡ q
same_value p q same = cc

-- storing one text's numbers in a record has one result
rfc2822_put-unique : (Y : ℕ) (n m : Numbers) (r p q : Record) → n ≡ m
    → put_all Y (entries n) r ≡ Some p → put_all Y (entries m) r ≡ Some q → p ≡ q
rfc2822_put-unique Y n m r p q same u v =
    same_value p q (sym u ∙ ap (λ (x : Numbers). put_all Y (entries x) r) same ∙ v)

-- for a text and a record, RFC 2822 has at most one reading or one error, and never both
pub rfc2822_exact : (Y : ℕ) → IsExact (Rfc2822Reads Y) (Rfc2822Refuses Y)
rfc2822_exact Y = record {
  one_rest = λ b r x y p q u v. ((rfc2822_form b).one_reading x y u.0 v.0 u.1 v.1).0;
  one_record = λ b r x y p q u v.
      rfc2822_put-unique Y u.0 v.0 (with_leap_second (without_offset_sign r)) p q
      ((rfc2822_form b).one_reading x y u.0 v.0 u.1 v.1).1 u.2 v.2;
  one_refusal = λ b r e f u v. u.2 ∙ ap fault ((rfc2822_form b).one_place u.0 v.0 u.1 v.1) ∙ sym v.2;
  not_both = λ b r x p e u v. (rfc2822_form b).never_both x u.0 v.0 u.1 v.1;
}

-- ---- RFC 3339 has one answer for a text over a record. `Y` is the greatest year.

form : (b : List ℕ) → OneForm (Rfc3339Syntax true) rfc3339_places rfc3339_nothing_read b
form b = one_form (Rfc3339Syntax true) (PlaceSyntax-unique true) rfc3339_places rfc3339_nothing_read b

-- storing one text's numbers in a record has one result
put-unique : (Y : ℕ) (n m : Rfc3339Numbers) (k l : Month) (r p q : Record) → n ≡ m
    → month_number k ≡ n.month → month_number l ≡ m.month
    → put_all Y (rfc3339_entries n k) r ≡ Some p → put_all Y (rfc3339_entries m l) r ≡ Some q → p ≡ q
put-unique Y n m k l r p q same kn lm u v =
    let months : k ≡ l = same_month k l (kn ∙ ap (λ x. x.month) same ∙ sym lm) in
    let puts =
    ap (λ (x : Rfc3339Numbers). put_all Y (rfc3339_entries x k) r) same
    ∙ ap (λ (x : Month). put_all Y (rfc3339_entries m x) r) months in
    same_value p q (sym u ∙ puts ∙ v)

-- for a text and a record, RFC 3339 has at most one reading or one error, and never both
pub rfc3339_exact : (Y : ℕ) → IsExact (Rfc3339Reads Y) (Rfc3339Refuses Y)
rfc3339_exact Y = record {
  one_rest = λ b r x y p q u v. ((form b).one_reading x y u.0 v.0 u.2 v.2).0;
  one_record = λ b r x y p q u v.
      put-unique Y u.0 v.0 u.1 v.1 (with_leap_second (without_offset_sign r)) p q
      ((form b).one_reading x y u.0 v.0 u.2 v.2).1 u.3 v.3 u.4 v.4;
  one_refusal = λ b r e f u v. u.2 ∙ ap rfc3339_fault ((form b).one_place u.0 v.0 u.1 v.1) ∙ sym v.2;
  not_both = λ b r x p e u v. (form b).never_both x u.0 v.0 u.2 v.1;
}

-- for a text and a record, strict RFC 3339 (with `T`, `t` or a space) has at most one reading or one error, never both
pub strict_exact : (Y : ℕ) → IsExact (Strict.Reads Y) (Strict.Refuses Y)
strict_exact Y = record {
  one_rest = λ b. (rfc3339_exact Y).one_rest (strict_text b);
  one_record = λ b. (rfc3339_exact Y).one_record (strict_text b);
  one_refusal = λ b. (rfc3339_exact Y).one_refusal (strict_text b);
  not_both = λ b. (rfc3339_exact Y).not_both (strict_text b);
}

-- the strict direct path has at most one error for a text, and none for one that is a moment over an empty record
pub strict_exact_path :
    IsExactPath greatest_year (direct (Strict.RefusesDirectly greatest_year)) (Strict.Reads greatest_year)
    (Strict.Refuses greatest_year)
strict_exact_path = (λ b. rfc3339_exact_path.0 (strict_text b), λ b. rfc3339_exact_path.1 (strict_text b))
