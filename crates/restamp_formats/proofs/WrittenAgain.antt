-- A timestamp that was written parses back, and writing it again gives the same text.
use Rattle.std.proofs.Common.{◌≡◌, ℕ, false, List, length, sym, ap, subst, refl, ◌∙◌, None, Some, Ok, Err, Option, Result, MatchOption, IsOkAnd}
use Rattle.time_formatting.specs.WellKnown.{count_of}
use Rattle.time_parsing.specs.Written.{IsCut}
use Rattle.time_parsing.proofs.{IsoBack.iso_read_back, MailForm.mail_read_back, StrictTexts.strict_read_back, WrittenBack.auto-keeps, WrittenBack.nine-keeps}
use Rattle.jiff_tz.specs.Zone as Zone
use Rattle.time_values.specs.Times as Times
use Rattle.time_parsing.specs.Iso8601 as Iso8601
use Rattle.restamp_formats.specs.Common.{IsTimestampNanos, offset_time, offset_instant, greatest_year, Items, OffsetDateTime, shape, WritesTextWith, IsMailText, moment_text, unwritable_3339, unwritable_2822, FractionDigits, Unwritable, empty, IsMoment, IsOutcome, Clock, Form, Named, Writing, Defaults, Reading, Match}
use Rattle.restamp_formats.specs.Laws.{HasDigits, AutoHasAll, ReadsAll, IsReadable, ReadsRewrittenBack, WritesSameText}
use Rattle.restamp_formats.specs.{Zoned.IsConverted, Zoned.conversion_error, Form.IsNamedText, Form.IsWrittenBy, Form.IsWritten, Form.written, Reading.said, Reason.Reason}
use Rattle.restamp_formats.proofs.{DescribedBack.keeps_moment, DescribedBack.SaysAll, DescribedBack.described_back, OneReading.one_has, OneWriting.one_shown, OneWriting.one_written}

-- the text of a moment that has one
text_is : (reason : Option Unwritable) (such : List ℕ → Type 0) (text : Items) (result : Result Items Unwritable)
    → WritesTextWith reason such result → Ok text ≡ written result → (reason ≡ None) × such text.items
text_is None such text (Ok t) p e =
    let same : text ≡ t = cc in (refl, subst (λ (u : Items). such u.items) (sym same) p)
text_is None such text (Err why) p e = absurd p
text_is (Some why) such text result p e = absurd cc

-- a moment whose fraction loses no digits
abbrev nanosecond_of : OffsetDateTime → ℕ
nanosecond_of v = Times.nanosecond (offset_time v)

whole : (k : ℕ) (v : OffsetDateTime) → HasDigits k v → IsCut k v v
whole k v keeps = record { date = refl; clock = (refl, refl, refl, sym keeps); offset = refl }

named_back : (named : Named) (digits : FractionDigits) (v : OffsetDateTime) (text : Items) (format : Reading)
    (defaults : Defaults) → ReadsAll format defaults (Writing.Named named) digits v
    → IsNamedText named digits v (Ok text) → SaysAll format defaults v text.items
named_back Named.Rfc3339 digits v text format defaults all p =
    let k = count_of digits (nanosecond_of v) in
    let is = text_is (unwritable_3339 v) (λ b. b ≡ moment_text k v) text p.0 p.1 p.2 in
    let back = strict_read_back digits v v is.0 (whole k v all.1) in
    rw all.0 (Ok (said v (length text.items)), (Ok v, rw is.1 back.0, refl), refl)
named_back Named.Rfc2822 digits v text format defaults all p =
    let is = text_is (unwritable_2822 v) (IsMailText v) text p.0 p.1 p.2 in
    let back = mail_read_back v v text.items is.0 (whole 0 v all.1) is.1 in
    rw all.0 (Ok (said v (length text.items)), (Ok (said v (length text.items)), (Ok v, back.0, refl), refl), refl)
named_back Named.Iso8601 digits v text format defaults all p =
    let is = text_is (unwritable_3339 v) (λ b. b ≡ moment_text 9 v) text p.0 p.1 p.2 in
    let back = iso_read_back (FractionDigits.Exactly 9) v v is.0 (whole 9 v (nine-keeps (nanosecond_of v) (offset_time v).nanosecond_in)) in
    let outcome = subst (λ b. IsOutcome (IsMoment greatest_year) (Iso8601.Reads greatest_year) (Iso8601.Refuses greatest_year) b
    empty (Ok v)) (sym is.1) back.0 in
    rw all (
      Ok (said v (length text.items)),
      (Ok v, (outcome.0, outcome.1, keeps_moment defaults outcome.0 v outcome.2), refl),
      refl,
    )
named_back (Named.Count unit) digits v text format defaults all p = absurd all

by_back : (writing : Writing) (digits : FractionDigits) (v : OffsetDateTime) (text : Items) (format : Reading)
    (defaults : Defaults) → ReadsAll format defaults writing digits v
    → IsWrittenBy writing digits v (Ok text) → SaysAll format defaults v text.items
by_back (Writing.Named named) digits v text format defaults all p = named_back named digits v text format defaults all p
by_back (Writing.Described d) digits v text format defaults all p = described_back format defaults (shape d) v text all p

-- converting a moment to a clock keeps its instant, and a second conversion changes nothing
pub shown_instant : (on : Clock) (v w : OffsetDateTime) → IsConverted on v (Some w)
    → offset_instant greatest_year w ≡ offset_instant greatest_year v
shown_instant Clock.Own v w p = let same : w ≡ v = cc in ap (offset_instant greatest_year) same
shown_instant (Clock.Fixed o) v w p = p.0
shown_instant (Clock.Zone zone) v w p = p.0

shown_again : (on : Clock) (v w : OffsetDateTime) → IsConverted on v (Some w) → IsConverted on w (Some w)
shown_again Clock.Own v w p = refl
shown_again (Clock.Fixed o) v w p = (refl, p.1)
shown_again (Clock.Zone zone) v w p =
    (refl, subst IsTimestampNanos (sym p.0) p.1, p.2 ∙ ap (Zone.offset_at zone) (sym p.0))

-- the converted moment: the text parses as it, and it is written as the text again
pub record IsBack (format : Reading) (defaults : Defaults) (form : Form) (v : OffsetDateTime) (bytes : List ℕ)
    (w : OffsetDateTime) : Type 0 where
  pub shown : IsConverted form.clock v (Some w)
  pub says : SaysAll format defaults w bytes
  pub text : Items
  pub again : IsWritten form w (Ok text)
  pub same : bytes ≡ text.items

pub back : (format : Reading) (defaults : Defaults) (form : Form) (v : OffsetDateTime) (bytes : List ℕ)
    → IsReadable format defaults form v bytes → (w : OffsetDateTime) × IsBack format defaults form v bytes w
back format defaults form v bytes ((w, shown, all), (text, (other, p, q), e)) =
    let there = subst (λ (s : Option OffsetDateTime). MatchOption s (Ok text ≡ Err (conversion_error form.clock))
    (λ u. IsWrittenBy form.writing.now form.digits u (Ok text)))
    (one_shown form.clock v other (Some w) p shown) q in
    let says = by_back form.writing.now form.digits w text format defaults all there in (
      w,
      record {
        shown = shown;
        says = subst (λ (b : List ℕ). SaysAll format defaults w b) (sym e) says;
        text = text;
        again = (Some w, shown_again form.clock v w shown, there);
        same = e;
      },
    )

pub auto_has_all : AutoHasAll
auto_has_all v = auto-keeps (nanosecond_of v) (offset_time v).nanosecond_in

pub reads_rewritten_back : ReadsRewrittenBack
reads_rewritten_back format defaults form v bytes read is says =
    let it = back format defaults form v bytes is in
    subst (λ (r : Result Match Reason). IsOkAnd r (λ s. IsConverted form.clock v (Some s.moment) × (s.start ≡ 0) × (s.length ≡ length bytes)))
    (one_has format false bytes defaults (Ok (said it.0 (length bytes))) read it.1.says says) (it.1.shown, refl, refl)

pub writes_same_text : WritesSameText
writes_same_text format defaults form v bytes said_ again is says next =
    let it = back format defaults form v bytes is in
    let one : Ok (said it.0 (length bytes)) ≡ Ok said_ =
    one_has format false bytes defaults (Ok (said it.0 (length bytes))) (Ok said_) it.1.says says in
    let same : said it.0 (length bytes) ≡ said_ = cc in
    let there : IsWritten form said_.moment (Ok it.1.text) =
    subst (λ (s : Match). IsWritten form s.moment (Ok it.1.text)) same it.1.again in
    subst (λ (r : Result Items Reason). IsOkAnd r (λ text. text.items ≡ bytes))
    (one_written form said_.moment (Ok it.1.text) again there next) (sym it.1.same)
