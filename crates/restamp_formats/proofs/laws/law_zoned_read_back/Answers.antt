use Rattle.std.proofs.Common.{Result, IsOkAnd, ◌≡◌, ℕ, ℤ, Bool, true, false, List, [], ◌++◌, length, Option, None, Some, Ok, Err, refl, sym, ap, subst, ◌∙◌, inr, MatchOption}
use Rattle.std.proofs.lemmas.Bool.Decides.{Decides-int_eq}
use Rattle.time_zones.specs.{Suffix.compared, Suffix.at_offset, declared.checking.SuffixFault.TheVariants.UnknownZone}
use Rattle.time_zones.proofs.{FolderLemmas.goes_with_found, NameLemmas.written_is_suffix}
use Rattle.jiff_tz.specs.Zone as Zone
use Rattle.restamp_formats.specs.Common.{IsTimestampNanos, TimeZone, offset_of, offset_seconds, greatest_year, Items, OffsetDateTime, Checked, AgreesWithNamed, AgreesWithZone, Zone as Told, bracketed, named, IsZoneIfAny, zone_named, NamedZone, Zones, Clock, Form, Defaults, Match, Reading}
use Rattle.restamp_formats.specs.{Zoned.IsConverted, Zoned.has_local_offset, Form.IsWritten, Laws.HasZone, Laws.IsZoneOfClock, Laws.ReadsZonedBack, Laws.WritesZonedSame, Reading.ParsesAs, Reading.said, Reason.Reason}
use Rattle.restamp_formats.proofs.{OneWriting.one_written, WrittenAgain.back, FrontLemmas.reads_suffixed_back}
use Rattle.restamp_formats.proofs.laws.law_zoned_read_back.Goals as goal

-- ---- A timestamp with the suffix of the zone that it was converted to parses back, and writing it again gives the same text

same_offset : (own zone : ℤ) → own ≡ zone → Ok tt ≡ compared own zone
same_offset own zone e = rw ((Decides-int_eq own zone).1 e) refl

outside_zone_range : (found : Option NamedZone) (m : OffsetDateTime) (zone : TimeZone) (r : Checked) → r ≡ Ok tt
    → IsZoneIfAny found (Some zone) → MatchOption found (r ≡ Err UnknownZone) (λ z. AgreesWithNamed false m z r)
outside_zone_range None m zone r e h = absurd h
outside_zone_range (Some z) m zone r e h = e

-- a moment that is converted to a zone's clock fits the zone
goes : (zones : Zones) (tells : Bool) (on : Clock) (v w : OffsetDateTime) (z : Told)
    → IsConverted on v (Some w) → IsZoneOfClock zones on z → AgreesWithZone zones tells w z (Ok tt)
goes zones true (Clock.Fixed o) v w (at_offset p) shown its =
    same_offset (offset_seconds (offset_of w)) (offset_seconds p) (ap offset_seconds (shown.1 ∙ sym its))
goes zones false (Clock.Fixed o) v w (at_offset p) shown its = refl
goes zones true (Clock.Zone zone) v w (named name) shown its =
    goes_with_found (zone_named zones name) w zone (Ok tt) its (inr (
      subst IsTimestampNanos (sym shown.0) shown.1,
      same_offset (offset_seconds (offset_of w)) _ (shown.2 ∙ ap (Zone.offset_at zone) (sym shown.0)),
    ))
goes zones false (Clock.Zone zone) v w (named name) shown its = outside_zone_range (zone_named zones name) w zone (Ok tt) refl its
goes zones tells on v w z shown its = absurd its

-- such a text with its suffix has exactly one match
module _ (zones : Zones) (defaults : Defaults) (form : Form) (v : OffsetDateTime) (text name : List ℕ)
    (is : HasZone zones defaults form v text name) where
  abbrev whole : List ℕ
  whole = text ++ bracketed false name

  one : (w : OffsetDateTime) (read : Result Match Reason) → IsConverted form.clock v (Some w)
      → ParsesAs Reading.Rfc3339 false text defaults (Ok (said w (length text)))
      → ParsesAs (Reading.Zoned zones) false whole defaults read → read ≡ Ok (said w (length whole))
  one w read shown says zoned =
      reads_suffixed_back zones defaults w text (bracketed false name) (Some (record { is_critical = false; zone = is.zone })) [] read
      says (written_is_suffix name is.zone is.told) (goes zones (has_local_offset text) form.clock v w is.zone shown is.of_clock) zoned

reads_zoned_back : ReadsZonedBack
reads_zoned_back zones defaults form v text name read is says =
    let it = back Reading.Rfc3339 defaults form v text is.readable in
    subst (λ (r : Result Match Reason). IsOkAnd r (λ s. IsConverted form.clock v (Some s.moment) × (s.start ≡ 0)
    × (s.length ≡ length (text ++ bracketed false name))))
    (sym (one zones defaults form v text name is it.0 read it.1.shown it.1.says says)) (it.1.shown, refl, refl)

writes_zoned_same : WritesZonedSame
writes_zoned_same zones defaults form v text name said_ again is says next =
    let it = back Reading.Rfc3339 defaults form v text is.readable in
    let same = one zones defaults form v text name is it.0 (Ok said_) it.1.shown it.1.says says in
    let moment : it.0 ≡ said_.moment = cc in
    subst (λ (r : Result Items Reason). IsOkAnd r (λ written. written.items ≡ text))
    (one_written form said_.moment (Ok it.1.text) again
    (subst (λ (w : OffsetDateTime). IsWritten form w (Ok it.1.text)) moment it.1.again) next) (sym it.1.same)

pub returns-clause-text : goal.returns-clause-text
returns-clause-text c = reads_zoned_back

pub returns-clause-again : goal.returns-clause-again
returns-clause-again c = writes_zoned_same
