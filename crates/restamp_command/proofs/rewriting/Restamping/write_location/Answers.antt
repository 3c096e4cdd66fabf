use Rattle.std.proofs.Common.{true, false, refl}
use Rattle.restamp_stream.proofs.LinesLemmas.{OnOk-map}
use Rattle.restamp_lines.specs.ErrorLocation.{why_text, erased_location}
use Rattle.restamp_formats.specs.Reason.{seen}
use Rattle.restamp_command.specs.Rewriting.{expected_text, error_report}
use Rattle.restamp_command.proofs.FormatLemmas.{Appends-plain, Appends-location}
use Rattle.restamp_command.proofs.rewriting.Restamping.write_location.Goals as goal

pub returns-then-self-clause-reported : goal.returns-then-self-clause-reported
returns-then-self-clause-reported g c =
    let why = seen c.args.refusal.reason in
    let w = erased_location c.find_location-column.result in
    let missing_field = c.find_missing_field.result in
    let zone = c.args.self.now.zone.now in
    OnOk-map c.write_pointer.result _ _ c.write_pointer.ensures.written
    (λ pointed. (
      w.column,
      error_report true c.args.front.now zone why missing_field w,
      (w, missing_field, c.find_location-column.ensures, c.find_missing_field.ensures, refl, rw c.if-self.true refl),
      Appends-location _ _ _ _ _ c.args.front.now (why_text zone why missing_field) (expected_text w.wanted) w.column
          c.in_ok-write.ensures.bytes c.in_ok-write_expected.ensures.written c.in_ok-write_all.ensures.bytes pointed,
    ))

pub returns-clause-reported : goal.returns-clause-reported
returns-clause-reported g c =
    let why = seen c.args.refusal.reason in
    let w = erased_location c.find_location-column.result in
    let missing_field = c.find_missing_field.result in
    let zone = c.args.self.now.zone.now in
    OnOk-map c.write_expected-2.result _ _ c.write_expected-2.ensures.written
    (λ written. (
      w.column,
      error_report false c.args.front.now zone why missing_field w,
      (w, missing_field, c.find_location-column.ensures, c.find_missing_field.ensures, refl, rw c.if-self.false refl),
      Appends-plain _ _ _ (why_text zone why missing_field) (expected_text w.wanted) w.column c.in_ok-write-2.ensures.bytes written,
    ))
