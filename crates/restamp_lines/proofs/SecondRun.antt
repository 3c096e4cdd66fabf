-- A second run changes nothing.
use Rattle.std.proofs.Common.{◌≡◌, ℕ, ◌+◌, Bool, true, false, List, length, subst, refl, arith, None, Some, Ok, Option, nat_lt, MatchBool}
use Rattle.time_values.specs.Moments.{offset_instant}
use Rattle.time_values.specs.Calendar.{greatest_year}
use Rattle.time_values.specs.DisplayTexts.{Items}
use Rattle.time_values.specs.declared.offset_date_time.OffsetDateTime.{OffsetDateTime}
use Rattle.restamp_formats.specs.Form.{IsWritten}
use Rattle.restamp_lines.specs.Job.{Dropped}
use Rattle.restamp_lines.specs.Job.{Verdict, IsPut, IsJudged, is_before, is_kept, rewritten, refused}
use Rattle.restamp_lines.specs.Laws.{ChangesNothing}
use Rattle.restamp_formats.specs.Reading.{said}
use Rattle.restamp_formats.specs.Reason.{too_far}
use Rattle.restamp_lines.specs.declared.job.Job.{Job}
use Rattle.restamp_lines.specs.declared.job.TheConstants.{LIMIT}
use Rattle.restamp_lines.proofs.OneVerdict.{one_verdict}
use Rattle.restamp_formats.proofs.ParseLemmas.{in_turn-first}
use Rattle.restamp_formats.proofs.WrittenAgain.{back, shown_instant}

-- moments with one instant lie within the same bounds
same_before : (bound : Option OffsetDateTime) (v w : OffsetDateTime) (otherwise : Bool)
    → offset_instant greatest_year w ≡ offset_instant greatest_year v
    → is_before w bound otherwise ≡ is_before v bound otherwise
same_before None v w otherwise e = refl
same_before (Some b) v w otherwise e = rw e refl

same_kept : (job : Job) (v w : OffsetDateTime) → offset_instant greatest_year w ≡ offset_instant greatest_year v
    → is_kept job w ≡ is_kept job v
same_kept job v w e = rw (same_before job.since v w false e, same_before job.until v w true e) refl

-- the verdict on a line with a text that is written as itself again, unless the text ends too far behind
abbrev Put : Bool → Bool → ℕ → List ℕ → Verdict → Type 0
Put far kept start bytes verdict =
    MatchBool far (verdict ≡ refused (start + 1) too_far) (MatchBool kept (verdict ≡ rewritten start (length bytes) bytes) (verdict ≡ Dropped))

put_back : (job : Job) (far kept : Bool) (start : ℕ) (w : OffsetDateTime) (bytes : List ℕ) (text : Items)
    → IsWritten job.form w (Ok text) → bytes ≡ text.items → is_kept job w ≡ kept
    → nat_lt LIMIT (start + length bytes) ≡ far → start + 0 ≡ start
    → (verdict : Verdict) × IsPut job start (said w (length bytes)) verdict × Put far kept start bytes verdict
put_back job true kept start w bytes text again same e f none = (refused (start + 1) too_far, rw (none, f) refl, refl)
put_back job false true start w bytes text again same e f none =
    (rewritten start (length bytes) text.items, rw (none, f, e) (Ok text, again, grind arith), cc)
put_back job false false start w bytes text again same e f none = (Dropped, rw (none, f, e) refl, refl)

pub changes_nothing : ChangesNothing
unfolding same_kept put_back
changes_nothing job place line span v bytes verdict at closed found here is judged_so =
    let it = back job.first.now job.defaults job.form v bytes is in
    let s = said it.0 (length bytes) in
    let far = nat_lt LIMIT (span.start + length bytes) in
    let put = put_back job far (is_kept job v) span.start it.0 bytes it.1.text it.1.again it.1.same
    (same_kept job v it.0 (shown_instant job.form.clock v it.0 it.1.shown)) refl (omega arith) in
    let read = in_turn-first job.first.now job.others.now false bytes job.defaults s it.1.says in
    let first : IsJudged job line put.0 = rw (at, found, closed, here) (Ok s, read, put.1) in
    subst (Put far (is_kept job v) span.start bytes) (one_verdict job line put.0 verdict first judged_so) put.2
