use Rattle.std.proofs.Common.{◌≡◌, sym, Ok, w32, arith}
use Rattle.std.proofs.lemmas.Int.{to_z-of_z, ints}
use Rattle.time_values.specs.Offsets.{offset_seconds, whole_offset_refusal}
use Rattle.time_values.specs.Refusal.{Constructs}
use Rattle.pelzaune_ffi.specs.Results.{HasMoment, local_refusal, IsLocalOf}
use Rattle.pelzaune_ffi.proofs.IsoInPlace.{Constructs-made, Constructs-property, Constructs-ok, Constructs-later}
use Rattle.pelzaune_ffi.proofs.writing.moment_of.Goals as goal

pub returns : goal.returns
returns c =
    let s = c.args.parts.now in
    let local = c.in_ok-local.local in
    let offset = c.in_ok-offset.offset in
    let kept = to_z-of_z w32 s.offset (omega (arith, ints)) in
    let made : Constructs (whole_offset_refusal s.offset) (λ o. offset_seconds o ≡ s.offset) (Ok offset) = rw kept at c.in_ok-offset.ensures in
    let has = Constructs-property (local_refusal s) (λ p. IsLocalOf s p) local c.in_ok-local.ensures in
    let ahead = Constructs-property (whole_offset_refusal s.offset) (λ o. offset_seconds o ≡ s.offset) offset made in
    let moment : HasMoment c.assume_offset.result s = record {
      year = rw c.assume_offset.ensures.date has.0.0;
      month = rw c.assume_offset.ensures.date has.0.1;
      day = rw c.assume_offset.ensures.date has.0.2;
      hour = rw c.assume_offset.ensures.time (sym has.1.0);
      minute = rw c.assume_offset.ensures.time (sym has.1.1);
      second = rw c.assume_offset.ensures.time (sym has.1.2);
      nanosecond = rw c.assume_offset.ensures.time (sym has.1.3);
      offset = rw c.assume_offset.ensures.offset (sym ahead);
    } in
    Constructs-later (local_refusal s) (whole_offset_refusal s.offset) (λ v. HasMoment v s) (Ok c.assume_offset.result)
    (Constructs-made (local_refusal s) (λ p. IsLocalOf s p) local c.in_ok-local.ensures)
    (Constructs-ok (whole_offset_refusal s.offset) (λ v. HasMoment v s) c.assume_offset.result
    (Constructs-made (whole_offset_refusal s.offset) (λ o. offset_seconds o ≡ s.offset) offset made) moment)
