use Rattle.std.proofs.Common.{◌∙◌, refl}
use Rattle.std.proofs.KnownBytes.{Appends-nil}
use Rattle.time_parse.proofs.PlaceLemmas.{printable_more}
use Rattle.time_parse.proofs.place.write_printable.Goals as goal

pub loop-byte-init : goal.loop-byte-init
loop-byte-init g c = (Appends-nil _, refl, refl)

pub loop-byte-preserved : goal.loop-byte-preserved
loop-byte-preserved g c = (
  printable_more _ _ _ c.args.bytes.now c.loop-byte.byte-index _ c.loop-byte-test.true c.loop-byte.invariant.0
      (rw c.printable.ensures at c.in_ok-write_all.ensures.bytes),
  c.in_ok-write_all.ensures.cause ∙ c.loop-byte.invariant.1,
  c.in_ok-write_all.ensures.through ∙ c.loop-byte.invariant.2,
)
