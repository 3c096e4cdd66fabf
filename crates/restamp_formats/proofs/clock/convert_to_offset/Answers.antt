use Rattle.std.proofs.Common.{◌≡◌, true, ◌&&◌, int_eq, arith, refl, sym, ◌∙◌}
use Rattle.std.proofs.lemmas.Int.{ints}
use Rattle.time_values.proofs.InstantLemmas.{same_offset_by_parts}
use Rattle.restamp_formats.specs.Common.{UtcOffset}
use Rattle.restamp_formats.proofs.clock.convert_to_offset.Goals as goal

-- ---- Offsets that a test found equal

same_offset : (o p : UtcOffset)
    → (int_eq o.hours p.hours && (int_eq o.minutes p.minutes && int_eq o.seconds p.seconds)) ≡ true → o ≡ p
same_offset o p h = same_offset_by_parts o p (grind (arith, ints)) (grind (arith, ints)) (grind (arith, ints))

pub returns-then-eq : goal.returns-then-eq
returns-then-eq c =
    (refl, sym c.offset.ensures ∙ same_offset c.offset.result c.args.offset (sym c.eq.ensures ∙ c.if-eq.true))
