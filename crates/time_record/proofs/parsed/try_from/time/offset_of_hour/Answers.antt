use Rattle.std.proofs.Common.{◌≡◌, ℤ, Some, Ok, sym, subst, arith, w8}
use Rattle.std.proofs.lemmas.Int.{ints, to_z-of_z}
use Rattle.time_values.specs.Offsets.{HasOffset, offset_refusal}
use Rattle.time_values.specs.Refusal.{Constructs}
use Rattle.time_values.specs.declared.utc_offset.UtcOffset.{UtcOffset}
use Rattle.time_values.proofs.NumberLemmas.{Constructs-Ok}
use Rattle.time_record.specs.Record.{Record}
use Rattle.time_record.specs.Resolution.{IsConstructed, IsOffset, offset_part, offset_seconds_of}
use Rattle.time_record.proofs.parsed.try_from.time.offset_of_hour.Goals as goal

-- ---- The offset of a record that has its hour

-- the offset with these parts is the record's
offset_made : (r : Record) (h m s : ℤ) (o : UtcOffset) → r.offset_hour ≡ Some h → m ≡ offset_part r r.offset_minute → s ≡ offset_seconds_of r
    → Constructs (offset_refusal h m s) (HasOffset h m s) (Ok o) → IsOffset r (Ok o)
unfolding IsOffset
offset_made r h m s o there minute second made =
    let is = Constructs-Ok (offset_refusal h m s) (HasOffset h m s) o made in
    let given : IsConstructed (offset_refusal h m s) (HasOffset h m s) (Ok o) =
    subst (λ refused. IsConstructed refused (HasOffset h m s) (Ok o)) (sym is.0) is.1 in
    rw there (subst (λ m. IsConstructed (offset_refusal h m (offset_seconds_of r)) (HasOffset h m (offset_seconds_of r)) (Ok o)) minute
    (subst (λ s. IsConstructed (offset_refusal h m s) (HasOffset h m s) (Ok o)) second given))

pub returns : goal.returns
returns c =
    let minute : c.unwrap_or-minute.result ≡ offset_part c.args.parsed.now c.args.parsed.now.offset_minute = grind (arith, to_z-of_z) in
    let m = to_z-of_z w8 c.unwrap_or-minute.result (omega (arith, ints, c.unwrap_or-minute.type_inv)) in
    let s = to_z-of_z w8 c.second_below.result (omega (arith, ints, c.second_below.type_inv)) in
    let made = simp (to_z-of_z, c.ranges.hour, m, s) at c.in_ok-from_hms.ensures in
    offset_made c.args.parsed.now c.args.hour c.unwrap_or-minute.result c.second_below.result c.in_ok-from_hms.field-0 c.requires minute
    c.second_below.ensures made
