use Rattle.std.proofs.Common.{◌≡◌, inl, inr, refl, ◌∙◌}
use Rattle.restamp_in_place.specs.Replacing.{stored, SafeIsOldOrNew}
use Rattle.restamp_in_place.proofs.laws.law_old_or_new.Goals as goal

-- a safe file has the old bytes or the new ones
safe-old_or_new : SafeIsOldOrNew
safe-old_or_new before after name old number backup new disk safe file may =
    elim (safe file may) [
      | inl k ↦
          let is = disk.led file k.0 in
          let same : stored after number ≡ stored before number = rw is at k.1 in
          (number, old, is, same ∙ disk.whole, inl refl)
      | inr n ↦ (n.number, n.bytes, n.is, n.whole, inr n.made)
    ]

pub returns : goal.returns
returns c = safe-old_or_new
