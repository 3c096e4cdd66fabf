use Rattle.std.proofs.Common.{◌≡◌, refl, sym, subst, rules}
use Rattle.time_zones.specs.Suffix.{IsZoneText, zone_of}
use Rattle.restamp_command.specs.Zones.{IsSuffixOf}
use Rattle.restamp_command.proofs.style.find_suffix.Goals as goal

pub returns-in-Ok-None : goal.returns-in-Ok-None
returns-in-Ok-None c =
    let none = rw c.in-Ok-None.field-0-is at c.in-Ok-None.ensures.none in (
      refl,
      search rules,
      λ bytes (h : IsSuffixOf c.args.zone.now bytes).
          (let is = c.in-Some.ensures in
          let has = h.2 in
          let same : zone_of c.in-Some.text ≡ h.0 = cc in
          none h.1 (subst (IsZoneText h.1) (sym same) h.3)),
    )
