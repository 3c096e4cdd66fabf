use Rattle.std.proofs.Common.{sym, subst, inl, inr}
use Rattle.std.specs.Prelude.{option_map}
use Rattle.jiff_core.specs.DateTime.{civil_nanos}
use Rattle.jiff_tz.specs.PosixText.{dst_view}
use Rattle.time_zones.specs.Spread.{IsSide, IsOfDst, IsOfRule}
use Rattle.time_zones.proofs.ZoneLemmas.{zone_candidate, tried}
use Rattle.time_zones.proofs.spread.spread_at.Goals as goal

pub returns-in_default-clause-each : goal.returns-in_default-clause-each
returns-in_default-clause-each c = λ s h.
    let zone = c.args.zone.now in
    let reading = civil_nanos c.args.civil in
    elim (zone_candidate zone c.args.civil s h) [
      | inl side ↦
          elim (c.sides.ensures s (subst (λ offsets. IsSide offsets s) (sym c.to_ambiguous_offset.ensures) side)) [
            | inl one ↦ c.widened-second.ensures.kept s (tried zone reading c.widened-first.result _ s c.widened-first.ensures.covered h one)
            | inr two ↦ tried zone reading c.widened-second.result _ s c.widened-second.ensures.covered h two
          ]
      | inr rule ↦ absurd (subst (λ r. IsOfRule r s) (sym c.in_default.ensures) rule)
    ]

pub returns-in-Some-dst-clause-each : goal.returns-in-Some-dst-clause-each
returns-in-Some-dst-clause-each c = λ s h.
    let zone = c.args.zone.now in
    let reading = civil_nanos c.args.civil in
    elim (zone_candidate zone c.args.civil s h) [
      | inl side ↦
          c.widened.ensures.kept s (c.widened-third.ensures.kept s
          (elim (c.sides.ensures s (subst (λ offsets. IsSide offsets s) (sym c.to_ambiguous_offset.ensures) side)) [
            | inl one ↦ c.widened-second.ensures.kept s (tried zone reading c.widened-first.result _ s c.widened-first.ensures.covered h one)
            | inr two ↦ tried zone reading c.widened-second.result _ s c.widened-second.ensures.covered h two
          ]))
      | inr rule ↦
          elim (subst (λ r. IsOfRule r s) (sym c.in-Some.ensures) rule) [
            | inl std ↦ c.widened.ensures.kept s (tried zone reading c.widened-third.result _ s c.widened-third.ensures.covered h std)
            | inr dst ↦
                tried zone reading c.widened.result _ s c.widened.ensures.covered h
                (subst (λ d. IsOfDst (option_map dst_view d) s) c.in-Some-dst.is dst)
          ]
    ]

pub returns-in-None-clause-each : goal.returns-in-None-clause-each
returns-in-None-clause-each c = λ s h.
    let zone = c.args.zone.now in
    let reading = civil_nanos c.args.civil in
    elim (zone_candidate zone c.args.civil s h) [
      | inl side ↦
          c.widened-third.ensures.kept s
          (elim (c.sides.ensures s (subst (λ offsets. IsSide offsets s) (sym c.to_ambiguous_offset.ensures) side)) [
            | inl one ↦ c.widened-second.ensures.kept s (tried zone reading c.widened-first.result _ s c.widened-first.ensures.covered h one)
            | inr two ↦ tried zone reading c.widened-second.result _ s c.widened-second.ensures.covered h two
          ])
      | inr rule ↦
          elim (subst (λ r. IsOfRule r s) (sym c.in-Some.ensures) rule) [
            | inl std ↦ tried zone reading c.widened-third.result _ s c.widened-third.ensures.covered h std
            | inr dst ↦ absurd (subst (λ d. IsOfDst (option_map dst_view d) s) c.in-None.is dst)
          ]
    ]
