use Rattle.std.proofs.Common.{rules, arith, sym, subst, Some, None}
use Rattle.std.proofs.lemmas.Str.Pattern.{split_parts}
use Rattle.time_zones.specs.Finding.{IsPart, IsZoneName}
use Rattle.time_zones.proofs.NameLemmas.{part_and_name, name_after, one_part, part_of_one}
use Rattle.time_zones.proofs.place.is_zone_name.Goals as goal

pub parts-preserved : goal.parts-preserved
parts-preserved c =
    let part = c.in-Some.part.now in
    let after = c.in-Some.after.now in
    let parts = split_parts 47 c.parts.rest.now (Some (c.in-Some.part, c.in-Some.after)) c.in-Some.ensures.cases (omega arith) in
    let is : IsPart part = search rules in
    let kept = c.parts.invariant.1 in (
      search rules,
      (
        λ z. kept.0 (subst IsZoneName (sym parts.0) (part_and_name part after parts.1 is z)),
        λ z. (name_after part after parts.1 (subst IsZoneName parts.0 (kept.1 z))).1,
      ),
    )

pub returns : goal.returns
returns c =
    let lacks = split_parts 47 c.parts.rest.now None c.in_default.ensures.cases (omega arith) in
    let kept = c.parts.invariant.1 in (
      λ t. kept.0 (one_part c.parts.rest.now lacks (c.is_part-2.ensures.0 t)),
      λ z. c.is_part-2.ensures.1 (part_of_one c.parts.rest.now lacks (kept.1 z)),
    )
