use Rattle.std.proofs.Common.{rules, pos, neg_ℤ}
use Rattle.std.specs.Prelude.{IsOk}
use Rattle.jiff_core.specs.DateTime.{civil_nanos}
use Rattle.time_zones.proofs.ZoneLemmas.{told_between}
use Rattle.time_zones.proofs.clocks.is_in_zone_range_at_each_offset.Goals as goal

pub returns-then-is_ok : goal.returns-then-is_ok
returns-then-is_ok c =
    let first : IsOk c.to_timestamp.result = search rules in (
      λ ok.
          let last : IsOk c.to_timestamp-then-is_ok.result = search rules in
          λ s. λ within. told_between (civil_nanos c.args.civil) s (c.to_timestamp.ensures.succeeds.0 first)
          (c.to_timestamp-then-is_ok.ensures.succeeds.0 last) within,
      λ all.
          let last : IsOk c.to_timestamp-then-is_ok.result = c.to_timestamp-then-is_ok.ensures.succeeds.1 (all (pos 93_599) (search, search)) in
          search rules,
    )

pub returns-else-is_ok : goal.returns-else-is_ok
returns-else-is_ok c = (
  λ ok. absurd (search rules),
  λ all.
      let first : IsOk c.to_timestamp.result = c.to_timestamp.ensures.succeeds.1 (all (neg_ℤ (pos 93_599)) (search, search)) in
      absurd (search rules),
)
