use Rattle.std.proofs.Common.{◌≡◌, ℤ, to_z, of_z, arith, subst, vec_len}
use Rattle.std.specs.Int.{w64}
use Rattle.std.specs.Prelude.{IfSome}
use Rattle.std.proofs.lemmas.Int.{to_z-of_z}
use Rattle.jiff_core.specs.Calendar.{IsBetween}
use Rattle.jiff_core.proofs.SignedLemmas.{signed_arith}
use Rattle.jiff_tz.specs.Tzif.{count_at, floor_second}
use Rattle.time_zones.specs.Spread.{IsRowOffset}
use Rattle.time_zones.proofs.ZoneLemmas.{if_some, past_rows, row_offset}
use Rattle.time_zones.proofs.clocks.fast.offset_by_rows.Goals as goal

pub returns-then-end-last : goal.returns-then-end-last
returns-then-end-last c =
    let rows = c.transitions-rows.result.now in
    let begin = c.args.begin in
    let end = c.args.end in
    let kept = subst (λ (s : ℤ). IfSome c.offset_between.result (IsRowOffset rows s (to_z w64 (of_z w64 end)))) (to_z-of_z w64 begin c.ranges.begin)
    c.offset_between.ensures in
    let found = subst (λ (s : ℤ). IfSome c.offset_between.result (IsRowOffset rows begin s)) (to_z-of_z w64 end c.ranges.end) kept in
    if_some c.offset_between.result (IsRowOffset rows begin end) _
    (λ o r n within. row_offset c.args.table.now rows c.transitions-rows.ensures begin end o r n within) found

pub returns : goal.returns
returns c =
    let z = c.args.table.now in
    let rows = c.transitions-rows.result.now in
    let past : (n : ℤ) → IsBetween c.args.begin c.args.end (floor_second n) → count_at z (floor_second n) ≡ vec_len z.transitions = λ n within.
    past_rows z rows c.transitions-rows.ensures (floor_second n) c.last-item.result (omega (arith, c.in-len1-up.len_at_least)) c.last-item.is
    (omega (arith, signed_arith, c.if-begin-last.false, within)) in
    if_some c.offset_behind-2.result _ _ (λ o behind n within. behind n (past n within)) c.offset_behind-2.ensures
