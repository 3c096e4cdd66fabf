use Rattle.std.proofs.Common.{◌<◌, ◌^◌, eqb, ap, sym, ◌∙◌, get_or, map, arith, w8, w32}
use lib.Count.{count_trailing_zeros}
use lib.Lanes.{chunk, mask_l}
use Rattle.std.proofs.lemmas.Bool.{eqb-true}
use Rattle.std.proofs.lemmas.List.{length-map}
use Rattle.std.proofs.lemmas.Nat.Bits.{bit_at-trailing_zeros}
use Rattle.std.proofs.lemmas.Simd.{length-chunk, bitmask_splat, mask_l-lt, none_from_empty_mask, run_in_chunk_fails, run_in_chunk_stops, trailing_mask_l}
use Rattle.pelzaune_ffi.proofs.StoredRows.{lf, not_lf}
use Rattle.pelzaune_ffi.proofs.lines.lf_among.Goals as goal

pub returns-then-ends-eq0 : goal.returns-then-ends-eq0
returns-then-ends-eq0 c k above below =
    let text = c.args.text.now in
    let from = c.args.from in
    let hits = bitmask_splat w8 eqb (chunk from 32 text) 32 10 (length-chunk from 32 text (omega arith)) (omega arith) in
    not_lf (get_or text k 0) (none_from_empty_mask lf text from 32 0 (omega arith) (sym hits ∙ c.if-ends-eq0.true) k above below)

pub returns : goal.returns
returns c =
    let text = c.args.text.now in
    let from = c.args.from in
    let v = chunk from 32 text in
    let long = length-chunk from 32 text (omega arith) in
    let hits = bitmask_splat w8 eqb v 32 10 long (omega arith) in
    let some : 0 < mask_l (map lf v) = omega arith in
    let counted = ap (count_trailing_zeros 64) hits ∙ trailing_mask_l lf 64 v (omega arith) some in
    let room : mask_l (map lf v) < 2 ^ 32 = rw (length-map v lf, long) at (mask_l-lt (map lf v)) in
    let first = trailing_mask_l lf 32 v (omega arith) some in
    let small = bit_at-trailing_zeros w32 (mask_l (map lf v)) some room in (
      omega (arith, small.0, first, counted),
      eqb-true _ _ (run_in_chunk_stops lf text from 32 _ 0 (omega arith) counted (omega (arith, small.0, first, counted))),
      λ k above less. not_lf (get_or text k 0) (run_in_chunk_fails lf text from 32 _ 0 (omega arith) counted k above less),
    )
