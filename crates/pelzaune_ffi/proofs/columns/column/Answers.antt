use Rattle.std.proofs.Common.{◌≡◌, ◌+◌, ◌≤◌, ◌⊎◌, inl, inr, length, take, drop, slice_set, [], sym, ◌∙◌, arith}
use Rattle.std.proofs.lemmas.Grind.{common_steps}
use Rattle.byte_streams.specs.Lines.{line_texts}
use Rattle.pelzaune_ffi.specs.Columns as spec
use Rattle.pelzaune_ffi.proofs.StoredRows.{Ends, Ends-more, Ends-all, no_lines}
use Rattle.pelzaune_ffi.proofs.columns.column.Goals as goal
use Rattle.pelzaune_ffi.proofs.columns.column.Goals.{then-loop-index-test+else-not-is_empty, else-loop-index-test}

pub loop-index-preserved : goal.loop-index-preserved
loop-index-preserved g c =
    let so_far = c.loop-index.invariant in
    let first = c.first_line in
    let split = first.ensures.lines in
    let counted = c.count_line in
    let status = counted.result in
    let left : Ends (g.C.Count.stores c.args.counting.now) (line_texts c.args.text.now) c.args.entries.now
    (line_texts first.result.1.now)
    (drop (c.loop-index.index + 1) (slice_set c.loop-index.entries c.loop-index.index counted.new.entry))
    (take (c.loop-index.index + 1) (slice_set c.loop-index.entries c.loop-index.index counted.new.entry))
    (c.loop-index.rejected + spec.one_if_refused status) =
    Ends-more (g.C.Count.stores c.args.counting.now) (line_texts c.args.text.now) c.args.entries.now c.loop-index.entries
    first.result.0.now (line_texts first.result.1.now) c.loop-index.index status c.loop-index.rejected
    counted.new.entry c.loop-index-test.true (rw c.without_cr.ensures at counted.ensures) (rw split at so_far.4) in (
      grind (arith, common_steps, c.loop-index-test.true),
      omega (arith, so_far.1, c.one_if_refused-rejected.ensures.bound),
      grind (arith, common_steps, split, so_far.2),
      omega (arith, so_far.3, first.ensures.shorter),
      rw c.one_if_refused-rejected.ensures.one left,
    )

pub returns-clause-entries : goal.returns-clause-entries
returns-clause-entries g c =
    let ended : (length c.loop-index.entries ≤ c.loop-index.index) ⊎ (line_texts c.loop-index.rest.now ≡ []) = elim c.loop-index-test.branch [
      | then-loop-index-test+else-not-is_empty w ↦ inr (no_lines c.loop-index.rest.now (sym w.is_empty.ensures ∙ w.if-not-is_empty.false))
      | else-loop-index-test w ↦ inl w.loop-index-test.false
    ] in
    Ends-all (g.C.Count.stores c.args.counting.now) (line_texts c.args.text.now) c.args.entries.now c.loop-index.entries
    (line_texts c.loop-index.rest.now) c.loop-index.index c.loop-index.rejected ended c.loop-index.invariant.4
