use Rattle.std.proofs.Common.{◌+◌, length, drop, sym, ap, arith}
use Rattle.std.proofs.lemmas.List.{drop-drop, length-drop}
use Rattle.restamp_place.specs.Fields.{gap}
use Rattle.restamp_place.proofs.WordLemmas.{further_on-further_on, tail_range, nth-step, nth-short, nth-none}
use Rattle.restamp_place.proofs.fields.nth_field.Goals as goal

pub returns-in_err-field-clause-value : goal.returns-in_err-field-clause-value
returns-in_err-field-clause-value c =
    let first = rw tail_range at (sym c.in_err-field.ensures.value) in
    rw (c.from_residual.ensures, c.loop-left.invariant.1, nth-none c.args.kind c.loop-left.left (drop c.loop-left.start c.args.line.now) first)

pub returns-then-rest-field-clause-value : goal.returns-then-rest-field-clause-value
returns-then-rest-field-clause-value c =
    let rest = drop c.loop-left.start c.args.line.now in
    let lengths = ap length (tail_range c.loop-left.start c.args.line.now) in
    let first = rw tail_range at (sym c.in_ok-field.ensures.value) in
    rw (c.loop-left.invariant.1, nth-short c.args.kind c.loop-left.left rest c.in_ok-field.field (omega arith) first (omega arith))

pub loop-left-preserved : goal.loop-left-preserved
loop-left-preserved c =
    let rest = drop c.loop-left.start c.args.line.now in
    let lengths = ap length (tail_range c.loop-left.start c.args.line.now) in
    let all = length-drop c.loop-left.start c.args.line.now in
    let g = c.gap-gap.ensures.value in
    let inside = c.in_ok-field.ensures.within.within in
    let first = rw tail_range at (sym c.in_ok-field.ensures.value) in
    let step = c.in_ok-field.field.edge + gap c.args.kind in
    let passed = nth-step c.args.kind c.loop-left.left rest c.in_ok-field.field (omega arith) first (omega arith) in
    rw g (omega arith, rw (c.loop-left.invariant.1, passed, further_on-further_on c.loop-left.start step, drop-drop step c.loop-left.start c.args.line.now))
