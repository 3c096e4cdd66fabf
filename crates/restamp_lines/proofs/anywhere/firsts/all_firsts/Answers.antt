use Rattle.std.proofs.Common.{◌≡◌, [], take, take_all, arith}
use Rattle.std.proofs.lemmas.List.Elements.{All-nil, All-cons, All-head, All-tail, All-more}
use Rattle.restamp_lines.specs.Begins.{IsNotIn}
use Rattle.restamp_lines.proofs.BeginsLemmas.{in-joined}
use Rattle.restamp_lines.proofs.anywhere.firsts.all_firsts.Goals as goal

pub loop-reading-init : goal.loop-reading-init
loop-reading-init c x none = All-cons (IsNotIn x) _ [] (rw c.format_firsts-firsts.ensures at none) (All-nil (IsNotIn x))

pub loop-reading-preserved : goal.loop-reading-preserved
loop-reading-preserved c x none =
    let both = in-joined c.loop-reading.firsts c.format_firsts-more.result x none in
    let before = c.loop-reading.invariant x both.0 in
    let here : IsNotIn x c.reading-item.result = rw c.format_firsts-more.ensures at both.1 in
    All-cons (IsNotIn x) _ _ (All-head (IsNotIn x) _ _ before)
    (All-more (IsNotIn x) c.args.others.now _ c.reading-item.result c.loop-reading-test.true (All-tail (IsNotIn x) _ _ before)
    (rw (← c.reading-item.is) here))

pub returns : goal.returns
returns c x none =
    let all : take c.loop-reading.reading-index c.args.others.now ≡ c.args.others.now = grind (arith, take_all) in
    rw all at (c.loop-reading.invariant x none)
