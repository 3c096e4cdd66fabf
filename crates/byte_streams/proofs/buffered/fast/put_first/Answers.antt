use Rattle.std.proofs.Common.{◌++◌, take, ap, ◌∙◌}
use Rattle.std.proofs.lemmas.List.{take-take}
use Rattle.byte_streams.proofs.buffered.fast.put_first.Goals as goal

pub returns-in-Some : goal.returns-in-Some
returns-in-Some c =
    c.put_block.ensures
    ∙ ap (λ l. take c.args.at c.args.array.now ++ take c.args.count l) c.in-Some.ensures.cases.same
    ∙ ap (λ l. take c.args.at c.args.array.now ++ l) (take-take c.args.count 32 c.args.bytes.now c.if-count-le32.true)
