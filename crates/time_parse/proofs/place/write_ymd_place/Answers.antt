use Rattle.std.proofs.Common.{ap, ◌∙◌}
use Rattle.time_components.specs.Tree.{borrowed_shape, sequence, trees}
use Rattle.programs_answers.specs.Formats.{ymd}
use Rattle.time_parse.proofs.PlaceLemmas.{Writes-tree}
use Rattle.time_parse.proofs.place.write_ymd_place.Goals as goal

pub returns-clause-bytes : goal.returns-clause-bytes
returns-clause-bytes g c =
    let whole = c.compound.ensures ∙ ap (λ ts. sequence (trees ts)) c.date_items-items.ensures in
    Writes-tree c.write_place.result (borrowed_shape c.compound.result) ymd c.args.target c.args.text.now _ _ whole c.write_place.ensures.bytes
