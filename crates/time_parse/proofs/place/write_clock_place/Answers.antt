use Rattle.std.proofs.Common.{ap, ◌∙◌}
use Rattle.time_components.specs.Tree.{borrowed_shape, sequence, trees}
use Rattle.programs_answers.specs.Formats.{clock, clock_parts, second_parts}
use Rattle.time_parse.proofs.PlaceLemmas.{Writes-tree}
use Rattle.time_parse.proofs.place.write_clock_place.Goals as goal

pub returns-clause-bytes : goal.returns-clause-bytes
returns-clause-bytes g c =
    let fraction = c.compound-fraction.ensures ∙ ap (λ ts. sequence (trees ts)) c.fraction_items-fraction.ensures in
    let seconds = c.compound-seconds.ensures ∙ ap (λ ts. sequence (trees ts)) (c.second_items-seconds.ensures ∙ ap second_parts fraction) in
    let whole = c.compound.ensures ∙ ap (λ ts. sequence (trees ts)) (c.clock_items-items.ensures ∙ ap clock_parts seconds) in
    Writes-tree c.write_place.result (borrowed_shape c.compound.result) clock c.args.target c.args.text.now _ _ whole c.write_place.ensures.bytes
