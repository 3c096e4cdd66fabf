use Rattle.std.specs.Prelude.{map}
use Rattle.std.proofs.Common.{[], ◌∷◌, ap, ◌∙◌}
use Rattle.time_components.specs.Tree.{borrowed_shape, sequence, first_of, trees}
use Rattle.programs_answers.specs.Formats.{local, date_time_parts}
use Rattle.time_parse.proofs.PlaceLemmas.{Writes-tree}
use Rattle.time_parse.proofs.place.write_local_place.Goals as goal

pub returns-clause-bytes : goal.returns-clause-bytes
returns-clause-bytes g c =
    let date_time =
    c.compound.ensures
    ∙ ap (λ xs. sequence (trees (map borrowed_shape xs))) c.split_at.ensures.front
    ∙ ap (λ ts. sequence (trees ts)) c.local_items-items.ensures.date_time in
    let ordinal =
    c.compound-2.ensures
    ∙ ap (λ xs. sequence (trees (map borrowed_shape xs))) c.split_at.ensures.back
    ∙ ap (λ ts. sequence (trees ts)) c.local_items-items.ensures.ordinal in
    let whole =
    c.first.ensures
    ∙ ap (λ t. first_of (trees (t ∷ borrowed_shape c.compound-2.result ∷ []))) date_time
    ∙ ap (λ t. first_of (trees (sequence (trees date_time_parts) ∷ t ∷ []))) ordinal in
    Writes-tree c.write_place.result (borrowed_shape c.first.result) local c.args.target c.args.text.now _ _ whole c.write_place.ensures.bytes
