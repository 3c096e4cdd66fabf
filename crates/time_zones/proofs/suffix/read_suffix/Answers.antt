use Rattle.time_zones.proofs.LongestLemmas.{longest, suffix_read, none_of_map}
use Rattle.time_zones.specs.Suffix.{zone_tag_of}
use Rattle.time_zones.proofs.suffix.read_suffix.Goals as goal

pub returns-clause-says : goal.returns-clause-says
returns-clause-says c =
    let tags = c.tags_in_front.ensures in
    (tags.0, suffix_read _ _ _ _ _ c.zone_if_any.ensures.zone tags.1, tags.2)

pub returns-clause-longest : goal.returns-clause-longest
returns-clause-longest c =
    let none = none_of_map zone_tag_of c.zone_if_any.result.0 _ c.zone_if_any.ensures.none in
    longest _ _ _ _ _ c.zone_if_any.ensures.zone none c.tags_in_front.ensures.1
