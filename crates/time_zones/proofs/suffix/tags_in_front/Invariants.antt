use Rattle.std.proofs.Common.{length}
use Rattle.std.specs.Prelude.{option_map}
use Rattle.time_zones.proofs.SuffixTextLemmas.{TagsRead}
use Rattle.time_zones.proofs.suffix.tags_in_front.Given as goal

abbrev pub invariant-tags : goal.invariant-tags
invariant-tags l = TagsRead l.text l.rest (option_map (λ key. key.now) l.critical_key)

abbrev pub decreases-tags : goal.decreases-tags
decreases-tags l = length l.rest
