use Rattle.std.proofs.Common.{◌==◌, rules, tests}
use Rattle.std.proofs.lemmas.Iterator.{cases_from_all}
use Rattle.std.proofs.lemmas.Iterator.Splits.{YieldsList-from_slice_split}
use Rattle.std.specs.List.{slice_split}
use Rattle.time_zones.specs.Suffix.{IsSuffixValue}
use Rattle.time_zones.proofs.NameLemmas.{true_of_all}
use Rattle.time_zones.proofs.suffix.texts.are_values.Goals as goal

pub returns : goal.returns
returns c =
    true_of_all IsSuffixValue (slice_split (λ b. b == 45) c.args.text.now) c.all.result
    (cases_from_all _ _ _ IsSuffixValue (λ part. IsSuffixValue part → ⊥) c.all.ensures.ran
    (YieldsList-from_slice_split _ (λ b. b == 45) c.args.text.now c.split.ensures.rest c.split.ensures.done c.split.ensures.closure
    (λ x r q k. search (rules, tests)))
    (λ x q k. search (rules, tests)) (λ x q k. search (rules, tests)))
