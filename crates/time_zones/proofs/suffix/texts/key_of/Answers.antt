use Rattle.std.proofs.Common.{sym, ◌∙◌}
use Rattle.std.proofs.lemmas.Bool.{false≢true}
use Rattle.time_zones.specs.Suffix.{IsSuffixKey, AreSuffixValues}
use Rattle.time_zones.proofs.NameLemmas.{if_none, no_key, bad_key}
use Rattle.time_zones.proofs.suffix.texts.key_of.Goals as goal

pub returns-in_err-values-clause-none : goal.returns-in_err-values-clause-none
returns-in_err-values-clause-none c =
    if_none _ _ (no_key _ _ _ c.key_len.ensures.count c.split_at.ensures.back c.in_err-values.ensures.none)

pub returns-then-not-is_keyed-clause-none : goal.returns-then-not-is_keyed-clause-none
returns-then-not-is_keyed-clause-none c =
    let bad = λ (both : IsSuffixKey c.split_at.result.0.now × AreSuffixValues c.in_ok-values.values.now).
    (absurd (false≢true (sym c.if-not-is_keyed.true ∙ c.is_keyed.ensures.1 both))) in
    bad_key _ _ _ _ _ c.key_len.ensures.count c.split_at.ensures.front c.split_at.ensures.back
    c.in_ok-values.ensures.some bad
