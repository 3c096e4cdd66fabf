use Rattle.std.proofs.Common.{◌≡◌, ◌∙◌, sym, false, []}
use Rattle.time_parsing.proofs.IsoParts.{no_bytes}
use Rattle.restamp_formats.proofs.FrontLemmas.{front_completed}
use Rattle.restamp_formats.proofs.reading.fast.read_8601.Goals.{else-not-is_prefix-via-then-not-is_prefix+else-not-is_empty, else-not-is_prefix-via-else-not-is_prefix}
use Rattle.restamp_formats.proofs.reading.fast.read_8601.Goals as goal

pub returns-clause-said : goal.returns-clause-said
returns-clause-said c defaults =
    let whole : c.args.is_prefix ≡ false → c.in_ok-moment.rest.now ≡ [] =
    elim c.else-not-is_prefix.branch [
      | else-not-is_prefix-via-then-not-is_prefix+else-not-is_empty w ↦
          λ is. no_bytes c.in_ok-moment.rest.now (sym w.is_empty.ensures ∙ w.if-not-is_empty.false)
      | else-not-is_prefix-via-else-not-is_prefix w ↦ λ is. absurd (let other = w.if-not-is_prefix.false in cc)
    ] in
    rw c.match_before.ensures.said (front_completed c.args.is_prefix _ _ _ defaults c.in_ok-moment.ensures whole)
