use Rattle.std.proofs.Common.{refl, ◌∙◌}
use Rattle.time_parsing.proofs.IsoParts.{moment-front}
use Rattle.time_parsing.proofs.iso8601.fast.front.Goals as goal

pub returns : goal.returns
returns c =
    let found = c.in_ok-found.ensures in
    let time = c.in_ok-time.time in
    let said = c.in_ok-plain.ensures in
    let after = c.in_ok-after.after in
    let made = c.new_in_offset-moment.ensures in
    let front =
    moment-front _ _ time.rest.now after.rest.now _ time.kind _ time.value after.value c.in_ok-plain.plain c.in_ok-offset.offset
    found.0 (rw c.in_ok-time.was at found.1) (rw c.in_ok-after.ensures refl) said.0 said.1 c.in_ok-offset.ensures in (
      front.0,
      front.1,
      front.3 c.new_in_offset-moment.result (made.date ∙ c.date.ensures) (made.time ∙ c.time.ensures) made.offset,
      front.4,
      front.5,
    )
