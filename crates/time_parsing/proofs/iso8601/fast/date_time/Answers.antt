use Rattle.std.proofs.Common.{sym, ◌∙◌}
use Rattle.time_parsing.proofs.IsoParts.{plain-whole, moment-whole, no_bytes}
use Rattle.time_parsing.proofs.iso8601.fast.date_time.Goals as goal

pub returns-in_ok-offset_to_the_end : goal.returns-in_ok-offset_to_the_end
returns-in_ok-offset_to_the_end c =
    let found = c.in_ok-found.ensures in
    let time = c.in_ok-time.time in
    let said = c.in_ok-plain.ensures in
    let offset = c.in_ok-offset_to_the_end.ensures in
    let whole =
    moment-whole _ _ time.rest.now _ time.kind _ time.value offset.0 c.in_ok-plain.plain c.in_ok-offset_to_the_end.field-0
    found.0 (rw c.in_ok-time.was at found.1) offset.1 said.0 said.1 offset.2 in
    (whole.0, whole.1, whole.2)

pub returns-else-not-is_empty : goal.returns-else-not-is_empty
returns-else-not-is_empty c =
    let found = c.in_ok-found.ensures in
    let time = c.in_ok-time.time in
    let said = c.in_ok-plain.ensures in
    let whole =
    plain-whole _ _ time.rest.now _ time.kind _ time.value c.in_ok-plain.plain found.0 (rw c.in_ok-time.was at found.1)
    (no_bytes time.rest.now (sym c.is_empty.ensures ∙ c.if-not-is_empty.false)) said.0 said.1 in
    (whole.0, whole.1, whole.2)
