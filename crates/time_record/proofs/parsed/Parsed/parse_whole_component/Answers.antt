use Rattle.std.proofs.Common.{refl, true}
use Rattle.time_components.specs.declared.format_description.Component.TheVariants.{Ignore}
use Rattle.time_record.proofs.ComponentLemmas.{Answers-whole, reads_whole_ignore, refuses_component, unread_inside, unread_whole_ignore}
use Rattle.time_record.proofs.parsed.Parsed.parse_whole_component.Goals as goal

pub returns-then-begins_character : goal.returns-then-begins_character
returns-then-begins_character c =
    rw c.in-Ignore.is (reads_whole_ignore _ c.in-Ignore.modifiers _ _ _ c.in-Some.ensures (c.if-begins_character.ensures.yes refl))

pub returns-else-begins_character : goal.returns-else-begins_character
returns-else-begins_character c =
    let unread = unread_inside _ c.in-Ignore.modifiers _ _ _ c.in-Some.ensures (c.if-begins_character.ensures.none refl) in
    (rw c.in-Ignore.is (refuses_component _ true (Ignore c.in-Ignore.modifiers) _ _ _ unread c.fault.ensures), refl)

pub returns-in-None : goal.returns-in-None
returns-in-None c =
    let unread = unread_whole_ignore _ c.in-Ignore.modifiers _ _ c.in-None.ensures in
    (rw c.in-Ignore.is (refuses_component _ true (Ignore c.in-Ignore.modifiers) _ _ _ unread c.fault-in-None.ensures), refl)

pub returns-in_default : goal.returns-in_default
returns-in_default c =
    Answers-whole _ c.args.component _ _ _ _ c.in_default.not-Ignore c.parse_component.ensures
