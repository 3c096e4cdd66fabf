use Rattle.std.proofs.Common.{List, [], ◌∷◌, ap, inl, refl, Some}
use Rattle.restamp_tests.specs.declared.memory.event.Event.{Event}
use Rattle.restamp_tests.specs.Memory.{event_of, events_of}
use Rattle.restamp_tests.proofs.memory.Memory.note.Goals as goal

pub returns-clause-noted : goal.returns-clause-noted
returns-clause-noted c =
    (event_of c.args.event ∷ [], ap (λ (items : List Event). Some (events_of items)) c.in_ok-insert.ensures.items, inl refl)
