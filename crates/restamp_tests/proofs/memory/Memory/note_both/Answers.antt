use Rattle.std.proofs.Common.{◌≡◌, List, [], ◌∷◌, ap, inl, refl, Some}
use Rattle.restamp_tests.specs.declared.memory.event.Event.{Event}
use Rattle.restamp_tests.specs.Memory.{event_of, events_of}
use Rattle.restamp_tests.proofs.memory.Memory.note_both.Goals as goal

pub returns : goal.returns
returns c =
    let done : c.insert-2.new.self.items ≡ c.args.last ∷ c.args.first ∷ c.args.self.now.events.items =
    cc (c.in_ok-insert-2.ensures.items, c.in_ok-insert.ensures.items, c.reserve.ensures.items)
    in
    (event_of c.args.last ∷ event_of c.args.first ∷ [], ap (λ (items : List Event). Some (events_of items)) done, inl refl)
