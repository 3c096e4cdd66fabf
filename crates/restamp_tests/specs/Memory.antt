-- The events that a folder in memory records.
use Rattle.std.specs.Prelude.{ℕ, Bool, true, false, List, [], ◌∷◌, None, Some, string_bytes, if◌then◌else◌, nat_eq}
use Rattle.restamp_in_place.specs.Replacing as model
use Rattle.restamp_in_place.specs.Replacing.{Event as done}
use Rattle.restamp_tests.specs.declared.memory.event.Event.{Event}
use Rattle.restamp_tests.specs.declared.memory.event.Event.TheVariants.{Leads, Stored, Synced}

-- the event of the model
abbrev pub event_of : Event → model.Event
event_of (Leads name file) = done.Leads (string_bytes name) file
event_of (Stored file bytes) = done.Stored file bytes.items
event_of Synced = done.Synced

-- the events of the model
abbrev pub events_of : List Event → List model.Event
events_of [] = []
events_of (event ∷ events) = event_of event ∷ events_of events

-- no event names the file of that number
abbrev pub is_unused : List model.Event → ℕ → Bool
is_unused [] number = true
is_unused (done.Leads name None ∷ events) number = is_unused events number
is_unused (done.Leads name (Some file) ∷ events) number = if nat_eq file number then false else is_unused events number
is_unused (done.Stored file bytes ∷ events) number = if nat_eq file number then false else is_unused events number
is_unused (done.Synced ∷ events) number = is_unused events number
