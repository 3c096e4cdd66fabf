use Rattle.std.proofs.Common.{◌≡◌, ℕ, List, [], ◌∷◌, ap, None, Some, string_bytes}
use Rattle.restamp_in_place.specs.Replacing.{Links, leads}
use Rattle.restamp_in_place.specs.Replacing.Event.{Leads}
use Rattle.restamp_tests.specs.Memory.{events_of}
use Rattle.restamp_tests.proofs.MemoryLemmas.{tries, none}
use Rattle.restamp_tests.proofs.memory.MemoryFolder.link.Goals as goal

pub returns : goal.returns
returns c =
    let there : leads (events_of c.args.self.now.events.items) c.args.name.now ≡ Some c.in-Some.number = cc (c.in-Some.ensures, c.as_slice.ensures.value) in
    let free = none c.leads-2.result c.if-is_some.ensures in
    let unused : leads (events_of c.args.self.now.events.items) c.args.second.now ≡ None = cc (free, c.leads-2.ensures, c.as_slice-2.ensures.value) in
    tries _ _ (Leads (string_bytes c.in_ok-second.second) (Some c.in-Some.number) ∷ []) c.note.result c.note.result
    (Links c.args.name.now c.args.second.now) c.note.ensures.noted (λ e. e)
    (c.in-Some.number, there, unused, ap (λ (name : List ℕ). Leads name (Some c.in-Some.number) ∷ []) c.in_ok-second.ensures)
