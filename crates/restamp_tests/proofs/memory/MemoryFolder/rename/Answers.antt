use Rattle.std.proofs.Common.{◌≡◌, ℕ, List, [], ◌∷◌, inr, refl, None, Some, string_bytes}
use Rattle.restamp_in_place.specs.Replacing.{Event, Renames, leads}
use Rattle.restamp_in_place.specs.Replacing.Event.{Leads}
use Rattle.restamp_tests.specs.Memory.{events_of}
use Rattle.restamp_tests.proofs.MemoryLemmas.{tries}
use Rattle.restamp_tests.proofs.memory.MemoryFolder.rename.Goals as goal

pub returns-in_err-onto : goal.returns-in_err-onto
returns-in_err-onto c = ([], refl, inr (c.from_residual-in_err-onto.ensures.0, refl))

pub returns-in_err-name : goal.returns-in_err-name
returns-in_err-name c = ([], refl, inr (c.from_residual-in_err-name.ensures.0, refl))

pub returns : goal.returns
returns c =
    let there : leads (events_of c.args.self.now.events.items) c.args.name.now ≡ Some c.in-Some.number = cc (c.in-Some.ensures, c.as_slice.ensures.value) in
    let led : List ℕ → List ℕ → List Event = λ name onto. Leads name None ∷ Leads onto (Some c.in-Some.number) ∷ [] in
    let name = string_bytes c.in_ok-name.name in
    let onto = string_bytes c.in_ok-onto.onto in
    let same : led name onto ≡ led c.args.name.now c.args.onto.now = cc (c.in_ok-name.ensures, c.in_ok-onto.ensures) in
    tries _ _ (led name onto) c.note_both.result c.note_both.result (Renames c.args.name.now c.args.onto.now) c.note_both.ensures (λ e. e)
    (c.in-Some.number, there, same)
