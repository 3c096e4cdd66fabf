use Rattle.std.proofs.Common.{◌≡◌, ℕ, true, [], ◌∷◌, None, Some, Result, Ok, string_bytes}
use Rattle.restamp_in_place.specs.Replacing.{Creates, leads}
use Rattle.restamp_in_place.specs.Replacing.Event.{Leads}
use Rattle.restamp_tests.specs.Memory.{events_of, is_unused}
use Rattle.restamp_tests.proofs.MemoryLemmas.{tries, creates, none}
use Rattle.restamp_tests.proofs.memory.MemoryFolder.create.Goals as goal

pub returns-in_err-note-clause-made : goal.returns-in_err-note-clause-made
returns-in_err-note-clause-made c =
    let done = events_of c.args.self.now.events.items in
    let number = c.len-number.result in
    let led = none c.leads.result c.if-is_some.ensures in
    let free : leads done c.args.name.now ≡ None = cc (led, c.leads.ensures, c.as_slice.ensures.value) in
    let unused : is_unused done number ≡ true = cc (c.is_unused.ensures, c.if-not-is_unused.false, c.as_slice-2.ensures.value) in
    tries done _ (Leads (string_bytes c.in_ok-name.name) (Some number) ∷ []) c.note.result c.from_residual-in_err-note.result
    (Creates c.args.name.now) c.note.ensures.noted (λ _. c.from_residual-in_err-note.ensures.0)
    (creates done c.args.name.now (string_bytes c.in_ok-name.name) number unused free c.in_ok-name.ensures)

pub returns-clause-made : goal.returns-clause-made
returns-clause-made c =
    let ended : Result ℕ ℕ = Ok 0 in
    let done = events_of c.args.self.now.events.items in
    let number = c.len-number.result in
    let led = none c.leads.result c.if-is_some.ensures in
    let free : leads done c.args.name.now ≡ None = cc (led, c.leads.ensures, c.as_slice.ensures.value) in
    let unused : is_unused done number ≡ true = cc (c.is_unused.ensures, c.if-not-is_unused.false, c.as_slice-2.ensures.value) in
    tries done _ (Leads (string_bytes c.in_ok-name.name) (Some number) ∷ []) c.note.result ended
    (Creates c.args.name.now) c.note.ensures.noted (λ fails. rw c.in_ok-note.was at fails)
    (creates done c.args.name.now (string_bytes c.in_ok-name.name) number unused free c.in_ok-name.ensures)
