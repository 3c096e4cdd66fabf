use Rattle.std.proofs.Common.{◌≡◌, [], ◌∷◌, ap, refl, inr, Some}
use Rattle.restamp_in_place.specs.Replacing.{Stores, leads}
use Rattle.restamp_in_place.specs.Replacing.Event.{Stored}
use Rattle.restamp_tests.specs.Memory.{events_of}
use Rattle.restamp_tests.proofs.MemoryLemmas.{tries}
use Rattle.restamp_tests.proofs.memory.MemoryFolder.store.Goals as goal

pub returns-in_err-is_late : goal.returns-in_err-is_late
returns-in_err-is_late c = ([], refl, inr (c.from_residual.ensures.0, refl))

pub returns : goal.returns
returns c =
    let there : leads (events_of c.args.self.now.events.items) c.args.name.now ≡ Some c.in-Some.number = cc (c.in-Some.ensures, c.as_slice.ensures.value) in
    tries _ _ (Stored c.in-Some.number c.into_parts-page.result.0.bytes.items ∷ []) c.note.result c.note.result
    (Stores c.args.name.now (Some c.args.new.inner.bytes.items)) c.note.ensures.noted (λ e. e)
    (c.in-Some.number, c.into_parts-page.result.0.bytes.items, there, ap (λ page. page.bytes.items) c.into_parts-page.ensures.inner, refl)
