use Rattle.std.proofs.Common.{ℕ, List, [], ◌∷◌, ap, None, string_bytes}
use Rattle.restamp_in_place.specs.Replacing.{Removes}
use Rattle.restamp_in_place.specs.Replacing.Event.{Leads}
use Rattle.restamp_tests.proofs.MemoryLemmas.{tries}
use Rattle.restamp_tests.proofs.memory.MemoryFolder.remove.Goals as goal

pub returns : goal.returns
returns c =
    tries _ _ (Leads (string_bytes c.in_ok-name.name) None ∷ []) c.note.result c.note.result (Removes c.args.name.now) c.note.ensures.noted (λ e. e)
    (ap (λ (name : List ℕ). Leads name None ∷ []) c.in_ok-name.ensures)
