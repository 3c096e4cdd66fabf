-- The effect of an event.
use Rattle.std.proofs.Common.{◌≡◌, ℕ, List, [], ◌∷◌, refl, Option, None, Some, arith}
use Rattle.std.proofs.lemmas.Slice.Eq.{bytes_eq-Decides}
use Rattle.restamp_in_place.specs.Replacing.{Event, leads, stored, MayLead}
use Rattle.restamp_in_place.specs.Replacing.Event.{Leads, Stored, Synced}

-- a name points to the file that it was last given to
pub leads-at : (name : List ℕ) (file : Option ℕ) (done : List Event) → leads (Leads name file ∷ done) name ≡ file
leads-at name file done = grind (arith, bytes_eq-Decides)

-- other names point where they did
pub leads-past : (other name : List ℕ) (file : Option ℕ) (done : List Event) → ¬ (name ≡ other) → leads (Leads other file ∷ done) name ≡ leads done name
leads-past other name file done apart = grind (arith, bytes_eq-Decides)

-- if a name that was unused is removed again, it and a name that points where it did point where they did
pub leads-removed : (before done : List Event) (temporary name : List ℕ) → leads before temporary ≡ None
    → (¬ (name ≡ temporary) → leads done name ≡ leads before name) → leads (Leads temporary None ∷ done) name ≡ leads before name
leads-removed before done temporary name unused past = grind (arith, bytes_eq-Decides)

-- a crash may leave a name pointing to its current file
pub may_now : (done : List Event) (name : List ℕ) → MayLead done name (leads done name)
may_now [] name = refl
may_now (Leads other led ∷ done) name = let rest = may_now done name in grind (arith, bytes_eq-Decides)
may_now (Stored number bytes ∷ done) name = may_now done name
may_now (Synced ∷ done) name = refl

-- bytes that are stored on the disk are there
pub stored-at : (number : ℕ) (bytes : List ℕ) (done : List Event) → stored (Stored number bytes ∷ done) number ≡ Some bytes
stored-at number bytes done = grind arith

-- another file has the bytes that it had before
pub stored-past : (number other : ℕ) (bytes : List ℕ) (done : List Event) → ¬ (other ≡ number) → stored (Stored number bytes ∷ done) other ≡ stored done other
stored-past number other bytes done apart = grind arith

-- names of different files differ
pub names_differ : (done : List Event) (name other : List ℕ) (number : ℕ) → leads done name ≡ Some number → leads done other ≡ None → ¬ (name ≡ other)
names_differ done name other number there none = grind arith
