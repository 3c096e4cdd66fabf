-- The replacement of a file as a whole.
use Rattle.std.proofs.Common.{arith, ◌≡◌, ◌⊎◌, inl, ⊎_elim, ℕ, List, [], ◌∷◌, ◌++◌, refl, ◌∙◌, ap, Option, None, Some, Result, Ok, Err, IfOk, IfSome, MatchResult}
use Rattle.std.specs.Option.{option_map}
use Rattle.std.specs.Io.KnownBytes.{Appends}
use Rattle.std.proofs.lemmas.Option.{IfSome_then}
use Rattle.std.proofs.lemmas.Result.{IfOk-weaker}
use Rattle.restamp_in_place.specs.Replacing.{Made, Changed, Event, leads, stored, bytes_at, Performs, Creates, Removes, bytes_made, HasSameBytes, IsEnded, IsUntouched, Replaces}
use Rattle.restamp_in_place.specs.Replacing.Event.{Leads}
use Rattle.restamp_in_place.specs.Phases.{Plan, Replacement, IsPlanOf, IsWritten, Reached, Kept, IsMade, IsEndOf, Runs}
use Rattle.restamp_in_place.proofs.FolderLemmas.{leads-past, leads-removed}
use Rattle.restamp_in_place.proofs.PhaseLemmas.{made, Same-removable, removed}

same : (before : List Event) (file : Option ℕ) → HasSameBytes before before file
same before file = grind arith

-- a call that failed
abbrev Failed : {E : Type 0} → E → Result Made E
Failed error = Err error

-- nothing was done
pub replaces-nothing : {E : Type 0} (makes : List ℕ → Option (List ℕ) → Type 0) (events : Option (List Event)) (name : List ℕ)
    (backup : Option (List ℕ)) (error : E)
    → IfSome events (λ before. Replaces makes before events name backup (Failed error))
replaces-nothing makes None name backup error = tt
replaces-nothing makes (Some before) name backup error = record {
  new = None;
  made = tt;
  safe = ([], refl, λ file may. inl (may, same before file));
  ends = tt;
  same = tt;
}

-- the new file was made, and then kept or removed
module _ (aim : Replacement) where
  pub IsMade-kept : (done : List Event) → IsMade aim done → Kept aim done
  IsMade-kept done is = rw is (made aim)

  pub IsMade-reached : (done : List Event) → IsMade aim done → Reached aim done
  IsMade-reached done is = (IsMade-kept done is).untouched.reached

  pub IsMade-removed : (name : List ℕ) → name ≡ aim.temporary → (done more : List Event) → IsMade aim done → Removes name done more
      → Reached aim (more ++ done) × IsUntouched aim.before (more ++ done)
  IsMade-removed name named done more is gone = rw (gone, is, named) (
    removed aim (Same-removable aim (made aim).untouched),
    λ other. leads-removed aim.before (Leads aim.temporary (Some aim.number) ∷ aim.before) aim.temporary other aim.unused
        (leads-past aim.temporary other (Some aim.number) aim.before),
  )

  module _ {E : Type 0} (now : List Event) where
    abbrev Ends : Result Made E → Type 0
    Ends result = MatchResult result (λ how. IsEndOf aim how now) (λ _. Reached aim now)

    Ends-reached : (result : Result Made E) → Ends result → Reached aim now
    Ends-reached result ends = grind arith

    Ends-ended : (result : Result Made E) → Ends result → IfOk result (λ how. IsEnded how aim.before now aim.name aim.backup aim.new)
    Ends-ended result ends = grind arith

    -- the phase that was reached implies the contract
    replaces-reached : (makes : List ℕ → Option (List ℕ) → Type 0) (after : Option (List Event)) (result : Result Made E)
        → IfSome aim.new (λ bytes. IfSome (bytes_at aim.before aim.name) (λ old. makes old (Some bytes)))
        → IfOk result (λ how. how ≡ Made.Same → IfSome (bytes_at aim.before aim.name) (λ old. makes old None))
        → after ≡ Some now → Ends result → Replaces makes aim.before after aim.name aim.backup result
    replaces-reached makes after result makes_it stays is ends =
        let reached = Ends-reached result ends in
        record {
          new = aim.new;
          made = makes_it;
          safe = (reached.more, is ∙ ap Some reached.is, reached.safe);
          ends = rw is (Ends-ended result ends);
          same = stays;
        }

-- the plan, after the new file was created
abbrev plan_of : (before more : List Event) (name temporary : List ℕ) (backup : Option (List ℕ)) (original : ℕ) (new : Option (List ℕ))
    → leads before name ≡ Some original → Creates temporary before more → Replacement
plan_of before more name temporary backup original new there m = record {
  before = before;
  name = name;
  temporary = temporary;
  backup = backup;
  original = original;
  number = m.0;
  new = new;
  fresh = m.1;
  unused = m.2;
  there = there;
}

-- a new file may have been created, though the call failed
pub replaces-unmade : {E : Type 0} (makes : List ℕ → Option (List ℕ) → Type 0) (events after : Option (List Event)) (name : List ℕ) (backup : Option (List ℕ))
    (original : ℕ) (Q : List Event → Type 0) (error : E)
    → IfSome events (λ done. (leads done name ≡ Some original) × Q done)
    → Performs events after (λ done more. (more ≡ []) ⊎ ((temporary : List ℕ) × Creates temporary done more))
    → IfSome events (λ before. Replaces makes before after name backup (Failed error))
replaces-unmade makes None after name backup original Q error opened did = tt
replaces-unmade makes (Some before) after name backup original Q error opened did =
    ⊎_elim (λ (none : did.0 ≡ []). rw (did.1, none) (replaces-nothing makes (Some before) name backup error))
    (λ m. let aim = plan_of before did.0 name m.0 backup original None opened.0 m.1 in
    replaces-reached aim (did.0 ++ before) makes after (Failed error) tt tt did.1
    (IsMade-reached aim (did.0 ++ before) (ap (λ (l : List Event). l ++ before) m.1.3)))
    did.2

written : (after : Option (List ℕ)) (new : List ℕ) → Appends (Some []) after new → after ≡ Some new
written after new appends = grind arith

module _ (makes : List ℕ → Option (List ℕ) → Type 0) (before : List Event) (name : List ℕ) (contents contents' : Option (List ℕ)) where
  -- what was written, if the maker's contract holds of the bytes that were on the disk
  abbrev HasMade : Made → Type 0
  HasMade how = (text : List ℕ) × Appends contents contents' text × IfSome (bytes_at before name) (λ old. makes old (bytes_made how text))

  has_made : (original : ℕ) (remaining : Option (List ℕ)) (how : Made)
      → (leads before name ≡ Some original) × ((read : List ℕ) × (remaining ≡ Some read) × IfSome (stored before original) (λ bytes. bytes ≡ read))
      → IfSome remaining (λ old. (text : List ℕ) × Appends contents contents' text × makes old (bytes_made how text)) → HasMade how
  has_made original remaining how opened did =
      let d = rw opened.1.1 at did in
      (d.0, d.1, rw opened.0 (IfSome_then (stored before original) opened.1.2 (λ old is. rw is d.2)))

  -- the new bytes
  new_bytes : {S : Type 0} (how_made : Result Made S) → contents ≡ Some [] → IfOk how_made HasMade
      → (new : Option (List ℕ)) × IfSome new (λ bytes. IfSome (bytes_at before name) (λ old. makes old (Some bytes)))
      × IfOk how_made (λ how. how ≡ Changed → (bytes : List ℕ) × (contents' ≡ Some bytes) × (new ≡ Some bytes))
      × (how_made ≡ Ok Made.Same → IfSome (bytes_at before name) (λ old. makes old None))
  new_bytes (Ok Changed) empty d = (Some d.0, d.2, λ _. (d.0, written contents' d.0 (rw empty at d.1), refl), λ is. absurd (cc is))
  new_bytes (Ok Made.Same) empty d = (None, tt, λ is. absurd (cc is), λ _. d.2)
  new_bytes (Err stop) empty d = (None, tt, tt, λ is. absurd (cc is))

pub replaces-all : {S E : Type 0} (makes : List ℕ → Option (List ℕ) → Type 0) (events mid after : Option (List Event)) (plan : Plan)
    (remaining contents contents' : Option (List ℕ)) (result : Result Made E) (how_made : Result Made S)
    → IfSome events (λ done. (leads done plan.name.now ≡ Some plan.original.number)
    × ((read : List ℕ) × (remaining ≡ Some read) × IfSome (stored done plan.original.number) (λ bytes. bytes ≡ read)))
    → Performs events mid (Creates plan.temporary.now) → IfSome events (λ _. contents ≡ Some [])
    → IfOk how_made (λ how. IfSome remaining (λ old. (text : List ℕ) × Appends contents contents' text × makes old (bytes_made how text)))
    → IfOk result (λ how. how_made ≡ Ok how)
    → ((aim : Replacement) → IsPlanOf aim plan → IfOk how_made (λ how. how ≡ Changed → IsWritten aim contents')
    → Runs mid after (IsMade aim) (λ now. MatchResult result (λ how. IsEndOf aim how now) (λ _. Reached aim now)))
    → IfSome events (λ before. Replaces makes before after plan.name.now (option_map (λ second. second.now) plan.backup) result)
replaces-all makes None mid after plan remaining contents contents' result how_made opened created empty did how ends = tt
replaces-all makes (Some before) mid after plan remaining contents contents' result how_made opened created empty did how ends =
    let name = plan.name.now in
    let made = IfOk-weaker how_made _ _ (λ how. has_made makes before name contents contents' plan.original.number remaining how opened) did in
    let new = new_bytes makes before name contents contents' how_made empty made in
    let aim = plan_of before created.0 name plan.temporary.now (option_map (λ second. second.now) plan.backup) plan.original.number new.0 opened.0 created.2 in
    let runs = rw created.1 at (ends aim (record { name = refl; temporary = refl; backup = refl; original = refl }) new.2) in
    let run = runs (ap (λ (l : List Event). l ++ before) created.2.3) in
    replaces-reached aim run.0 makes after result new.1 (IfOk-weaker result _ _ (λ how is same. new.3 (is ∙ ap Ok same)) how) run.1 run.2
