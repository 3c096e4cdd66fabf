-- No public contract rests on this file.
--
-- The phases of a file's replacement.
use Rattle.std.specs.Prelude.{◌≡◌, ◌++◌, ℕ, List, ◌∷◌, Option, Some, None, IfSome, MatchResult, Result}
use Rattle.std.specs.Option.{option_map}
pub use Rattle.restamp_in_place.specs.declared.replacing.Plan.{Plan}
use Rattle.restamp_in_place.specs.Replacing.{Made, Changed, Event, leads, stored, IsFresh, MayLead, IsSafe, IsBackedUp, IsReplaced, IsUntouched, Throughout}
use Rattle.restamp_in_place.specs.Replacing.Event.{Leads}

-- The plan: the folder's earlier events, the names of the file, the new file and the backup, the numbers of both files,
-- and the new bytes. `backup` is `None` if no backup is requested, and `new` is `None` if no new bytes are made.
pub record Replacement : Type 0 where
  pub before : List Event
  pub name : List ℕ
  pub temporary : List ℕ
  pub backup : Option (List ℕ)
  pub original : ℕ
  pub number : ℕ
  pub new : Option (List ℕ)
  pub fresh : IsFresh before number
  pub unused : leads before temporary ≡ None
  pub there : leads before name ≡ Some original

-- a crash leaves the name of the file safe (`IsSafe`)
abbrev pub Safe : Replacement → List Event → Type 0
Safe aim done = IsSafe aim.before aim.name aim.backup aim.new done

-- A crash at any moment up to now leaves the file safe.
pub record Reached (aim : Replacement) (done : List Event) : Type 0 where
  pub more : List Event
  pub is : done ≡ more ++ aim.before
  pub safe : Throughout aim.before more (Safe aim)

-- A crash leaves under the name only what it might have left before, and only the new file's bytes may have changed.
pub record Same (aim : Replacement) (done : List Event) : Type 0 where
  pub reached : Reached aim done
  pub same : (file : Option ℕ) → MayLead done aim.name file → MayLead aim.before aim.name file
  pub bytes : (number : ℕ) → ¬ (number ≡ aim.number) → stored done number ≡ stored aim.before number

-- The file is untouched, and the new one has a name.
pub record Kept (aim : Replacement) (done : List Event) : Type 0 where
  pub untouched : Same aim done
  pub temporary : leads done aim.temporary ≡ Some aim.number
  pub still : leads done aim.name ≡ leads aim.before aim.name
  pub others : (other : List ℕ) → ¬ (other ≡ aim.temporary) → ¬ (other ≡ aim.name) → ¬ (aim.backup ≡ Some other)
      → leads done other ≡ leads aim.before other

-- the new file is on the disk, with the new bytes
abbrev pub IsWhole : Replacement → List Event → Type 0
IsWhole aim done = (bytes : List ℕ) × (aim.new ≡ Some bytes) × (stored done aim.number ≡ Some bytes)

-- The file is untouched, and the new one is on the disk.
pub record Ready (aim : Replacement) (done : List Event) : Type 0 where
  pub kept : Kept aim done
  pub whole : IsWhole aim done

-- The file is untouched, the new one is on the disk, and the backup's name points to the old file.
pub record Linked (aim : Replacement) (done : List Event) : Type 0 where
  pub ready : Ready aim done
  pub second : List ℕ
  pub is : aim.backup ≡ Some second
  pub linked : leads done second ≡ leads aim.before aim.name
  pub apart : ¬ (aim.temporary ≡ second)
  pub beside : ¬ (aim.name ≡ second)

-- A crash leaves the backup's name pointing to the old file. The file's bytes on the disk are those from before.
pub record HasBackup (aim : Replacement) (done : List Event) (second : List ℕ) : Type 0 where
  pub apart : ¬ (aim.temporary ≡ second)
  pub beside : ¬ (aim.name ≡ second)
  pub backed : IsBackedUp aim.before done aim.name second

-- The new file is on the disk, and so is the backup's name if a backup is requested.
pub record Backed (aim : Replacement) (done : List Event) : Type 0 where
  pub ready : Ready aim done
  pub backed : IfSome aim.backup (HasBackup aim done)

-- The new file's own name may be removed: that leaves the file's name safe.
pub record TempRemovable (aim : Replacement) (done : List Event) : Type 0 where
  pub reached : Reached aim done
  pub safe : Safe aim (Leads aim.temporary None ∷ done)

-- The backup's name may be removed, too, while the file's name points to the old file.
pub record BackupRemovable (aim : Replacement) (done : List Event) : Type 0 where
  pub removable : TempRemovable aim done
  pub unbacked : IfSome aim.backup (λ second.
      leads done aim.name ≡ Some aim.original → TempRemovable aim (Leads second None ∷ done))

-- The file's name points to the new file, whose bytes are on the disk. So is the name of a requested backup.
pub record Put (aim : Replacement) (done : List Event) : Type 0 where
  pub reached : Reached aim done
  pub is : leads done aim.name ≡ Some aim.number
  pub whole : IsWhole aim done
  pub backed : IfSome aim.backup (HasBackup aim done)
  pub others : (other : List ℕ) → ¬ (other ≡ aim.name) → ¬ (aim.backup ≡ Some other)
      → leads done other ≡ leads aim.before other

-- A crash leaves the new file under the file's name (`IsReplaced`); a crash at any earlier moment left the file safe
-- (`Reached`).
pub record Installed (aim : Replacement) (done : List Event) : Type 0 where
  pub reached : Reached aim done
  pub replaced : IsReplaced aim.before done aim.name aim.backup aim.new

-- the plan matches a value of `Plan`
pub record IsPlanOf (aim : Replacement) (plan : Plan) : Type 0 where
  pub name : plan.name.now ≡ aim.name
  pub temporary : plan.temporary.now ≡ aim.temporary
  pub backup : option_map (λ second. second.now) plan.backup ≡ aim.backup
  pub original : plan.original.number ≡ aim.original

-- the bytes that were written are known, and are the new bytes of the plan
abbrev pub IsWritten : Replacement → Option (List ℕ) → Type 0
IsWritten aim known = (bytes : List ℕ) × (known ≡ Some bytes) × (aim.new ≡ Some bytes)

-- the new file was created, and nothing else was done
abbrev pub IsMade : Replacement → List Event → Type 0
IsMade aim done = done ≡ Leads aim.temporary (Some aim.number) ∷ aim.before

-- the last phase for a file that changed, and for one that is unchanged
abbrev pub IsEndOf : Replacement → Made → List Event → Type 0
IsEndOf aim Changed done = Installed aim done
IsEndOf aim Made.Same done = Reached aim done × IsUntouched aim.before done

-- A call leads from one phase to another, if the folder's events before it are known.
abbrev pub Runs : Option (List Event) → Option (List Event) → (List Event → Type 0) → (List Event → Type 0) → Type 0
Runs before after from onto =
    IfSome before (λ done. from done → (now : List Event) × (after ≡ Some now) × onto now)

-- A call leads from one phase to another, or to a third if it fails.
abbrev pub Transitions : {T E : Type 0} → Option (List Event) → Option (List Event) → Result T E
    → (List Event → Type 0) → (List Event → Type 0) → (List Event → Type 0) → Type 0
Transitions before after result from onto failed =
    Runs before after from (λ now. MatchResult result (λ _. onto now) (λ _. failed now))
