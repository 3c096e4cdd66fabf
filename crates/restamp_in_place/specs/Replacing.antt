-- The bytes that a crash leaves of a file during its replacement.
use Rattle.std.specs.Prelude.{◌≡◌, ◌≢◌, ◌⊎◌, ◌++◌, ℕ, List, [], ◌∷◌, Option, Some, None, IfSome, IsErr, Result, if◌then◌else◌, nat_eq, IfOk, Bool, true, false, ◌==◌}
use Rattle.std.specs.Option.{option_and_then}
use Rattle.std.specs.Str.{bytes_eq}
use Rattle.restamp_stream.specs.declared.tally.Tally.{Tally}
use Rattle.restamp_stream.specs.Reports.{nothing_counted}
use Rattle.restamp_stream.specs.Streams.{Job, state, ProcessedAll}
pub use Rattle.restamp_in_place.specs.declared.lines.Made.{Made}
pub use Rattle.restamp_in_place.specs.declared.lines.Made.TheVariants.{Changed, Same}

-- ---- The events of a folder, and what a crash leaves of it

-- a change in a folder
pub data Event : Type 0 where
  -- a name points to the file of that number, or to no file
  Leads : (name : List ℕ) (file : Option ℕ) → Event
  -- the file of that number has those bytes, on the disk
  Stored : (file : ℕ) (bytes : List ℕ) → Event
  -- the names are on the disk
  Synced : Event

-- the number of the file to which a name points after the events, the last event first; `None` if to no file
abbrev pub leads : List Event → List ℕ → Option ℕ
leads [] name = None
leads (Leads other file ∷ done) name = if bytes_eq other name then file else leads done name
leads (Stored file bytes ∷ done) name = leads done name
leads (Synced ∷ done) name = leads done name

-- the bytes of a file that are on the disk; `None` if none were stored, so that a crash may leave any bytes
abbrev pub stored : List Event → ℕ → Option (List ℕ)
stored [] file = None
stored (Leads name other ∷ done) file = stored done file
stored (Stored other bytes ∷ done) file = if nat_eq other file then Some bytes else stored done file
stored (Synced ∷ done) file = stored done file

-- A crash may leave the name pointing to that file (or none): the current one, or one it had since the last `Synced`.
abbrev pub MayLead : List Event → List ℕ → Option ℕ → Type 0
MayLead [] name file = file ≡ None
MayLead (Leads other led ∷ done) name file = ((other ≡ name) × (file ≡ led)) ⊎ MayLead done name file
MayLead (Stored other bytes ∷ done) name file = MayLead done name file
MayLead (Synced ∷ done) name file = file ≡ leads done name

-- the bytes of the file to which a name points; `None` if it points to none, or if they aren't on the disk
abbrev pub bytes_at : List Event → List ℕ → Option (List ℕ)
bytes_at done name = option_and_then (stored done) (leads done name)

-- a crash leaves no name pointing to the file of that number, and none of its bytes are on the disk
pub record IsFresh (done : List Event) (number : ℕ) : Type 0 where
  pub led : (name : List ℕ) (file : Option ℕ) → MayLead done name file → file ≢ Some number
  pub empty : stored done number ≡ None

-- If the earlier events are known, so are the later ones: the earlier ones, and more that satisfy the fact.
abbrev pub Performs : Option (List Event) → Option (List Event) → (List Event → List Event → Type 0) → Type 0
Performs before after fact =
    IfSome before (λ done. (more : List Event) × (after ≡ Some (more ++ done)) × fact done more)

-- A call added events that satisfy the fact, also if it failed; or it failed and added none.
abbrev pub Tries : {T E : Type 0} → Option (List Event) → Option (List Event) → Result T E
    → (List Event → List Event → Type 0) → Type 0
Tries before after result fact =
    Performs before after (λ done more. fact done more ⊎ (IsErr result × (more ≡ [])))

-- The only event after `done` is that a new file (`IsFresh`) was created under that name, which was unused.
abbrev pub Creates : List ℕ → List Event → List Event → Type 0
Creates name done more =
    (number : ℕ) × IsFresh done number × (leads done name ≡ None) × (more ≡ Leads name (Some number) ∷ [])

-- The bytes of the name's file are on the disk, and are the written ones if these are known.
abbrev pub Stores : List ℕ → Option (List ℕ) → List Event → List Event → Type 0
Stores name known done more =
    (number : ℕ) × (bytes : List ℕ) × (leads done name ≡ Some number) × IfSome known (λ written. bytes ≡ written)
    × (more ≡ Stored number bytes ∷ [])

-- A second name, which was unused, points to the first name's file.
abbrev pub Links : List ℕ → List ℕ → List Event → List Event → Type 0
Links name second done more =
    (number : ℕ) × (leads done name ≡ Some number) × (leads done second ≡ None)
    × (more ≡ Leads second (Some number) ∷ [])

-- The name `onto` now points to the file to which `name` pointed, and `name` points to no file.
abbrev pub Renames : List ℕ → List ℕ → List Event → List Event → Type 0
Renames name onto done more =
    (number : ℕ) × (leads done name ≡ Some number)
    × (more ≡ Leads name None ∷ Leads onto (Some number) ∷ [])

-- The name now points to no file.
abbrev pub Removes : List ℕ → List Event → List Event → Type 0
Removes name done more = more ≡ Leads name None ∷ []

-- The names are on the disk.
abbrev pub Syncs : List Event → List Event → Type 0
Syncs done more = more ≡ Synced ∷ []

-- the new bytes of a file, by the text that was written: none if the file is unchanged
abbrev pub bytes_made : Made → List ℕ → Option (List ℕ)
bytes_made Changed text = Some text
bytes_made Same text = None

-- A file, if there is one, has the bytes on the disk that it had before.
abbrev pub HasSameBytes : List Event → List Event → Option ℕ → Type 0
HasSameBytes before after file = IfSome file (λ number. stored after number ≡ stored before number)

-- A crash leaves under the second name the file to which the first name pointed before, with its bytes from before.
abbrev pub IsBackedUp : List Event → List Event → List ℕ → List ℕ → Type 0
IsBackedUp before after name second =
    (file : Option ℕ) → MayLead after second file → (file ≡ leads before name) × HasSameBytes before after file

-- The file has exactly the new bytes on the disk. If a backup is requested, its name points to the old file.
pub record IsNew (before after : List Event) (name : List ℕ) (backup new : Option (List ℕ))
    (file : Option ℕ) : Type 0 where
  pub number : ℕ
  pub bytes : List ℕ
  pub is : file ≡ Some number
  pub made : new ≡ Some bytes
  pub whole : stored after number ≡ Some bytes
  pub kept : IfSome backup (IsBackedUp before after name)

-- A crash leaves what it might have left before under the name, with the same bytes; or the new file.
abbrev pub IsSafe : List Event → List ℕ → Option (List ℕ) → Option (List ℕ) → List Event → Type 0
IsSafe before name backup new after =
    (file : Option ℕ) → MayLead after name file
    → (MayLead before name file × HasSameBytes before after file) ⊎ IsNew before after name backup new file

-- The fact holds of the events at each moment: before, and after each further event.
abbrev pub Throughout : List Event → List Event → (List Event → Type 0) → Type 0
Throughout before [] fact = fact before
Throughout before (event ∷ more) fact = fact (event ∷ more ++ before) × Throughout before more fact

-- A crash at any moment leaves the name safe.
abbrev pub IsAlwaysSafe : List Event → Option (List Event) → List ℕ → Option (List ℕ) → Option (List ℕ) → Type 0
IsAlwaysSafe before after name backup new =
    (more : List Event) × (after ≡ Some (more ++ before)) × Throughout before more (IsSafe before name backup new)

-- A crash leaves the new file under the name, and each other name but the backup's points where it did.
pub record IsReplaced (before after : List Event) (name : List ℕ) (backup new : Option (List ℕ)) : Type 0 where
  pub new_file : (file : Option ℕ) → MayLead after name file → IsNew before after name backup new file
  pub others : (other : List ℕ) → ¬ (other ≡ name) → ¬ (backup ≡ Some other) → leads after other ≡ leads before other

-- Each name points to the file that it pointed to before.
abbrev pub IsUntouched : List Event → List Event → Type 0
IsUntouched before after = (other : List ℕ) → leads after other ≡ leads before other

-- A changed file has its new bytes, and an unchanged one is untouched.
abbrev pub IsEnded : Made → List Event → List Event → List ℕ → Option (List ℕ) → Option (List ℕ) → Type 0
IsEnded Changed before after name backup new = IsReplaced before after name backup new
IsEnded Same before after name backup new = IsUntouched before after

-- The result of replacing a file: new bytes, if there are any, are made from the old ones. A crash at any moment leaves
-- the name safe. After a success the file is replaced if the result is `Changed`, and untouched if it is `Same`.
pub record Replaces (makes : List ℕ → Option (List ℕ) → Type 0) (before : List Event) (after : Option (List Event))
    (name : List ℕ) (backup : Option (List ℕ)) {E : Type 0} (result : Result Made E) : Type 0 where
  pub new : Option (List ℕ)
  pub made : IfSome new (λ bytes. IfSome (bytes_at before name) (λ old. makes old (Some bytes)))
  pub safe : IsAlwaysSafe before after name backup new
  pub ends : IfOk result (λ how. IfSome after (λ now. IsEnded how before now name backup new))
  pub same : IfOk result (λ how. how ≡ Same → IfSome (bytes_at before name) (λ old. makes old None))

-- A crash leaves a file under the name whose bytes on the disk are the old ones, or exactly the new ones.
abbrev pub IsOldOrNew : List ℕ → Option (List ℕ) → List ℕ → List Event → Type 0
IsOldOrNew name new old after =
    (file : Option ℕ) → MayLead after name file
    → (number : ℕ) × (bytes : List ℕ) × (file ≡ Some number) × (stored after number ≡ Some bytes)
    × ((bytes ≡ old) ⊎ (new ≡ Some bytes))

-- ---- The name of a backup

-- a text has a `*`
abbrev pub has_star : List ℕ → Bool
has_star [] = false
has_star (b ∷ text) = if b == 42 then true else has_star text

-- a text with the name in place of each `*`
abbrev pub with_name : List ℕ → List ℕ → List ℕ
with_name name [] = []
with_name name (b ∷ text) = (if b == 42 then name else b ∷ []) ++ with_name name text

-- a suffix with the name in place of each `*`; without a `*`, the name followed by the suffix
abbrev pub backup_of : List ℕ → List ℕ → List ℕ
backup_of name suffix = if has_star suffix then with_name name suffix else name ++ suffix

-- ---- The new bytes of a file by its lines

-- `Changed` for a file with those counts if one of its timestamps was rewritten, otherwise `Same`
abbrev pub made_of : Tally → Made
made_of tally = if tally.rewritten == 0 then Same else Changed

-- All lines of the old bytes were processed, and the output is a text. It is the new bytes if a timestamp was
-- rewritten; otherwise no bytes are made. The two logs are those before and after, and the tally counts the lines.
abbrev pub Makes : Job → Option (List ℕ) → Option (List ℕ) → Tally → List ℕ → Option (List ℕ) → Type 0
Makes job log log' tally old made =
    (text : List ℕ) × ProcessedAll job (state (Some []) log nothing_counted) (state (Some text) log' tally) old
    × (made ≡ bytes_made (made_of tally) text)

-- ---- Laws of what a crash leaves of a file

-- A crash may leave a name pointing to its current file.
abbrev pub NowMayBe : Type 0
NowMayBe = (done : List Event) (name : List ℕ) → MayLead done name (leads done name)

-- a crash leaves the name pointing to the file, which has those bytes on the disk
pub record IsOnDisk (done : List Event) (name : List ℕ) (number : ℕ) (bytes : List ℕ) : Type 0 where
  pub led : (file : Option ℕ) → MayLead done name file → file ≡ Some number
  pub whole : stored done number ≡ Some bytes

-- If the old file was on the disk, a safe name points to a file with the old bytes or exactly the new ones.
abbrev pub SafeIsOldOrNew : Type 0
SafeIsOldOrNew =
    (before after : List Event) (name old : List ℕ) (number : ℕ) (backup new : Option (List ℕ))
    → IsOnDisk before name number old → IsSafe before name backup new after → IsOldOrNew name new old after
