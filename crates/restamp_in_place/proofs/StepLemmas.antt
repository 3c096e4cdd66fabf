-- The effect of each call on the replacement of a file.
use Rattle.std.proofs.Common.{◌≡◌, ◌⊎◌, ⊎_elim, ℕ, List, [], ◌∷◌, ◌++◌, refl, ◌∙◌, Option, None, Some, Bool, true, false, sym, is_ok, Result, Ok, Err, IfSome}
use Rattle.std.proofs.lemmas.Option.{IfSome_then}
use Rattle.std.proofs.lemmas.Result.{MatchResult-weaker}
use Rattle.restamp_in_place.specs.Replacing.{Event, leads, Performs, Tries, Stores, Links, Renames, Removes, Syncs}
use Rattle.restamp_in_place.specs.Replacing.Event.{Leads}
use Rattle.restamp_in_place.specs.Phases.{Replacement, IsWritten, Reached, Kept, Ready, Linked, Backed, TempRemovable, BackupRemovable, Put, Installed, Runs, Transitions}
use Rattle.restamp_in_place.proofs.PhaseLemmas.{ready, linked, backed, renamed, put, removable-renamed, done-synced, removed}

-- a call that may have failed
pub runs-any : (before after : Option (List Event)) (P : Type 0) (fact : List Event → List Event → Type 0) (from onto : List Event → Type 0)
    → Performs before after (λ done more. fact done more ⊎ (P × (more ≡ [])))
    → ((done more : List Event) → from done → fact done more → onto (more ++ done)) → (P → (done : List Event) → from done → onto done)
    → Runs before after from onto
runs-any before after P fact from onto tries step stays = IfSome_then before tries (λ done t is. (
  t.0 ++ done,
  t.1,
  ⊎_elim (λ did. step done t.0 is did) (λ failed. rw failed.1 (stays failed.0 done is)) t.2,
))

-- a call that succeeded
pub runs-ok : {T E : Type 0} (before after : Option (List Event)) (called : Result T E) (fact : List Event → List Event → Type 0)
    (from onto : List Event → Type 0) → is_ok called ≡ true → Tries before after called fact
    → ((done more : List Event) → from done → fact done more → onto (more ++ done)) → Runs before after from onto
runs-ok before after (Ok value) fact from onto ok tries step = runs-any before after _ fact from onto tries step (λ never. absurd (cc never))
runs-ok before after (Err error) fact from onto ok tries step = absurd (cc ok)

-- a call, after which its caller fails
pub call_failed : {T E T' E' : Type 0} (before after : Option (List Event)) (called : Result T E) (result : Result T' E')
    (fact : List Event → List Event → Type 0) (from onto failed : List Event → Type 0) → is_ok result ≡ false → Tries before after called fact
    → ((done more : List Event) → from done → fact done more → failed (more ++ done)) → ((done : List Event) → from done → failed done)
    → Transitions before after result from onto failed
call_failed before after called (Ok value) fact from onto failed is tries may stays = absurd (cc is)
call_failed before after called (Err error) fact from onto failed is tries may stays = runs-any before after _ fact from failed tries may (λ _. stays)

-- a call, and the result of its caller, which fails if the call failed
pub tried : {T E T' E' : Type 0} (before after : Option (List Event)) (called : Result T E) (result : Result T' E')
    (fact : List Event → List Event → Type 0) (from onto failed : List Event → Type 0) → is_ok result ≡ is_ok called → Tries before after called fact
    → ((done more : List Event) → from done → fact done more → onto (more ++ done))
    → ((done more : List Event) → from done → fact done more → failed (more ++ done)) → ((done : List Event) → from done → failed done)
    → Transitions before after result from onto failed
tried before after called (Ok value) fact from onto failed same tries step may stays = runs-ok before after called fact from onto (sym same) tries step
tried before after called (Err error) fact from onto failed same tries step may stays =
    runs-any before after _ fact from failed tries may (λ _. stays)

pub runs-then : (before between after : Option (List Event)) (from mid onto : List Event → Type 0)
    → Runs before between from mid → Runs between after mid onto → Runs before after from onto
runs-then before between after from mid onto first second =
    IfSome_then before first (λ done first is. let at = first is in (rw at.1 at second) at.2)

pub runs-weaker : (before after : Option (List Event)) (from from' onto onto' : List Event → Type 0) → ((done : List Event) → from' done → from done)
    → ((done : List Event) → onto done → onto' done) → Runs before after from onto → Runs before after from' onto'
runs-weaker before after from from' onto onto' into out runs =
    IfSome_then before runs (λ done run is. let at = run (into done is) in (at.0, at.1, out at.0 at.2))

pub runs-same : (before : Option (List Event)) (from onto : List Event → Type 0) → ((done : List Event) → from done → onto done)
    → Runs before before from onto
runs-same None from onto step = tt
runs-same (Some done) from onto step = λ is. (done, refl, step done is)

pub goes-into : {T E : Type 0} (before after : Option (List Event)) (result : Result T E) (from onto failed other : List Event → Type 0)
    → ((done : List Event) → failed done → other done) → Transitions before after result from onto failed → Transitions before after result from onto other
goes-into before after result from onto failed other step =
    runs-weaker before after from from _ _ (λ _ is. is) (λ done is. MatchResult-weaker result is (λ _ is. is) (λ _. step done))

-- the phase after a call, whether its caller fails or not
pub either_way : {T E : Type 0} (before after : Option (List Event)) (result : Result T E) (from onto failed : List Event → Type 0)
    → ((done : List Event) → onto done → failed done) → Runs before after from onto → Transitions before after result from onto failed
either_way before after (Ok value) from onto failed step runs = runs
either_way before after (Err error) from onto failed step runs = runs-weaker before after from from onto failed (λ _ is. is) step runs

module _ (aim : Replacement) where
  pub did_store : (name : List ℕ) (known : Option (List ℕ)) → name ≡ aim.temporary → IsWritten aim known
      → (done more : List Event) → Kept aim done → Stores name known done more → Ready aim (more ++ done)
  did_store name known is w done more k s =
      let number : s.0 ≡ aim.number = cc (k.temporary, s.2, is) in
      let bytes : s.1 ≡ w.0 = rw w.1 at s.3 in
      rw (s.4, number, bytes) (ready aim w.0 k w.2)

  pub did_link : (name second : List ℕ) → name ≡ aim.name → aim.backup ≡ Some second
      → (done more : List Event) → Ready aim done → Links name second done more → Linked aim (more ++ done)
  did_link name second is asked done more r l =
      let still : leads done aim.name ≡ Some aim.original = r.kept.still ∙ aim.there in
      let number : l.0 ≡ aim.original = cc (still, l.1, is) in
      rw (l.3, number) (linked aim second r asked l.2)

  pub did_sync : (done more : List Event) → Linked aim done → Syncs done more → Backed aim (more ++ done)
  did_sync done more l is = rw is (backed aim l)

  rename_is : (name onto : List ℕ) → name ≡ aim.temporary → onto ≡ aim.name
      → (done more : List Event) → Backed aim done → Renames name onto done more → more ++ done ≡ renamed aim done
  rename_is name onto from to done more b r =
      let number : r.0 ≡ aim.number = cc (b.ready.kept.temporary, r.1, from) in rw (r.2, number, from, to)

  pub did_rename : (name onto : List ℕ) → name ≡ aim.temporary → onto ≡ aim.name
      → (done more : List Event) → Backed aim done → Renames name onto done more → Put aim (more ++ done)
  did_rename name onto from to done more b r = rw (rename_is name onto from to done more b r) (put aim b)

  pub rename_failed : (name onto : List ℕ) → name ≡ aim.temporary → onto ≡ aim.name
      → (done more : List Event) → Backed aim done → Renames name onto done more → BackupRemovable aim (more ++ done)
  rename_failed name onto from to done more b r = rw (rename_is name onto from to done more b r) (removable-renamed aim b)

  pub did_remove : (name : List ℕ) → name ≡ aim.temporary
      → (done more : List Event) → TempRemovable aim done → Removes name done more → Reached aim (more ++ done)
  did_remove name is done more l r = rw (r, is) (removed aim l)

  pub did_finish : (done more : List Event) → Put aim done → Syncs done more → Installed aim (more ++ done)
  did_finish done more p is = rw is (done-synced aim p)

  unbacked : (backup : Option (List ℕ)) (second : List ℕ) (done : List Event) → backup ≡ Some second
      → IfSome backup (λ second. leads done aim.name ≡ Some aim.original → TempRemovable aim (Leads second None ∷ done))
      → leads done aim.name ≡ Some aim.original → TempRemovable aim (Leads second None ∷ done)
  unbacked backup second done is all = rw is at all

  -- the backup was removed, while the name points to the old file
  pub remove-backup : (before after : Option (List Event)) (P : Type 0) (second : List ℕ) → aim.backup ≡ Some second
      → IfSome before (λ done. leads done aim.name ≡ Some aim.original) → Performs before after (λ done more. Removes second done more ⊎ (P × (more ≡ [])))
      → Runs before after (BackupRemovable aim) (TempRemovable aim)
  remove-backup None after P second is there tries = tt
  remove-backup (Some done) after P second is there tries = λ l. (
    tries.0 ++ done,
    tries.1,
    ⊎_elim (λ did. rw did (unbacked aim.backup second done is l.unbacked there)) (λ failed. rw failed.1 l.removable) tries.2,
  )

  -- the name points to the old file, if a check found that
  pub known-there : (events : Option (List Event)) (name : List ℕ) (number : ℕ) (is : Bool) → is ≡ true → name ≡ aim.name → number ≡ aim.original
      → IfSome events (λ done. is ≡ true → leads done name ≡ Some number) → IfSome events (λ done. leads done aim.name ≡ Some aim.original)
  known-there events name number is seen same file there = IfSome_then events there (λ done there. rw (← same, ← file) (there seen))
