-- The steps of a file's replacement, from phase to phase.
use Rattle.std.proofs.Common.{arith, ◌≡◌, ◌⊎◌, inl, inr, ⊎_elim, ℕ, List, ◌∷◌, [], refl, sym, ◌∙◌, ap, Option, None, Some, IfSome}
use Rattle.std.proofs.lemmas.Option.{IfSome_then}
use Rattle.restamp_in_place.specs.Replacing.{Event, leads, stored, MayLead, IsNew, HasSameBytes}
use Rattle.restamp_in_place.specs.Replacing.Event.{Leads, Stored, Synced}
use Rattle.restamp_in_place.specs.Phases.{Replacement, Safe, Reached, Same, Kept, Ready, Linked, HasBackup, Backed, TempRemovable, BackupRemovable, IsWhole, Put, Installed}
use Rattle.restamp_in_place.proofs.FolderLemmas.{leads-at, leads-past, leads-removed, may_now, stored-at, stored-past, names_differ}

IfSome-at : {X : Type 0} (o : Option X) (P : X → Type 0) (x : X) → o ≡ Some x → P x → IfSome o P
IfSome-at o P x is p = rw is p

module _ (aim : Replacement) where
  -- the file's name is not the new one's
  apart : ¬ (aim.name ≡ aim.temporary)
  apart = names_differ aim.before aim.name aim.temporary aim.original aim.there aim.unused

  -- a crash leaves no other file under the name than before
  abbrev StillLeads : List Event → Type 0
  StillLeads done = (file : Option ℕ) → MayLead done aim.name file → MayLead aim.before aim.name file

  -- all files but the new one have the bytes that they had
  abbrev StillStored : List Event → Type 0
  StillStored done = (number : ℕ) → ¬ (number ≡ aim.number) → stored done number ≡ stored aim.before number

  same_bytes : (done : List Event) (file : Option ℕ) → StillStored done → ¬ (file ≡ Some aim.number) → HasSameBytes aim.before done file
  same_bytes done file bytes other = grind (arith, bytes)

  -- one more event
  goes_on : {done : List Event} (event : Event) → Reached aim done → Safe aim (event ∷ done) → Reached aim (event ∷ done)
  goes_on event reached safe = record { more = event ∷ reached.more; is = rw reached.is; safe = (rw reached.is at safe, reached.safe) }

  -- a file that is untouched is safe
  safe_same : (done : List Event) → StillLeads done → StillStored done → Safe aim done
  safe_same done same bytes file may =
      let before = same file may in inl (before, same_bytes done file bytes (aim.fresh.led aim.name file before))

  -- nothing was done
  started : Same aim aim.before
  started = record {
    reached = record { more = []; is = refl; safe = safe_same aim.before (λ file may. may) (λ number differs. refl) };
    same = λ file may. may;
    bytes = λ number differs. refl;
  }

  Same-more : {done : List Event} (event : Event) → Same aim done → StillLeads (event ∷ done) → StillStored (event ∷ done) → Same aim (event ∷ done)
  Same-more event s still bytes = record { reached = goes_on event s.reached (safe_same _ still bytes); same = still; bytes = bytes }

  -- a name other than the file's points elsewhere
  Same-leads : {done : List Event} (name : List ℕ) (led : Option ℕ) → ¬ (aim.name ≡ name) → Same aim done → Same aim (Leads name led ∷ done)
  Same-leads name led differs s = Same-more _ s (λ file may. ⊎_elim (λ here. absurd (differs (sym here.0))) (s.same file) may) s.bytes

  -- the new file is stored on the disk
  Same-stored : {done : List Event} (bytes : List ℕ) → Same aim done → Same aim (Stored aim.number bytes ∷ done)
  Same-stored {done} bytes s = Same-more _ s s.same (λ number differs. stored-past aim.number number bytes done differs ∙ s.bytes number differs)

  -- the names are written to the disk
  Same-synced : {done : List Event} → Same aim done → Same aim (Synced ∷ done)
  Same-synced {done} s = Same-more Synced s (λ file may. s.same file (rw may (may_now done aim.name))) s.bytes

  -- the new file's own name may be removed
  pub Same-removable : {done : List Event} → Same aim done → TempRemovable aim done
  Same-removable s = let after = Same-leads aim.temporary None apart s in record { reached = s.reached; safe = safe_same _ after.same after.bytes }

  -- the new file was created
  pub made : Kept aim (Leads aim.temporary (Some aim.number) ∷ aim.before)
  made = record {
    untouched = Same-leads aim.temporary (Some aim.number) apart started;
    temporary = leads-at aim.temporary (Some aim.number) aim.before;
    still = leads-past aim.temporary aim.name (Some aim.number) aim.before apart;
    others = λ other differs _ _. leads-past aim.temporary other (Some aim.number) aim.before differs;
  }

  -- the new file was stored on the disk
  pub ready : {done : List Event} (bytes : List ℕ) → Kept aim done → aim.new ≡ Some bytes → Ready aim (Stored aim.number bytes ∷ done)
  ready {done} bytes k new = record {
    kept = record { untouched = Same-stored bytes k.untouched; temporary = k.temporary; still = k.still; others = k.others };
    whole = (bytes, new, stored-at aim.number bytes done);
  }

  -- the old file got its second name
  pub linked : {done : List Event} (second : List ℕ) → Ready aim done → aim.backup ≡ Some second → leads done second ≡ None
      → Linked aim (Leads second (Some aim.original) ∷ done)
  linked {done} second r is unused =
      let file : Option ℕ = Some aim.original in
      let from_name : ¬ (aim.name ≡ second) = names_differ done aim.name second aim.original (r.kept.still ∙ aim.there) unused in
      let from_new : ¬ (aim.temporary ≡ second) = names_differ done aim.temporary second aim.number r.kept.temporary unused in
      record {
        ready = record {
          kept = record {
            untouched = Same-leads second file from_name r.kept.untouched;
            temporary = leads-past second aim.temporary file done from_new ∙ r.kept.temporary;
            still = leads-past second aim.name file done from_name ∙ r.kept.still;
            others = λ other new old backup. leads-past second other file done (λ same. backup (is ∙ ap Some (sym same))) ∙ r.kept.others other new old backup;
          };
          whole = r.whole;
        };
        second = second;
        is = is;
        linked = leads-at second file done ∙ sym aim.there;
        apart = from_new;
        beside = from_name;
      }

  -- the second name is on the disk
  pub backed : {done : List Event} → Linked aim done → Backed aim (Synced ∷ done)
  backed {done} l =
      let k = l.ready.kept in
      record {
        ready = record {
          kept = record { untouched = Same-synced k.untouched; temporary = k.temporary; still = k.still; others = k.others };
          whole = l.ready.whole;
        };
        backed = IfSome-at aim.backup _ l.second l.is (record {
          apart = l.apart;
          beside = l.beside;
          backed = λ file may. (
            may ∙ l.linked,
            same_bytes (Synced ∷ done) file k.untouched.bytes
                (λ is. aim.fresh.led aim.name (leads aim.before aim.name) (may_now aim.before aim.name) (sym l.linked ∙ sym may ∙ is)),
          );
        });
      }

  -- no backup is requested
  pub backed-none : {done : List Event} → Ready aim done → aim.backup ≡ None → Backed aim done
  backed-none r none = record { ready = r; backed = rw none tt }

  -- events of other names keep the backup
  HasBackup-past : {done : List Event} {second : List ℕ} (name : List ℕ) (led : Option ℕ) → ¬ (name ≡ second) → HasBackup aim done second
      → HasBackup aim (Leads name led ∷ done) second
  HasBackup-past name led differs h =
      record { apart = h.apart; beside = h.beside; backed = λ file may. ⊎_elim (λ here. absurd (differs here.0)) (h.backed file) may }

  HasBackup-synced : {done : List Event} {second : List ℕ} → HasBackup aim done second → HasBackup aim (Synced ∷ done) second
  HasBackup-synced {done} {second} h =
      record { apart = h.apart; beside = h.beside; backed = λ file may. h.backed file (rw may (may_now done second)) }

  -- the new file, if the name of a requested backup is on the disk
  is_new : (done : List Event) (file : Option ℕ) → IsWhole aim done → IfSome aim.backup (HasBackup aim done) → file ≡ Some aim.number
      → IsNew aim.before done aim.name aim.backup aim.new file
  is_new done file whole backed is = record {
    number = aim.number;
    bytes = whole.0;
    is = is;
    made = whole.1;
    whole = whole.2;
    kept = IfSome_then aim.backup backed (λ second h. h.backed);
  }

  -- a crash leaves the old file or the new one
  record Placed (done : List Event) : Type 0 where
    either : (file : Option ℕ) → MayLead done aim.name file → MayLead aim.before aim.name file ⊎ (file ≡ Some aim.number)
    old : StillStored done
    whole : IsWhole aim done
    backed : IfSome aim.backup (HasBackup aim done)

  Placed-safe : {done : List Event} → Placed done → Safe aim done
  Placed-safe {done} p file may =
      ⊎_elim (λ before. inl (before, same_bytes done file p.old (aim.fresh.led aim.name file before)))
      (λ is. inr (is_new done file p.whole p.backed is)) (p.either file may)

  -- the new file's own name is unused
  Placed-temporary : {done : List Event} → Placed done → Placed (Leads aim.temporary None ∷ done)
  Placed-temporary p = record {
    either = λ file may. ⊎_elim (λ here. absurd (apart (sym here.0))) (p.either file) may;
    old = p.old;
    whole = p.whole;
    backed = IfSome_then aim.backup p.backed (λ second h. HasBackup-past aim.temporary None h.apart h);
  }

  placed : {done : List Event} → Backed aim done → Placed (Leads aim.name (Some aim.number) ∷ done)
  placed b = record {
    either = λ file may. ⊎_elim (λ here. inr here.1) (λ before. inl (b.ready.kept.untouched.same file before)) may;
    old = b.ready.kept.untouched.bytes;
    whole = b.ready.whole;
    backed = IfSome_then aim.backup b.backed (λ second h. HasBackup-past aim.name (Some aim.number) h.beside h);
  }

  -- the events after the new file was renamed
  abbrev pub renamed : List Event → List Event
  renamed done = Leads aim.temporary None ∷ Leads aim.name (Some aim.number) ∷ done

  reached-renamed : {done : List Event} → Backed aim done → Reached aim (renamed done)
  reached-renamed b =
      goes_on _ (goes_on _ b.ready.kept.untouched.reached (Placed-safe (placed b))) (Placed-safe (Placed-temporary (placed b)))

  leads-renamed : (done : List Event) → leads (renamed done) aim.name ≡ Some aim.number
  leads-renamed done =
      leads-past aim.temporary aim.name None (Leads aim.name (Some aim.number) ∷ done) apart ∙ leads-at aim.name (Some aim.number) done

  -- the new file replaced the old one
  pub put : {done : List Event} → Backed aim done → Put aim (renamed done)
  put {done} b = record {
    reached = reached-renamed b;
    is = leads-renamed done;
    whole = b.ready.whole;
    backed = (Placed-temporary (placed b)).backed;
    others = λ other old backup. leads-removed aim.before (Leads aim.name (Some aim.number) ∷ done) aim.temporary other aim.unused
        (λ new. leads-past aim.name other (Some aim.number) done old ∙ b.ready.kept.others other new old backup);
  }

  -- the new file may have replaced the old one, though the call failed
  pub removable-renamed : {done : List Event} → Backed aim done → BackupRemovable aim (renamed done)
  removable-renamed {done} b = record {
    removable = record { reached = reached-renamed b; safe = Placed-safe (Placed-temporary (Placed-temporary (placed b))) };
    unbacked = IfSome_then aim.backup b.backed (λ second h still. absurd (aim.fresh.led aim.name (Some aim.original)
        (rw aim.there at (may_now aim.before aim.name)) (sym still ∙ leads-renamed done)));
  }

  -- while the file is untouched, all that was created may be removed
  removable-second : {done : List Event} (second : List ℕ) → Same aim done → ¬ (aim.name ≡ second) → TempRemovable aim (Leads second None ∷ done)
  removable-second second s beside = Same-removable (Same-leads second None beside s)

  pub removable-backed : {done : List Event} → Backed aim done → BackupRemovable aim done
  removable-backed b = record {
    removable = Same-removable b.ready.kept.untouched;
    unbacked = IfSome_then aim.backup b.backed (λ second h _. removable-second second b.ready.kept.untouched h.beside);
  }

  pub removable-linked : {done : List Event} → Linked aim done → BackupRemovable aim done
  removable-linked l = record {
    removable = Same-removable l.ready.kept.untouched;
    unbacked = IfSome-at aim.backup _ l.second l.is (λ _. removable-second l.second l.ready.kept.untouched l.beside);
  }

  -- the new file replaced the old one, and the names are on the disk
  pub done-synced : {done : List Event} → Put aim done → Installed aim (Synced ∷ done)
  done-synced {done} p =
      let new : (file : Option ℕ) → MayLead (Synced ∷ done) aim.name file → IsNew aim.before (Synced ∷ done) aim.name aim.backup aim.new file =
      λ file may. is_new (Synced ∷ done) file p.whole (IfSome_then aim.backup p.backed (λ second h. HasBackup-synced h)) (may ∙ p.is) in
      record {
        reached = goes_on Synced p.reached (λ file may. inr (new file may));
        replaced = record { new_file = new; others = p.others };
      }

  -- the new file's own name was removed
  pub removed : {done : List Event} → TempRemovable aim done → Reached aim (Leads aim.temporary None ∷ done)
  removed l = goes_on _ l.reached l.safe
