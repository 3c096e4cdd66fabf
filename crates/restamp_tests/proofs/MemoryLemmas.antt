-- The events in a folder in memory are those of the model.
use Rattle.std.proofs.Common.{◌≡◌, ◌≢◌, inl, inr, ⊎_elim, ℕ, Bool, true, false, List, [], ◌∷◌, refl, sym, ◌∙◌, ap, subst, Option, None, Some, Result, IsErr, is_some, rules, if◌then◌else◌, nat_eq}
use Rattle.std.specs.Str.{bytes_eq}
use Rattle.restamp_in_place.specs.Replacing.{Event, Tries, Creates, MayLead, leads, stored}
use Rattle.restamp_in_place.specs.Replacing.Event.{Leads, Stored, Synced}
use Rattle.restamp_tests.specs.Memory.{is_unused}

-- a call that recorded those events, or failed and recorded them or no event
pub tries : {T E T' E' : Type 0} (done now more : List Event) (result : Result T E) (ended : Result T' E')
    (fact : List Event → List Event → Type 0)
    → Tries (Some done) (Some now) result (λ _ did. did ≡ more) → (IsErr result → IsErr ended) → fact done more
    → Tries (Some done) (Some now) ended fact
tries done now more result ended fact t fails holds =
    (t.0, t.1, ⊎_elim (λ did. inl (subst (fact done) (sym did) holds)) (λ none. inr (fails none.0, none.1)) t.2)

either : (b : Bool) (x y : Option ℕ) (number : ℕ) → x ≢ Some number → y ≢ Some number → (if b then x else y) ≢ Some number
either true x y number p q = p
either false x y number p q = q

-- the condition is false, and the rest is true
neither : (b rest : Bool) → (if b then false else rest) ≡ true → (b ≡ false) × (rest ≡ true)
neither true rest h = absurd (cc)
neither false rest h = (refl, h)

differs : (file number : ℕ) → nat_eq file number ≡ false → Some file ≢ Some number
differs file number apart is =
    let same : file ≡ number = cc in
    let equal : nat_eq number number ≡ true = search rules in
    let clash : nat_eq number number ≡ false = subst (λ (n : ℕ). nat_eq n number ≡ false) same apart in
    absurd (cc)

leads-unused : (done : List Event) (number : ℕ) (name : List ℕ) → is_unused done number ≡ true → leads done name ≢ Some number
leads-unused [] number name unused = λ is. absurd (cc)
leads-unused (Leads other None ∷ done) number name unused =
    either (bytes_eq other name) None (leads done name) number (λ is. absurd (cc)) (leads-unused done number name unused)
leads-unused (Leads other (Some file) ∷ done) number name unused =
    let n = neither (nat_eq file number) (is_unused done number) unused in
    either (bytes_eq other name) (Some file) (leads done name) number (differs file number n.0) (leads-unused done number name n.1)
leads-unused (Stored file bytes ∷ done) number name unused =
    leads-unused done number name (neither (nat_eq file number) (is_unused done number) unused).1
leads-unused (Synced ∷ done) number name unused = leads-unused done number name unused

led-unused : (done : List Event) (number : ℕ) → is_unused done number ≡ true
    → (name : List ℕ) (file : Option ℕ) → MayLead done name file → file ≢ Some number
led-unused [] number unused name file may = λ is. absurd (cc)
led-unused (Leads other None ∷ done) number unused name file may =
    ⊎_elim (λ led. λ is. absurd (cc)) (led-unused done number unused name file) may
led-unused (Leads other (Some led) ∷ done) number unused name file may =
    let n = neither (nat_eq led number) (is_unused done number) unused in
    ⊎_elim (λ now. λ is. differs led number n.0 (sym now.1 ∙ is)) (led-unused done number n.1 name file) may
led-unused (Stored other bytes ∷ done) number unused name file may =
    led-unused done number (neither (nat_eq other number) (is_unused done number) unused).1 name file may
led-unused (Synced ∷ done) number unused name file may = λ is. leads-unused done number name unused (sym may ∙ is)

stored-unused : (done : List Event) (number : ℕ) → is_unused done number ≡ true → stored done number ≡ None
stored-unused [] number unused = refl
stored-unused (Leads name None ∷ done) number unused = stored-unused done number unused
stored-unused (Leads name (Some file) ∷ done) number unused =
    stored-unused done number (neither (nat_eq file number) (is_unused done number) unused).1
stored-unused (Stored file bytes ∷ done) number unused =
    let n = neither (nat_eq file number) (is_unused done number) unused in
    rw n.0 (stored-unused done number n.1)
stored-unused (Synced ∷ done) number unused = stored-unused done number unused

-- a file of a number that no event names, under a name that led to no file, is new
pub creates : (done : List Event) (name copy : List ℕ) (number : ℕ) → is_unused done number ≡ true → leads done name ≡ None → copy ≡ name
    → Creates name done (Leads copy (Some number) ∷ [])
creates done name copy number unused free same = (
  number,
  record { led = led-unused done number unused; empty = stored-unused done number unused },
  free,
  ap (λ (text : List ℕ). Leads text (Some number) ∷ []) same,
)

-- a file that isn't `Some` is `None`
pub none : (file : Option ℕ) → false ≡ is_some file → file ≡ None
none None h = refl
none (Some number) h = absurd (cc)
