use Rattle.std.proofs.Common.{◌≡◌, ℕ, ◌+◌, ◌-◌, ◌<◌, ◌≤◌, List, [], ◌∷◌, ◌++◌, length, take, drop, get_or, ap, sym, ◌∙◌, append_assoc, append-nil, arith, length-append, Some, inr}
use Rattle.std.proofs.lemmas.Grind.{common_steps}
use Rattle.time_components.specs.declared.inspect.Step.{Step}
use Rattle.time_descriptions.specs.Items.{Item, flat}
use Rattle.time_descriptions.specs.Parts.{HasSteps, part_items}
use Rattle.time_descriptions.specs.declared.error.Fault.{Fault}
use Rattle.time_descriptions.specs.Strftime.{Fits, Found, failed, followed, strftime}
use Rattle.time_descriptions.proofs.Adding.{flat-append}
use Rattle.time_descriptions.proofs.strftime.read_steps.Goals as goal

first_and_others : (bytes : List ℕ) → 1 ≤ length bytes → get_or bytes 0 0 ∷ take (length bytes - 1) (drop 1 bytes) ≡ bytes
first_and_others [] h = absurd (omega arith)
first_and_others (b ∷ bytes) h = grind (arith, common_steps)

-- one more part
at_part : (text rest unread : List ℕ) (front part : List Item) → 1 ≤ length rest → strftime text ≡ followed front (strftime rest)
    → strftime (get_or rest 0 0 ∷ take (length rest - 1) (drop 1 rest)) ≡ followed part (strftime unread)
    → strftime text ≡ followed (front ++ part) (strftime unread)
at_part text rest unread front part h told begins =
    let found : Found = strftime unread in
    told ∙ ap (λ (bytes : List ℕ). followed front (strftime bytes)) (sym (first_and_others rest h)) ∙ ap (followed front) begins
    ∙ sym (ap (λ (is : List Item). (is, found.1)) (append_assoc front part found.0))

-- too many steps
exceeds : (n : ℕ) (text unread : List ℕ) (front part : List Item) (steps : List Step)
    → strftime text ≡ followed (front ++ part) (strftime unread) → steps ≡ flat front → n < length steps + length (flat part)
    → n < length (flat (strftime text).0)
exceeds n text unread front part steps told s h =
    let all : length (flat (strftime text).0) ≡ length (flat front) + length (flat part) + length (flat (strftime unread).0) =
    ap (λ (found : Found). length (flat found.0)) told ∙ simp (flat-append, length-append) in
    omega (arith, all, ap length s)

-- at the first fault
at_fault : (n : ℕ) (text rest : List ℕ) (front : List Item) (steps : List Step) (e : Fault) → 1 ≤ length rest
    → strftime text ≡ followed front (strftime rest)
    → strftime (get_or rest 0 0 ∷ take (length rest - 1) (drop 1 rest)) ≡ failed e → steps ≡ flat front → length steps ≤ n
    → ((strftime text).1 ≡ Some e) × Fits n text
at_fault n text rest front steps e h told begins s room =
    let whole : strftime text ≡ followed front (failed e) =
    told ∙ ap (λ (bytes : List ℕ). followed front (strftime bytes)) (sym (first_and_others rest h)) ∙ ap (followed front) begins in
    let all : length (flat (strftime text).0) ≡ length (flat (front ++ [])) = ap (λ (found : Found). length (flat found.0)) whole in
    let none : length (flat (front ++ [])) ≡ length (flat front) = ap (λ (is : List Item). length (flat is)) (append-nil front) in
    (ap (λ (found : Found). found.1) whole, omega (arith, all, none, ap length s, room))

-- at the end of the text
at_end : (text rest : List ℕ) (front : List Item) (steps : List Step) → length rest < 1 → strftime text ≡ followed front (strftime rest)
    → steps ≡ flat front → HasSteps text steps
unfolding strftime
at_end text [] front steps h told s = (
  ap (λ (found : Found). found.1) told,
  s ∙ ap flat (sym (append-nil front)) ∙ sym (ap (λ (found : Found). flat found.0) told),
)
at_end text (b ∷ rest) front steps h told s = absurd (omega (arith, h))

pub returns-in_err-push_part-in-Ok-clause-err : goal.returns-in_err-push_part-in-Ok-clause-err
returns-in_err-push_part-in-Ok-clause-err g c =
    let i = c.loop-rest.invariant in
    let e = c.in_err-push_part-in-Ok.ensures.err in
    let told = at_part _ _ _ _ _ c.in-len1-up.len_at_least i.told c.in-Ok.ensures.begins in
    let many = exceeds g.row.N _ _ _ _ _ told i.steps e.1 in
    grind (arith, common_steps, e.0, many)

pub loop-rest-preserved : goal.loop-rest-preserved
loop-rest-preserved g c =
    let i = c.loop-rest.invariant in
    let part : List Item = part_items c.in-Ok.part in
    record {
      front = i.front ++ part;
      told = at_part _ _ _ _ _ c.in-len1-up.len_at_least i.told c.in-Ok.ensures.begins;
      steps =
          c.in_ok-push_part-in-Ok.ensures.ok ∙ ap (λ (steps : List Step). steps ++ flat part) i.steps ∙ sym (flat-append i.front part);
      room = c.in_ok-push_part-in-Ok.ensures.room i.room;
    }

pub returns-clause-ok : goal.returns-clause-ok
returns-clause-ok g c =
    let i = c.loop-rest.invariant in
    at_end _ c.loop-rest.rest.now i.front _ c.in_default.len_below i.told i.steps

pub returns-clause-fits : goal.returns-clause-fits
returns-clause-fits g c =
    let i = c.loop-rest.invariant in
    omega (arith, i.room, ap length (at_end _ c.loop-rest.rest.now i.front _ c.in_default.len_below i.told i.steps).1)

pub returns-in-Err-clause-err : goal.returns-in-Err-clause-err
returns-in-Err-clause-err g c =
    let i = c.loop-rest.invariant in
    inr (at_fault g.row.N _ _ i.front _ c.in-Err.fault c.in-len1-up.len_at_least i.told c.in-Err.ensures.begins i.steps i.room)
