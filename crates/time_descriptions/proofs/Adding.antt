-- The steps of items, and one iteration over a list.
use Rattle.std.specs.Prelude.{◌⊎◌, slice_set, IfOk, IsErr, IsErrAnd}
use Rattle.std.proofs.Common.{◌≡◌, ℕ, zero, suc, ◌+◌, ◌-◌, ◌<◌, ◌≤◌, List, [], ◌∷◌, ◌++◌, length, Bor, Bool, true, false, Result, Ok, Err, Some, None, refl, ap, sym, ◌∙◌, append_assoc, append-nil, arith, length-append, inl, inr}
use Rattle.std.proofs.Math.Seq.{set-append_seam}
use Rattle.std.proofs.lemmas.Bool.{false≢true}
use Rattle.time_components.specs.declared.inspect.Group.{Group}
use Rattle.time_components.specs.declared.inspect.Group.TheVariants as groups
use Rattle.time_components.specs.declared.inspect.Step.{Step}
use Rattle.time_components.specs.declared.inspect.Step.TheVariants as step
use Rattle.time_descriptions.specs.declared.error.Fault.{Fault}
use Rattle.time_descriptions.specs.declared.error.Fault.TheVariants as fault
use Rattle.time_descriptions.specs.declared.error.Unsupported.TheVariants as unsupported
use Rattle.time_descriptions.specs.declared.leaf.Version.{Version}
use Rattle.time_descriptions.specs.Components.{Read, Returns, Adds}
use Rattle.time_descriptions.specs.Grammar.{after_byte, before, closed, ends, group_by, group_word, inside_by, item, items_by, leaf, list_by, lists_by, next_list, opened, group_step_count, inside_step_count, item_step_count, items_step_count, leaf_step_count, list_step_count, lists_step_count}
use Rattle.time_descriptions.specs.Items.{Item, group, items_of, flat, steps_of}

pub flat-append : (is js : List Item) → flat (is ++ js) ≡ flat is ++ flat js
flat-append [] js = refl
flat-append (i ∷ is) js =
    ap (λ (ss : List Step). steps_of i ++ ss) (flat-append is js) ∙ sym (append_assoc (steps_of i) (flat is) (flat js))

-- there is no room, and the fault is propagated
pub no_room : {A : Type 0} (steps : A → List Step) (n : ℕ) (read : Read A) (begun bytes : ℕ) (old : List Step) (r : Result (Bor (List ℕ)) Fault)
    (new : List Step) {e : Fault} → IsErr r × IsErrAnd r (λ x. x ≡ e) → e ≡ fault.NoRoom → n < length old + bytes → n - length old < begun
    → Adds steps n read begun bytes old r new
no_room steps n read begun bytes old (Ok rest) new by h l m = absurd (false≢true by.0)
no_room steps n read begun bytes old (Err x) new by h l m = inl (by.1 ∙ h, l, m)

-- a group whose length is set after its steps are appended
pub closed_group : (old : List Step) (g : Group) (is : List Item)
    → slice_set ((old ++ step.Group g 0 ∷ []) ++ flat is) (length old)
    (step.Group g (length ((old ++ step.Group g 0 ∷ []) ++ flat is) - length old - 1))
    ≡ old ++ steps_of (group g (items_of is))
closed_group old g is =
    let inner : List Step = flat is in
    let joined : (old ++ step.Group g 0 ∷ []) ++ inner ≡ old ++ step.Group g 0 ∷ inner = append_assoc old (step.Group g 0 ∷ []) inner in
    let count : length (old ++ step.Group g 0 ∷ inner) - length old - 1 ≡ length inner = omega (arith, length-append old (step.Group g 0 ∷ inner)) in
    ap (λ (ss : List Step). slice_set ss (length old) (step.Group g (length ss - length old - 1))) joined
    ∙ set-append_seam old (step.Group g 0) inner (step.Group g (length (old ++ step.Group g 0 ∷ inner) - length old - 1))
    ∙ ap (λ (n : ℕ). old ++ step.Group g n ∷ inner) count

-- a greater bound on bytes
pub more_bytes : {A : Type 0} (steps : A → List Step) (n : ℕ) (read : Read A) (begun a b : ℕ) (old : List Step)
    (r : Result (Bor (List ℕ)) Fault) (new : List Step)
    → a ≤ b → Adds steps n read begun a old r new → Adds steps n read begun b old r new
more_bytes steps n read begun a b old (Ok rest) new h x = (x.0, x.1, x.2, omega (arith, h, x.3), x.4, x.5)
more_bytes steps n read begun a b old (Err e) new h (inl x) = inl (x.0, omega (arith, h, x.1), x.2)
more_bytes steps n read begun a b old (Err e) new h (inr x) = inr x

before_both : (a b : List Item) (r : Read (List Item)) → before a (before b r) ≡ before (a ++ b) r
before_both a b (Ok x) = ap (λ (is : List Item). Ok (is, x.1)) (sym (append_assoc a b x.0))
before_both a b (Err e) = refl

module _ (read : List ℕ → Read Item) (nested : Bool) (rest : List ℕ) where
  pub ended : (m : ℕ) → ends nested rest ≡ true → items_by read m nested rest ≡ Ok ([], rest)
  unfolding items_by
  ended zero e = refl
  ended (suc m) e = rw e refl

  failed : (m : ℕ) (e : Fault) → 0 < m → ends nested rest ≡ false → read rest ≡ Err e → items_by read m nested rest ≡ Err e
  unfolding items_by
  failed zero e h n r = absurd (omega arith)
  failed (suc m) e h n r = rw (n, r) refl

  pub went_on : (m k : ℕ) (i : Item) (unread : List ℕ) → m ≡ suc k → ends nested rest ≡ false → read rest ≡ Ok (i, unread)
      → items_by read m nested rest ≡ before (i ∷ []) (items_by read k nested unread)
  unfolding items_by
  went_on m k i unread h n r = rw (h, n, r) refl

  -- Items are being read, with at most m items in the rest.
  module _ (whole : Read (List Item)) (front : List Item) (m : ℕ) (told : whole ≡ before front (items_by read m nested rest)) where
    pub at_end : ends nested rest ≡ true → whole ≡ Ok (front, rest)
    at_end e = told ∙ ap (before front) (ended m e) ∙ ap (λ (is : List Item). Ok (is, rest)) (append-nil front)

    pub at_fault : (e : Fault) → 0 < m → ends nested rest ≡ false → read rest ≡ Err e → whole ≡ Err e
    at_fault e h n r = told ∙ ap (before front) (failed m e h n r)

    pub at_item : (k : ℕ) (i : Item) (unread : List ℕ) → m ≡ suc k → ends nested rest ≡ false → read rest ≡ Ok (i, unread)
        → whole ≡ before (front ++ i ∷ []) (items_by read k nested unread)
    at_item k i unread h n r =
        told ∙ ap (before front) (went_on m k i unread h n r) ∙ before_both front (i ∷ []) (items_by read k nested unread)

module _ (list : List ℕ → Read (List Item)) (inside : List ℕ) where
  no_list : (m : ℕ) (e : Fault) → 0 < m → list inside ≡ Err e → lists_by list m inside ≡ Err e
  unfolding lists_by
  no_list zero e h r = absurd (omega arith)
  no_list (suc m) e h r = rw r refl

  last : (m : ℕ) (is : List Item) (rest : List ℕ) → 0 < m → list inside ≡ Ok (is, rest) → next_list rest ≡ None
      → lists_by list m inside ≡ Ok (group groups.List (items_of is) ∷ [], rest)
  unfolding lists_by
  last zero is rest h r n = absurd (omega arith)
  last (suc m) is rest h r n = rw (r, n) refl

  next : (m k : ℕ) (is : List Item) (rest further : List ℕ) → m ≡ suc k → list inside ≡ Ok (is, rest)
      → next_list rest ≡ Some further
      → lists_by list m inside ≡ before (group groups.List (items_of is) ∷ []) (lists_by list k further)
  unfolding lists_by
  next m k is rest further h r n = rw (h, r, n) refl

  -- Lists are being read, with at most m lists remaining.
  module _ (whole : Read (List Item)) (front : List Item) (m : ℕ) (told : whole ≡ before front (lists_by list m inside)) where
    pub at_list_fault : (e : Fault) → 0 < m → list inside ≡ Err e → whole ≡ Err e
    at_list_fault e h r = told ∙ ap (before front) (no_list m e h r)

    pub at_last : (is : List Item) (rest : List ℕ) → 0 < m → list inside ≡ Ok (is, rest) → next_list rest ≡ None
        → whole ≡ Ok (front ++ group groups.List (items_of is) ∷ [], rest)
    at_last is rest h r n = told ∙ ap (before front) (last m is rest h r n)

    pub at_list : (k : ℕ) (is : List Item) (rest further : List ℕ) → m ≡ suc k → list inside ≡ Ok (is, rest)
        → next_list rest ≡ Some further
        → whole ≡ before (front ++ group groups.List (items_of is) ∷ []) (lists_by list k further)
    at_list k is rest further h r n =
        told ∙ ap (before front) (next m k is rest further h r n)
        ∙ before_both front (group groups.List (items_of is) ∷ []) (lists_by list k further)

pub plain_item : (version : Version) (depth : ℕ) (nested : Bool) (text : List ℕ) → group_word text ≡ None
    → item version depth nested text ≡ leaf version nested text
unfolding item
plain_item version zero nested text e = rw e refl
plain_item version (suc depth) nested text e = rw e refl

pub too_deep : (version : Version) (depth : ℕ) (nested : Bool) (text : List ℕ) (found : Group × List ℕ) → depth ≡ 0
    → group_word text ≡ Some found → item version depth nested text ≡ Err (fault.NotSupported unsupported.DeepList (length text))
unfolding item
too_deep version depth nested text found h e = rw (h, e) refl

pub deeper : (version : Version) (depth k : ℕ) (nested : Bool) (text : List ℕ) (found : Group × List ℕ) → depth ≡ suc k
    → group_word text ≡ Some found
    → item version depth nested text ≡ group_by (item version k true) (length text) found
unfolding item
deeper version depth k nested text found h e = rw (h, e) refl

-- the steps of a group, once it is closed
pub closed_steps : (old mid new : List Step) (g : Group) (is : List Item) → mid ≡ (old ++ step.Group g 0 ∷ []) ++ flat is
    → new ≡ slice_set mid (length old) (step.Group g (length mid - length old - 1)) → new ≡ old ++ steps_of (group g (items_of is))
closed_steps old mid new g is m n =
    n ∙ ap (λ (ss : List Step). slice_set ss (length old) (step.Group g (length ss - length old - 1))) m ∙ closed_group old g is

-- and their number
pub closed_length : (old mid new : List Step) (g : Group) (is : List Item) → mid ≡ (old ++ step.Group g 0 ∷ []) ++ flat is
    → new ≡ slice_set mid (length old) (step.Group g (length mid - length old - 1)) → length new ≡ length mid
closed_length old mid new g is m n =
    let a : length new ≡ length old + length (step.Group g (length (flat is)) ∷ flat is) =
    ap length (closed_steps old mid new g is m n) ∙ length-append old (steps_of (group g (items_of is))) in
    let b : length mid ≡ length (old ++ step.Group g 0 ∷ []) + length (flat is) = ap length m ∙ length-append (old ++ step.Group g 0 ∷ []) (flat is) in
    omega (arith, a, b, length-append old (step.Group g 0 ∷ []))

module _ (read : List ℕ → Read Item) (opening : ℕ) (g : Group) (text : List ℕ) where
  pub not_opened : (e : Fault) → opened g text ≡ Err e → group_by read opening (g, text) ≡ Err e
  unfolding group_by
  not_opened e o = rw o refl

  module _ (inside : List ℕ) (o : opened g text ≡ Ok inside) where
    pub not_inside : (e : Fault) → inside_by (list_by read opening) g inside ≡ Err e → group_by read opening (g, text) ≡ Err e
    unfolding group_by
    not_inside e i = rw (o, i) refl

    pub group_ends : (n begun : ℕ) (rest : List ℕ) (is : List Item) (old mid new : List Step) (r : Result (Bor (List ℕ)) Fault)
        → inside_by (list_by read opening) g inside ≡ Ok (is, rest)
        → Returns (λ x. x.now) r (closed opening rest) → IfOk r (λ x. length x.now < length rest)
        → mid ≡ (old ++ step.Group g 0 ∷ []) ++ flat is
        → length mid + length rest ≤ length (old ++ step.Group g 0 ∷ []) + (length inside + 1)
        → length inside + 2 ≤ length text
        → new ≡ slice_set mid (length old) (step.Group g (length mid - length old - 1))
        → begun ≡ 1 + length (flat is) → begun ≤ n - length old
        → Adds steps_of n (group_by read opening (g, text)) begun (length text) old r new
    unfolding group_by
    group_ends n begun rest is old mid new (Ok x) i q h m b t s d l =
        let k = closed_length old mid new g is m s in (
          group g (items_of is),
          rw (o, i, q) refl,
          closed_steps old mid new g is m s,
          omega (arith, h, b, t, k, length-append old (step.Group g 0 ∷ [])),
          omega (arith, d),
          l,
        )
    group_ends n begun rest is old mid new (Err e) i q h m b t s d l = inr (rw (o, i, q) refl, l)

pub list_ends : (n begun : ℕ) (read : List ℕ → Read Item) (opening : ℕ) (text rest : List ℕ) (is : List Item) (old new : List Step)
    (r : Result (Bor (List ℕ)) Fault) → items_by read (length text) true text ≡ Ok (is, rest)
    → Returns (λ x. x.now) r (after_byte 93 (fault.UnclosedOpeningBracket opening) rest) → IfOk r (λ x. length x.now < length rest)
    → new ≡ old ++ flat is → length new + length rest ≤ length old + length text → begun ≡ length (flat is) → begun ≤ n - length old
    → Adds flat n (list_by read opening text) begun (length text) old r new
list_ends n begun read opening text rest is old new (Ok x) i q h s b d l = (is, rw (i, q) refl, s, omega (arith, h, b), d, l)
list_ends n begun read opening text rest is old new (Err e) i q h s b d l = inr (rw (i, q) refl, l)

-- a fault of a part becomes the fault of the whole, whose bound on bytes is greater
pub fault_on : (n a b : ℕ) (e : Fault) (L M P Q : Type 0) → ((e ≡ fault.NoRoom) × (n < a) × L) ⊎ P → a ≤ b → (L → M) → (P → Q)
    → ((e ≡ fault.NoRoom) × (n < b) × M) ⊎ Q
fault_on n a b e L M P Q (inl x) h l f = inl (x.0, omega (arith, h, x.1), l x.2)
fault_on n a b e L M P Q (inr x) h l f = inr (f x)

pub shorter_of : {A : Type 0} (steps : A → List Step) (n : ℕ) (read : Read A) (begun bytes k : ℕ) (old : List Step)
    (r : Result (Bor (List ℕ)) Fault) (new : List Step)
    → bytes < k → Adds steps n read begun bytes old r new → IfOk r (λ rest. length rest.now < k)
shorter_of steps n read begun bytes k old (Ok rest) new h x = omega (arith, h, x.3, ap length x.2, length-append old (steps x.0))
shorter_of steps n read begun bytes k old (Err e) new h x = tt

pub before_none : (r : Read (List Item)) → r ≡ before [] r
before_none (Ok x) = refl
before_none (Err e) = refl

pub flat_one : (front : List Item) (i : Item) → flat (front ++ i ∷ []) ≡ flat front ++ steps_of i
flat_one front i = flat-append front (i ∷ []) ∙ ap (λ (ss : List Step). flat front ++ ss) (append-nil (steps_of i))

-- the steps with one more item
pub next_steps : (old cur new : List Step) (front : List Item) (i : Item) → cur ≡ old ++ flat front → new ≡ cur ++ steps_of i
    → new ≡ old ++ flat (front ++ i ∷ [])
next_steps old cur new front i c n =
    n ∙ ap (λ (ss : List Step). ss ++ steps_of i) c ∙ append_assoc old (flat front) (steps_of i)
    ∙ ap (λ (ss : List Step). old ++ ss) (sym (flat_one front i))

pub not_ended : (nested : Bool) (rest : List ℕ) → ends nested rest ≡ false → 0 < length rest
not_ended nested [] e = grind (arith, e)
not_ended nested (b ∷ rest) e = omega arith

-- ---- How many steps are started, item by item and list by list

module _ (read : List ℕ → Read Item) (begun : List ℕ → ℕ) where
  module _ (nested : Bool) (rest : List ℕ) where
    pub none_at_end : (m : ℕ) → ends nested rest ≡ true → items_step_count read begun m nested rest ≡ 0
    unfolding items_step_count
    none_at_end zero e = refl
    none_at_end (suc m) e = rw e refl

    pub some_at_fault : (m : ℕ) (e : Fault) → 0 < m → ends nested rest ≡ false → read rest ≡ Err e
        → items_step_count read begun m nested rest ≡ begun rest
    unfolding items_step_count
    some_at_fault zero e h n r = absurd (omega (arith, h))
    some_at_fault (suc m) e h n r = rw (n, r) (omega arith)

    pub some_at_item : (m k : ℕ) (i : Item) (unread : List ℕ) → m ≡ suc k → ends nested rest ≡ false → read rest ≡ Ok (i, unread)
        → items_step_count read begun m nested rest ≡ begun rest + items_step_count read begun k nested unread
    unfolding items_step_count
    some_at_item m k i unread h n r = rw (h, n, r) refl

    pub some_at_least : (m : ℕ) → 0 < m → ends nested rest ≡ false → begun rest ≤ items_step_count read begun m nested rest
    unfolding items_step_count
    some_at_least zero h n = absurd (omega (arith, h))
    some_at_least (suc m) h n = rw n (omega arith)

  module _ (opening : ℕ) (inside : List ℕ) where
    pub lists_at_fault : (m : ℕ) (e : Fault) → 0 < m → list_by read opening inside ≡ Err e
        → lists_step_count read begun opening m inside ≡ 1 + list_step_count read begun inside
    unfolding lists_step_count
    lists_at_fault zero e h r = absurd (omega (arith, h))
    lists_at_fault (suc m) e h r = rw r (omega arith)

    pub lists_at_last : (m : ℕ) (is : List Item) (rest : List ℕ) → 0 < m → list_by read opening inside ≡ Ok (is, rest)
        → next_list rest ≡ None → lists_step_count read begun opening m inside ≡ 1 + list_step_count read begun inside
    unfolding lists_step_count
    lists_at_last zero is rest h r n = absurd (omega (arith, h))
    lists_at_last (suc m) is rest h r n = rw (r, n) (omega arith)

    pub lists_at_next : (m k : ℕ) (is : List Item) (rest further : List ℕ) → m ≡ suc k → list_by read opening inside ≡ Ok (is, rest)
        → next_list rest ≡ Some further
        → lists_step_count read begun opening m inside ≡ 1 + list_step_count read begun inside + lists_step_count read begun opening k further
    unfolding lists_step_count
    lists_at_next m k is rest further h r n = rw (h, r, n) refl

    pub lists_at_least : (m : ℕ) → 0 < m → 1 + list_step_count read begun inside ≤ lists_step_count read begun opening m inside
    unfolding lists_step_count
    lists_at_least zero h = absurd (omega (arith, h))
    lists_at_least (suc m) h = omega arith

  module _ (opening : ℕ) (g : Group) (text : List ℕ) where
    pub group_not_opened : (e : Fault) → opened g text ≡ Err e → group_step_count read begun opening (g, text) ≡ 0
    unfolding group_step_count
    group_not_opened e o = rw o refl

    pub group_opened : (inside : List ℕ) → opened g text ≡ Ok inside
        → group_step_count read begun opening (g, text) ≡ 1 + inside_step_count read begun opening g inside
    unfolding group_step_count
    group_opened inside o = rw o refl

pub plain_begun : (version : Version) (depth : ℕ) (nested : Bool) (text : List ℕ) → group_word text ≡ None
    → item_step_count version depth nested text ≡ leaf_step_count version nested text
unfolding item_step_count
plain_begun version zero nested text e = rw e refl
plain_begun version (suc depth) nested text e = rw e refl

pub deep_begun : (version : Version) (depth : ℕ) (nested : Bool) (text : List ℕ) (found : Group × List ℕ) → depth ≡ 0
    → group_word text ≡ Some found → item_step_count version depth nested text ≡ 0
unfolding item_step_count
deep_begun version depth nested text found h e = rw (h, e) refl

pub deeper_begun : (version : Version) (depth k : ℕ) (nested : Bool) (text : List ℕ) (found : Group × List ℕ) → depth ≡ suc k
    → group_word text ≡ Some found
    → item_step_count version depth nested text ≡ group_step_count (item version k true) (item_step_count version k true) (length text) found
unfolding item_step_count
deeper_begun version depth k nested text found h e = rw (h, e) refl
