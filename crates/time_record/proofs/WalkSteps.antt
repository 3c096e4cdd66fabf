-- How the result and the count of trees in turn follow from those of the first ones. `Y` is the greatest year.
use Rattle.std.specs.Borrow.{Bor}
use Rattle.std.proofs.Common.{◌≡◌, ℕ, zero, suc, ◌+◌, ◌-◌, ◌<◌, ◌≤◌, List, [], ◌∷◌, length, drop, get_or, map, refl, ap, sym, ◌∙◌, subst, inr, arith}
use Rattle.std.proofs.Common.{inl, Result, Ok, Err, take, length-take, length-drop}
use Rattle.std.proofs.lemmas.List.{drop_all, take_all}
use Rattle.time_values.specs.Refusal.{Refusal}
use Rattle.time_values.specs.declared.error.ParseFromDescription.{ParseFromDescription}
use Rattle.time_components.specs.Tree.{Tree, literal, component, trees, Trees, sequence, none as tree_none, more, group_tree, further, steps_after}
use Rattle.time_components.specs.Tree.{steps_trees, tree_at, trees_in}
use Rattle.time_components.specs.declared.inspect.Group.{Group}
use Rattle.time_components.specs.declared.inspect.Step.{Step}
use Rattle.time_components.specs.declared.inspect.Step.TheVariants as step
use Rattle.time_record.specs.Reading.{places, places_of_all, Begins, BeginsAll, raised, Reads, ReadsAll, RefusesAll, Answers, Counts, CountsAll}
use Rattle.time_record.specs.Reading.{NoReading, IsFault, Refuses}
use Rattle.time_record.specs.WalkSteps.{IsLeaf, leaf_refusal, Resumes, RefusesLeaf, Unread}
use Rattle.time_record.specs.Record.{Record}
use Rattle.time_record.proofs.Counting.{BeginsAll-within_places, Counts-leaf, places-item}
use Rattle.time_record.proofs.Unique.{trees_from, trees_from-item, ReadsAll-more, RefusesAll-more, RefusesAll-here}

pub Begins-leaf : (Y : ℕ) (t : Tree) (b : List ℕ) (r : Record) → IsLeaf t → Begins Y t b r 1
unfolding Begins
Begins-leaf Y (literal text) b r leaf = refl
Begins-leaf Y (component w c) b r leaf = refl
Begins-leaf Y t b r leaf = absurd leaf

-- a leaf without a reading
leaf_refuses : (Y : ℕ) (t : Tree) (b : List ℕ) (r : Record) (e : Refusal) → IsLeaf t → NoReading Y t b r → e ≡ leaf_refusal t → Refuses Y t b r e
unfolding IsFault
leaf_refuses Y (literal text) b r e leaf unread is = record { unread = unread; fault = is }
leaf_refuses Y (component w c) b r e leaf unread is = record { unread = unread; fault = is }
leaf_refuses Y t b r e leaf unread is = absurd leaf

-- the first of the trees is a leaf, and doesn't match
pub leaf_refused : {Y : ℕ} {ts : Trees} {b : List ℕ} {r q : Record} {e : Refusal} (t : Tree) (later : Trees) → ts ≡ more t later →
    IsLeaf t → Unread Y t b r q → e ≡ leaf_refusal t → RefusesLeaf Y ts b q e
leaf_refused {Y} {ts} {b} {r} {q} {e} t later is leaf h fault =
    rw h.same (record { leaf = t; later = later; is = is; is_leaf = leaf; refuses = leaf_refuses Y t b r e leaf h.unread fault })

-- The tree is that of the item at an index.
pub record HasItem {X : Type 0} (f : X → Tree) (xs : List X) (i : ℕ) (t : Tree) : Type 0 where
  pub item : X
  pub within : i < length xs
  pub is : item ≡ get_or xs i item
  pub tree : f item ≡ t

-- the item of an index
pub item_at : {X : Type 0} {f : X → Tree} {xs : List X} {i : ℕ} {t : Tree} {x : X} → i < length xs → x ≡ get_or xs i x → f x ≡ t →
    HasItem f xs i t
item_at {x = x} within is tree = record { item = x; within = within; is = is; tree = tree }

module _ {X : Type 0} {f : X → Tree} {xs : List X} {i : ℕ} {t : Tree} (h : HasItem f xs i t) where
  -- the item is the first of those from its index on
  pub HasItem-first : trees_from f i xs ≡ more t (trees_from f (i + 1) xs)
  HasItem-first = trees_from-item f xs i h.item h.within h.is ∙ ap (λ u. more u (trees_from f (i + 1) xs)) h.tree

  pub HasItem-places : places t ≤ places_of_all (trees (map f xs))
  HasItem-places = subst (λ u. places u ≤ places_of_all (trees (map f xs))) h.tree (places-item f xs i h.item h.within h.is)

-- nothing was read yet
pub Resumes-start : (Y : ℕ) (all : Trees) (b : List ℕ) (r : Record) → Resumes Y all b r 0 all b r
Resumes-start Y all b r = record { reads = λ rest q h. h; refuses = λ e h. h; begins = λ m h. subst (BeginsAll Y all b r) (omega arith) h }

-- the number of items visited, in another form
pub Resumes-counted : {Y : ℕ} {all : Trees} {b0 : List ℕ} {r0 : Record} {n k : ℕ} {left : Trees} {b : List ℕ} {r : Record} → n ≡ k →
    Resumes Y all b0 r0 n left b r → Resumes Y all b0 r0 k left b r
Resumes-counted {Y} {all} {b0} {r0} {n} {k} {left} {b} {r} is g = subst (λ m. Resumes Y all b0 r0 m left b r) is g

-- two stretches of reading in turn
pub Resumes-further : {Y : ℕ} {all : Trees} {b0 : List ℕ} {r0 : Record} {n : ℕ} {left : Trees} {b : List ℕ} {r : Record}
    {k : ℕ} {least : Trees} {c : List ℕ} {s : Record} → Resumes Y all b0 r0 n left b r → Resumes Y left b r k least c s →
    Resumes Y all b0 r0 (n + k) least c s
Resumes-further {Y} {all} {b0} {r0} {n} {left} {b} {r} {k} g h = record {
  reads = λ rest q x. g.reads rest q (h.reads rest q x);
  refuses = λ e x. g.refuses e (h.refuses e x);
  begins = λ m x. subst (BeginsAll Y all b0 r0) (omega arith) (g.begins (k + m) (h.begins m x));
}

module _ {Y : ℕ} {all : Trees} {b0 : List ℕ} {r0 : Record} {n : ℕ} {left : Trees} {b : List ℕ} {r : Record} (g : Resumes Y all b0 r0 n left b r) where
  module _ (t : Tree) (ts : Trees) (is : left ≡ more t ts) where
    -- the next tree is read, which visits k items
    pub Resumes-reads : {mid : List ℕ} {q : Record} (k : ℕ) → Begins Y t b r k → Reads Y t b r mid q → Resumes Y all b0 r0 (n + k) ts mid q
    unfolding BeginsAll
    Resumes-reads {mid} {q} k begun h = record {
      reads = λ rest p x. g.reads rest p (subst (λ us. ReadsAll Y us b r rest p) (sym is) (ReadsAll-more Y t ts b r mid q rest p h x));
      refuses = λ e x. g.refuses e (subst (λ us. RefusesAll Y us b r e) (sym is) (RefusesAll-more Y t ts b r mid q e h x));
      begins = λ m x.
          let here = subst (λ us. BeginsAll Y us b r (k + m)) (sym is) (k, begun, inr (mid, q, h, m, x, refl)) in
          subst (BeginsAll Y all b0 r0) (omega arith) (g.begins (k + m) here);
    }

    -- a leaf
    pub Resumes-leaf : {mid : List ℕ} {q : Record} → IsLeaf t → Reads Y t b r mid q → Resumes Y all b0 r0 (n + 1) ts mid q
    Resumes-leaf leaf h = Resumes-reads 1 (Begins-leaf Y t b r leaf) h

    -- the next tree doesn't match
    pub Resumes-refused : {e : Refusal} → Refuses Y t b r e → Refuses Y (sequence all) b0 r0 e
    unfolding Reads IsFault
    Resumes-refused {e} h =
        let refused = g.refuses e (subst (λ us. RefusesAll Y us b r e) (sym is) (RefusesAll-here Y t ts b r e h)) in
        record { unread = refused.unread; fault = refused.fault }

  -- no tree is left
  pub Resumes-end : left ≡ tree_none → Reads Y (sequence all) b0 r0 b r
  unfolding Reads ReadsAll
  Resumes-end is = g.reads b r (subst (λ ts. ReadsAll Y ts b r b r) (sym is) (refl, refl))

-- Adding two is adding one twice.
pub raised_twice : (count new : ℕ) → new ≡ raised count 2 → new ≡ raised (raised count 1) 1
raised_twice count new is = omega arith

-- a count plus the nodes that aren't counted yet, in two steps
pub raised_further : (count uncounted left least : ℕ) → least ≤ left → left ≤ uncounted →
    raised count (uncounted - least) ≡ raised (raised count (uncounted - left)) (left - least)
raised_further count uncounted left least fewer within = omega arith

-- The result of the trees that are left is that of all, and `now` is the count after those that were read.
pub record Walked (Y : ℕ) (all : Trees) (b0 : List ℕ) (r0 : Record) (left : Trees) (b : List ℕ) (r : Record) (old now : ℕ) : Type 0 where
  pub so_far : ℕ
  pub goes : Resumes Y all b0 r0 so_far left b r
  pub stands : now ≡ raised old so_far

pub Walked-start : (Y : ℕ) (all : Trees) (b : List ℕ) (r : Record) (old : ℕ) → Walked Y all b r all b r old old
Walked-start Y all b r old = record { so_far = 0; goes = Resumes-start Y all b r; stands = omega arith }

module _ {Y : ℕ} {all : Trees} {b0 : List ℕ} {r0 : Record} {left : Trees} {b : List ℕ} {r : Record} {old now : ℕ}
    (w : Walked Y all b0 r0 left b r old now) where
  -- leaves are read
  pub Walked-further : (k : ℕ) {least : Trees} {c : List ℕ} {s : Record} (next : ℕ) → Resumes Y left b r k least c s → next ≡ raised now k →
      Walked Y all b0 r0 least c s old next
  Walked-further k next g is = let s = w.stands in record { so_far = w.so_far + k; goes = Resumes-further w.goes g; stands = omega arith }

  module _ (t : Tree) (ts : Trees) (is : left ≡ more t ts) (next : ℕ) (c : Counts Y t b r now next) where
    -- an item is read
    pub Walked-reads : {mid : List ℕ} {q : Record} → Reads Y t b r mid q → Walked Y all b0 r0 ts mid q old next
    Walked-reads h = let s = w.stands in let e = c.rises in
        record { so_far = w.so_far + c.begun; goes = Resumes-reads w.goes t ts is c.begun c.begins h; stands = omega arith }

    -- an item doesn't match
    pub Walked-counts_refused : NoReading Y t b r → CountsAll Y all b0 r0 old next
    unfolding BeginsAll
    Walked-counts_refused unread =
        let s = w.stands in let e = c.rises in
        let here = subst (λ us. BeginsAll Y us b r c.begun) (sym is) (c.begun, c.begins, inl (unread, refl)) in
        let begins = w.goes.begins c.begun here in record {
          begun = w.so_far + c.begun;
          begins = begins;
          within = BeginsAll-within_places Y all b0 r0 (w.so_far + c.begun) begins;
          rises = omega arith;
        }

  -- no item is left
  pub Walked-counts : left ≡ tree_none → CountsAll Y all b0 r0 old now
  unfolding BeginsAll
  Walked-counts is =
      let s = w.stands in
      let begins = w.goes.begins 0 (subst (λ us. BeginsAll Y us b r 0) (sym is) refl) in record {
        begun = w.so_far + 0;
        begins = begins;
        within = BeginsAll-within_places Y all b0 r0 (w.so_far + 0) begins;
        rises = omega arith;
      }

  -- a leaf doesn't match
  pub Walked-counts_leaf : {e : Refusal} (leaf : RefusesLeaf Y left b r e) (next : ℕ) → next ≡ raised now 1 → CountsAll Y all b0 r0 old next
  Walked-counts_leaf leaf next is =
      Walked-counts_refused leaf.leaf leaf.later leaf.is next (Counts-leaf Y b r now next is leaf.leaf leaf.is_leaf) leaf.refuses.unread

-- a list of one tree
module _ (Y : ℕ) (all : Trees) (t : Tree) (is : all ≡ more t tree_none) (b : List ℕ) (r : Record) where
  pub Answers-one : (read : Result (Bor (List ℕ)) ParseFromDescription) (r' : Record) → Answers Y t b r read r' → Answers Y (sequence all) b r read r'
  unfolding Reads ReadsAll
  Answers-one (Ok rest) r' h = subst (λ ts. Reads Y (sequence ts) b r rest.now r') (sym is) (rest.now, r', h, (refl, refl))
  Answers-one (Err e) r' h = (Resumes-refused (Resumes-start Y all b r) t tree_none is h.0, h.1)

  pub Counts-one : (read : Result (Bor (List ℕ)) ParseFromDescription) (r' : Record) (old now : ℕ) → Answers Y t b r read r' →
      Counts Y t b r old now → CountsAll Y all b r old now
  Counts-one (Ok rest) r' old now h c = Walked-counts (Walked-reads (Walked-start Y all b r old) t tree_none is now c h) refl
  Counts-one (Err e) r' old now h c = Walked-counts_refused (Walked-start Y all b r old) t tree_none is now c h.0.unread

-- ---- The trees of a row of steps, item by item

same_tree : (f g : List Step → Trees) (s : Step) (behind : List Step) →
    ((steps : List Step) → length steps ≤ length behind → f steps ≡ g steps) → tree_at f s behind ≡ tree_at g s behind
same_tree f g (step.Literal b) behind h = refl
same_tree f g (step.More b) behind h = refl
same_tree f g (step.Component c) behind h = refl
same_tree f g (step.Group k len) behind h = ap (group_tree k) (h (take len behind) (omega (arith, length-take len behind)))

pub after_fewer : (s : Step) (behind : List Step) → length (steps_after s behind) ≤ length behind
after_fewer (step.Literal b) behind = omega (arith, length-drop (length (further behind)) behind)
after_fewer (step.More b) behind = omega (arith, length-drop (length (further behind)) behind)
after_fewer (step.Component c) behind = omega arith
after_fewer (step.Group k len) behind = omega (arith, length-drop len behind)

-- more fuel than steps changes nothing
enough : (n m : ℕ) (steps : List Step) → length steps ≤ n → length steps ≤ m → trees_in n steps ≡ trees_in m steps
unfolding trees_in
enough zero zero steps h k = refl
enough zero (suc m) [] h k = refl
enough zero (suc m) (s ∷ steps) h k = absurd (omega arith)
enough (suc n) zero [] h k = refl
enough (suc n) zero (s ∷ steps) h k = absurd (omega arith)
enough (suc n) (suc m) [] h k = refl
enough (suc n) (suc m) (s ∷ steps) h k =
    let fewer = after_fewer s steps in
    ap (λ t. more t (trees_in n (steps_after s steps)))
    (same_tree (trees_in n) (trees_in m) s steps (λ some l. enough n m some (omega arith) (omega arith)))
    ∙ ap (λ ts. more (tree_at (trees_in m) s steps) ts) (enough n m (steps_after s steps) (omega arith) (omega arith))

-- no step is left
pub steps_trees-end : (left : List Step) → length left ≤ 0 → steps_trees left ≡ tree_none
unfolding trees_in
steps_trees-end [] h = refl
steps_trees-end (s ∷ left) h = absurd (omega arith)

-- the steps after a first step, in the form of a pattern
abbrev pub behind_first : List Step → List Step
behind_first left = take (length left - 1) (drop 1 left)

pub behind_is : (left : List Step) → 1 ≤ length left → behind_first left ≡ drop 1 left
behind_is left h = take_all (length left - 1) (drop 1 left) (omega (arith, length-drop 1 left))

first_of_drop : (left : List Step) (x : Step) → 1 ≤ length left → x ≡ get_or left 0 x →
    steps_trees left ≡ more (tree_at steps_trees x (drop 1 left)) (steps_trees (steps_after x (drop 1 left)))
unfolding trees_in
first_of_drop [] x within is = absurd (omega arith)
first_of_drop (s ∷ left) x within is =
    let fewer = after_fewer s left in
    ap (λ t. more t (trees_in (length left) (steps_after s left)))
    (same_tree (trees_in (length left)) steps_trees s left (λ some l. enough (length left) (length some) some l (omega arith)))
    ∙ ap (λ ts. more (tree_at steps_trees s left) ts) (enough (length left) (length (steps_after s left)) (steps_after s left) fewer (omega arith))
    ∙ ap (λ y. more (tree_at steps_trees y left) (steps_trees (steps_after y left))) (sym is)

-- the item of the first step, and those after it
pub first_item : (left : List Step) (x : Step) → 1 ≤ length left → x ≡ get_or left 0 x →
    steps_trees left ≡ more (tree_at steps_trees x (behind_first left)) (steps_trees (steps_after x (behind_first left)))
first_item left x within is =
    first_of_drop left x within is
    ∙ ap (λ ys. more (tree_at steps_trees x ys) (steps_trees (steps_after x ys))) (sym (behind_is left within))

-- a row that is one group
pub whole_group : (steps : List Step) (g : Group) (len : ℕ) → 1 ≤ length steps → step.Group g len ≡ get_or steps 0 (step.Group g len) →
    length (behind_first steps) ≤ len → steps_trees steps ≡ more (group_tree g (steps_trees (behind_first steps))) tree_none
whole_group steps g len within is all =
    let inside = behind_first steps in
    first_item steps (step.Group g len) within is
    ∙ ap (λ ys. more (group_tree g (steps_trees ys)) (steps_trees (drop len inside))) (take_all len inside all)
    ∙ ap (λ ys. more (group_tree g (steps_trees inside)) (steps_trees ys)) (drop_all len inside all)
    ∙ ap (λ ts. more (group_tree g (steps_trees inside)) ts) (steps_trees-end [] (omega arith))
