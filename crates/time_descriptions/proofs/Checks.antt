-- Checks one item after the other, whether a text describes them.
use Rattle.std.specs.List.{prefix_len}
use Rattle.std.specs.Prelude.{◌==◌, ◌&&◌, IsErr}
use Rattle.std.proofs.Common.{◌≡◌, ℕ, zero, suc, ◌+◌, ◌-◌, ◌<◌, List, [], ◌∷◌, length, map, Bool, true, false, not, refl, ap, sym, ◌∙◌, ⊎_elim, arith, ◌≤◌, ◌++◌, drop, get_or, append_assoc, append-nil, length-append, Result, Ok, Err}
use Rattle.std.proofs.lemmas.Bool.{cases_eq, eq-eqb, ne_eqb, false≢true}
use Rattle.std.proofs.lemmas.List.{at_drop_more, at_drop_all}
use Rattle.time_components.specs.Tree.{Tree, Trees, optional, first_of, none, more, trees, literal, component, sequence}
use Rattle.time_descriptions.specs.declared.leaf.Version.TheVariants as versions
use Rattle.time_descriptions.specs.Grammar.{is_plain}
use Rattle.time_descriptions.specs.Writing.{lists_text, tree_text}
use Rattle.time_descriptions.specs.Described.{are_items, are_lists, are_plain, begins_run, is_item, is_list, is_run, is_some}
use Rattle.time_descriptions.specs.DescribedParts.{list_text, Puts}

-- Bytes need no backslash if that holds for as many at the start as there are.

one_more : (n m : ℕ) → (n == m) ≡ (1 + n == suc m)
one_more n m =
    ⊎_elim (λ e. eq-eqb n m e ∙ sym (eq-eqb (1 + n) (suc m) (omega (arith, e))))
    (λ ne. ne_eqb n m ne ∙ sym (ne_eqb (1 + n) (suc m) (λ e. ne (omega (arith, e))))) (cases_eq n m)

none_of : (m : ℕ) → false ≡ (0 == suc m)
none_of m = sym (ne_eqb 0 (suc m) (λ e. omega (arith, e)))

module _ (nested : Bool) where
  plain : ℕ → Bool
  plain = is_plain versions.Two nested

  all_plain : List ℕ → Bool
  all_plain = are_plain nested

  split : (b : ℕ) (bytes : List ℕ) → all_plain (b ∷ bytes) ≡ (plain b && all_plain bytes)
  unfolding plain all_plain
  split b bytes = refl

  here : (b : ℕ) (bytes : List ℕ) (t : Bool) → plain b ≡ t → all_plain bytes ≡ (prefix_len plain bytes == length bytes)
      → all_plain (b ∷ bytes) ≡ (prefix_len plain (b ∷ bytes) == length (b ∷ bytes))
  here b bytes true e ih = split b bytes ∙ rw e (ih ∙ one_more (prefix_len plain bytes) (length bytes))
  here b bytes false e ih = split b bytes ∙ rw e (none_of (length bytes))

  by_len : (bytes : List ℕ) → all_plain bytes ≡ (prefix_len plain bytes == length bytes)
  unfolding all_plain
  by_len [] = refl
  by_len (b ∷ bytes) = here b bytes (plain b) refl (by_len bytes)

pub plain_by_len : (nested : Bool) (bytes : List ℕ) → are_plain nested bytes ≡ (prefix_len (is_plain versions.Two nested) bytes == length bytes)
unfolding plain all_plain
plain_by_len nested bytes = by_len nested bytes

-- A group needs one level.
module _ (nested : Bool) where
  pub optional_at : (depth : ℕ) (t : Tree) → 0 < depth → is_item depth nested (optional t) ≡ is_list (depth - 1) t
  unfolding is_item
  optional_at zero t h = absurd (omega (arith, h))
  optional_at (suc depth) t h = ap (λ (d : ℕ). is_list d t) (let e : depth ≡ suc depth - 1 = omega arith in e)

  pub no_optional : (depth : ℕ) (t : Tree) → depth ≡ 0 → is_item depth nested (optional t) ≡ false
  unfolding is_item
  no_optional zero t h = refl
  no_optional (suc depth) t h = absurd (omega (arith, h))

  pub first_at : (depth : ℕ) (ts : Trees) → 0 < depth → is_item depth nested (first_of ts) ≡ (is_some ts && are_lists (depth - 1) ts)
  unfolding is_item
  first_at zero ts h = absurd (omega (arith, h))
  first_at (suc depth) ts h = ap (λ (d : ℕ). is_some ts && are_lists d ts) (let e : depth ≡ suc depth - 1 = omega arith in e)

  pub no_first : (depth : ℕ) (ts : Trees) → depth ≡ 0 → is_item depth nested (first_of ts) ≡ false
  unfolding is_item
  no_first zero ts h = refl
  no_first (suc depth) ts h = absurd (omega (arith, h))

pub some_trees : {X : Type 0} (f : X → Tree) (xs : List X) → is_some (trees (map f xs)) ≡ not (length xs == 0)
some_trees f [] = refl
some_trees f (x ∷ xs) = sym (ap not (ne_eqb (suc (length xs)) 0 (λ e. omega (arith, e))))

-- Lists, after some of them were checked.
pub record ListsLeft (depth : ℕ) (all left : Trees) : Type 0 where
  pub is : are_lists depth all ≡ are_lists depth left

pub lists-all : (depth : ℕ) (all : Trees) → ListsLeft depth all all
lists-all depth all = record { is = refl }

module _ {depth : ℕ} {all left : Trees} (h : ListsLeft depth all left) where
  pub lists-more : (t : Tree) (ts : Trees) → left ≡ more t ts → is_list depth t ≡ true → ListsLeft depth all ts
  unfolding are_lists
  lists-more t ts e p = record { is = h.is ∙ ap (are_lists depth) e ∙ ap (λ (b : Bool). b && are_lists depth ts) p }

  pub lists-not : (t : Tree) (ts : Trees) → left ≡ more t ts → is_list depth t ≡ false → false ≡ are_lists depth all
  unfolding are_lists
  lists-not t ts e p = sym (h.is ∙ ap (are_lists depth) e ∙ ap (λ (b : Bool). b && are_lists depth ts) p)

  pub lists-end : left ≡ none → true ≡ are_lists depth all
  unfolding are_lists
  lists-end e = sym (h.is ∙ ap (are_lists depth) e)

-- Items in turn, after some of them were checked; and whether the last of those is a literal that needs no backslash.
pub record ItemsLeft (depth : ℕ) (nested : Bool) (all left : Trees) (after : Bool) : Type 0 where
  pub is : are_items depth nested all ≡ (not (after && begins_run left) && are_items depth nested left)

pub items-all : (depth : ℕ) (nested : Bool) (all : Trees) → ItemsLeft depth nested all all false
items-all depth nested all = record { is = refl }

module _ {depth : ℕ} {nested : Bool} {all left : Trees} {after : Bool} (h : ItemsLeft depth nested all left after) where
  opened : (t : Tree) (ts : Trees) → left ≡ more t ts
      → are_items depth nested all ≡ (not (after && is_run t) && (is_item depth nested t && not (is_run t && begins_run ts) && are_items depth nested ts))
  unfolding are_items
  opened t ts e = h.is ∙ ap (λ (us : Trees). not (after && begins_run us) && are_items depth nested us) e

  pub items-more : (t : Tree) (ts : Trees) (run : Bool) → left ≡ more t ts → run ≡ is_run t → (after && run) ≡ false
      → is_item depth nested t ≡ true → ItemsLeft depth nested all ts run
  items-more t ts run e r q p = record {
    is = opened t ts e
        ∙ ap (λ (b : Bool). not (after && b) && (is_item depth nested t && not (b && begins_run ts) && are_items depth nested ts)) (sym r)
        ∙ ap (λ (b : Bool). not b && (is_item depth nested t && not (run && begins_run ts) && are_items depth nested ts)) q
        ∙ ap (λ (b : Bool). b && not (run && begins_run ts) && are_items depth nested ts) p;
  }

  pub items-two : (t : Tree) (ts : Trees) → left ≡ more t ts → (after && is_run t) ≡ true → false ≡ are_items depth nested all
  items-two t ts e q =
      sym (opened t ts e ∙ ap (λ (b : Bool). not b && (is_item depth nested t && not (is_run t && begins_run ts) && are_items depth nested ts)) q)

  cut : (a : Bool) → (a && false) ≡ false
  cut true = refl
  cut false = refl

  pub items-not : (t : Tree) (ts : Trees) → left ≡ more t ts → is_item depth nested t ≡ false → false ≡ are_items depth nested all
  items-not t ts e p =
      sym (opened t ts e
      ∙ ap (λ (b : Bool). not (after && is_run t) && (b && not (is_run t && begins_run ts) && are_items depth nested ts)) p
      ∙ cut (not (after && is_run t)))

  pub items-end : left ≡ none → true ≡ are_items depth nested all
  unfolding are_items
  items-end e = sym (h.is ∙ ap (λ (us : Trees). not (after && begins_run us) && are_items depth nested us) e ∙ no_run after)
    where
      no_run : (a : Bool) → (not (a && false) && true) ≡ true
      no_run true = refl
      no_run false = refl

-- ---- The text of items in turn, and their number of nodes

-- the number of nodes
abbrev mutual
  pub size : Tree → ℕ
  size (literal t) = 1
  size (component whole c) = 1
  size (sequence ts) = 1 + size_of_all ts
  size (optional t) = 1 + size t
  size (first_of ts) = 1 + size_of_all ts

  pub size_of_all : Trees → ℕ
  size_of_all none = 0
  size_of_all (more t ts) = size t + size_of_all ts

-- an item of a list has at most as many nodes as the list
pub size-item : {X : Type 0} (f : X → Tree) (xs : List X) (i : ℕ) (x : X) → i < length xs → x ≡ get_or xs i x →
    size (f x) ≤ size_of_all (trees (map f xs))
size-item f [] i x within is = absurd (omega arith)
size-item f (y ∷ ys) zero x within is = let same : size (f x) ≡ size (f y) = ap (λ z. size (f z)) is in omega arith
size-item f (y ∷ ys) (suc i) x within is = let h = size-item f ys i x (omega arith) is in omega arith

-- the trees of the items from an index on
abbrev pub trees_from : {X : Type 0} → (X → Tree) → ℕ → List X → Trees
trees_from f i xs = trees (map f (drop i xs))

module _ {X : Type 0} (f : X → Tree) (xs : List X) (i : ℕ) where
  pub trees_from-item : (x : X) → i < length xs → x ≡ get_or xs i x → trees_from f i xs ≡ more (f x) (trees_from f (i + 1) xs)
  trees_from-item x within is =
      at_drop_more (λ ys. trees (map f ys)) xs i x within ∙ ap (λ y. more (f y) (trees_from f (i + 1) xs)) (sym is)

  pub trees_from-end : length xs ≤ i → trees_from f i xs ≡ none
  trees_from-end end = at_drop_all (λ ys. trees (map f ys)) xs i end

-- The bytes that are still to be written, after those written so far, complete all bytes after the old ones.
pub record Leaves (old all now left : List ℕ) : Type 0 where
  pub is : old ++ all ≡ now ++ left

pub leaves-all : (old all : List ℕ) → Leaves old all old all
leaves-all old all = record { is = refl }

module _ {old all now left : List ℕ} (h : Leaves old all now left) where
  -- some of them are written
  pub leaves-more : (bytes rest new : List ℕ) → left ≡ bytes ++ rest → new ≡ now ++ bytes → Leaves old all new rest
  leaves-more bytes rest new e put = record {
    is = h.is ∙ ap (λ (x : List ℕ). now ++ x) e ∙ sym (append_assoc now bytes rest) ∙ ap (λ (x : List ℕ). x ++ rest) (sym put);
  }

  -- there is no room for some of them
  pub leaves-full : (n : ℕ) (bytes rest : List ℕ) → left ≡ bytes ++ rest → n < length now + length bytes → n < length old + length all
  leaves-full n bytes rest e full =
      omega (arith, full, length-append bytes rest, ap length e, ap length h.is, length-append old all, length-append now left)

  -- no bytes are left
  pub leaves-none : left ≡ [] → now ≡ old ++ all
  leaves-none e = sym (h.is ∙ ap (λ (x : List ℕ). now ++ x) e ∙ append-nil now)

-- the lists of a choice, one after the other
pub lists_text-more : (t : Tree) (ts : Trees) → lists_text (more t ts) ≡ list_text t ++ lists_text ts
lists_text-more t ts = ap (λ (x : List ℕ). 32 ∷ 91 ∷ x) (sym (append_assoc (tree_text t) (93 ∷ []) (lists_text ts)))

-- ---- Several writers in turn write the bytes of each

module _ {A E : Type 0} (n : ℕ) (a b : List ℕ) {whole : List ℕ} (is : whole ≡ a ++ b) (old : List ℕ) where
  -- the first writer is done
  pub puts_on : (mid : List ℕ) (r : Result A E) (new : List ℕ) → mid ≡ old ++ a → Puts n b mid r new → Puts n whole old r new
  puts_on mid (Ok x) new m p = p ∙ ap (λ (l : List ℕ). l ++ b) m ∙ append_assoc old a b ∙ ap (λ (l : List ℕ). old ++ l) (sym is)
  puts_on mid (Err e) new m p = omega (arith, p, ap length m, ap length is, length-append old a, length-append a b)

  -- there is no room for the bytes of the first writer
  pub puts_first : (r : Result A E) (new : List ℕ) → IsErr r → n < length old + length a → Puts n whole old r new
  puts_first (Ok x) new e full = absurd (false≢true e)
  puts_first (Err e) new _ full = omega (arith, full, ap length is, length-append a b)
