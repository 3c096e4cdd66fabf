use Rattle.std.specs.Prelude.{IfOk, IfSome, if◌then◌else◌}
use Rattle.std.proofs.Common.{◌≡◌, ℕ, zero, suc, ◌+◌, ◌∙◌, List, length, Bool, true, false, Option, Some, None, Result, Ok, Err, refl, ap, arith, inl, inr, sym}
use Rattle.time_components.specs.declared.inspect.Group.{Group}
use Rattle.time_components.specs.declared.inspect.Group.TheVariants as groups
use Rattle.time_components.specs.Tree.{Tree}
use Rattle.time_descriptions.specs.declared.error.Fault.{Fault}
use Rattle.time_descriptions.specs.declared.leaf.Version.TheVariants as versions
use Rattle.time_descriptions.specs.Components.{Read}
use Rattle.time_descriptions.specs.Grammar.{counted, group_step_count, inside_step_count, item_step_count, items_step_count, leaf_step_count, list_step_count, lists_step_count, steps_count, by_option, ends, group_word, item, list_by, next_list, opened, Describes, description}
use Rattle.time_descriptions.specs.Items.{Item, steps_of}
use Rattle.time_descriptions.specs.Description.{has_no_escape, IsRefused}
use Rattle.time_descriptions.specs.declared.leaf.Version.{Version}
use Rattle.time_descriptions.specs.Refusal.{Refusal}
use Rattle.time_descriptions.proofs.Versions.{Bare, Leaves, Same, Follows, next_bare, opened_bare, same_item, same_leaf, same_list, word_bare, alike}
use Rattle.time_descriptions.proofs.laws.law_versions_agree.Goals as goal

-- ---- Versions 1 and 2 start equally many steps of a text without escapes

count_bound : {A : Type 0} (Q : A → Type 0) (f g : A → ℕ) → ((x : A) → Q x → f x ≡ g x) → (r : Result A Fault) → IfOk r Q
    → counted f r ≡ counted g r
count_bound Q f g h (Ok x) q = h x q
count_bound Q f g h (Err e) q = refl

same_count : {A : Type 0} (Q : A → Type 0) (f g : A → ℕ) → ((x : A) → Q x → f x ≡ g x) → (one two : Result A Fault) → Same Q one two
    → counted f one ≡ counted g two
same_count Q f g h one two s = count_bound Q f g h one s.1 ∙ ap (counted g) s.0

option_count : {A : Type 0} (Q : A → Type 0) (f g : A → ℕ) (m n : ℕ) → ((x : A) → Q x → f x ≡ g x) → m ≡ n → (o : Option A) → IfSome o Q
    → by_option m f o ≡ by_option n g o
option_count Q f g m n h e None q = e
option_count Q f g m n h e (Some x) q = h x q

if_not : (b : Bool) {m n : ℕ} → m ≡ n → (if b then 0 else m) ≡ (if b then 0 else n)
if_not b e = ap (λ (k : ℕ). if b then 0 else k) e

sum_of : {a b c d : ℕ} → a ≡ b → c ≡ d → a + c ≡ b + d
sum_of e f = omega (arith, e, f)

-- If two parsers of an item agree, and start equally many steps, so do the parsers of items around it.
module _ (one two : List ℕ → Read Item) (same : (text : List ℕ) → Bare text → Same Leaves (one text) (two text))
    (first second : List ℕ → ℕ) (as_many_of : (text : List ℕ) → Bare text → first text ≡ second text) where
  items_count : (n : ℕ) (nested : Bool) (text : List ℕ) → Bare text
      → items_step_count one first n nested text ≡ items_step_count two second n nested text
  unfolding items_step_count
  items_count zero nested text p = refl
  items_count (suc n) nested text p =
      let on : (List ℕ → Read Item) → (List ℕ → ℕ) → Item × List ℕ → ℕ = λ read begun x. items_step_count read begun n nested x.1 in
      if_not (ends nested text)
      (sum_of (as_many_of text p) (same_count Leaves (on one first) (on two second) (λ x k. items_count n nested x.1 k) (one text) (two text) (same text p)))

  list_count : (text : List ℕ) → Bare text → list_step_count one first text ≡ list_step_count two second text
  list_count text p = items_count (length text) true text p

  lists_count : (opening n : ℕ) (text : List ℕ) → Bare text
      → lists_step_count one first opening n text ≡ lists_step_count two second opening n text
  unfolding lists_step_count
  lists_count opening zero text p = refl
  lists_count opening (suc n) text p =
      let on : (List ℕ → Read Item) → (List ℕ → ℕ) → List Item × List ℕ → ℕ =
      λ read begun x. by_option 0 (lists_step_count read begun opening n) (next_list x.1) in
      sum_of (ap (λ (k : ℕ). 1 + k) (list_count text p))
      (same_count Leaves (on one first) (on two second)
      (λ x k. option_count Bare (lists_step_count one first opening n) (lists_step_count two second opening n) 0 0 (lists_count opening n) refl (next_list x.1)
      (next_bare x.1 k))
      (list_by one opening text) (list_by two opening text) (same_list one two same opening text p))

  inside_count : (opening : ℕ) (g : Group) (text : List ℕ) → Bare text
      → inside_step_count one first opening g text ≡ inside_step_count two second opening g text
  inside_count opening groups.Optional text p = list_count text p
  inside_count opening groups.First text p = lists_count opening (suc (length text)) text p
  inside_count opening groups.List text p = lists_count opening (suc (length text)) text p

  group_count : (opening : ℕ) (found : Group × List ℕ) → Bare found.1
      → group_step_count one first opening found ≡ group_step_count two second opening found
  unfolding group_step_count
  group_count opening found p =
      count_bound Bare (λ text. 1 + inside_step_count one first opening found.0 text) (λ text. 1 + inside_step_count two second opening found.0 text)
      (λ text k. ap (λ (n : ℕ). 1 + n) (inside_count opening found.0 text k)) (opened found.0 found.1) (opened_bare found.0 found.1 p)

leaf_count : (nested : Bool) (text : List ℕ) → Bare text → leaf_step_count versions.One nested text ≡ leaf_step_count versions.Two nested text
leaf_count nested text p = ap (λ (r : Read Item). counted (λ x. length (steps_of x.0)) r) (same_leaf nested text p).0

item_count : (depth : ℕ) (nested : Bool) (text : List ℕ) → Bare text
    → item_step_count versions.One depth nested text ≡ item_step_count versions.Two depth nested text
unfolding item_step_count
item_count zero nested text p =
    option_count Follows (λ found. 0) (λ found. 0) (leaf_step_count versions.One nested text) (leaf_step_count versions.Two nested text) (λ x k. refl)
    (leaf_count nested text p) (group_word text) (word_bare text p)
item_count (suc depth) nested text p =
    let one = item versions.One depth true in
    let two = item versions.Two depth true in
    let first = item_step_count versions.One depth true in
    let second = item_step_count versions.Two depth true in
    option_count Follows (group_step_count one first (length text)) (group_step_count two second (length text))
    (leaf_step_count versions.One nested text) (leaf_step_count versions.Two nested text)
    (group_count one two (same_item depth true) first second (item_count depth true) (length text))
    (leaf_count nested text p) (group_word text) (word_bare text p)

-- both versions start equally many steps of a text without escapes
as_many : (text : List ℕ) → has_no_escape text ≡ true → steps_count versions.One text ≡ steps_count versions.Two text
as_many text p =
    items_count (item versions.One 8 false) (item versions.Two 8 false) (same_item 8 false) (item_step_count versions.One 8 false)
    (item_step_count versions.Two 8 false) (item_count 8 false) (length text) false text p

module _ (a b : Version) (text : List ℕ) (e : description a text ≡ description b text) (k : steps_count a text ≡ steps_count b text) where
  describes : (tree : Tree) → Describes a text tree → Describes b text tree
  unfolding Describes
  describes tree x = (x.0, sym e ∙ x.1, x.2)

  refuses : (n : ℕ) (r : Refusal) → IsRefused n a text r → IsRefused n b text r
  refuses n r (inl x) = inl (x.0, x.1, omega (arith, x.2, k))
  refuses n r (inr x) = inr (x.0, sym e ∙ x.1, x.2, omega (arith, x.3, k))

pub returns : goal.returns
returns c text p =
    let e = alike text p in
    let k = as_many text p in (
      λ tree. (describes versions.One versions.Two text e k tree, describes versions.Two versions.One text (sym e) (sym k) tree),
      λ n r. (refuses versions.One versions.Two text e k n r, refuses versions.Two versions.One text (sym e) (sym k) n r),
    )
