-- Trees are equal if the texts that are written of them are.
use Rattle.std.specs.Prelude.{◌&&◌, is_ok}
use Rattle.std.proofs.Common.{◌≡◌, ℕ, zero, suc, List, [], ◌∷◌, length, Bool, true, false, not, Ok, refl, ap, sym, subst, ◌∙◌, append-nil, arith, ◌≤◌, Err, inl, inr}
use Rattle.std.proofs.lemmas.Bool.{and_parts, false≢true, not-true}
use Rattle.time_components.specs.declared.format_description.Component.{Component}
use Rattle.time_components.specs.declared.inspect.Group.TheVariants as groups
use Rattle.time_components.specs.Tree.{Tree, Trees, sequence, optional, first_of, none, more, literal as literal_tree, component as component_tree}
use Rattle.time_descriptions.specs.declared.leaf.Version.TheVariants as versions
use Rattle.time_descriptions.specs.Grammar.{Describes, description, item, items_by}
use Rattle.time_descriptions.specs.Items.{Item, component, group, items_of, literal, tree_of, trees_of}
use Rattle.time_descriptions.specs.Writing.{tree_text}
use Rattle.time_descriptions.specs.declared.leaf.Version.{Version}
use Rattle.time_descriptions.specs.Components.{Read}
use Rattle.time_descriptions.specs.Description.{IsRefused}
use Rattle.time_descriptions.specs.Refusal.{Refusal}
use Rattle.time_descriptions.proofs.WrittenLists.{ChoiceBack, GroupsBack, ListBack, list_item, no_groups, text_of}
use Rattle.time_descriptions.specs.Described.{are_items, are_lists, begins_run, has_words, is_described, is_item, is_list, is_run, is_some, HasText}
use Rattle.time_descriptions.proofs.DescribedText.{AllBack, Back, component_is_back, literal_is_back, choice_is_back, first_is_back, groups_are_back, list_is_back, more_back, none_back, optional_is_back}
use Rattle.time_descriptions.proofs.ReadDescribed.{read_is_described}

-- ---- A tree that is described has items, and the text that is written of it describes it

abbrev IsBacked : ℕ → Bool → Tree → Type 0
IsBacked depth nested t = (i : Item) × (tree_of i ≡ t) × Back depth nested i

abbrev AreBacked : ℕ → Bool → Trees → Type 0
AreBacked depth nested ts = (is : List Item) × (trees_of (items_of is) ≡ ts) × AllBack depth nested is

abbrev IsListBacked : ℕ → Tree → Type 0
IsListBacked depth t = (is : List Item) × (sequence (trees_of (items_of is)) ≡ t) × ListBack (item versions.Two depth true) is

abbrev AreListsBacked : ℕ → Trees → Type 0
AreListsBacked depth ts =
    (ls : List Item) × (trees_of (items_of ls) ≡ ts) × GroupsBack (item versions.Two depth true) ls
    × (is_some ts ≡ true → ChoiceBack (item versions.Two depth true) ls)

component_backed : (depth : ℕ) (nested ends : Bool) (c : Component) → (not ends && has_words c) ≡ true → IsBacked depth nested (component_tree ends c)
component_backed depth nested true c e = absurd (false≢true e)
component_backed depth nested false c e = (component c, refl, component_is_back depth nested c e)

more_backed : (depth : ℕ) (nested : Bool) (t : Tree) (ts : Trees) → not (is_run t && begins_run ts) ≡ true → IsBacked depth nested t
    → AreBacked depth nested ts → AreBacked depth nested (more t ts)
more_backed depth nested t ts apart p q =
    let follows : is_run (tree_of p.0) ≡ true → begins_run (trees_of (items_of q.0)) ≡ false =
    λ r. let run : is_run t ≡ true = sym (ap is_run p.1) ∙ r in
    let both : (true && begins_run ts) ≡ false = sym (ap (λ (x : Bool). x && begins_run ts) run) ∙ not-true (is_run t && begins_run ts) apart in
    ap begins_run q.1 ∙ both in (
      p.0 ∷ q.0,
      ap (λ (u : Tree). more u (trees_of (items_of q.0))) p.1 ∙ ap (more t) q.1,
      more_back depth nested p.0 q.0 p.2 q.2 follows,
    )

optional_backed : (depth : ℕ) (nested : Bool) (t : Tree) → IsListBacked depth t → IsBacked (suc depth) nested (optional t)
optional_backed depth nested t p = (group groups.Optional (items_of p.0), ap optional p.1, optional_is_back depth nested p.0 p.2)

first_backed : (depth : ℕ) (nested : Bool) (ts : Trees) → is_some ts ≡ true → AreListsBacked depth ts → IsBacked (suc depth) nested (first_of ts)
first_backed depth nested ts s p = (group groups.First (items_of p.0), ap first_of p.1, first_is_back depth nested p.0 (p.3 s))

no_lists_backed : (depth : ℕ) → AreListsBacked depth none
no_lists_backed depth = ([], refl, no_groups (item versions.Two depth true), λ e. absurd (false≢true e))

more_lists_backed : (depth : ℕ) (t : Tree) (ts : Trees) → IsListBacked depth t → AreListsBacked depth ts → AreListsBacked depth (more t ts)
more_lists_backed depth t ts p q =
    let read = item versions.Two depth true in (
      list_item p.0 ∷ q.0,
      ap (λ (u : Tree). more u (trees_of (items_of q.0))) p.1 ∙ ap (more t) q.1,
      groups_are_back read p.0 q.0 p.2 q.2,
      λ s. choice_is_back read p.0 q.0 p.2 q.2,
    )

mutual
  unfolding is_item is_list are_lists are_items

  item_backed : (depth : ℕ) (nested : Bool) (t : Tree) → is_item depth nested t ≡ true → IsBacked depth nested t
  item_backed depth nested (literal_tree []) e = absurd (false≢true e)
  item_backed depth nested (literal_tree (b ∷ bytes)) e = (literal b bytes, refl, literal_is_back depth nested b bytes e)
  item_backed depth nested (component_tree ends c) e = component_backed depth nested ends c e
  item_backed depth nested (sequence ts) e = absurd (false≢true e)
  item_backed zero nested (optional t) e = absurd (false≢true e)
  item_backed (suc depth) nested (optional t) e = optional_backed depth nested t (list_backed depth t e)
  item_backed zero nested (first_of ts) e = absurd (false≢true e)
  item_backed (suc depth) nested (first_of ts) e =
      let both = and_parts (is_some ts) (are_lists depth ts) e in
      first_backed depth nested ts both.0 (lists_backed depth ts both.1)

  list_backed : (depth : ℕ) (t : Tree) → is_list depth t ≡ true → IsListBacked depth t
  list_backed depth (sequence ts) e =
      let p = items_backed depth true ts e in (p.0, ap sequence p.1, list_is_back depth p.0 p.2)
  list_backed depth (literal_tree bytes) e = absurd (false≢true e)
  list_backed depth (component_tree ends c) e = absurd (false≢true e)
  list_backed depth (optional t) e = absurd (false≢true e)
  list_backed depth (first_of ts) e = absurd (false≢true e)

  lists_backed : (depth : ℕ) (ts : Trees) → are_lists depth ts ≡ true → AreListsBacked depth ts
  lists_backed depth none e = no_lists_backed depth
  lists_backed depth (more t ts) e =
      let both = and_parts (is_list depth t) (are_lists depth ts) e in
      more_lists_backed depth t ts (list_backed depth t both.0) (lists_backed depth ts both.1)

  items_backed : (depth : ℕ) (nested : Bool) (ts : Trees) → are_items depth nested ts ≡ true → AreBacked depth nested ts
  items_backed depth nested none e = ([], refl, none_back depth nested)
  items_backed depth nested (more t ts) e =
      let both = and_parts (is_item depth nested t && not (is_run t && begins_run ts)) (are_items depth nested ts) e in
      let first = and_parts (is_item depth nested t) (not (is_run t && begins_run ts)) both.0 in
      more_backed depth nested t ts first.1 (item_backed depth nested t first.0) (items_backed depth nested ts both.1)

pub described_by_text : (tree : Tree) → is_described tree ≡ true → Describes versions.Two (tree_text tree) tree
unfolding Describes
described_by_text (sequence ts) e =
    let p = items_backed 8 false ts e in
    let all = p.2 in
    let P : Tree → Type 0 = λ t. Describes versions.Two (tree_text t) t in
    let read : description versions.Two (text_of p.0) ≡ Ok (p.0, []) =
    ap (items_by (item versions.Two 8 false) (length (text_of p.0)) false) (sym (append-nil (text_of p.0)))
    ∙ all.reads (length (text_of p.0)) [] (omega arith) refl in
    let back : P (sequence (trees_of (items_of p.0))) = (p.0, read, refl) in
    subst P (ap sequence p.1) back
described_by_text (literal_tree bytes) e = absurd (false≢true e)
described_by_text (component_tree ends c) e = absurd (false≢true e)
described_by_text (optional t) e = absurd (false≢true e)
described_by_text (first_of ts) e = absurd (false≢true e)

items_in : Read (List Item) → List Item
items_in (Ok x) = x.0
items_in (Err e) = []

-- a text describes one tree
pub one_tree_of : (version : Version) (text : List ℕ) (a b : Tree) → Describes version text a → Describes version text b → a ≡ b
unfolding Describes items_in
one_tree_of version text a b p q =
    p.2 ∙ ap (λ (is : List Item). sequence (trees_of (items_of is))) (ap items_in (sym p.1 ∙ q.1)) ∙ sym q.2

-- parsing a text that describes a tree gives no error, if there is room for as many steps as it has bytes
pub not_refused : (n : ℕ) (version : Version) (text : List ℕ) (r : Refusal) (tree : Tree) → Describes version text tree
    → length text ≤ n → IsRefused n version text r → ⊥
unfolding Describes
not_refused n version text r tree d h (inl x) = omega (arith, x.1, h)
not_refused n version text r tree d h (inr x) = false≢true (ap is_ok (sym x.1 ∙ d.1))

-- the text that is written of a tree that some text describes, describes it
pub text_describes : (tree : Tree) → HasText tree → Describes versions.Two (tree_text tree) tree
text_describes tree h = described_by_text tree (read_is_described h.0 tree h.1)

pub one_tree : (a b : Tree) → HasText a → HasText b → tree_text a ≡ tree_text b → a ≡ b
one_tree a b p q e =
    let P : List ℕ → Type 0 = λ t. Describes versions.Two t b in
    one_tree_of versions.Two (tree_text a) a b (text_describes a p) (subst P (sym e) (text_describes b q))
