-- The tree that a text describes is one that is described.
use Rattle.std.specs.List.{prefix_len}
use Rattle.std.specs.Prelude.{◌==◌, ◌&&◌, IfOk, if◌then◌else◌}
use Rattle.std.proofs.Common.{◌≡◌, ℕ, zero, suc, ◌+◌, List, [], ◌∷◌, take, drop, length, Bool, true, false, not, Option, Some, None, Result, Ok, Err, refl, ap, sym, ◌∙◌, arith, subst}
use Rattle.std.proofs.lemmas.Bool.{and_from, false≢true, le-ltb, or_left, or_right}
use Rattle.time_components.specs.declared.format_description.Component.{Component}
use Rattle.time_components.specs.declared.format_description.Component.TheVariants as component_of
use Rattle.time_components.specs.Tree.{Tree, Trees}
use Rattle.time_components.specs.declared.inspect.Group.{Group}
use Rattle.time_components.specs.declared.inspect.Group.TheVariants as groups
use Rattle.time_descriptions.specs.declared.error.Expectation.TheVariants as expected
use Rattle.time_descriptions.specs.declared.error.Fault.{Fault}
use Rattle.time_descriptions.specs.declared.error.Fault.TheVariants as fault
use Rattle.time_descriptions.specs.declared.leaf.Version.TheVariants as versions
use Rattle.time_descriptions.specs.Components.{Read, ◌>>=◌, bracketed}
use Rattle.time_descriptions.specs.Grammar.{after_byte, before, by_option, ends, escaped, is_plain, item, items_by, leaf, list_by, lists_by, next_list, closed, Describes, group_by, group_word, inside_by, opened}
use Rattle.time_descriptions.specs.Items.{Item, component, items_of, literal, tree_of, trees_of, group}
use Rattle.time_descriptions.specs.Writing.{is_escaped}
use Rattle.time_descriptions.specs.declared.error.Unsupported.TheVariants as unsupported
use Rattle.time_descriptions.proofs.ReadComponents.{bracketed_fits}
use Rattle.time_descriptions.proofs.WrittenComponents.{Fits}
use Rattle.time_descriptions.proofs.WrittenLeaves.{bracket_pick, escape_pick, leaf_pick, stops}
use Rattle.time_descriptions.proofs.WrittenLists.{list_item}
use Rattle.time_descriptions.proofs.Written.{IsNamed, item_pick, word_named}
use Rattle.time_descriptions.specs.Described.{are_items, are_lists, are_plain, begins_run, has_words, is_item, is_list, is_run, is_some, is_described}

-- The item at the start of the text is one that is described. A run ends before a byte that isn't plain, and begins with a plain one.
pub record IsFine (depth : ℕ) (nested : Bool) (text : List ℕ) (x : Item × List ℕ) : Type 0 where
  pub fine : is_item depth nested (tree_of x.0) ≡ true
  pub ended : is_run (tree_of x.0) ≡ true → stops nested x.1 ≡ true
  pub begun : stops nested text ≡ true → is_run (tree_of x.0) ≡ false

pub record AreFine (depth : ℕ) (nested : Bool) (text : List ℕ) (x : List Item × List ℕ) : Type 0 where
  pub fine : are_items depth nested (trees_of (items_of x.0)) ≡ true
  pub begun : stops nested text ≡ true → begins_run (trees_of (items_of x.0)) ≡ false

-- A leaf.

words_fit : (c : Component) → Fits c → has_words c ≡ true
words_fit (component_of.Ignore m) f = ap not (le-ltb 65535 m.count.value f)
words_fit c f = refl

component_fine : (depth : ℕ) (nested : Bool) (text rest : List ℕ) (c : Component) → Fits c → IsFine depth nested text (component c, rest)
unfolding is_item
component_fine depth nested text rest c f = record {
  fine = words_fit c f;
  ended = λ r. absurd (false≢true r);
  begun = λ s. refl;
}

escape_fine : (depth : ℕ) (nested : Bool) (text rest : List ℕ) (b : ℕ) → is_escaped b ≡ true → IsFine depth nested text (literal b [], rest)
unfolding is_item
escape_fine depth nested text rest b e = record {
  fine = or_left (is_escaped b) (are_plain nested (b ∷ [])) e;
  ended = λ r. absurd (false≢true (sym (ap not e) ∙ r));
  begun = λ s. ap not e;
}

module _ (nested : Bool) where
  plain : ℕ → Bool
  plain = is_plain versions.Two nested

  front : List ℕ → List ℕ
  front rest = take (prefix_len plain rest) rest

  behind : List ℕ → List ℕ
  behind rest = drop (prefix_len plain rest) rest

  all_plain : List ℕ → Bool
  all_plain = are_plain nested

  plain_from : (b : ℕ) (bytes : List ℕ) → plain b ≡ true → all_plain bytes ≡ true → all_plain (b ∷ bytes) ≡ true
  unfolding plain all_plain
  plain_from b bytes p q = and_from (is_plain versions.Two nested b) (are_plain nested bytes) p q

  none_plain : all_plain [] ≡ true
  unfolding all_plain
  none_plain = refl

  more_front : (x : ℕ) (rest : List ℕ) (t : Bool) → plain x ≡ t → all_plain (front rest) ≡ true → all_plain (front (x ∷ rest)) ≡ true
  unfolding front
  more_front x rest true e ih =
      let n : 1 + prefix_len plain rest ≡ suc (prefix_len plain rest) = omega arith in
      rw (e, n) (plain_from x (take (prefix_len plain rest) rest) e ih)
  more_front x rest false e ih = rw e none_plain

  front_plain : (rest : List ℕ) → all_plain (front rest) ≡ true
  unfolding front
  front_plain [] = none_plain
  front_plain (x ∷ rest) = more_front x rest (plain x) refl (front_plain rest)

  is_no_plain : (b : ℕ) → plain b ≡ false → not (is_plain versions.Two nested b) ≡ true
  unfolding plain
  is_no_plain b e = ap not e

  stopped_at : (x : ℕ) (rest : List ℕ) (t : Bool) → plain x ≡ t → stops nested (behind rest) ≡ true → stops nested (behind (x ∷ rest)) ≡ true
  unfolding behind
  stopped_at x rest true e ih = let n : 1 + prefix_len plain rest ≡ suc (prefix_len plain rest) = omega arith in rw (e, n) ih
  stopped_at x rest false e ih = rw e (is_no_plain x e)

  stopped : (rest : List ℕ) → stops nested (behind rest) ≡ true
  unfolding behind
  stopped [] = refl
  stopped (x ∷ rest) = stopped_at x rest (plain x) refl (stopped rest)

plain_of : (nested x y z : Bool) → x ≡ false → y ≡ false → (nested && z) ≡ false → (not x && not y && not (nested && z)) ≡ true
plain_of nested x y z p q r =
    and_from (not x && not y) (not (nested && z)) (and_from (not x) (not y) (ap not p) (ap not q)) (ap not r)

run_fine : (depth : ℕ) (nested : Bool) (b : ℕ) (rest : List ℕ) → (b == 91) ≡ false → (b == 92) ≡ false → (nested && b == 93) ≡ false
    → IsFine depth nested (b ∷ rest) (
      literal b (take (prefix_len (is_plain versions.Two nested) rest) rest),
      drop (prefix_len (is_plain versions.Two nested) rest) rest,
    )
unfolding is_item front behind plain all_plain
run_fine depth nested b rest x y z =
    let here : is_plain versions.Two nested b ≡ true = plain_of nested (b == 91) (b == 92) (b == 93) x y z in
    let bytes : List ℕ = take (prefix_len (is_plain versions.Two nested) rest) rest in
    let all : are_plain nested (b ∷ bytes) ≡ true = and_from (is_plain versions.Two nested b) (are_plain nested bytes) here (front_plain nested rest) in
    record {
      fine = or_right _ (are_plain nested (b ∷ bytes)) all;
      ended = λ r. stopped nested rest;
      begun = λ s. absurd (false≢true (sym (ap not here) ∙ s));
    }

escaped_fine : (depth : ℕ) (nested : Bool) (text rest : List ℕ) → IfOk (escaped rest) (IsFine depth nested text)
escaped_fine depth nested text [] = tt
escaped_fine depth nested text (b ∷ rest) =
    escape_pick (IsFine depth nested text) (is_escaped b) (literal b [], rest)
    (fault.Expected expected.EscapedByte (length (b ∷ rest))) (escape_fine depth nested text rest b)

pub leaf_fine : (depth : ℕ) (nested : Bool) (text : List ℕ) → ends nested text ≡ false → IfOk (leaf versions.Two nested text) (IsFine depth nested text)
unfolding leaf
leaf_fine depth nested [] e = tt
leaf_fine depth nested (b ∷ rest) e =
    let R : Item × List ℕ → Type 0 = IsFine depth nested (b ∷ rest) in
    let len = prefix_len (is_plain versions.Two nested) rest in
    leaf_pick R (b == 91) (b == 92) (bracketed (b ∷ rest) >>= λ x. Ok (component x.0, x.1)) (escaped rest)
    (Ok (literal b (take len rest), drop len rest))
    (bracket_pick R (bracketed (b ∷ rest)) (λ c after f. component_fine depth nested (b ∷ rest) after c f) (bracketed_fits (b ∷ rest)))
    (escaped_fine depth nested (b ∷ rest) rest)
    (λ x y. run_fine depth nested b rest x y e)

-- Items in turn, and lists, by how an item is parsed.

none_fine : (depth : ℕ) (nested : Bool) (text rest : List ℕ) → AreFine depth nested text ([], rest)
unfolding are_items
none_fine depth nested text rest = record { fine = refl; begun = λ s. refl }

no_two : (c d : Bool) → (c ≡ true → d ≡ false) → not (c && d) ≡ true
no_two true d h = ap not (h refl)
no_two false d h = refl

more_fine : (depth : ℕ) (nested : Bool) (text : List ℕ) (x : Item × List ℕ) (y : List Item × List ℕ) → IsFine depth nested text x
    → AreFine depth nested x.1 y → AreFine depth nested text (x.0 ∷ y.0, y.1)
unfolding are_items
more_fine depth nested text x y p q =
    let t : Tree = tree_of x.0 in
    let ts : Trees = trees_of (items_of y.0) in
    record {
      fine =
          and_from (is_item depth nested t && not (is_run t && begins_run ts)) (are_items depth nested ts)
          (and_from (is_item depth nested t) (not (is_run t && begins_run ts)) p.fine
          (no_two (is_run t) (begins_run ts) (λ r. q.begun (p.ended r))))
          q.fine;
      begun = p.begun;
    }

module _ (depth : ℕ) (nested : Bool)
    (back : (text : List ℕ) → ends nested text ≡ false → IfOk (item versions.Two depth nested text) (IsFine depth nested text)) where
  items_after : (text : List ℕ) (x : Item × List ℕ) (r : Read (List Item)) → IsFine depth nested text x → IfOk r (AreFine depth nested x.1)
      → IfOk (before (x.0 ∷ []) r) (AreFine depth nested text)
  items_after text x (Ok y) p q = more_fine depth nested text x y p q
  items_after text x (Err e) p q = tt

  items_on : (n : ℕ) (text : List ℕ) (c : Bool) (r : Read Item)
      → ((t : List ℕ) → IfOk (items_by (item versions.Two depth nested) n nested t) (AreFine depth nested t))
      → (c ≡ false → IfOk r (IsFine depth nested text))
      → IfOk (if c then Ok ([], text) else (r >>= λ x. before (x.0 ∷ []) (items_by (item versions.Two depth nested) n nested x.1))) (AreFine depth nested text)
  items_on n text true r ih h = none_fine depth nested text text
  items_on n text false (Ok x) ih h = items_after text x (items_by (item versions.Two depth nested) n nested x.1) (h refl) (ih x.1)
  items_on n text false (Err e) ih h = tt

  pub items_fine : (n : ℕ) (text : List ℕ) → IfOk (items_by (item versions.Two depth nested) n nested text) (AreFine depth nested text)
  unfolding items_by
  items_fine zero text = none_fine depth nested text text
  items_fine (suc n) text = items_on n text (ends nested text) (item versions.Two depth nested text) (items_fine n) (back text)

abbrev pub ListFine : ℕ → List Item × List ℕ → Type 0
ListFine depth x = are_items depth true (trees_of (items_of x.0)) ≡ true

abbrev pub ListsFine : ℕ → List Item × List ℕ → Type 0
ListsFine depth x = are_lists depth (trees_of (items_of x.0)) ≡ true

abbrev pub ChoiceFine : ℕ → List Item × List ℕ → Type 0
ChoiceFine depth x = (is_some (trees_of (items_of x.0)) && are_lists depth (trees_of (items_of x.0))) ≡ true

module _ (depth : ℕ) (back : (text : List ℕ) → ends true text ≡ false → IfOk (item versions.Two depth true text) (IsFine depth true text)) where
  read : List ℕ → Read Item
  read = item versions.Two depth true

  shut : (is : List Item) (r : Result (List ℕ) Fault) → are_items depth true (trees_of (items_of is)) ≡ true
      → IfOk (r >>= λ rest. Ok (is, rest)) (ListFine depth)
  shut is (Ok rest) p = p
  shut is (Err e) p = tt

  list_on : (opening : ℕ) (text : List ℕ) (r : Read (List Item)) → IfOk r (AreFine depth true text)
      → IfOk (r >>= λ x. after_byte 93 (fault.UnclosedOpeningBracket opening) x.1 >>= λ rest. Ok (x.0, rest)) (ListFine depth)
  list_on opening text (Ok x) p = let all = p.fine in shut x.0 (after_byte 93 (fault.UnclosedOpeningBracket opening) x.1) all
  list_on opening text (Err e) p = tt

  pub list_fine : (opening : ℕ) (text : List ℕ) → IfOk (list_by (item versions.Two depth true) opening text) (ListFine depth)
  list_fine opening text =
      list_on opening text (items_by (item versions.Two depth true) (length text) true text) (items_fine depth true back (length text) text)

  lists_more : (is ls : List Item) (rest rest' : List ℕ) → ListFine depth (is, rest) → ListsFine depth (ls, rest') → ListsFine depth (list_item is ∷ ls, rest')
  unfolding is_list are_lists
  lists_more is ls rest rest' p q = and_from (are_items depth true (trees_of (items_of is))) (are_lists depth (trees_of (items_of ls))) p q

  no_lists : (rest : List ℕ) → ListsFine depth ([], rest)
  unfolding are_lists
  no_lists rest = refl

  lists_after : (is : List Item) (rest : List ℕ) (r : Read (List Item)) → ListFine depth (is, rest) → IfOk r (ListsFine depth)
      → IfOk (before (list_item is ∷ []) r) (ChoiceFine depth)
  lists_after is rest (Ok y) p q = lists_more is y.0 rest y.1 p q
  lists_after is rest (Err e) p q = tt

  next_on : (x : List Item × List ℕ) (f : List ℕ → Read (List Item)) (o : Option (List ℕ)) → ListFine depth x → ((t : List ℕ) → IfOk (f t) (ListsFine depth))
      → IfOk (by_option (Ok (list_item x.0 ∷ [], x.1)) (λ inside. before (list_item x.0 ∷ []) (f inside)) o) (ChoiceFine depth)
  next_on x f None p ih = lists_more x.0 [] x.1 x.1 p (no_lists x.1)
  next_on x f (Some inside) p ih = lists_after x.0 x.1 (f inside) p (ih inside)

  lists_on : (f : List ℕ → Read (List Item)) (r : Read (List Item)) → IfOk r (ListFine depth) → ((t : List ℕ) → IfOk (f t) (ListsFine depth))
      → IfOk (r >>= λ x. by_option (Ok (list_item x.0 ∷ [], x.1)) (λ inside. before (list_item x.0 ∷ []) (f inside)) (next_list x.1)) (ChoiceFine depth)
  lists_on f (Ok x) p ih = next_on x f (next_list x.1) p ih
  lists_on f (Err e) p ih = tt

  only_lists : (c d : Bool) → (c && d) ≡ true → d ≡ true
  only_lists true d e = e
  only_lists false d e = absurd (false≢true e)

  lists_only : (r : Read (List Item)) → IfOk r (ChoiceFine depth) → IfOk r (ListsFine depth)
  lists_only (Ok x) p = only_lists (is_some (trees_of (items_of x.0))) (are_lists depth (trees_of (items_of x.0))) p
  lists_only (Err e) p = tt

  first_fine : (opening n : ℕ) (text : List ℕ)
      → ((t : List ℕ) → IfOk (lists_by (list_by (item versions.Two depth true) opening) n t) (ListsFine depth))
      → IfOk (lists_by (list_by (item versions.Two depth true) opening) (suc n) text) (ChoiceFine depth)
  unfolding lists_by
  first_fine opening n text ih =
      lists_on (lists_by (list_by (item versions.Two depth true) opening) n) (list_by (item versions.Two depth true) opening text) (list_fine opening text) ih

  lists_fine : (opening n : ℕ) (text : List ℕ) → IfOk (lists_by (list_by (item versions.Two depth true) opening) n text) (ListsFine depth)
  unfolding lists_by
  lists_fine opening zero text = no_lists text
  lists_fine opening (suc n) text =
      lists_only (lists_by (list_by (item versions.Two depth true) opening) (suc n) text) (first_fine opening n text (lists_fine opening n))

  pub choice_fine : (opening n : ℕ) (text : List ℕ) → IfOk (lists_by (list_by (item versions.Two depth true) opening) (suc n) text) (ChoiceFine depth)
  choice_fine opening n text = first_fine opening n text (lists_fine opening n)

-- ---- The tree that a text describes is one that is described: its groups, and the whole tree

optional_fine : (depth : ℕ) (nested : Bool) (text rest : List ℕ) (is : List Item) → are_items depth true (trees_of (items_of is)) ≡ true
    → IsFine (suc depth) nested text (group groups.Optional (items_of is), rest)
unfolding is_item is_list
optional_fine depth nested text rest is p = record { fine = p; ended = λ r. absurd (false≢true r); begun = λ s. refl }

chosen_fine : (depth : ℕ) (nested : Bool) (text rest : List ℕ) (ls : List Item)
    → (is_some (trees_of (items_of ls)) && are_lists depth (trees_of (items_of ls))) ≡ true
    → IsFine (suc depth) nested text (group groups.First (items_of ls), rest)
unfolding is_item
chosen_fine depth nested text rest ls p = record { fine = p; ended = λ r. absurd (false≢true r); begun = λ s. refl }

module _ (depth : ℕ) (back : (text : List ℕ) → ends true text ≡ false → IfOk (item versions.Two depth true text) (IsFine depth true text)) where
  closed_on : (R : Item × List ℕ → Type 0) (i : Item) (r : Result (List ℕ) Fault) → ((rest : List ℕ) → R (i, rest)) → IfOk (r >>= λ rest. Ok (i, rest)) R
  closed_on R i (Ok rest) h = h rest
  closed_on R i (Err e) h = tt

  inside_on : (R : Item × List ℕ → Type 0) (Q : List Item × List ℕ → Type 0) (g : Group) (opening : ℕ) (r : Read (List Item)) → IfOk r Q
      → ((x : List Item × List ℕ) (rest : List ℕ) → Q x → R (group g (items_of x.0), rest))
      → IfOk (r >>= λ x. closed opening x.1 >>= λ rest. Ok (group g (items_of x.0), rest)) R
  inside_on R Q g opening (Ok x) q h = closed_on R (group g (items_of x.0)) (closed opening x.1) (λ rest. h x rest q)
  inside_on R Q g opening (Err e) q h = tt

  inside_fine : (nested : Bool) (text : List ℕ) (opening : ℕ) (g : Group) → IsNamed g → (inside : List ℕ)
      → IfOk (inside_by (list_by (item versions.Two depth true) opening) g inside
      >>= λ x. closed opening x.1 >>= λ rest. Ok (group g (items_of x.0), rest))
      (IsFine (suc depth) nested text)
  inside_fine nested text opening groups.Optional named inside =
      inside_on (IsFine (suc depth) nested text) (ListFine depth) groups.Optional opening
      (list_by (item versions.Two depth true) opening inside) (list_fine depth back opening inside)
      (λ x rest q. optional_fine depth nested text rest x.0 q)
  inside_fine nested text opening groups.First named inside =
      inside_on (IsFine (suc depth) nested text) (ChoiceFine depth) groups.First opening
      (lists_by (list_by (item versions.Two depth true) opening) (suc (length inside)) inside)
      (choice_fine depth back opening (length inside) inside)
      (λ x rest q. chosen_fine depth nested text rest x.0 q)
  inside_fine nested text opening groups.List named inside = absurd named

  opened_on : (nested : Bool) (text : List ℕ) (opening : ℕ) (g : Group) → IsNamed g → (r : Result (List ℕ) Fault)
      → IfOk (r >>= λ inside. inside_by (list_by (item versions.Two depth true) opening) g inside
      >>= λ x. closed opening x.1 >>= λ rest. Ok (group g (items_of x.0), rest))
      (IsFine (suc depth) nested text)
  opened_on nested text opening g named (Ok inside) = inside_fine nested text opening g named inside
  opened_on nested text opening g named (Err e) = tt

  group_fine : (nested : Bool) (text : List ℕ) (opening : ℕ) (found : Group × List ℕ) → IsNamed found.0
      → IfOk (group_by (item versions.Two depth true) opening found) (IsFine (suc depth) nested text)
  unfolding group_by
  group_fine nested text opening found named = opened_on nested text opening found.0 named (opened found.0 found.1)

item_fine : (depth : ℕ) (nested : Bool) (text : List ℕ) → ends nested text ≡ false
    → IfOk (item versions.Two depth nested text) (IsFine depth nested text)
unfolding item
item_fine zero nested text e =
    item_pick (IsFine zero nested text) (leaf versions.Two nested text)
    (λ found. Err (fault.NotSupported unsupported.DeepList (length text))) (group_word text) (leaf_fine zero nested text e)
    (word_named text) (λ x named. tt)
item_fine (suc depth) nested text e =
    item_pick (IsFine (suc depth) nested text) (leaf versions.Two nested text)
    (group_by (item versions.Two depth true) (length text)) (group_word text) (leaf_fine (suc depth) nested text e)
    (word_named text) (λ x named. group_fine depth (item_fine depth true) nested text (length text) x named)

pub read_is_described : (text : List ℕ) (tree : Tree) → Describes versions.Two text tree → is_described tree ≡ true
unfolding Describes
read_is_described text tree d =
    let P : Read (List Item) → Type 0 = λ r. IfOk r (AreFine 8 false text) in
    let all : AreFine 8 false text (d.0, []) = subst P d.1 (items_fine 8 false (item_fine 8 false) (length text) text) in
    let fine = all.fine in
    let Q : Tree → Type 0 = λ t. is_described t ≡ true in
    subst Q (sym d.2) fine
