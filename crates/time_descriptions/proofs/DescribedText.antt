-- The text of a tree that is described parses as the tree.
use Rattle.std.specs.List.{prefix_len}
use Rattle.std.specs.Prelude.{◌==◌, ◌&&◌, ◌||◌, codes}
use Rattle.std.proofs.Common.{◌≡◌, ℕ, ◌≤◌, List, [], ◌∷◌, ◌++◌, length, Bool, true, false, not, Ok, refl, ap, sym, subst, ◌∙◌, append_assoc, arith, suc, ◌-◌, length-append}
use Rattle.std.proofs.lemmas.Bool.{and_parts, false≢true, ltb-false, not-true}
use Rattle.time_components.specs.declared.format_description.Component.{Component}
use Rattle.time_components.specs.declared.format_description.Component.TheVariants as component_of
use Rattle.time_components.specs.Tree.{literal as literal_tree}
use Rattle.time_components.specs.declared.inspect.Group.TheVariants as groups
use Rattle.time_descriptions.specs.declared.leaf.Version.TheVariants as versions
use Rattle.time_descriptions.specs.Grammar.{ends, is_plain, item, items_by, after_byte, before, by_option, list_by, lists_by}
use Rattle.time_descriptions.specs.Items.{Item, component, items_of, literal, tree_of, trees_of, group}
use Rattle.time_descriptions.specs.Writing.{is_escaped, words_of}
use Rattle.time_descriptions.specs.declared.error.Fault.TheVariants as fault
use Rattle.time_descriptions.specs.Components.{Read, ◌>>=◌}
use Rattle.time_descriptions.proofs.Adding.{plain_item, ended, went_on}
use Rattle.time_descriptions.proofs.WrittenComponents.{component_back, Fits}
use Rattle.time_descriptions.proofs.WrittenLeaves.{and_false, bracket_leaf, escaped_leaf, item_text, no_group, plain_leaf, stops, written_byte}
use Rattle.time_descriptions.proofs.WrittenLists.{text_of, ChoiceBack, GroupsBack, ListBack, ends_stops, list_item, lists_of, lists_read, opens_list}
use Rattle.time_descriptions.proofs.Written.{first_opens, group_read, no_next, optional_opens}
use Rattle.time_descriptions.specs.Described.{are_plain, begins_run, has_words, is_literal, is_run}

-- The text of an item parses as the item.
pub record Back (depth : ℕ) (nested : Bool) (i : Item) : Type 0 where
  pub reads : (after : List ℕ) → (is_run (tree_of i) ≡ true → stops nested after ≡ true)
      → item versions.Two depth nested (item_text i ++ after) ≡ Ok (i, after)
  pub stopping : is_run (tree_of i) ≡ false → (after : List ℕ) → stops nested (item_text i ++ after) ≡ true
  pub on : (after : List ℕ) → ends nested (item_text i ++ after) ≡ false
  pub some : 1 ≤ length (item_text i)

-- The text of items in turn parses as them.
pub record AllBack (depth : ℕ) (nested : Bool) (is : List Item) : Type 0 where
  pub reads : (m : ℕ) (after : List ℕ) → length (text_of is) ≤ m → ends nested after ≡ true
      → items_by (item versions.Two depth nested) m nested (text_of is ++ after) ≡ Ok (is, after)
  pub stopping : begins_run (trees_of (items_of is)) ≡ false → (after : List ℕ) → ends nested after ≡ true
      → stops nested (text_of is ++ after) ≡ true

-- A component.

fits : (c : Component) → has_words c ≡ true → Fits c
fits (component_of.Ignore m) e = ltb-false 65535 m.count.value (not-true _ e)
fits c e = tt

pub component_is_back : (depth : ℕ) (nested : Bool) (c : Component) → has_words c ≡ true → Back depth nested (component c)
component_is_back depth nested c e = record {
  reads = λ after h.
      let t : List ℕ = words_of c ++ 93 ∷ after in
      let b = component_back c (fits c e) after in
      ap (λ (x : List ℕ). item versions.Two depth nested (91 ∷ x)) (append_assoc (words_of c) (93 ∷ []) after)
      ∙ plain_item versions.Two depth nested (91 ∷ t) b.1 ∙ bracket_leaf nested t after c b.0;
  stopping = λ h after. refl;
  on = λ after. and_false nested;
  some = omega arith;
}

-- A byte after a backslash.

escaped_is_back : (depth : ℕ) (nested : Bool) (b : ℕ) → is_escaped b ≡ true → Back depth nested (literal b [])
escaped_is_back depth nested b e =
    let w : written_byte b (is_escaped b) ≡ 92 ∷ b ∷ [] = ap (written_byte b) e in
    record {
      reads = λ after h. ap (λ (x : List ℕ). item versions.Two depth nested (x ++ after)) w ∙ escaped_leaf depth nested b after e;
      stopping = λ h after. ap (λ (x : List ℕ). stops nested (x ++ after)) w;
      on = λ after. ap (λ (x : List ℕ). ends nested (x ++ after)) w ∙ and_false nested;
      some = omega (arith, ap length w);
    }

-- A literal that needs no backslash.

module _ (nested : Bool) where
  plain : ℕ → Bool
  plain = is_plain versions.Two nested

  all_plain : List ℕ → Bool
  all_plain = are_plain nested

  plain_more : (b : ℕ) (bytes : List ℕ) → all_plain (b ∷ bytes) ≡ true → (plain b ≡ true) × (all_plain bytes ≡ true)
  unfolding plain all_plain
  plain_more b bytes p = and_parts (is_plain versions.Two nested b) (are_plain nested bytes) p

  not_plain : (b : ℕ) → not (is_plain versions.Two nested b) ≡ true → plain b ≡ false
  unfolding plain
  not_plain b s = not-true (is_plain versions.Two nested b) s

  no_front : (after : List ℕ) → stops nested after ≡ true → prefix_len plain after ≡ 0
  no_front [] s = refl
  no_front (b ∷ after) s = let e = not_plain b s in rw e refl

  front : (bytes after : List ℕ) → all_plain bytes ≡ true → stops nested after ≡ true → prefix_len plain (bytes ++ after) ≡ length bytes
  front [] after p s = no_front after s
  front (b ∷ bytes) after p s =
      let both = plain_more b bytes p in
      let e : plain b ≡ true = both.0 in
      let ih : prefix_len plain (bytes ++ after) ≡ length bytes = front bytes after both.1 s in
      rw (e, ih) (omega arith)

  plain_front : (bytes after : List ℕ) → are_plain nested bytes ≡ true → stops nested after ≡ true
      → prefix_len (is_plain versions.Two nested) (bytes ++ after) ≡ length bytes
  unfolding plain all_plain
  plain_front bytes after p s = front bytes after p s

abbrev IsPlain : Bool → ℕ → Type 0
IsPlain nested b = ((b == 91) ≡ false) × ((b == 92) ≡ false) × ((nested && b == 93) ≡ false)

plain_parts : (nested x y z : Bool) → (not x && not y && not (nested && z)) ≡ true → (x ≡ false) × (y ≡ false) × ((nested && z) ≡ false)
plain_parts nested x y z p =
    let last = and_parts (not x && not y) (not (nested && z)) p in
    let both = and_parts (not x) (not y) last.0 in
    (not-true x both.0, not-true y both.1, not-true (nested && z) last.1)

run_is_back : (depth : ℕ) (nested : Bool) (b : ℕ) (bytes : List ℕ) → are_plain nested (b ∷ bytes) ≡ true
    → item_text (literal b bytes) ≡ b ∷ bytes → is_run (literal_tree (b ∷ bytes)) ≡ true → Back depth nested (literal b bytes)
run_is_back depth nested b bytes p w r =
    let both = and_parts (is_plain versions.Two nested b) (are_plain nested bytes) p in
    let k = plain_parts nested (b == 91) (b == 92) (b == 93) both.0 in
    record {
      reads =
          λ after h. ap (λ (t : List ℕ). item versions.Two depth nested (t ++ after)) w
          ∙ plain_item versions.Two depth nested (b ∷ (bytes ++ after)) (no_group b (bytes ++ after) k.0)
          ∙ plain_leaf nested b bytes after k.0 k.1 (plain_front nested bytes after both.1 (h r));
      stopping = λ h after. absurd (false≢true (sym h ∙ r));
      on = λ after. ap (λ (t : List ℕ). ends nested (t ++ after)) w ∙ k.2;
      some = omega (arith, ap length w);
    }

pub literal_is_back : (depth : ℕ) (nested : Bool) (b : ℕ) (bytes : List ℕ) → is_literal nested (b ∷ bytes) ≡ true → Back depth nested (literal b bytes)
literal_is_back depth nested b (c ∷ bytes) e = run_is_back depth nested b (c ∷ bytes) e refl refl
literal_is_back depth nested b [] e = by_escape (is_escaped b) refl
  where
    by_escape : (x : Bool) → is_escaped b ≡ x → Back depth nested (literal b [])
    by_escape true q = escaped_is_back depth nested b q
    by_escape false q =
        let P : Bool → Type 0 = λ x. (x || are_plain nested (b ∷ [])) ≡ true in
        let p : are_plain nested (b ∷ []) ≡ true = subst P q e in
        run_is_back depth nested b [] p (ap (written_byte b) q) (ap not q)

-- ---- The text of items in turn, of lists and of groups that are described parses as them

-- Items in turn.

pub none_back : (depth : ℕ) (nested : Bool) → AllBack depth nested []
none_back depth nested = record {
  reads = λ m after h e. ended (item versions.Two depth nested) nested after m e;
  stopping = λ h after e. ends_stops nested after e;
}

pub more_back : (depth : ℕ) (nested : Bool) (i : Item) (is : List Item) → Back depth nested i → AllBack depth nested is
    → (is_run (tree_of i) ≡ true → begins_run (trees_of (items_of is)) ≡ false) → AllBack depth nested (i ∷ is)
more_back depth nested i is p q apart =
    let read = item versions.Two depth nested in
    let joined : (after : List ℕ) → (item_text i ++ text_of is) ++ after ≡ item_text i ++ (text_of is ++ after) =
    append_assoc (item_text i) (text_of is) in
    let all = length-append (item_text i) (text_of is) in
    let some = p.some in
    record {
      reads =
          λ m after h e. let rest : List ℕ = text_of is ++ after in
          ap (items_by read m nested) (joined after)
          ∙ went_on read nested (item_text i ++ rest) m (m - 1) i rest (omega (arith, h, all, some)) (p.on rest)
          (p.reads rest (λ r. q.stopping (apart r) after e))
          ∙ ap (before (i ∷ [])) (q.reads (m - 1) after (omega (arith, h, all, some)) e);
      stopping = λ h after e. ap (stops nested) (joined after) ∙ p.stopping h (text_of is ++ after);
    }

-- Lists.

pub list_is_back : (depth : ℕ) (is : List Item) → AllBack depth true is → ListBack (item versions.Two depth true) is
list_is_back depth is p opening after =
    let t : List ℕ = text_of is ++ 93 ∷ after in
    let on : Read (List Item) → Read (List Item) = λ r. r >>= λ y. after_byte 93 (fault.UnclosedOpeningBracket opening) y.1 >>= λ rest. Ok (y.0, rest) in
    ap on (p.reads (length t) (93 ∷ after) (omega (arith, length-append (text_of is) (93 ∷ after))) refl)

module _ (read : List ℕ → Read Item) (is ls : List Item) (p : ListBack read is) (q : GroupsBack read ls) where
  body : List ℕ → List ℕ
  body after = (text_of is ++ 93 ∷ lists_of ls) ++ after

  joined_lists : (after : List ℕ) → body after ≡ text_of is ++ 93 ∷ (lists_of ls ++ after)
  unfolding body
  joined_lists after = append_assoc (text_of is) (93 ∷ lists_of ls) after

  pub groups_are_back : GroupsBack read (list_item is ∷ ls)
  unfolding body
  groups_are_back opening m after h e =
      let inside = length-append (text_of is) (93 ∷ lists_of ls) in
      let m1 : m ≡ suc (m - 1) = omega (arith, h) in
      let small : length (lists_of ls) ≤ m - 1 = omega (arith, h, inside) in
      let list = list_by read opening in
      ap (by_option (Ok ([], 32 ∷ 91 ∷ body after)) (lists_by list m)) (opens_list (body after))
      ∙ ap (λ (k : ℕ). lists_by list k (body after)) m1 ∙ ap (lists_by list (suc (m - 1))) (joined_lists after)
      ∙ lists_read read is ls p q opening (m - 1) after small e

  pub choice_is_back : ChoiceBack read (list_item is ∷ ls)
  unfolding body
  choice_is_back after e =
      let inside = length-append (text_of is) (93 ∷ lists_of ls) in (
        body after,
        refl,
        λ opening. ap (lists_by (list_by read opening) (suc (length (body after)))) (joined_lists after)
            ∙ lists_read read is ls p q opening (length (body after)) after
            (omega (arith, inside, length-append (text_of is ++ 93 ∷ lists_of ls) after)) e,
      )

-- Groups.

pub optional_is_back : (depth : ℕ) (nested : Bool) (is : List Item) → ListBack (item versions.Two depth true) is
    → Back (suc depth) nested (group groups.Optional (items_of is))
optional_is_back depth nested is p = record {
  reads = λ after h.
      let t : List ℕ = text_of is ++ 93 ∷ 93 ∷ after in
      let opening : ℕ = length (codes "[optional [" ++ t) in
      ap (λ (x : List ℕ). item versions.Two (suc depth) nested (codes "[optional [" ++ x)) (append_assoc (text_of is) (93 ∷ 93 ∷ []) after)
      ∙ optional_opens depth nested t
      ∙ group_read groups.Optional opening is after (list_by (item versions.Two depth true) opening t) (p opening (93 ∷ after));
  stopping = λ h after. refl;
  on = λ after. and_false nested;
  some = omega arith;
}

pub first_is_back : (depth : ℕ) (nested : Bool) (ls : List Item) → ChoiceBack (item versions.Two depth true) ls
    → Back (suc depth) nested (group groups.First (items_of ls))
first_is_back depth nested ls p = record {
  reads = λ after h.
      let c = p (93 ∷ after) (no_next after) in
      let opening : ℕ = length (codes "[first [" ++ c.0) in
      ap (λ (x : List ℕ). item versions.Two (suc depth) nested (codes "[first" ++ x)) (append_assoc (lists_of ls) (93 ∷ []) after ∙ c.1)
      ∙ first_opens depth nested c.0
      ∙ group_read groups.First opening ls after
      (lists_by (list_by (item versions.Two depth true) opening) (suc (length c.0)) c.0) (c.2 opening);
  stopping = λ h after. refl;
  on = λ after. and_false nested;
  some = omega arith;
}
