-- The trees of the steps of items are the items' trees.
use Rattle.std.specs.Prelude.{◌⊎◌, IsErr, IsErrAnd}
use Rattle.std.proofs.Common.{◌≡◌, ℕ, zero, suc, ◌+◌, ◌-◌, ◌<◌, ◌≤◌, List, [], ◌∷◌, ◌++◌, length, map, drop, true, false, Ok, Err, refl, ap, ◌∙◌, arith, length-append, inl, inr, Bor, Result, sym, subst}
use Rattle.std.proofs.Math.Seq.{take-append_seam, drop-append_seam}
use Rattle.std.proofs.lemmas.Bool.{false≢true}
use Rattle.time_components.specs.Tree.{further, group_tree, steps_shape, trees_in, Trees, sequence, literal as literal_tree, component as component_tree, more as more_trees, owned_shape, Tree, trees}
use Rattle.time_components.specs.declared.inspect.Step.{Step}
use Rattle.time_components.specs.declared.inspect.Step.TheVariants as step
use Rattle.time_components.specs.declared.format_description.OwnedFormatItem.{OwnedFormatItem}
use Rattle.time_components.specs.declared.inspect.Group.{Group}
use Rattle.time_components.specs.declared.inspect.Group.TheVariants as groups
use Rattle.time_descriptions.specs.declared.error.Fault.{Fault}
use Rattle.time_descriptions.specs.declared.error.Fault.TheVariants as fault
use Rattle.time_descriptions.specs.declared.leaf.Version.{Version}
use Rattle.time_descriptions.specs.Description.{IsRefused}
use Rattle.time_descriptions.specs.Grammar.{steps_count, description, ends, Describes, after_byte, closed, group_by, inside_by, items_by, list_by, lists_by, opened, Fails, Owns, MatchesItem, MatchesItems}
use Rattle.time_descriptions.specs.Items.{Item, Items, literal, component, group, none, more, items_of, flat, steps_of, all_steps_of, tree_of, trees_of}
use Rattle.time_descriptions.specs.Refusal.{Refusal, refusal_at}
use Rattle.time_descriptions.specs.declared.owned.Unread.{Unread}
use Rattle.time_descriptions.specs.declared.owned.Unread.TheVariants as unread
use Rattle.time_descriptions.specs.Components.{Read}

no_further : (is : Items) → further (all_steps_of is) ≡ []
no_further none = refl
no_further (more (literal b bytes) is) = refl
no_further (more (component c) is) = refl
no_further (more (group g inner) is) = refl

further_of : (bytes : List ℕ) (after : List Step) → further after ≡ [] → further (map step.More bytes ++ after) ≡ bytes
further_of [] after e = e
further_of (b ∷ bytes) after e = ap (λ (bs : List ℕ). b ∷ bs) (further_of bytes after e)

drop_further : (bytes : List ℕ) (after : List Step) → drop (length bytes) (map step.More bytes ++ after) ≡ after
drop_further [] after = refl
drop_further (b ∷ bytes) after = drop_further bytes after

-- the trees of these steps, with enough fuel
abbrev Are : List Step → Trees → Type 0
Are steps ts = (n : ℕ) → length steps ≤ n → trees_in n steps ≡ ts

mutual
  unfolding trees_in

  item_trees : (i : Item) (after : List Step) (ts : Trees) → further after ≡ [] → Are after ts
      → Are (steps_of i ++ after) (more_trees (tree_of i) ts)
  item_trees (literal b bytes) after ts f a zero h = absurd (omega (arith, h))
  item_trees (component c) after ts f a zero h = absurd (omega (arith, h))
  item_trees (group g is) after ts f a zero h = absurd (omega (arith, h))
  item_trees (literal b bytes) after ts f a (suc n) h =
      let bs = further_of bytes after f in
      let rest = ap (λ (xs : List ℕ). drop (length xs) (map step.More bytes ++ after)) bs ∙ drop_further bytes after in
      let fits : length after ≤ n = omega (arith, h, length-append (map step.More bytes) after) in
      ap (λ (xs : List ℕ). more_trees (literal_tree (b ∷ xs)) (trees_in n (drop (length (further (map step.More bytes ++ after)))
      (map step.More bytes ++ after)))) bs
      ∙ ap (λ (ss : List Step). more_trees (literal_tree (b ∷ bytes)) (trees_in n ss)) rest
      ∙ ap (λ (us : Trees). more_trees (literal_tree (b ∷ bytes)) us) (a n fits)
  item_trees (component c) after ts f a (suc n) h = ap (λ (us : Trees). more_trees (component_tree false c) us) (a n (omega (arith, h)))
  item_trees (group g is) after ts f a (suc n) h =
      let inner : List Step = all_steps_of is in
      let all : length (inner ++ after) ≡ length inner + length after = length-append inner after in
      let fits : length inner ≤ n = omega (arith, h, all) in
      let rest : length after ≤ n = omega (arith, h, all) in
      ap (λ (ss : List Step). more_trees (group_tree g (trees_in n ss)) (trees_in n (drop (length inner) (inner ++ after)))) (take-append_seam inner after)
      ∙ ap (λ (ss : List Step). more_trees (group_tree g (trees_in n inner)) (trees_in n ss)) (drop-append_seam inner after)
      ∙ ap (λ (us : Trees). more_trees (group_tree g us) (trees_in n after)) (items_trees is n fits)
      ∙ ap (λ (us : Trees). more_trees (group_tree g (trees_of is)) us) (a n rest)

  items_trees : (is : Items) → Are (all_steps_of is) (trees_of is)
  items_trees none zero h = refl
  items_trees none (suc n) h = refl
  items_trees (more i is) n h = item_trees i (all_steps_of is) (trees_of is) (no_further is) (items_trees is) n h

pub steps_shape-flat : (is : List Item) → steps_shape (flat is) ≡ sequence (trees_of (items_of is))
steps_shape-flat is = ap sequence (items_trees (items_of is) (length (flat is)) (omega arith))

pub at_top : (rest : List ℕ) → ends false rest ≡ true → rest ≡ []
at_top [] e = refl
at_top (b ∷ rest) e = absurd (grind (arith, e))

-- the steps of what is read have the tree that the text describes
pub described : (version : Version) (text rest : List ℕ) (is : List Item) (old steps : List Step) → description version text ≡ Ok (is, rest)
    → ends false rest ≡ true → old ≡ [] → steps ≡ old ++ flat is → Describes version text (steps_shape steps)
unfolding Describes
described version text rest is old steps read e o s =
    let all : steps ≡ flat is = s ∙ ap (λ (ss : List Step). ss ++ flat is) o in (
      is,
      read ∙ ap (λ (bs : List ℕ). Ok (is, bs)) (at_top rest e),
      ap steps_shape all ∙ steps_shape-flat is,
    )

-- a fault is reported with its index
pub refused : (n : ℕ) (version : Version) (text : List ℕ) (e : Fault) (refusal : Refusal) (old : List Step)
    → ((e ≡ fault.NoRoom) × (n < length old + length text) × (n - length old < steps_count version text))
    ⊎ ((description version text ≡ Err e) × (steps_count version text ≤ n - length old))
    → old ≡ [] → refusal ≡ refusal_at text e → IsRefused n version text refusal
refused n version text e refusal old (inl x) o r =
    inl (r ∙ ap (refusal_at text) x.0, omega (arith, x.1, ap length o), omega (arith, x.2, ap length o))
refused n version text e refusal old (inr x) o r = inr (e, x.0, r, omega (arith, x.1, ap length o))

-- the steps that there is room for
pub fitting : (n begun : ℕ) (old : List Step) → old ≡ [] → begun ≤ n - length old → begun ≤ n
fitting n begun old o h = omega (arith, h, ap length o)

-- ---- Items that own their parts, one after another

-- a failure is propagated
pub fails_on : {A X : Type 0} (says : X → A → Type 0) (read : Read A) (r : Result (X × Bor (List ℕ)) Unread) (u : Unread)
    → IsErr r × IsErrAnd r (λ x. x ≡ u) → Fails read u → Owns says read r
fails_on says read (Ok x) u by h = absurd (false≢true by.0)
fails_on says read (Err x) u by h = subst (λ (w : Unread). Fails read w) (sym by.1) h

-- if a part fails, the whole fails
pub fails_whole : {A B : Type 0} (part : Read A) (whole : Read B) (u : Unread) → ((e : Fault) → part ≡ Err e → whole ≡ Err e)
    → Fails part u → Fails whole u
fails_whole part whole (unread.Fault e) h f = h e f
fails_whole part whole (unread.Memory e) h f = tt

pub inside_optional : (list : List ℕ → Read (List Item)) (g : Group) (text : List ℕ) → g ≡ groups.Optional → inside_by list g text ≡ list text
inside_optional list g text e = ap (λ (x : Group). inside_by list x text) e

pub inside_other : (list : List ℕ → Read (List Item)) (g : Group) (text : List ℕ) → (g ≡ groups.Optional → ⊥)
    → inside_by list g text ≡ lists_by list (suc (length text)) text
inside_other list groups.Optional text n = absurd (n refl)
inside_other list groups.First text n = refl
inside_other list groups.List text n = refl

trees-map : (is : List Item) → trees (map tree_of is) ≡ trees_of (items_of is)
trees-map [] = refl
trees-map (i ∷ is) = ap (λ ts. Rattle.time_components.specs.Tree.more (tree_of i) ts) (trees-map is)

-- a group of items with the trees of those that were read
pub group_said : (g : Group) (items : List OwnedFormatItem) (is : List Item) (item : OwnedFormatItem) → MatchesItems items is
    → owned_shape item ≡ group_tree g (trees (map owned_shape items)) → MatchesItem item (group g (items_of is))
group_said g items is item s e =
    e ∙ ap (λ (ts : List Tree). group_tree g (trees ts)) s ∙ ap (group_tree g) (trees-map is)

map-one : {A B : Type 0} (f : A → B) (xs : List A) (x : A) → map f (xs ++ x ∷ []) ≡ map f xs ++ f x ∷ []
map-one f [] x = refl
map-one f (y ∷ xs) x = ap (λ ys. f y ∷ ys) (map-one f xs x)

-- one more item
pub one_more : (items : List OwnedFormatItem) (is : List Item) (item : OwnedFormatItem) (i : Item) → MatchesItems items is → MatchesItem item i
    → MatchesItems (items ++ item ∷ []) (is ++ i ∷ [])
one_more items is item i s t =
    map-one owned_shape items item ∙ ap (λ (ts : List Tree). ts ++ owned_shape item ∷ []) s
    ∙ ap (λ (t : Tree). map tree_of is ++ t ∷ []) t ∙ sym (map-one tree_of is i)

module _ (read : List ℕ → Read Item) (opening : ℕ) where
  pub list_not_read : (text : List ℕ) (e : Fault) → items_by read (length text) true text ≡ Err e → list_by read opening text ≡ Err e
  list_not_read text e h = rw h refl

  pub list_not_closed : (text rest : List ℕ) (is : List Item) (e : Fault) → items_by read (length text) true text ≡ Ok (is, rest)
      → after_byte 93 (fault.UnclosedOpeningBracket opening) rest ≡ Err e → list_by read opening text ≡ Err e
  list_not_closed text rest is e h c = rw (h, c) refl

  pub list_read : (text rest unread : List ℕ) (is : List Item) → items_by read (length text) true text ≡ Ok (is, unread)
      → after_byte 93 (fault.UnclosedOpeningBracket opening) unread ≡ Ok rest → list_by read opening text ≡ Ok (is, rest)
  list_read text rest unread is h c = rw (h, c) refl

  module _ (g : Group) (text inside : List ℕ) (o : opened g text ≡ Ok inside) where
    pub group_not_closed : (unread : List ℕ) (is : List Item) (e : Fault) → inside_by (list_by read opening) g inside ≡ Ok (is, unread)
        → closed opening unread ≡ Err e → group_by read opening (g, text) ≡ Err e
    unfolding group_by
    group_not_closed unread is e i c = rw (o, i, c) refl

    pub group_read : (unread rest : List ℕ) (is : List Item) → inside_by (list_by read opening) g inside ≡ Ok (is, unread)
        → closed opening unread ≡ Ok rest → group_by read opening (g, text) ≡ Ok (group g (items_of is), rest)
    unfolding group_by
    group_read unread rest is i c = rw (o, i, c) refl

-- the list of the items that are read has the tree that the text describes
pub owned_description : (version : Version) (text rest : List ℕ) (is : List Item) (items : List OwnedFormatItem) (item : OwnedFormatItem)
    → description version text ≡ Ok (is, rest) → ends false rest ≡ true → MatchesItems items is
    → owned_shape item ≡ sequence (trees (map owned_shape items)) → Describes version text (owned_shape item)
unfolding Describes
owned_description version text rest is items item read e s o = (
  is,
  read ∙ ap (λ (bs : List ℕ). Ok (is, bs)) (at_top rest e),
  o ∙ ap (λ (ts : List Tree). sequence (trees ts)) s ∙ ap sequence (trees-map is),
)
