-- The text of items that were parsed parses back as these items.
use Rattle.std.proofs.Common.{◌≡◌, ℕ, zero, suc, List, [], ◌∷◌, ◌++◌, take, drop, length, Bool, true, false, Option, Some, None, Result, Ok, Err, refl, ap, sym, subst, ◌∙◌, append_assoc, append-nil, arith}
use Rattle.std.proofs.lemmas.Bool.{false≢true}
use Rattle.std.specs.List.{prefix_len}
use Rattle.std.specs.Option.{option_map}
use Rattle.std.specs.Str.{bytes_eq}
use Rattle.std.specs.Prelude.{◌==◌, codes, IfOk, IfSome, if◌then◌else◌}
use Rattle.time_components.specs.declared.inspect.Group.{Group}
use Rattle.time_components.specs.declared.inspect.Group.TheVariants as groups
use Rattle.time_descriptions.specs.declared.error.Fault.{Fault}
use Rattle.time_descriptions.specs.declared.error.Fault.TheVariants as fault
use Rattle.time_descriptions.specs.declared.error.Unsupported.TheVariants as unsupported
use Rattle.time_descriptions.specs.declared.leaf.Version.TheVariants as versions
use Rattle.time_descriptions.specs.Components.{Read, ◌>>=◌}
use Rattle.time_descriptions.specs.Grammar.{by_option, closed, description, ends, group_by, group_named, group_word, inside_by, item, items_by, leaf, list_by, lists_by, next_list, opened}
use Rattle.time_descriptions.specs.Items.{Item, group, items_of}
use Rattle.time_descriptions.specs.Values.{is_of_word, is_space}
use Rattle.time_descriptions.proofs.WrittenLeaves.{IsBack, and_false, leaf_back}
use Rattle.time_descriptions.proofs.WrittenLists.{AreBack, ChoiceBack, ListBack, choice_back, items_back, list_back, lists_of, text_of}

pub optional_opens : (depth : ℕ) (nested : Bool) (t : List ℕ) → item versions.Two (suc depth) nested (codes "[optional [" ++ t)
    ≡ (list_by (item versions.Two depth true) (length (codes "[optional [" ++ t)) t
    >>= λ x. closed (length (codes "[optional [" ++ t)) x.1 >>= λ rest. Ok (group groups.Optional (items_of x.0), rest))
unfolding item group_word group_by opened
optional_opens depth nested t = refl

pub first_opens : (depth : ℕ) (nested : Bool) (t : List ℕ) → item versions.Two (suc depth) nested (codes "[first [" ++ t)
    ≡ (lists_by (list_by (item versions.Two depth true) (length (codes "[first [" ++ t))) (suc (length t)) t
    >>= λ x. closed (length (codes "[first [" ++ t)) x.1 >>= λ rest. Ok (group groups.First (items_of x.0), rest))
unfolding item group_word group_by opened
first_opens depth nested t = refl

closes : (opening : ℕ) (after : List ℕ) → closed opening (93 ∷ after) ≡ Ok after
unfolding closed
closes opening after = refl

pub no_next : (after : List ℕ) → next_list (93 ∷ after) ≡ None
unfolding next_list
no_next after = refl

abbrev grouped : Group → ℕ → List Item × List ℕ → Read Item
grouped g opening x = closed opening x.1 >>= λ rest. Ok (group g (items_of x.0), rest)

pub group_read : (g : Group) (opening : ℕ) (is : List Item) (after : List ℕ) (r : Read (List Item)) → r ≡ Ok (is, 93 ∷ after)
    → (r >>= grouped g opening) ≡ Ok (group g (items_of is), after)
group_read g opening is after r e =
    let on : Read (List Item) → Read Item = λ s. s >>= grouped g opening in
    let put : Result (List ℕ) Fault → Read Item = λ c. c >>= λ rest. Ok (group g (items_of is), rest) in
    ap on e ∙ ap put (closes opening after)

optional_is_back : (depth : ℕ) (nested : Bool) (text rest : List ℕ) (is : List Item) → ListBack (item versions.Two depth true) is
    → IsBack (item versions.Two (suc depth) nested) nested text (group groups.Optional (items_of is), rest)
optional_is_back depth nested text rest is p =
    record {
      reads =
          λ after h. let t : List ℕ = text_of is ++ 93 ∷ 93 ∷ after in
          let opening : ℕ = length (codes "[optional [" ++ t) in
          ap (λ (x : List ℕ). item versions.Two (suc depth) nested (codes "[optional [" ++ x)) (append_assoc (text_of is) (93 ∷ 93 ∷ []) after)
          ∙ optional_opens depth nested t
          ∙ group_read groups.Optional opening is after (list_by (item versions.Two depth true) opening t) (p opening (93 ∷ after));
      apart = λ h. absurd (false≢true h);
      begins = λ h after. refl;
      on = λ after. and_false nested;
      some = omega arith;
    }

first_is_back : (depth : ℕ) (nested : Bool) (text rest : List ℕ) (is : List Item) → ChoiceBack (item versions.Two depth true) is
    → IsBack (item versions.Two (suc depth) nested) nested text (group groups.First (items_of is), rest)
first_is_back depth nested text rest is p =
    record {
      reads =
          λ after h. let c = p (93 ∷ after) (no_next after) in
          let opening : ℕ = length (codes "[first [" ++ c.0) in
          ap (λ (x : List ℕ). item versions.Two (suc depth) nested (codes "[first" ++ x))
          (append_assoc (lists_of is) (93 ∷ []) after ∙ c.1)
          ∙ first_opens depth nested c.0
          ∙ group_read groups.First opening is after
          (lists_by (list_by (item versions.Two depth true) opening) (suc (length c.0)) c.0) (c.2 opening);
      apart = λ h. absurd (false≢true h);
      begins = λ h after. refl;
      on = λ after. and_false nested;
      some = omega arith;
    }

abbrev pub IsNamed : Group → Type 0
IsNamed groups.Optional = Unit {0}
IsNamed groups.First = Unit {0}
IsNamed groups.List = ⊥

abbrev IsNamedWord : Group × List ℕ → Type 0
IsNamedWord x = IsNamed x.0

named_pick : (c d : Bool) → IfSome (if c then Some groups.Optional else (if d then Some groups.First else None)) IsNamed
named_pick true d = tt
named_pick false true = tt
named_pick false false = tt

word_pick : (b : Bool) (o : Option Group) (rest : List ℕ) → IfSome o IsNamed
    → IfSome (if b then option_map (λ g. (g, rest)) o else None) IsNamedWord
word_pick true (Some g) rest p = p
word_pick true None rest p = tt
word_pick false o rest p = tt

pub word_named : (text : List ℕ) → IfSome (group_word text) IsNamedWord
unfolding group_word
word_named [] = tt
word_named (b ∷ rest) =
    let named = drop (prefix_len is_space rest) rest in
    let len = prefix_len is_of_word named in
    let word = take len named in
    word_pick (b == 91) (group_named word) (drop len named)
    (named_pick (bytes_eq word (codes "optional")) (bytes_eq word (codes "first")))

module _ (depth : ℕ) (back : (text : List ℕ) → ends true text ≡ false
    → IfOk (item versions.Two depth true text) (IsBack (item versions.Two depth true) true text)) where
  closed_on : (R : Item × List ℕ → Type 0) (i : Item) (r : Result (List ℕ) Fault) → ((rest : List ℕ) → R (i, rest)) → IfOk (r >>= λ rest. Ok (i, rest)) R
  closed_on R i (Ok rest) h = h rest
  closed_on R i (Err e) h = tt

  inside_on : (R : Item × List ℕ → Type 0) (Q : List Item × List ℕ → Type 0) (g : Group) (opening : ℕ) (r : Read (List Item)) → IfOk r Q
      → ((x : List Item × List ℕ) (rest : List ℕ) → Q x → R (group g (items_of x.0), rest))
      → IfOk (r >>= λ x. closed opening x.1 >>= λ rest. Ok (group g (items_of x.0), rest)) R
  inside_on R Q g opening (Ok x) q h = closed_on R (group g (items_of x.0)) (closed opening x.1) (λ rest. h x rest q)
  inside_on R Q g opening (Err e) q h = tt

  inside_back : (nested : Bool) (text : List ℕ) (opening : ℕ) (g : Group) → IsNamed g → (inside : List ℕ)
      → IfOk (inside_by (list_by (item versions.Two depth true) opening) g inside
      >>= λ x. closed opening x.1 >>= λ rest. Ok (group g (items_of x.0), rest))
      (IsBack (item versions.Two (suc depth) nested) nested text)
  inside_back nested text opening groups.Optional named inside =
      let read = item versions.Two depth true in
      inside_on (IsBack (item versions.Two (suc depth) nested) nested text) (λ x. ListBack read x.0) groups.Optional opening
      (list_by read opening inside) (list_back read back opening inside) (λ x rest q. optional_is_back depth nested text rest x.0 q)
  inside_back nested text opening groups.First named inside =
      let read = item versions.Two depth true in
      inside_on (IsBack (item versions.Two (suc depth) nested) nested text) (λ x. ChoiceBack read x.0) groups.First opening
      (lists_by (list_by read opening) (suc (length inside)) inside) (choice_back read back opening (length inside) inside)
      (λ x rest q. first_is_back depth nested text rest x.0 q)
  inside_back nested text opening groups.List named inside = absurd named

  opened_on : (nested : Bool) (text : List ℕ) (opening : ℕ) (g : Group) → IsNamed g → (r : Result (List ℕ) Fault)
      → IfOk (r >>= λ inside. inside_by (list_by (item versions.Two depth true) opening) g inside
      >>= λ x. closed opening x.1 >>= λ rest. Ok (group g (items_of x.0), rest))
      (IsBack (item versions.Two (suc depth) nested) nested text)
  opened_on nested text opening g named (Ok inside) = inside_back nested text opening g named inside
  opened_on nested text opening g named (Err e) = tt

  group_back : (nested : Bool) (text : List ℕ) (opening : ℕ) (found : Group × List ℕ) → IsNamed found.0
      → IfOk (group_by (item versions.Two depth true) opening found) (IsBack (item versions.Two (suc depth) nested) nested text)
  unfolding group_by
  group_back nested text opening found named = opened_on nested text opening found.0 named (opened found.0 found.1)

pub item_pick : (R : Item × List ℕ → Type 0) (l : Read Item) (f : Group × List ℕ → Read Item) (o : Option (Group × List ℕ)) → IfOk l R
    → IfSome o IsNamedWord → ((x : Group × List ℕ) → IsNamed x.0 → IfOk (f x) R) → IfOk (by_option l f o) R
item_pick R l f None p q h = p
item_pick R l f (Some x) p q h = h x q

item_back : (depth : ℕ) (nested : Bool) (text : List ℕ) → ends nested text ≡ false
    → IfOk (item versions.Two depth nested text) (IsBack (item versions.Two depth nested) nested text)
unfolding item
item_back zero nested text e =
    item_pick (IsBack (item versions.Two zero nested) nested text) (leaf versions.Two nested text)
    (λ found. Err (fault.NotSupported unsupported.DeepList (length text))) (group_word text) (leaf_back zero nested text e)
    (word_named text) (λ x named. tt)
item_back (suc depth) nested text e =
    item_pick (IsBack (item versions.Two (suc depth) nested) nested text) (leaf versions.Two nested text)
    (group_by (item versions.Two depth true) (length text)) (group_word text) (leaf_back (suc depth) nested text e)
    (word_named text) (λ x named. group_back depth (item_back depth true) nested text (length text) x named)

-- the canonical text of what a text describes has an equal description
pub written_back : (text : List ℕ) (is : List Item) → description versions.Two text ≡ Ok (is, [])
    → description versions.Two (text_of is) ≡ Ok (is, [])
written_back text is e =
    let read = item versions.Two 8 false in
    let P : Read (List Item) → Type 0 = λ r. IfOk r (AreBack read false text) in
    let all : AreBack read false text (is, []) = subst P e (items_back read false (item_back 8 false) (length text) text) in
    ap (items_by read (length (text_of is)) false) (sym (append-nil (text_of is))) ∙ all.reads (length (text_of is)) [] (omega arith) refl
