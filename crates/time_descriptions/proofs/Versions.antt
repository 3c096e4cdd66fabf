-- Versions 1 and 2 parse a text without escapes alike.
use Rattle.std.proofs.Common.{◌≡◌, ℕ, zero, suc, List, [], ◌∷◌, ◌++◌, take, drop, length, Bool, true, false, Option, Some, None, Result, Ok, Err, refl, ap, subst}
use Rattle.std.proofs.lemmas.Bool.{and_parts, not-true, true≢false}
use Rattle.std.specs.List.{prefix_len}
use Rattle.std.specs.Option.{option_map}
use Rattle.std.specs.Prelude.{◌==◌, ◌&&◌, IfOk, IfSome, if◌then◌else◌}
use Rattle.time_components.specs.declared.format_description.Component.{Component}
use Rattle.time_components.specs.declared.inspect.Group.{Group}
use Rattle.time_components.specs.declared.inspect.Group.TheVariants as groups
use Rattle.time_descriptions.specs.declared.error.Expectation.TheVariants as expected
use Rattle.time_descriptions.specs.declared.error.Fault.{Fault}
use Rattle.time_descriptions.specs.declared.error.Fault.TheVariants as fault
use Rattle.time_descriptions.specs.declared.error.Unsupported.TheVariants as unsupported
use Rattle.time_descriptions.specs.declared.modifiers.Modifiers.{Modifiers}
use Rattle.time_descriptions.specs.declared.names.ComponentName.{ComponentName}
use Rattle.time_descriptions.specs.declared.values.Modifier.{Modifier}
use Rattle.time_descriptions.specs.declared.leaf.Version.TheVariants as versions
use Rattle.time_descriptions.specs.Components.{Read, ◌>>=◌, or_fault, after_component, bracketed, modifier, modifiers}
use Rattle.time_descriptions.specs.Grammar.{after_byte, before, begins_with, by_option, closed, description, ends, escaped, group_by, group_named, group_word, inside_by, is_plain, item, items_by, leaf, list_by, lists_by, next_list, opened, space_after, tail_after}
use Rattle.time_descriptions.specs.Items.{Item, component, group, items_of, literal}
use Rattle.time_descriptions.specs.Description.{has_no_escape}
use Rattle.time_descriptions.specs.Modifiers as chosen
use Rattle.time_descriptions.specs.Values.{component_names, is_of_word, is_space, look_up}

abbrev pub Bare : List ℕ → Type 0
Bare text = has_no_escape text ≡ true

-- the rest after what is read has no escapes
abbrev pub Leaves : {A : Type 0} → A × List ℕ → Type 0
Leaves x = Bare x.1

-- both results are equal, and their value has the property
abbrev pub Same : {A : Type 0} → (A → Type 0) → Result A Fault → Result A Fault → Type 0
Same Q one two = (one ≡ two) × IfOk one Q

bare_rest : (b : ℕ) (rest : List ℕ) → Bare (b ∷ rest) → Bare rest
unfolding has_no_escape
bare_rest b rest p = (and_parts _ _ p).1

no_backslash : (b : ℕ) (rest : List ℕ) → Bare (b ∷ rest) → (b == 92) ≡ false
unfolding has_no_escape
no_backslash b rest p = not-true _ (and_parts _ _ (and_parts _ _ p).0).0

no_brackets : (b : ℕ) (rest : List ℕ) → Bare (b ∷ rest) → (b == 91 && begins_with 91 rest) ≡ false
unfolding has_no_escape
no_brackets b rest p = not-true _ (and_parts _ _ (and_parts _ _ p).0).1

bare_drop : (n : ℕ) (text : List ℕ) → Bare text → Bare (drop n text)
bare_drop zero text p = p
bare_drop (suc n) [] p = p
bare_drop (suc n) (b ∷ rest) p = bare_drop n rest (bare_rest b rest p)

-- The rest after a component's brackets has no escapes.

after_pick : (c d : Bool) (e f : Fault) (rest : List ℕ) → Bare rest → IfOk (if c then Ok rest else (if d then Err e else Err f)) Bare
after_pick true d e f rest p = p
after_pick false true e f rest p = tt
after_pick false false e f rest p = tt

after_bare : (opening : ℕ) (text : List ℕ) → Bare text → IfOk (after_component opening text) Bare
after_bare opening [] p = tt
after_bare opening (b ∷ rest) p =
    after_pick (b == 93) (b == 91) (fault.Expected expected.Modifier (length (b ∷ rest))) (fault.UnclosedOpeningBracket opening) rest
    (bare_rest b rest p)

modifiers_on : (c : Bool) (values : Modifiers) (begun : List ℕ) (r : Result Modifier Fault) (next : Modifier → Read Modifiers) → Bare begun
    → ((made : Modifier) → IfOk (next made) Leaves) → IfOk (if c then Ok (values, begun) else (r >>= next)) Leaves
modifiers_on true values begun r next p h = p
modifiers_on false values begun (Ok made) next p h = h made
modifiers_on false values begun (Err e) next p h = tt

modifiers_bare : (name : ComponentName) (n : ℕ) (values : Modifiers) (text : List ℕ) → Bare text → IfOk (modifiers name n values text) Leaves
unfolding modifiers
modifiers_bare name zero values text p = p
modifiers_bare name (suc n) values text p =
    let begun = drop (prefix_len is_space text) text in
    let len = prefix_len is_of_word begun in
    let b : Bare begun = bare_drop (prefix_len is_space text) text p in
    modifiers_on (len == 0) values begun (modifier name (take len begun) (length begun))
    (λ made. modifiers name n (chosen.with_modifier values made) (drop len begun)) b
    (λ made. modifiers_bare name n (chosen.with_modifier values made) (drop len begun) (bare_drop len begun b))

made_of : (o : Option Component) (e : Fault) (rest : List ℕ) → Bare rest → IfOk (or_fault e o >>= λ c. Ok (c, rest)) Leaves
made_of (Some c) e rest p = p
made_of None e rest p = tt

rest_of : (o : Option Component) (e : Fault) (r : Result (List ℕ) Fault) → IfOk r Bare
    → IfOk (r >>= λ rest. or_fault e o >>= λ c. Ok (c, rest)) Leaves
rest_of o e (Ok rest) p = made_of o e rest p
rest_of o e (Err f) p = tt

read_of : (name : ComponentName) (e : Fault) (opening : ℕ) (r : Read Modifiers) → IfOk r Leaves
    → IfOk (r >>= λ read. after_component opening read.1 >>= λ rest. or_fault e (chosen.component_of name read.0) >>= λ c. Ok (c, rest)) Leaves
read_of name e opening (Ok x) p = rest_of (chosen.component_of name x.0) e (after_component opening x.1) (after_bare opening x.1 p)
read_of name e opening (Err f) p = tt

named_of : (c : Bool) (e f g : Fault) (opening : ℕ) (o : Option ComponentName) (m : ComponentName → Read Modifiers)
    → ((name : ComponentName) → IfOk (m name) Leaves)
    → IfOk (if c then Err e else (or_fault f o >>= λ name. m name >>= λ read. after_component opening read.1
    >>= λ rest. or_fault g (chosen.component_of name read.0) >>= λ c. Ok (c, rest))) Leaves
named_of true e f g opening o m h = tt
named_of false e f g opening None m h = tt
named_of false e f g opening (Some name) m h = read_of name g opening (m name) (h name)

bracketed_bare : (text : List ℕ) → Bare text → IfOk (bracketed text) Leaves
unfolding bracketed
bracketed_bare text p =
    let inside = drop 1 text in
    let space = prefix_len is_space inside in
    let named = drop space inside in
    let len = prefix_len is_of_word named in
    let rest = drop len named in
    let b : Bare rest = bare_drop len named (bare_drop space inside (bare_drop 1 text p)) in
    named_of (len == 0) (fault.MissingComponentName (if space == 0 then length text else length inside))
    (fault.InvalidComponentName (length named) len) (fault.MissingCount (length named)) (length text) (look_up component_names (take len named))
    (λ name. modifiers name (suc (length rest)) chosen.default rest)
    (λ name. modifiers_bare name (suc (length rest)) chosen.default rest b)

component_bare : (r : Read Component) → IfOk r Leaves → IfOk (r >>= λ x. Ok (component x.0, x.1)) Leaves
component_bare (Ok x) p = p
component_bare (Err e) p = tt

plain_len : (nested : Bool) (text : List ℕ) → Bare text → prefix_len (is_plain versions.One nested) text ≡ prefix_len (is_plain versions.Two nested) text
plain_len nested [] p = refl
plain_len nested (b ∷ rest) p =
    let e = no_backslash b rest p in
    let l = plain_len nested rest (bare_rest b rest p) in
    rw (e, l) refl

pick : {A : Type 0} (R : A → Type 0) (x y z : Bool) (a b c d e : Result A Fault) → (x && y) ≡ false → z ≡ false → d ≡ e
    → IfOk b R → IfOk d R → Same R (if x then (if y then a else b) else d) (if x then b else (if z then c else e))
pick R true true z a b c d e h f s p q = absurd (true≢false h)
pick R true false z a b c d e h f s p q = (refl, p)
pick R false y true a b c d e h f s p q = absurd (true≢false f)
pick R false y false a b c d e h f s p q = (s, q)

pub same_leaf : (nested : Bool) (text : List ℕ) → Bare text → Same Leaves (leaf versions.One nested text) (leaf versions.Two nested text)
unfolding leaf
same_leaf nested [] p = (refl, tt)
same_leaf nested (b ∷ rest) p =
    let run : ℕ → Read Item = λ (n : ℕ). Ok (literal b (take n rest), drop n rest) in
    let one : ℕ = prefix_len (is_plain versions.One nested) rest in
    let two : ℕ = prefix_len (is_plain versions.Two nested) rest in
    pick Leaves (b == 91) (begins_with 91 rest) (b == 92) (Ok (literal 91 [], drop 1 rest))
    (bracketed (b ∷ rest) >>= λ x. Ok (component x.0, x.1)) (escaped rest) (run one) (run two)
    (no_brackets b rest p) (no_backslash b rest p) (ap run (plain_len nested rest (bare_rest b rest p)))
    (component_bare (bracketed (b ∷ rest)) (bracketed_bare (b ∷ rest) p)) (bare_drop one rest (bare_rest b rest p))

-- Both parsers of an item agree, and so do those of the syntax around items.

bound : {A B : Type 0} (Q : A → Type 0) (R : B → Type 0) (f g : A → Result B Fault) → ((x : A) → Q x → Same R (f x) (g x))
    → (r : Result A Fault) → IfOk r Q → Same R (r >>= f) (r >>= g)
bound Q R f g h (Ok x) q = h x q
bound Q R f g h (Err e) q = (refl, tt)

same_bind : {A B : Type 0} (Q : A → Type 0) (R : B → Type 0) (f g : A → Result B Fault) → ((x : A) → Q x → Same R (f x) (g x))
    → (one two : Result A Fault) → Same Q one two → Same R (one >>= f) (two >>= g)
same_bind {A} {B} Q R f g h one two s =
    let P : Result A Fault → Type 0 = λ r. Same R (one >>= f) (r >>= g) in
    subst P s.0 (bound Q R f g h one s.1)

same_option : {A B : Type 0} (Q : A → Type 0) (R : B → Type 0) (f g : A → Result B Fault) → ((x : A) → Q x → Same R (f x) (g x))
    → (o : Option A) (m n : Result B Fault) → IfSome o Q → Same R m n → Same R (by_option m f o) (by_option n g o)
same_option Q R f g h None m n q s = s
same_option Q R f g h (Some x) m n q s = h x q

same_branch : {A : Type 0} (R : A → Type 0) (b : Bool) (x y v w : Result A Fault) → Same R x v → Same R y w
    → Same R (if b then x else y) (if b then v else w)
same_branch R true x y v w s t = s
same_branch R false x y v w s t = t

same_before : (front : List Item) (one two : Read (List Item)) → Same Leaves one two → Same Leaves (before front one) (before front two)
same_before front =
    let add : List Item × List ℕ → Read (List Item) = λ x. Ok (front ++ x.0, x.1) in
    same_bind Leaves Leaves add add (λ x k. (refl, k))

byte_pick : (c : Bool) (e : Fault) (rest : List ℕ) → Bare rest → IfOk (if c then Ok rest else Err e) Bare
byte_pick true e rest p = p
byte_pick false e rest p = tt

byte_bare : (byte : ℕ) (e : Fault) (text : List ℕ) → Bare text → IfOk (after_byte byte e text) Bare
byte_bare byte e [] p = tt
byte_bare byte e (b ∷ rest) p = byte_pick (b == byte) e rest (bare_rest b rest p)

tail_pick : (c : Bool) (rest : List ℕ) → Bare rest → IfSome (if c then Some rest else None) Bare
tail_pick true rest p = p
tail_pick false rest p = tt

tail_bare : (byte : ℕ) (text : List ℕ) → Bare text → IfSome (tail_after byte text) Bare
tail_bare byte [] p = tt
tail_bare byte (b ∷ rest) p = tail_pick (b == byte) rest (bare_rest b rest p)

opened_pick : (c : Bool) (e : Fault) (r : Result (List ℕ) Fault) → IfOk r Bare → IfOk (if c then Err e else r) Bare
opened_pick true e r p = tt
opened_pick false e r p = p

pub opened_bare : (g : Group) (text : List ℕ) → Bare text → IfOk (opened g text) Bare
unfolding opened
opened_bare g text p =
    let space = prefix_len is_space text in
    let e = fault.Expected expected.OpeningBracket (length (drop space text)) in
    opened_pick (space == 0) (fault.Expected (space_after g) (length text)) (after_byte 91 e (drop space text))
    (byte_bare 91 e (drop space text) (bare_drop space text p))

closed_bare : (opening : ℕ) (text : List ℕ) → Bare text → IfOk (closed opening text) Bare
unfolding closed
closed_bare opening text p =
    byte_bare 93 (fault.UnclosedOpeningBracket opening) (drop (prefix_len is_space text) text) (bare_drop (prefix_len is_space text) text p)

pub next_bare : (text : List ℕ) → Bare text → IfSome (next_list text) Bare
unfolding next_list
next_bare text p = tail_bare 91 (drop (prefix_len is_space text) text) (bare_drop (prefix_len is_space text) text p)

abbrev pub Follows : Group × List ℕ → Type 0
Follows x = Bare x.1

word_pick : (b : Bool) (o : Option Group) (rest : List ℕ) → Bare rest
    → IfSome (if b then option_map (λ g. (g, rest)) o else None) Follows
word_pick true (Some g) rest p = p
word_pick true None rest p = tt
word_pick false o rest p = tt

pub word_bare : (text : List ℕ) → Bare text → IfSome (group_word text) Follows
unfolding group_word
word_bare [] p = tt
word_bare (b ∷ rest) p =
    let named = drop (prefix_len is_space rest) rest in
    let len = prefix_len is_of_word named in
    word_pick (b == 91) (group_named (take len named)) (drop len named)
    (bare_drop len named (bare_drop (prefix_len is_space rest) rest (bare_rest b rest p)))

module _ (one two : List ℕ → Read Item) (same : (text : List ℕ) → Bare text → Same Leaves (one text) (two text)) where
  pub same_items : (n : ℕ) (nested : Bool) (text : List ℕ) → Bare text → Same Leaves (items_by one n nested text) (items_by two n nested text)
  unfolding items_by
  same_items zero nested text p = (refl, p)
  same_items (suc n) nested text p =
      let on : (List ℕ → Read Item) → Item × List ℕ → Read (List Item) = λ read x. before (x.0 ∷ []) (items_by read n nested x.1) in
      same_branch Leaves (ends nested text) (Ok ([], text)) (one text >>= on one) (Ok ([], text)) (two text >>= on two) (refl, p)
      (same_bind Leaves Leaves (on one) (on two)
      (λ x k. same_before (x.0 ∷ []) (items_by one n nested x.1) (items_by two n nested x.1) (same_items n nested x.1 k))
      (one text) (two text) (same text p))

  pub same_list : (opening : ℕ) (text : List ℕ) → Bare text → Same Leaves (list_by one opening text) (list_by two opening text)
  same_list opening text p =
      let put : List Item → List ℕ → Read (List Item) = λ is rest. Ok (is, rest) in
      let shut : List ℕ → Result (List ℕ) Fault = after_byte 93 (fault.UnclosedOpeningBracket opening) in
      let on : List Item × List ℕ → Read (List Item) = λ x. shut x.1 >>= put x.0 in
      same_bind Leaves Leaves on on
      (λ x k. bound Bare Leaves (put x.0) (put x.0) (λ rest r. (refl, r)) (shut x.1) (byte_bare 93 (fault.UnclosedOpeningBracket opening) x.1 k))
      (items_by one (length text) true text) (items_by two (length text) true text) (same_items (length text) true text p)

  same_lists : (opening n : ℕ) (text : List ℕ) → Bare text
      → Same Leaves (lists_by (list_by one opening) n text) (lists_by (list_by two opening) n text)
  unfolding lists_by
  same_lists opening zero text p = (refl, p)
  same_lists opening (suc n) text p =
      let made : List Item → List Item = λ is. group groups.List (items_of is) ∷ [] in
      let next : (List ℕ → Read Item) → List Item → List ℕ → Read (List Item) = λ read is inside. before (made is) (lists_by (list_by read opening) n inside) in
      let on : (List ℕ → Read Item) → List Item × List ℕ → Read (List Item) = λ read x. by_option (Ok (made x.0, x.1)) (next read x.0) (next_list x.1) in
      same_bind Leaves Leaves (on one) (on two)
      (λ x k. same_option Bare Leaves (next one x.0) (next two x.0)
      (λ inside r. same_before (made x.0) (lists_by (list_by one opening) n inside) (lists_by (list_by two opening) n inside) (same_lists opening n inside r))
      (next_list x.1) (Ok (made x.0, x.1)) (Ok (made x.0, x.1)) (next_bare x.1 k) (refl, k))
      (list_by one opening text) (list_by two opening text) (same_list opening text p)

  same_inside : (opening : ℕ) (g : Group) (text : List ℕ) → Bare text
      → Same Leaves (inside_by (list_by one opening) g text) (inside_by (list_by two opening) g text)
  same_inside opening groups.Optional text p = same_list opening text p
  same_inside opening groups.First text p = same_lists opening (suc (length text)) text p
  same_inside opening groups.List text p = same_lists opening (suc (length text)) text p

  same_group : (opening : ℕ) (found : Group × List ℕ) → Bare found.1 → Same Leaves (group_by one opening found) (group_by two opening found)
  unfolding group_by
  same_group opening found p =
      let put : List Item → List ℕ → Read Item = λ is rest. Ok (group found.0 (items_of is), rest) in
      let shut : List Item × List ℕ → Read Item = λ x. closed opening x.1 >>= put x.0 in
      let on : (List ℕ → Read Item) → List ℕ → Read Item = λ read text. inside_by (list_by read opening) found.0 text >>= shut in
      bound Bare Leaves (on one) (on two)
      (λ text k. same_bind Leaves Leaves shut shut
      (λ x r. bound Bare Leaves (put x.0) (put x.0) (λ rest s. (refl, s)) (closed opening x.1) (closed_bare opening x.1 r))
      (inside_by (list_by one opening) found.0 text) (inside_by (list_by two opening) found.0 text) (same_inside opening found.0 text k))
      (opened found.0 found.1) (opened_bare found.0 found.1 p)

pub same_item : (depth : ℕ) (nested : Bool) (text : List ℕ) → Bare text
    → Same Leaves (item versions.One depth nested text) (item versions.Two depth nested text)
unfolding item
same_item zero nested text p =
    let deep : Group × List ℕ → Read Item = λ found. Err (fault.NotSupported unsupported.DeepList (length text)) in
    same_option Follows Leaves deep deep (λ x k. (refl, tt)) (group_word text) (leaf versions.One nested text) (leaf versions.Two nested text)
    (word_bare text p) (same_leaf nested text p)
same_item (suc depth) nested text p =
    same_option Follows Leaves (group_by (item versions.One depth true) (length text)) (group_by (item versions.Two depth true) (length text))
    (same_group (item versions.One depth true) (item versions.Two depth true) (same_item depth true) (length text)) (group_word text)
    (leaf versions.One nested text) (leaf versions.Two nested text) (word_bare text p) (same_leaf nested text p)

-- both versions parse a text without escapes alike
pub alike : (text : List ℕ) → has_no_escape text ≡ true → description versions.One text ≡ description versions.Two text
alike text p = (same_items (item versions.One 8 false) (item versions.Two 8 false) (same_item 8 false) (length text) false text p).0
