-- A component that is parsed is one that a text can name: it skips at most 65535 bytes.
use Rattle.std.specs.Char.{is_ascii_digit}
use Rattle.std.specs.List.{prefix_len}
use Rattle.std.specs.Option.{option_map}
use Rattle.std.specs.Prelude.{◌==◌, ◌+◌, ◌*◌, ◌-◌, nat_lt, IfOk, IfSome, if◌then◌else◌}
use Rattle.std.proofs.Common.{◌≡◌, ℕ, zero, suc, ◌≤◌, List, [], ◌∷◌, take, drop, length, Bool, true, false, Option, Some, None, Result, Ok, Err, refl, arith, subst, length-append}
use Rattle.std.proofs.lemmas.Bool.{ltb-false}
use Rattle.time_components.specs.declared.format_description.Component.{Component}
use Rattle.time_components.specs.declared.format_description.Component.TheVariants as component
use Rattle.time_components.specs.declared.modifier.Ignore.{Ignore}
use Rattle.time_components.specs.declared.inspect.Group.{Group}
use Rattle.time_components.specs.declared.inspect.Group.TheVariants as groups
use Rattle.time_components.specs.declared.inspect.Step.{Step}
use Rattle.time_descriptions.specs.declared.error.Fault.{Fault}
use Rattle.time_descriptions.specs.declared.error.Fault.TheVariants as fault
use Rattle.time_descriptions.specs.declared.modifiers.Modifiers.{Modifiers}
use Rattle.time_descriptions.specs.declared.names.ComponentName.{ComponentName}
use Rattle.time_descriptions.specs.declared.names.ComponentName.TheVariants as name
use Rattle.time_descriptions.specs.declared.names.ModifierKey.{ModifierKey}
use Rattle.time_descriptions.specs.declared.names.ModifierKey.TheVariants as key
use Rattle.time_descriptions.specs.declared.values.Modifier.{Modifier}
use Rattle.time_descriptions.specs.declared.values.Modifier.TheVariants as made
use Rattle.time_descriptions.specs.declared.values.Representation.{Representation}
use Rattle.time_descriptions.specs.declared.values.Representation.TheVariants as form
use Rattle.time_descriptions.specs.declared.values.Precision.{Precision}
use Rattle.time_descriptions.specs.declared.values.Precision.TheVariants as precision
use Rattle.time_descriptions.specs.Components.{Read, ◌>>=◌, or_fault, after_component, bracketed, colon, modifier, modifiers}
use Rattle.time_descriptions.specs.Modifiers as chosen
use Rattle.time_descriptions.specs.Values.{component_names, modifier_keys, bases, bools, cases, digits, modifier_value, paddings, precisions, ranges, representations, signs, trailing_inputs, count_on, ignore_count, ignored, is_of_word, is_space, look_up}
use Rattle.time_descriptions.specs.declared.leaf.Version.{Version}
use Rattle.time_descriptions.specs.Grammar.{counted, group_step_count, inside_step_count, item_step_count, items_step_count, leaf_step_count, list_step_count, lists_step_count, steps_count, after_byte, before, by_option, closed, description, ends, group_by, group_word, inside_by, item, items_by, leaf, list_by, lists_by, next_list, opened}
use Rattle.time_descriptions.specs.Items.{Item, flat, group, items_of, steps_of}
use Rattle.time_descriptions.proofs.WrittenComponents.{Fits}

abbrev Skips : Ignore → Type 0
Skips i = i.count.value ≤ 65535

abbrev FitsModifier : Modifier → Type 0
FitsModifier (made.Count i) = Skips i
FitsModifier _ = Unit {0}

abbrev FitsAll : Modifiers → Type 0
FitsAll m = IfSome m.count Skips

ignored_fits : (n : ℕ) → n ≤ 65535 → IfSome (ignored n) Skips
ignored_fits zero h = tt
ignored_fits (suc n) h = h

digit_pick : (d l : Bool) (o : Option Ignore) → (l ≡ false → IfSome o Skips) → IfSome (if d then (if l then None else o) else None) Skips
digit_pick true true o h = tt
digit_pick true false o h = h refl
digit_pick false l o h = tt

count_fits : (n : ℕ) (bytes : List ℕ) → n ≤ 65535 → IfSome (count_on n bytes) Skips
count_fits n [] h = ignored_fits n h
count_fits n (b ∷ bytes) h =
    let next : ℕ = n * 10 + (b - 48) in
    digit_pick (is_ascii_digit b) (nat_lt 65535 next) (count_on next bytes) (λ e. count_fits next bytes (ltb-false 65535 next e))

mapped : {A B : Type 0} (P : A → Type 0) (Q : B → Type 0) (f : A → B) → ((x : A) → P x → Q (f x)) → (o : Option A) → IfSome o P → IfSome (option_map f o) Q
mapped P Q f h (Some x) p = h x p
mapped P Q f h None p = tt

free : {A : Type 0} (f : A → Modifier) → ((x : A) → FitsModifier (f x)) → (o : Option A) → IfSome (option_map f o) FitsModifier
free f h (Some x) = h x
free f h None = tt

value_fits : (n : ComponentName) (k : ModifierKey) (value : List ℕ) → IfSome (modifier_value n k value) FitsModifier
value_fits n key.Base value = free made.Base (λ x. tt) (look_up bases value)
value_fits n key.Case value = free made.Case (λ x. tt) (look_up cases value)
value_fits n key.CaseSensitive value = free made.CaseSensitive (λ x. tt) (look_up bools value)
value_fits n key.Count value = mapped Skips FitsModifier made.Count (λ x h. h) (ignore_count value) (count_fits 0 value (omega arith))
value_fits n key.Digits value = free made.Digits (λ x. tt) (look_up digits value)
value_fits n key.OneIndexed value = free made.OneIndexed (λ x. tt) (look_up bools value)
value_fits n key.Padding value = free made.Padding (λ x. tt) (look_up paddings value)
value_fits n key.Precision value = free made.Precision (λ x. tt) (look_up precisions value)
value_fits n key.Range value = free made.Range (λ x. tt) (look_up ranges value)
value_fits n key.Representation value = free made.Representation (λ x. tt) (look_up (representations n) value)
value_fits n key.Sign value = free made.Sign (λ x. tt) (look_up signs value)
value_fits n key.TrailingInput value = free made.TrailingInput (λ x. tt) (look_up trailing_inputs value)

value_pick : (o : Option Modifier) (f : Fault) → IfSome o FitsModifier → IfOk (or_fault f o) FitsModifier
value_pick (Some m) f p = p
value_pick None f p = tt

key_pick : (c : Bool) (e f : Fault) (g : Fault) (o : Option ModifierKey) (v : ModifierKey → Option Modifier) → ((k : ModifierKey) → IfSome (v k) FitsModifier)
    → IfOk (if c then Err e else (or_fault f o >>= λ k. or_fault g (v k))) FitsModifier
key_pick true e f g o v h = tt
key_pick false e f g None v h = tt
key_pick false e f g (Some k) v h = value_pick (v k) g (h k)

modifier_fits : (n : ComponentName) (text : List ℕ) (left : ℕ) → IfOk (modifier n text left) FitsModifier
unfolding modifier
modifier_fits n text left =
    let at = colon text in
    let value = drop (at + 1) text in
    key_pick (at == length text) (fault.InvalidModifier left (length text)) (fault.InvalidModifier left at)
    (fault.InvalidModifier (left - at - 1) (length value)) (look_up (modifier_keys n) (take at text)) (λ k. modifier_value n k value)
    (λ k. value_fits n k value)

with_fits : (m : Modifiers) (x : Modifier) → FitsAll m → FitsModifier x → FitsAll (chosen.with_modifier m x)
with_fits m (made.Count value) p q = q
with_fits m x p q = p

abbrev FitsRead : Modifiers × List ℕ → Type 0
FitsRead x = FitsAll x.0

modifiers_on : (c : Bool) (values : Modifiers) (begun : List ℕ) (r : Result Modifier Fault) (next : Modifier → Read Modifiers) → FitsAll values
    → IfOk r FitsModifier → ((x : Modifier) → FitsModifier x → IfOk (next x) FitsRead) → IfOk (if c then Ok (values, begun) else (r >>= next)) FitsRead
modifiers_on true values begun r next p q h = p
modifiers_on false values begun (Ok x) next p q h = h x q
modifiers_on false values begun (Err e) next p q h = tt

modifiers_fit : (n : ComponentName) (most : ℕ) (values : Modifiers) (text : List ℕ) → FitsAll values → IfOk (modifiers n most values text) FitsRead
unfolding modifiers
modifiers_fit n zero values text p = p
modifiers_fit n (suc most) values text p =
    let begun = drop (prefix_len is_space text) text in
    let len = prefix_len is_of_word begun in
    modifiers_on (len == 0) values begun (modifier n (take len begun) (length begun))
    (λ x. modifiers n most (chosen.with_modifier values x) (drop len begun)) p (modifier_fits n (take len begun) (length begun))
    (λ x q. modifiers_fit n most (chosen.with_modifier values x) (drop len begun) (with_fits values x p q))

full_year_fits : (b c : Bool) (m : Modifiers) → Fits (chosen.full_year b c m)
full_year_fits false false m = tt
full_year_fits true false m = tt
full_year_fits b c m = tt

century_fits : (b c : Bool) (m : Modifiers) → Fits (chosen.century b c m)
century_fits false false m = tt
century_fits true false m = tt
century_fits b c m = tt

last_two_fits : (b : Bool) (m : Modifiers) → Fits (chosen.last_two b m)
last_two_fits false m = tt
last_two_fits true m = tt

year_fits : (r : Representation) (m : Modifiers) → Fits (chosen.year_as r m)
year_fits form.Century m = century_fits m.is_iso_week m.is_extended m
year_fits form.LastTwo m = last_two_fits m.is_iso_week m
year_fits _ m = full_year_fits m.is_iso_week m.is_extended m

month_fits : (r : Representation) (m : Modifiers) → Fits (chosen.month_as r m)
month_fits form.Long m = tt
month_fits _ m = tt

weekday_fits : (r : Representation) (m : Modifiers) → Fits (chosen.weekday_as r m)
weekday_fits form.Short m = tt
weekday_fits _ m = tt

week_number_fits : (r : Representation) (m : Modifiers) → Fits (chosen.week_number_as r m)
week_number_fits form.Sunday m = tt
week_number_fits _ m = tt

hour_fits : (r : Representation) (m : Modifiers) → Fits (chosen.hour_as r m)
hour_fits form.Twelve m = tt
hour_fits _ m = tt

timestamp_fits : (p : Precision) (m : Modifiers) → Fits (chosen.unix_timestamp_as p m)
timestamp_fits precision.Second m = tt
timestamp_fits p m = tt

component_fits : (n : ComponentName) (m : Modifiers) → FitsAll m → IfSome (chosen.component_of n m) Fits
unfolding chosen.component_of
component_fits name.Hour m p = hour_fits m.representation m
component_fits name.Ignore m p = mapped Skips Fits component.Ignore (λ x h. h) m.count p
component_fits name.Month m p = month_fits m.representation m
component_fits name.UnixTimestamp m p = timestamp_fits m.precision m
component_fits name.Weekday m p = weekday_fits m.representation m
component_fits name.WeekNumber m p = week_number_fits m.representation m
component_fits name.Year m p = year_fits m.representation m
component_fits n m p = tt

abbrev pub Named : Component × List ℕ → Type 0
Named x = Fits x.0

made_of : (o : Option Component) (e : Fault) (rest : List ℕ) → IfSome o Fits → IfOk (or_fault e o >>= λ c. Ok (c, rest)) Named
made_of (Some c) e rest p = p
made_of None e rest p = tt

rest_of : (o : Option Component) (e : Fault) (r : Result (List ℕ) Fault) → IfSome o Fits
    → IfOk (r >>= λ rest. or_fault e o >>= λ c. Ok (c, rest)) Named
rest_of o e (Ok rest) p = made_of o e rest p
rest_of o e (Err f) p = tt

read_of : (n : ComponentName) (e : Fault) (opening : ℕ) (r : Read Modifiers) → IfOk r FitsRead
    → IfOk (r >>= λ read. after_component opening read.1 >>= λ rest. or_fault e (chosen.component_of n read.0) >>= λ c. Ok (c, rest)) Named
read_of n e opening (Ok x) p = rest_of (chosen.component_of n x.0) e (after_component opening x.1) (component_fits n x.0 p)
read_of n e opening (Err f) p = tt

named_of : (c : Bool) (e f g : Fault) (opening : ℕ) (o : Option ComponentName) (m : ComponentName → Read Modifiers)
    → ((n : ComponentName) → IfOk (m n) FitsRead)
    → IfOk (if c then Err e else (or_fault f o >>= λ n. m n >>= λ read. after_component opening read.1
    >>= λ rest. or_fault g (chosen.component_of n read.0) >>= λ c. Ok (c, rest))) Named
named_of true e f g opening o m h = tt
named_of false e f g opening None m h = tt
named_of false e f g opening (Some n) m h = read_of n g opening (m n) (h n)

-- the component of brackets skips at most 65535 bytes
pub bracketed_fits : (text : List ℕ) → IfOk (bracketed text) Named
unfolding bracketed
bracketed_fits text =
    let inside = drop 1 text in
    let space = prefix_len is_space inside in
    let named = drop space inside in
    let len = prefix_len is_of_word named in
    let rest = drop len named in
    named_of (len == 0) (fault.MissingComponentName (if space == 0 then length text else length inside))
    (fault.InvalidComponentName (length named) len) (fault.MissingCount (length named)) (length text) (look_up component_names (take len named))
    (λ n. modifiers n (suc (length rest)) chosen.default rest) (λ n. modifiers_fit n (suc (length rest)) chosen.default rest tt)

-- ---- If items are parsed, as many steps are started as the items have

-- what is read has n steps
abbrev Has : {A : Type 0} → (A → List Step) → Read A → ℕ → Type 0
Has steps read n = IfOk read (λ x. n ≡ length (steps x.0))

-- an item and then others
with_next : (i : Item) (n k : ℕ) (r : Read (List Item)) → n ≡ length (steps_of i) → Has flat r k → Has flat (before (i ∷ []) r) (n + k)
with_next i n k (Ok x) h t = omega (arith, h, t, length-append (steps_of i) (flat x.0))
with_next i n k (Err e) h t = tt

-- the items after an item that is read
then_items : (count : Item × List ℕ → ℕ) (next : Item × List ℕ → Read (List Item)) → ((x : Item × List ℕ) → Has flat (next x) (count x))
    → (n : ℕ) (r : Read Item) → Has steps_of r n → Has flat (r >>= λ x. before (x.0 ∷ []) (next x)) (n + counted count r)
then_items count next h n (Ok x) t = with_next x.0 n (count x) (next x) t (h x)
then_items count next h n (Err e) t = tt

at_end_or : (b : Bool) (text : List ℕ) (r : Read (List Item)) (n : ℕ) → Has flat r n
    → Has flat (if b then Ok ([], text) else r) (if b then 0 else n)
at_end_or true text r n h = refl
at_end_or false text r n h = h

-- what is read before its closing bracket
shut : {A : Type 0} (steps : A → List Step) (x : A) (n : ℕ) (r : Result (List ℕ) Fault) → n ≡ length (steps x)
    → Has steps (r >>= λ rest. Ok (x, rest)) n
shut steps x n (Ok rest) h = h
shut steps x n (Err e) h = tt

shut_list : (opening n : ℕ) (r : Read (List Item)) → Has flat r n
    → Has flat (r >>= λ x. after_byte 93 (fault.UnclosedOpeningBracket opening) x.1 >>= λ rest. Ok (x.0, rest)) n
shut_list opening n (Ok x) h = shut flat x.0 n (after_byte 93 (fault.UnclosedOpeningBracket opening) x.1) h
shut_list opening n (Err e) h = tt

-- the lists after a list, if one follows
next_lists : (made : Item) (n : ℕ) (text : List ℕ) (next : List ℕ → Read (List Item)) (count : List ℕ → ℕ)
    → ((inside : List ℕ) → Has flat (next inside) (count inside)) → n ≡ length (steps_of made) → (o : Option (List ℕ))
    → Has flat (by_option (Ok (made ∷ [], text)) (λ inside. before (made ∷ []) (next inside)) o) (n + by_option 0 count o)
next_lists made n text next count h m None = omega (arith, m, length-append (steps_of made) [])
next_lists made n text next count h m (Some inside) = with_next made n (count inside) (next inside) m (h inside)

then_lists : (next : List ℕ → Read (List Item)) (count : List ℕ → ℕ) → ((inside : List ℕ) → Has flat (next inside) (count inside))
    → (n : ℕ) (r : Read (List Item)) → Has flat r n
    → Has flat (r >>= λ x. by_option (Ok (group groups.List (items_of x.0) ∷ [], x.1))
    (λ inside. before (group groups.List (items_of x.0) ∷ []) (next inside)) (next_list x.1))
    (1 + n + counted (λ x. by_option 0 count (next_list x.1)) r)
then_lists next count h n (Ok x) t =
    next_lists (group groups.List (items_of x.0)) (1 + n) x.1 next count h (omega (arith, t)) (next_list x.1)
then_lists next count h n (Err e) t = tt

shut_group : (g : Group) (opening n : ℕ) (r : Read (List Item)) → Has flat r n
    → Has steps_of (r >>= λ x. closed opening x.1 >>= λ rest. Ok (group g (items_of x.0), rest)) (1 + n)
shut_group g opening n (Ok x) h = shut steps_of (group g (items_of x.0)) (1 + n) (closed opening x.1) (omega (arith, h))
shut_group g opening n (Err e) h = tt

opened_group : (g : Group) (opening : ℕ) (read : List ℕ → Read (List Item)) (count : List ℕ → ℕ)
    → ((text : List ℕ) → Has flat (read text) (count text)) → (r : Result (List ℕ) Fault)
    → Has steps_of (r >>= λ text. read text >>= λ x. closed opening x.1 >>= λ rest. Ok (group g (items_of x.0), rest))
    (counted (λ text. 1 + count text) r)
opened_group g opening read count h (Ok text) = shut_group g opening (count text) (read text) (h text)
opened_group g opening read count h (Err e) = tt

module _ (read : List ℕ → Read Item) (begun : List ℕ → ℕ) (has : (text : List ℕ) → Has steps_of (read text) (begun text)) where
  items_have : (n : ℕ) (nested : Bool) (text : List ℕ) → Has flat (items_by read n nested text) (items_step_count read begun n nested text)
  unfolding items_by items_step_count
  items_have zero nested text = refl
  items_have (suc n) nested text =
      at_end_or (ends nested text) text (read text >>= λ x. before (x.0 ∷ []) (items_by read n nested x.1))
      (begun text + counted (λ x. items_step_count read begun n nested x.1) (read text))
      (then_items (λ x. items_step_count read begun n nested x.1) (λ x. items_by read n nested x.1) (λ x. items_have n nested x.1) (begun text) (read text)
      (has text))

  list_has : (opening : ℕ) (text : List ℕ) → Has flat (list_by read opening text) (list_step_count read begun text)
  list_has opening text = shut_list opening (list_step_count read begun text) (items_by read (length text) true text) (items_have (length text) true text)

  lists_have : (opening n : ℕ) (text : List ℕ) → Has flat (lists_by (list_by read opening) n text) (lists_step_count read begun opening n text)
  unfolding lists_by lists_step_count
  lists_have opening zero text = refl
  lists_have opening (suc n) text =
      then_lists (lists_by (list_by read opening) n) (lists_step_count read begun opening n) (lists_have opening n) (list_step_count read begun text)
      (list_by read opening text) (list_has opening text)

  inside_has : (opening : ℕ) (g : Group) (text : List ℕ) → Has flat (inside_by (list_by read opening) g text) (inside_step_count read begun opening g text)
  inside_has opening groups.Optional text = list_has opening text
  inside_has opening groups.First text = lists_have opening (suc (length text)) text
  inside_has opening groups.List text = lists_have opening (suc (length text)) text

  group_has : (opening : ℕ) (found : Group × List ℕ) → Has steps_of (group_by read opening found) (group_step_count read begun opening found)
  unfolding group_by group_step_count
  group_has opening found =
      opened_group found.0 opening (inside_by (list_by read opening) found.0) (inside_step_count read begun opening found.0) (inside_has opening found.0)
      (opened found.0 found.1)

leaf_has : (r : Read Item) → Has steps_of r (counted (λ x. length (steps_of x.0)) r)
leaf_has (Ok x) = refl
leaf_has (Err e) = tt

word_has : (m : Read Item) (n : ℕ) (f : Group × List ℕ → Read Item) (k : Group × List ℕ → ℕ) → Has steps_of m n
    → ((x : Group × List ℕ) → Has steps_of (f x) (k x)) → (o : Option (Group × List ℕ)) → Has steps_of (by_option m f o) (by_option n k o)
word_has m n f k h t None = h
word_has m n f k h t (Some x) = t x

item_has : (version : Version) (depth : ℕ) (nested : Bool) (text : List ℕ)
    → Has steps_of (item version depth nested text) (item_step_count version depth nested text)
unfolding item item_step_count
item_has version zero nested text =
    word_has (leaf version nested text) (leaf_step_count version nested text) _ (λ found. 0) (leaf_has (leaf version nested text)) (λ x. tt) (group_word text)
item_has version (suc depth) nested text =
    word_has (leaf version nested text) (leaf_step_count version nested text) (group_by (item version depth true) (length text))
    (group_step_count (item version depth true) (item_step_count version depth true) (length text)) (leaf_has (leaf version nested text))
    (group_has (item version depth true) (item_step_count version depth true) (item_has version depth true) (length text)) (group_word text)

pub steps_of_read : (version : Version) (text : List ℕ) (is : List Item) → description version text ≡ Ok (is, [])
    → steps_count version text ≡ length (flat is)
steps_of_read version text is e =
    subst (λ (r : Read (List Item)). Has flat r (steps_count version text)) e
    (items_have (item version 8 false) (item_step_count version 8 false) (item_has version 8 false) (length text) false text)
