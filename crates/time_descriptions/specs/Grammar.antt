-- The grammar of descriptions. Bytes are read from the left, and the first fault counts.
--     description = { item }                                to the end of the text
--     list        = "[" , { item } , "]"
--     item        = literal | escape | component | optional | first
--     literal     = plain , { plain }                       as many as there are
--     plain       = any byte but "[", in version 2 but "\", and inside a list but "]"
--     escape      = "[[" in version 1, for "[" | "\" , ( "[" | "]" | "\" ) in version 2, for that byte
--     optional    = "[" , [ space ] , "optional" , space , list , [ space ] , "]"
--     first       = "[" , [ space ] , "first" , space , list , { [ space ] , list } , [ space ] , "]"
use Rattle.std.specs.Prelude.{◌≡◌, ℕ, zero, suc, List, [], ◌∷◌, ◌++◌, Bool, true, false, not, ◌&&◌, ◌||◌, ◌==◌, length, take, drop, codes, Option, Some, None, Result, Ok, Err, if◌then◌else◌, ◌+◌, ◌<◌, ◌≤◌, map}
use Rattle.std.specs.List.{prefix_len}
use Rattle.std.specs.Option.{option_map}
use Rattle.std.specs.Str.{bytes_eq}
use Rattle.std.specs.Borrow.{Bor}
use Rattle.time_components.specs.Tree.{Tree, sequence, owned_shape}
use Rattle.time_components.specs.declared.inspect.Group.{Group}
use Rattle.time_components.specs.declared.inspect.Group.TheVariants as groups
use Rattle.time_components.specs.declared.format_description.OwnedFormatItem.{OwnedFormatItem}
use Rattle.time_descriptions.specs.declared.error.Fault.{Fault}
use Rattle.time_descriptions.specs.declared.error.Fault.TheVariants as fault
use Rattle.time_descriptions.specs.declared.error.Expectation.{Expectation}
use Rattle.time_descriptions.specs.declared.error.Expectation.TheVariants as expected
use Rattle.time_descriptions.specs.declared.error.Unsupported.TheVariants as unsupported
use Rattle.time_descriptions.specs.declared.leaf.Version.{Version}
use Rattle.time_descriptions.specs.declared.leaf.Version.TheVariants as versions
use Rattle.time_descriptions.specs.Components.{Read, ◌>>=◌, bracketed}
use Rattle.time_descriptions.specs.Items.{Item, literal, component, group, items_of, trees_of, steps_of, tree_of}
use Rattle.time_descriptions.specs.Values.{is_space, is_of_word}
use Rattle.time_descriptions.specs.declared.owned.OwnedError.{OwnedError}
use Rattle.time_descriptions.specs.declared.owned.OwnedError.TheVariants as error
use Rattle.time_descriptions.specs.declared.owned.Unread.{Unread}
use Rattle.time_descriptions.specs.declared.owned.Unread.TheVariants as unread
use Rattle.time_descriptions.specs.Refusal.{refusal_at, refusal_of, refusal_text}

-- whether a backslash escapes the next byte: in version 2
abbrev pub has_backslash : Version → Bool
has_backslash versions.One = false
has_backslash versions.Two = true

-- whether the items end here: with the text or, inside a list, before its closing bracket
abbrev pub ends : Bool → List ℕ → Bool
ends nested [] = true
ends nested (b ∷ rest) = nested && b == 93

-- whether the byte is plain: it isn't `[`, in version 2 not `\`, and inside a list, which `nested` means, not `]`
abbrev pub is_plain : Version → Bool → ℕ → Bool
is_plain version nested b = not (b == 91) && not (has_backslash version && b == 92) && not (nested && b == 93)

-- the text after that byte at its start, or the fault if the text is empty or begins with another byte
abbrev pub after_byte : ℕ → Fault → List ℕ → Result (List ℕ) Fault
after_byte byte e [] = Err e
after_byte byte e (b ∷ rest) = if b == byte then Ok rest else Err e

-- whether the text begins with the byte; an empty text doesn't
abbrev pub begins_with : ℕ → List ℕ → Bool
begins_with byte [] = false
begins_with byte (b ∷ rest) = b == byte

-- the text after that byte at its start, or `None` if the text is empty or begins with another byte
abbrev pub tail_after : ℕ → List ℕ → Option (List ℕ)
tail_after byte [] = None
tail_after byte (b ∷ rest) = if b == byte then Some rest else None

-- the first argument for `None`, and the function of the value for `Some`
abbrev pub by_option : {A B : Type 0} → B → (A → B) → Option A → B
by_option without with_it None = without
by_option without with_it (Some x) = with_it x

-- the bracket or the backslash at the start of a text after a backslash, as a literal of this byte; another byte or the
-- end of the text is a fault there
abbrev pub escaped : List ℕ → Read Item
escaped [] = Err (fault.Expected expected.EscapedByte 0)
escaped (b ∷ rest) =
    if (b == 91 || b == 92 || b == 93) then Ok (literal b [], rest)
    else Err (fault.Expected expected.EscapedByte (length (b ∷ rest)))

-- literal, escape or component at the start of the text, inside a list if `nested`, and the text after it; an empty
-- text is a fault, and a `]` at the start is literal, since a list's items end before the `]` that closes the list
unfoldable pub leaf : Version → Bool → List ℕ → Read Item
leaf version nested [] = Err (fault.MissingComponentName 0)
leaf version nested (b ∷ rest) =
    if b == 91
    then (if (not (has_backslash version) && begins_with 91 rest) then Ok (literal 91 [], drop 1 rest)
    else (bracketed (b ∷ rest) >>= λ x. Ok (component x.0, x.1)))
    else (if (has_backslash version && b == 92) then escaped rest
    else (let len = prefix_len (is_plain version nested) rest in Ok (literal b (take len rest), drop len rest)))

-- the group that a word opens: lowercase `optional` or `first`, or else `None`
abbrev pub group_named : List ℕ → Option Group
group_named word =
    if bytes_eq word (codes "optional") then Some groups.Optional
    else (if bytes_eq word (codes "first") then Some groups.First else None)

-- "[" , [ space ] , ( "optional" | "first" ): the group, and the text after the word; `None` if the text begins with
-- anything else
unfoldable pub group_word : List ℕ → Option (Group × List ℕ)
group_word [] = None
group_word (b ∷ rest) =
    let named = drop (prefix_len is_space rest) rest in
    let len = prefix_len is_of_word named in
    if b == 91 then option_map (λ g. (g, drop len named)) (group_named (take len named)) else None

-- what is expected after the group's word if no white space follows it: white space after `optional`, or after `first`
abbrev pub space_after : Group → Expectation
space_after groups.Optional = expected.SpaceAfterOptional
space_after _ = expected.SpaceAfterFirst

-- space , "[": all text after the opening bracket of a group's first list, given the text after the group's word; a
-- fault without white space or without the bracket
unfoldable pub opened : Group → List ℕ → Result (List ℕ) Fault
opened g text =
    let space = prefix_len is_space text in
    if space == 0 then Err (fault.Expected (space_after g) (length text))
    else after_byte 91 (fault.Expected expected.OpeningBracket (length (drop space text))) (drop space text)

-- [ space ] , "]": the text after a group, given the text after its last list; without the bracket, the fault is at the
-- group's opening bracket, from which `opening` counts the bytes to the end of the whole text
unfoldable pub closed : ℕ → List ℕ → Result (List ℕ) Fault
closed opening text = after_byte 93 (fault.UnclosedOpeningBracket opening) (drop (prefix_len is_space text) text)

-- the given items, followed by those that are read, and the text after them; or the fault
abbrev pub before : List Item → Read (List Item) → Read (List Item)
before front read = read >>= λ x. Ok (front ++ x.0, x.1)

-- { item }, with at most n items, by a parser of an item: the items up to the end of the text or, if `nested`, up to a
-- closing bracket, which the remaining text begins with; each item consumes at least one byte, so n can be the number
-- of bytes
unfoldable pub items_by : (List ℕ → Read Item) → ℕ → Bool → List ℕ → Read (List Item)
items_by item zero nested text = Ok ([], text)
items_by item (suc n) nested text =
    if ends nested text then Ok ([], text)
    else (item text >>= λ x. before (x.0 ∷ []) (items_by item n nested x.1))

-- { item } , "]", by a parser of an item, given the text after a list's opening bracket: the items, and the text after
-- the closing bracket; without that bracket, the fault is at the group's opening bracket, from which `opening` counts
-- the bytes to the end of the whole text
abbrev pub list_by : (List ℕ → Read Item) → ℕ → List ℕ → Read (List Item)
list_by item opening text =
    items_by item (length text) true text
    >>= λ x. after_byte 93 (fault.UnclosedOpeningBracket opening) x.1
    >>= λ rest. Ok (x.0, rest)

-- [ space ] , "[": all text after the opening bracket of the next list, or `None` if no such bracket follows
unfoldable pub next_list : List ℕ → Option (List ℕ)
next_list text = tail_after 91 (drop (prefix_len is_space text) text)

-- { item } , "]" , { [ space ] , list }, with at most n lists, by a parser of a list that is open: each list as a
-- group, and the text after the last list's closing bracket
unfoldable pub lists_by : (List ℕ → Read (List Item)) → ℕ → List ℕ → Read (List Item)
lists_by list zero text = Ok ([], text)
lists_by list (suc n) text =
    list text
    >>= λ x. by_option (Ok (group groups.List (items_of x.0) ∷ [], x.1))
    (λ inside. before (group groups.List (items_of x.0) ∷ []) (lists_by list n inside)) (next_list x.1)

-- the contents of a group whose first list is open: the items of the list of `optional`, or the lists of `first`; and
-- the text after the last list's closing bracket
abbrev pub inside_by : (List ℕ → Read (List Item)) → Group → List ℕ → Read (List Item)
inside_by list groups.Optional text = list text
inside_by list _ text = lists_by list (suc (length text)) text

-- optional or first, by a parser of an item, given the group and the text after its word: the group as one item, and
-- the text after its closing bracket; `opening` counts the bytes from its opening bracket to the end of the whole text
unfoldable pub group_by : (List ℕ → Read Item) → ℕ → Group × List ℕ → Read Item
group_by item opening found =
    opened found.0 found.1
    >>= λ text. inside_by (list_by item opening) found.0 text
    >>= λ x. closed opening x.1
    >>= λ rest. Ok (group found.0 (items_of x.0), rest)

-- item at the start of the text, inside a list if `nested`, in which lists nest at most `depth` deep, and the text
-- after it; a group that would nest deeper is a fault at its opening bracket
unfoldable pub item : Version → ℕ → Bool → List ℕ → Read Item
item version zero nested text =
    by_option (leaf version nested text) (λ found. Err (fault.NotSupported unsupported.DeepList (length text)))
    (group_word text)
item version (suc depth) nested text =
    by_option (leaf version nested text) (group_by (item version depth true) (length text)) (group_word text)

-- { item }, up to the end of the text or, if `nested`, up to a closing bracket, with lists nested at most `depth` deep
abbrev pub items : Version → ℕ → Bool → List ℕ → Read (List Item)
items version depth nested text = items_by (item version depth nested) (length text) nested text

-- how deep the lists of optional items and choices may nest, with the outermost of them as the first level
abbrev pub most_lists : ℕ
most_lists = 8

-- the items of the whole text as a description, and the empty text after them; or the first fault
abbrev pub description : Version → List ℕ → Read (List Item)
description version text = items version most_lists false text

-- The whole text parses in that version, and its items in order have that tree, a sequence; an empty text describes the
-- empty sequence.
unfoldable pub Describes : Version → List ℕ → Tree → Type 0
Describes version text tree =
    (is : List Item) × (description version text ≡ Ok (is, [])) × (tree ≡ sequence (trees_of (items_of is)))

-- ---- How many steps a text starts, up to its first fault or its end: those of what is read; and for a group that is
-- still open there, one for itself, one for each list that is started in a choice, and those of the items inside

-- the count for what is read, and 0 for a fault
abbrev pub counted : {A : Type 0} → (A → ℕ) → Result A Fault → ℕ
counted count (Ok x) = count x
counted count (Err e) = 0

-- how many steps at most n items start, up to their first fault or their end, given a parser of an item, and `begun`:
-- how many steps the item at the start of a text starts
unfoldable pub items_step_count : (List ℕ → Read Item) → (List ℕ → ℕ) → ℕ → Bool → List ℕ → ℕ
items_step_count item begun zero nested text = 0
items_step_count item begun (suc n) nested text =
    if ends nested text then 0
    else begun text + counted (λ x. items_step_count item begun n nested x.1) (item text)

-- how many steps the items of a list start, given the text after its opening bracket; `begun` counts those of one item
abbrev pub list_step_count : (List ℕ → Read Item) → (List ℕ → ℕ) → List ℕ → ℕ
list_step_count item begun text = items_step_count item begun (length text) true text

-- how many steps at most n lists start, with one step for each list itself, given the text after the first one's
-- opening bracket; `begun` counts the steps that one item starts, and `opening` only locates faults
unfoldable pub lists_step_count : (List ℕ → Read Item) → (List ℕ → ℕ) → ℕ → ℕ → List ℕ → ℕ
lists_step_count item begun opening zero text = 0
lists_step_count item begun opening (suc n) text =
    1 + list_step_count item begun text
    + counted (λ x. by_option 0 (lists_step_count item begun opening n) (next_list x.1)) (list_by item opening text)

-- how many steps a group's contents start, given the text after its first list's `[`; each list of `first` adds one
abbrev pub inside_step_count : (List ℕ → Read Item) → (List ℕ → ℕ) → ℕ → Group → List ℕ → ℕ
inside_step_count item begun opening groups.Optional text = list_step_count item begun text
inside_step_count item begun opening _ text = lists_step_count item begun opening (suc (length text)) text

-- how many steps a group starts, with one step for itself, given the group and the text after its word; none if its
-- first list isn't opened; `begun` counts the steps that one item starts
unfoldable pub group_step_count : (List ℕ → Read Item) → (List ℕ → ℕ) → ℕ → Group × List ℕ → ℕ
group_step_count item begun opening found =
    counted (λ text. 1 + inside_step_count item begun opening found.0 text) (opened found.0 found.1)

-- how many steps a literal, an escape or a component starts: one for each byte or for the component, none for a fault
abbrev pub leaf_step_count : Version → Bool → List ℕ → ℕ
leaf_step_count version nested text = counted (λ x. length (steps_of x.0)) (leaf version nested text)

-- how many steps the item at the start of a text starts, in which lists nest at most `depth` deep; none for a group
-- that would nest deeper
unfoldable pub item_step_count : Version → ℕ → Bool → List ℕ → ℕ
item_step_count version zero nested text =
    by_option (leaf_step_count version nested text) (λ found. 0) (group_word text)
item_step_count version (suc depth) nested text =
    by_option (leaf_step_count version nested text)
    (group_step_count (item version depth true) (item_step_count version depth true) (length text)) (group_word text)

-- how many steps a text starts as a description, up to its first fault or its end
abbrev pub steps_count : Version → List ℕ → ℕ
steps_count version text =
    items_step_count (item version most_lists false) (item_step_count version most_lists false) (length text) false text

-- The text, up to its first fault or its end, starts more than n steps.
abbrev pub StartsMoreThan : ℕ → Version → List ℕ → Type 0
StartsMoreThan n version text = n < steps_count version text

-- The text, up to its first fault or its end, starts at most n steps.
abbrev pub StartsAtMost : ℕ → Version → List ℕ → Type 0
StartsAtMost n version text = steps_count version text ≤ n

-- ---- Results of the parser of owned items

-- The text describes the tree of the item; or the error is the text's first fault; or it is `Memory`, which may occur
-- for any text.
abbrev pub OwnedOutcome : Version → List ℕ → Result OwnedFormatItem OwnedError → Type 0
OwnedOutcome version text (Ok item) = Describes version text (owned_shape item)
OwnedOutcome version text (Err (error.Invalid e)) =
    (f : Fault) × (description version text ≡ Err f) × (refusal_of e ≡ refusal_at text f)
OwnedOutcome version text (Err (error.Memory e)) = Unit {0}

-- the printed text of the error; `None`, which leaves it unspecified, for an error that quotes a word of the text
abbrev pub owned_error_text : OwnedError → Option (List ℕ)
owned_error_text (error.Invalid e) = refusal_text (refusal_of e)
owned_error_text (error.Memory e) = Some (codes "out of memory")

-- Parsing failed with that fault; or memory was exhausted, whatever is read.
abbrev pub Fails : {A : Type 0} → Read A → Unread → Type 0
Fails read (unread.Fault e) = read ≡ Err e
Fails read (unread.Memory e) = Unit {0}

-- The value is related by `says` to what is read, with equal remaining texts; or the error is the fault or `Memory`.
abbrev pub Owns : {A X : Type 0} → (X → A → Type 0) → Read A → Result (X × Bor (List ℕ)) Unread → Type 0
Owns {A} says read (Ok x) = (a : A) × (read ≡ Ok (a, x.1.now)) × says x.0 a
Owns says read (Err u) = Fails read u

-- the owned item and the specified item have equal trees
abbrev pub MatchesItem : OwnedFormatItem → Item → Type 0
MatchesItem item i = owned_shape item ≡ tree_of i

-- the owned items and the specified items have equal trees
abbrev pub MatchesItems : List OwnedFormatItem → List Item → Type 0
MatchesItems items is = map owned_shape items ≡ map tree_of is
