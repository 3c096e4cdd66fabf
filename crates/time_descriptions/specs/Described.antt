-- The trees that a text of version 2 describes: those of items in turn.
use Rattle.std.specs.Prelude.{ℕ, zero, suc, List, [], ◌∷◌, Bool, true, false, not, ◌&&◌, ◌||◌, nat_lt, ◌≡◌, ◌<◌, length, ◌↔◌}
use Rattle.time_components.specs.declared.format_description.Component.{Component}
use Rattle.time_components.specs.declared.format_description.Component.TheVariants as component
use Rattle.time_components.specs.Tree.{Tree, Trees, literal, component as component_tree, sequence, optional, first_of, none, more}
use Rattle.time_descriptions.specs.declared.leaf.Version.TheVariants as versions
use Rattle.time_descriptions.specs.Grammar.{is_plain, most_lists, Describes}
use Rattle.time_descriptions.specs.Writing.{is_escaped, tree_text}
use Rattle.time_descriptions.specs.declared.describing.described.NoText.{NoText}
use Rattle.time_descriptions.specs.declared.describing.described.NoText.TheVariants as no_text

-- whether the bytes are exactly one byte, `[`, `\` or `]`: a literal that is written after a backslash
abbrev pub is_escape : List ℕ → Bool
is_escape (b ∷ []) = is_escaped b
is_escape bytes = false

-- whether none of the bytes needs a backslash in version 2: all are other than `[` and `\`, and inside a list, which
-- `nested` means, other than `]`; true for no bytes
abbrev pub are_plain : Bool → List ℕ → Bool
are_plain nested [] = true
are_plain nested (b ∷ bytes) = is_plain versions.Two nested b && are_plain nested bytes

-- whether a text of version 2 can describe the bytes as one literal, inside a list if `nested`: they are one byte `[`,
-- `\` or `]`, or they aren't empty and none needs a backslash
abbrev pub is_literal : Bool → List ℕ → Bool
is_literal nested [] = false
is_literal nested (b ∷ bytes) = is_escape (b ∷ bytes) || are_plain nested (b ∷ bytes)

-- whether the tree is a literal other than `[`, `\` or `]` alone; two of these in a row would be parsed as one literal
abbrev pub is_run : Tree → Bool
is_run (literal bytes) = not (is_escape bytes)
is_run _ = false

-- whether the first tree is a literal other than `[`, `\` or `]` alone; false for no trees
abbrev pub begins_run : Trees → Bool
begins_run none = false
begins_run (more t ts) = is_run t

-- whether a text can describe the component: any but an `Ignore` with a count above 65535
abbrev pub has_words : Component → Bool
has_words (component.Ignore m) = not (nat_lt 65535 m.count.value)
has_words _ = true

-- whether there is at least one tree
abbrev pub is_some : Trees → Bool
is_some none = false
is_some (more t ts) = true

unfoldable mutual
  -- whether a text of version 2 can describe the tree as one item, inside a list if `nested`, with lists nested at most
  -- `depth` deep in it; a sequence outside a group is no item, and neither is a component with the flag that an
  -- `Ignore` must end between UTF-8 characters
  pub is_item : ℕ → Bool → Tree → Bool
  is_item depth nested (literal bytes) = is_literal nested bytes
  is_item depth nested (component_tree ends c) = not ends && has_words c
  is_item depth nested (sequence ts) = false
  is_item zero nested (optional t) = false
  is_item (suc depth) nested (optional t) = is_list depth t
  is_item zero nested (first_of ts) = false
  is_item (suc depth) nested (first_of ts) = is_some ts && are_lists depth ts

  -- whether a text can describe the tree as a list of a group: it is a sequence of items, with further lists nested at
  -- most `depth` deep in it
  pub is_list : ℕ → Tree → Bool
  is_list depth (sequence ts) = are_items depth true ts
  is_list depth _ = false

  -- whether a text can describe each of the trees as a list of a choice; true for no trees
  pub are_lists : ℕ → Trees → Bool
  are_lists depth none = true
  are_lists depth (more t ts) = is_list depth t && are_lists depth ts

  -- whether a text can describe the trees as items in turn, inside a list if `nested`; no literal other than one
  -- escaped byte may directly follow another; true for no trees
  pub are_items : ℕ → Bool → Trees → Bool
  are_items depth nested none = true
  are_items depth nested (more t ts) =
      is_item depth nested t && not (is_run t && begins_run ts) && are_items depth nested ts

-- whether a text of version 2 describes the tree: it is a sequence, maybe empty, of items that a text can describe in
-- turn, with lists nested at most eight deep
abbrev pub is_described : Tree → Bool
is_described (sequence ts) = are_items most_lists false ts
is_described _ = false

-- ---- The text of a tree, and trees without a text

-- Some text of version 2 describes the tree.
abbrev pub HasText : Tree → Type 0
HasText tree = (text : List ℕ) × Describes versions.Two text tree

-- These bytes are the canonical text of the tree, and describe it in version 2.
abbrev pub IsTextOf : Tree → List ℕ → Type 0
IsTextOf tree bytes = (bytes ≡ tree_text tree) × Describes versions.Two bytes tree

-- Why `text_of` fails with room for n bytes: no text describes the tree, or one does, but the canonical text is longer.
abbrev pub IsNoText : ℕ → Tree → NoText → Type 0
IsNoText n tree no_text.Undescribed = HasText tree → ⊥
IsNoText n tree no_text.TooLong = HasText tree × (n < length (tree_text tree))

-- ---- Laws of texts of descriptions

-- Some text of version 2 describes a tree if and only if `is_described` is true for it.
abbrev pub DescribedTrees : Type 0
DescribedTrees = (tree : Tree) → (is_described tree ≡ true) ↔ HasText tree

-- Trees that texts of version 2 describe are equal if their canonical texts are equal.
abbrev pub OneTree : Type 0
OneTree = (a b : Tree) → HasText a → HasText b → tree_text a ≡ tree_text b → a ≡ b
