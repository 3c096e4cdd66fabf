-- What a text describes, in terms of the results of the parsers.
use Rattle.std.specs.Prelude.{◌≡◌, ◌⊎◌, ℕ, ◌==◌, ◌<◌, List, length, Err, if◌then◌else◌, [], ◌∷◌, ◌++◌, option_and_then, Option, Some, None, ◌↔◌, Bool, true, not, ◌&&◌, Ok}
use Rattle.std.specs.List.{flat_map}
use Rattle.std.specs.Option.{option_map}
use Rattle.time_components.specs.Tree.{steps_shape, Tree, sequence}
use Rattle.time_descriptions.specs.declared.description.Description.{Description}
use Rattle.time_descriptions.specs.declared.error.Fault.{Fault}
use Rattle.time_descriptions.specs.declared.leaf.Version.{Version}
use Rattle.time_descriptions.specs.declared.leaf.Version.TheVariants as versions
use Rattle.time_descriptions.specs.Grammar.{description, StartsMoreThan, StartsAtMost, steps_count, Describes, begins_with}
use Rattle.time_descriptions.specs.Refusal.{Refusal, refusal_at, too_long}
use Rattle.time_descriptions.specs.Items.{Item, literal, items_of, trees_of, flat}
use Rattle.time_descriptions.specs.Strftime.{meaning, flags, flagged_meaning, row_of, DescribesStrftime, Fits, IsRefusedStrftime}
use Rattle.time_descriptions.specs.Writing.{tree_text}

-- the tree of a description: the sequence of the items of its steps
abbrev pub shape : {N : ℕ} → Description N → Tree
shape d = steps_shape d.steps.items

-- version 1 for the number 1, and version 2 for any other number
abbrev pub version_of : ℕ → Version
version_of number = if number == 1 then versions.One else versions.Two

-- The error of a rejected text, with room for n steps: `too_long` if and only if the text starts more than n steps up
-- to its first fault or its end, and then it also has more than n bytes; otherwise its first fault.
abbrev pub IsRefused : ℕ → Version → List ℕ → Refusal → Type 0
IsRefused n version text refusal =
    ((refusal ≡ too_long) × (n < length text) × StartsMoreThan n version text)
    ⊎ ((e : Fault) × (description version text ≡ Err e) × (refusal ≡ refusal_at text e) × StartsAtMost n version text)

-- ---- A description in strftime's syntax, piece by piece

-- a piece of a text in strftime's syntax
pub data Piece : Type 0 where
  -- a literal byte
  byte : ℕ → Piece
  -- a conversion, by its letter
  conversion : ℕ → Piece
  -- a conversion with a flag, by the flag and the letter
  flagged : ℕ → ℕ → Piece

-- the bytes of a piece: a byte, or a `%`, the flag if there is one, and the letter
abbrev pub piece_text : Piece → List ℕ
piece_text (byte b) = b ∷ []
piece_text (conversion letter) = 37 ∷ letter ∷ []
piece_text (flagged flag letter) = 37 ∷ flag ∷ letter ∷ []

-- the items of a piece, by the tables of letters and flags; `None` for a lone `%`, an unknown letter or flag, and a
-- letter that can't have the flag
abbrev pub piece_items : Piece → Option (List Item)
piece_items (byte b) = if b == 37 then None else Some (literal b [] ∷ [])
piece_items (conversion letter) = meaning letter
piece_items (flagged flag letter) = option_and_then (λ f. flagged_meaning f letter) (row_of flags flag)

-- the items of pieces in order, or `None` if some piece has no meaning
abbrev pub all_items : List Piece → Option (List Item)
all_items [] = Some []
all_items (piece ∷ pieces) =
    option_and_then (λ here. option_map (λ there. here ++ there) (all_items pieces)) (piece_items piece)

-- The text splits into pieces that give the tree's items in order.
abbrev pub HasPieces : List ℕ → Tree → Type 0
HasPieces text tree =
    (pieces : List Piece) × (is : List Item) × (text ≡ flat_map piece_text pieces) × (all_items pieces ≡ Some is)
    × (tree ≡ sequence (trees_of (items_of is)))

-- ---- Laws of descriptions

-- in each version, a text describes at most one tree
abbrev pub OneDescription : Type 0
OneDescription = (version : Version) (text : List ℕ) (a b : Tree) → Describes version text a
    → Describes version text b → a ≡ b

-- a text describes at most one tree in strftime's syntax
abbrev pub OneStrftimeDescription : Type 0
OneStrftimeDescription = (text : List ℕ) (a b : Tree) → DescribesStrftime text a → DescribesStrftime text b → a ≡ b

-- whether the text has neither a backslash nor two opening brackets in a row
unfoldable pub has_no_escape : List ℕ → Bool
has_no_escape [] = true
has_no_escape (b ∷ rest) = not (b == 92) && not (b == 91 && begins_with 91 rest) && has_no_escape rest

-- versions 1 and 2 agree on a text with neither a backslash nor two opening brackets in a row: it describes equal
-- trees, and it has equal errors, whatever the room for steps
abbrev pub VersionsAgree : Type 0
VersionsAgree = (text : List ℕ) → has_no_escape text ≡ true
    → ((tree : Tree) → (Describes versions.One text tree ↔ Describes versions.Two text tree))
    × ((n : ℕ) (r : Refusal) → (IsRefused n versions.One text r ↔ IsRefused n versions.Two text r))

-- The canonical text of a tree describes it in version 2, if any text does.
abbrev pub DescribedBack : Type 0
DescribedBack = (text : List ℕ) (tree : Tree) → Describes versions.Two text tree
    → Describes versions.Two (tree_text tree) tree

-- A text that is rejected in strftime's syntax, with room for n steps, has exactly one error, and describes no tree of
-- at most n steps.
abbrev pub OneStrftimeOutcome : Type 0
OneStrftimeOutcome = (n : ℕ) (text : List ℕ) (r : Refusal) → IsRefusedStrftime n text r
    → ((s : Refusal) → IsRefusedStrftime n text s → r ≡ s)
    × ((tree : Tree) → DescribesStrftime text tree → Fits n text → ⊥)

-- In each version, a text rejected with room for n steps has exactly one error, and describes no tree in up to n steps.
abbrev pub OneOutcome : Type 0
OneOutcome = (n : ℕ) (version : Version) (text : List ℕ) (r : Refusal) → IsRefused n version text r
    → ((s : Refusal) → IsRefused n version text s → r ≡ s)
    × ((tree : Tree) → Describes version text tree → StartsAtMost n version text → ⊥)

-- A text that parses to its end has a step count equal to the number of steps of its items.
abbrev pub StepsOfRead : Type 0
StepsOfRead = (version : Version) (text : List ℕ) (is : List Item) → description version text ≡ Ok (is, [])
    → steps_count version text ≡ length (flat is)

-- A text describes a tree in strftime's syntax if and only if it splits into pieces with the tree's items in order.
abbrev pub StrftimePieces : Type 0
StrftimePieces = (text : List ℕ) (tree : Tree) → (DescribesStrftime text tree ↔ HasPieces text tree)
