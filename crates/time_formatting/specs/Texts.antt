-- The text of a moment by a description. `Y` is the greatest year, and `most` the greatest length in bytes.
use Rattle.std.specs.Prelude.{ℕ, List, [], ◌++◌, length, nat_le, if◌then◌else◌, Result, Ok, Err, codes, ◌≡◌, Bool}
use Rattle.arrayvec.specs.ArrayVec.{ArrayVec}
use Rattle.time_values.specs.DisplayTexts.{Items}
use Rattle.time_values.specs.declared.offset_date_time.OffsetDateTime.{OffsetDateTime}
use Rattle.time_components.specs.Tree.{Tree, Trees, literal, component as tree_component, sequence, optional, first_of, none, more as tree_more}
use Rattle.time_components.specs.Spelling.{Spells}
use Rattle.time_components.specs.declared.format_description.Component.{Component}
use Rattle.time_formatting.specs.Components.{component_text, Stops, value_of}
use Rattle.time_formatting.specs.declared.walk.Unformattable.{Unformattable}
use Rattle.time_formatting.specs.declared.walk.Unformattable.TheVariants.{TooLong, Year, Ignore}

-- the bytes, appended to those written so far, or the error `TooLong` if there are more than `most` in all
abbrev pub joined : ℕ → List ℕ → List ℕ → Result (List ℕ) Unformattable
joined most before bytes = if nat_le (length (before ++ bytes)) most then Ok (before ++ bytes) else Err TooLong

-- the result of the function for the bytes, or the error
abbrev pub and_then : Result (List ℕ) Unformattable → (List ℕ → Result (List ℕ) Unformattable)
    → Result (List ℕ) Unformattable
and_then (Ok bytes) next = next bytes
and_then (Err why) next = Err why

abbrev mutual
  -- The bytes written so far, followed by the text of a tree: a literal is copied, a component is formatted, each tree
  -- of a list is written in turn, and so are an optional tree and the first of a choice. Or the first error if there is
  -- no such text.
  pub text_after : ℕ → ℕ → OffsetDateTime → List ℕ → Tree → Result (List ℕ) Unformattable
  text_after most Y v before (literal bytes) = joined most before bytes
  text_after most Y v before (tree_component whole c) = and_then (component_text Y v c) (joined most before)
  text_after most Y v before (sequence ts) = texts_after most Y v before ts
  text_after most Y v before (optional t) = text_after most Y v before t
  text_after most Y v before (first_of ts) = first_after most Y v before ts

  -- The bytes written so far, followed by the texts of all trees in turn; or the first error of a tree.
  pub texts_after : ℕ → ℕ → OffsetDateTime → List ℕ → Trees → Result (List ℕ) Unformattable
  texts_after most Y v before none = Ok before
  texts_after most Y v before (tree_more t ts) =
      and_then (text_after most Y v before t) (λ bytes. texts_after most Y v bytes ts)

  -- The bytes written so far, followed by the text of the first tree, if there is a tree; or that tree's first error.
  pub first_after : ℕ → ℕ → OffsetDateTime → List ℕ → Trees → Result (List ℕ) Unformattable
  first_after most Y v before none = Ok before
  first_after most Y v before (tree_more t ts) = text_after most Y v before t

-- the text of a moment by a tree, of at most `most` bytes, or the first error; `Y` is the greatest year
abbrev pub text_of : ℕ → ℕ → OffsetDateTime → Tree → Result (List ℕ) Unformattable
text_of most Y v tree = text_after most Y v [] tree

-- the bytes of a `Text`, or the error
abbrev pub bytes_of : Result Items Unformattable → Result (List ℕ) Unformattable
bytes_of (Ok text) = Ok text.items
bytes_of (Err why) = Err why

-- the bytes of a text in an `ArrayVec`, or the error
abbrev pub array_bytes_of : Result (ArrayVec ℕ) Unformattable → Result (List ℕ) Unformattable
array_bytes_of (Ok text) = Ok text.items
array_bytes_of (Err why) = Err why

-- ---- Printed messages of errors

-- the message that `Display` prints for the error
abbrev pub unformattable_text : Unformattable → List ℕ
unformattable_text Year = codes "The year component cannot be formatted into the requested format."
unformattable_text Ignore = codes "The ignore component cannot be formatted into the requested format."
unformattable_text TooLong = codes "The text is too long."

-- ---- Laws of the definitions, each proved by the function of module `laws` whose contract it is

-- A component's text spells its value for the moment before each rest that `Stops` allows, for either flag of `Spells`.
abbrev pub ComponentSpelled : ℕ → Type 0
ComponentSpelled Y =
    (v : OffsetDateTime) (c : Component) (whole : Bool) (text rest : List ℕ)
    → component_text Y v c ≡ Ok text → Stops Y v c rest → Spells whole c text rest (value_of Y v c)
