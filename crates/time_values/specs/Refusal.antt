-- The contents of errors, without the addresses of their texts.
use Rattle.std.specs.Prelude.{◌≡◌, ℕ, Bool, List, Option, Some, None, Result, Ok, Err, ◌++◌, codes, if◌then◌else◌}
use Rattle.time_values.specs.declared.error.ComponentRange.{ComponentRange}
use Rattle.time_values.specs.declared.error.ParseFromDescription.{ParseFromDescription}
use Rattle.time_values.specs.declared.error.ParseFromDescription.TheVariants.{InvalidLiteral, InvalidComponent, UnexpectedTrailingCharacters}
use Rattle.time_values.specs.declared.error.TryFromParsed.{TryFromParsed}
use Rattle.time_values.specs.declared.error.TryFromParsed.TheVariants.{InsufficientInformation, ComponentRange as of_range}
use Rattle.time_values.specs.declared.error.Parse.{Parse}
use Rattle.time_values.specs.declared.error.Parse.TheVariants.{TryFromParsed as of_parsed, ParseFromDescription as of_description}
use Rattle.time_values.specs.declared.error.DifferentVariant.{DifferentVariant}
use Rattle.time_values.specs.declared.error.Error.{Error}
use Rattle.time_values.specs.declared.error.Error.TheVariants.{ComponentRange as joint_range, TryFromParsed as joint_parsed, ParseFromDescription as joint_description}

-- a literal is missing, a text's named component is unreadable or out of its range, bytes are left over, components
-- are missing (or a timestamp fails), or a value's one is out of its range, which depends on others if the flag is true
pub data Refusal : Type 0 where
  literal : Refusal
  component : List ℕ → Refusal
  trailing : Refusal
  insufficient : Refusal
  range : List ℕ → Bool → Refusal

-- the content of a `ComponentRange`
abbrev pub refusal_of_range : ComponentRange → Refusal
refusal_of_range e = range e.name.now e.conditional

-- the content of a `ParseFromDescription`
abbrev pub refusal_of_description : ParseFromDescription → Refusal
refusal_of_description InvalidLiteral = literal
refusal_of_description (InvalidComponent name) = component name.now
refusal_of_description UnexpectedTrailingCharacters = trailing

-- the content of a `TryFromParsed`
abbrev pub refusal_of_parsed : TryFromParsed → Refusal
refusal_of_parsed InsufficientInformation = insufficient
refusal_of_parsed (of_range e) = refusal_of_range e

-- the content of a `Parse`
abbrev pub refusal_of : Parse → Refusal
refusal_of (of_parsed e) = refusal_of_parsed e
refusal_of (of_description e) = refusal_of_description e

-- for `None`, the result is `Ok` with a value that satisfies P; for `Some`, it is an error with that content
abbrev pub Constructs : {A : Type 0} → Option Refusal → (A → Type 0) → Result A ComponentRange → Type 0
Constructs None P (Ok v) = P v
Constructs None P (Err e) = ⊥
Constructs (Some r) P (Ok v) = ⊥
Constructs (Some r) P (Err e) = refusal_of_range e ≡ r

-- ---- The conversions between the errors return the content, or an error if the value is another variant

-- the error of a conversion from another variant
abbrev pub another : {A : Type 0} → Result A DifferentVariant
another = Err (record {})

-- the `ComponentRange` in a `TryFromParsed`, or an error for `InsufficientInformation`
abbrev pub range_of_parsed : TryFromParsed → Result ComponentRange DifferentVariant
range_of_parsed InsufficientInformation = another
range_of_parsed (of_range e) = Ok e

-- the `TryFromParsed` in a `Parse`, or an error for the other variant
abbrev pub parsed_of_parse : Parse → Result TryFromParsed DifferentVariant
parsed_of_parse (of_parsed e) = Ok e
parsed_of_parse (of_description e) = another

-- the `ParseFromDescription` in a `Parse`, or an error for the other variant
abbrev pub description_of_parse : Parse → Result ParseFromDescription DifferentVariant
description_of_parse (of_parsed e) = another
description_of_parse (of_description e) = Ok e

-- the `Error` with the content of a `Parse`
abbrev pub joint_of_parse : Parse → Error
joint_of_parse (of_parsed e) = joint_parsed e
joint_of_parse (of_description e) = joint_description e

-- the `TryFromParsed` in an `Error`, or an error for another variant
abbrev pub parsed_of_joint : Error → Result TryFromParsed DifferentVariant
parsed_of_joint (joint_range e) = another
parsed_of_joint (joint_parsed e) = Ok e
parsed_of_joint (joint_description e) = another

-- the `ParseFromDescription` in an `Error`, or an error for another variant
abbrev pub description_of_joint : Error → Result ParseFromDescription DifferentVariant
description_of_joint (joint_range e) = another
description_of_joint (joint_parsed e) = another
description_of_joint (joint_description e) = Ok e

-- the `Parse` of an `Error`, or an error for the variant `ComponentRange`
abbrev pub parse_of_joint : Error → Result Parse DifferentVariant
parse_of_joint (joint_range e) = another
parse_of_joint (joint_parsed e) = Ok (of_parsed e)
parse_of_joint (joint_description e) = Ok (of_description e)

-- ---- The bytes that the errors print

-- the text that `Display` prints for an error with that content
abbrev pub refusal_text : Refusal → List ℕ
refusal_text literal = codes "a character literal was not valid"
refusal_text (component name) = codes "the '" ++ name ++ codes "' component could not be parsed"
refusal_text trailing = codes "unexpected trailing characters; the end of input was expected"
refusal_text insufficient =
    codes "the `Parsed` struct did not include enough information to construct the type"
refusal_text (range name conditional) =
    if conditional then name ++ codes " is out of range for the other components"
    else name ++ codes " is out of range"

-- the text that `Display` prints for `DifferentVariant`
abbrev pub variant_text : List ℕ
variant_text = codes "value was of a different variant than required"
