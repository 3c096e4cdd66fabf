-- The errors of texts that aren't descriptions, without memory addresses, and their printed texts.
use Rattle.std.specs.Prelude.{ℕ, ◌-◌, ◌++◌, List, length, take, drop, codes, Option, Some, None}
use Rattle.std.specs.Fmt.{decimal}
use Rattle.time_descriptions.specs.declared.error.InvalidFormatDescription.{InvalidFormatDescription}
use Rattle.time_descriptions.specs.declared.error.InvalidFormatDescription.TheVariants as error
use Rattle.time_descriptions.specs.declared.error.Expectation.{Expectation}
use Rattle.time_descriptions.specs.declared.error.Expectation.TheVariants as expected
use Rattle.time_descriptions.specs.declared.error.Fault.{Fault}
use Rattle.time_descriptions.specs.declared.error.Fault.TheVariants as fault
use Rattle.time_descriptions.specs.declared.error.Unsupported.{Unsupported}
use Rattle.time_descriptions.specs.declared.error.Unsupported.TheVariants as unsupported

-- an error: the words that it names, and then its byte index in the text, from 0
pub data Refusal : Type 0 where
  -- an opening bracket isn't closed
  unclosed : ℕ → Refusal
  -- no component has that name; or in strftime's syntax, the letter is unknown, or missing and then empty
  component_name : List ℕ → ℕ → Refusal
  -- an invalid modifier, key or value; or in strftime's syntax, a flag that the letter can't have
  modifier : List ℕ → ℕ → Refusal
  -- an opening bracket without a name
  missing_name : ℕ → Refusal
  -- the name of a required modifier, and the index of its component's name
  missing_modifier : List ℕ → ℕ → Refusal
  -- what is expected at the index
  expected_here : List ℕ → ℕ → Refusal
  -- what isn't supported, in which kind of description, and where
  not_supported : List ℕ → List ℕ → ℕ → Refusal
  -- the text starts more steps than there is room for; this error has no index
  too_long : Refusal

-- the error without memory addresses: borrowed words become their bytes
abbrev pub refusal_of : InvalidFormatDescription → Refusal
refusal_of (error.UnclosedOpeningBracket index) = unclosed index
refusal_of (error.InvalidComponentName name index) = component_name name.now index
refusal_of (error.InvalidModifier value index) = modifier value.now index
refusal_of (error.MissingComponentName index) = missing_name index
refusal_of (error.MissingRequiredModifier name index) = missing_modifier name.now index
refusal_of (error.Expected what index) = expected_here what.now index
refusal_of (error.NotSupported what context index) = not_supported what.now context.now index
refusal_of error.TooLong = too_long

-- the index of the error, or `None` for `too_long`
abbrev pub index_of : Refusal → Option ℕ
index_of (unclosed index) = Some index
index_of (component_name name index) = Some index
index_of (modifier value index) = Some index
index_of (missing_name index) = Some index
index_of (missing_modifier name index) = Some index
index_of (expected_here what index) = Some index
index_of (not_supported what context index) = Some index
index_of too_long = None

-- the printed text of the error; `None`, which leaves it unspecified, for an error that quotes a word of the text,
-- since such a word may have any bytes
abbrev pub refusal_text : Refusal → Option (List ℕ)
refusal_text (unclosed index) = Some (codes "unclosed opening bracket at byte index " ++ decimal index)
refusal_text (component_name name index) = None
refusal_text (modifier value index) = None
refusal_text (missing_name index) = Some (codes "missing component name at byte index " ++ decimal index)
refusal_text (missing_modifier name index) =
    Some (codes "missing required modifier `" ++ (name ++ (codes "` for component at byte index " ++ decimal index)))
refusal_text (expected_here what index) = Some (codes "expected " ++ (what ++
    (codes " at byte index " ++ decimal index)))
refusal_text (not_supported what context index) =
    Some (what ++ (codes " is not supported in " ++ (context ++ (codes " at byte index " ++ decimal index))))
refusal_text too_long = Some (codes "the description is too long")

-- the words that name what is expected
abbrev pub expectation_text : Expectation → List ℕ
expectation_text expected.EscapedByte = codes "an escaped `[`, `]` or `\\`"
expectation_text expected.SpaceAfterOptional = codes "whitespace after `optional`"
expectation_text expected.SpaceAfterFirst = codes "whitespace after `first`"
expectation_text expected.OpeningBracket = codes "an opening bracket"
expectation_text expected.Modifier = codes "a modifier or a closing bracket"

-- the words that name what isn't supported
abbrev pub unsupported_text : Unsupported → List ℕ
unsupported_text unsupported.DeepList = codes "a list in more than seven others"
unsupported_text unsupported.Conversion = codes "this conversion"

-- the words that name the kind of description that doesn't support this: `a description` or `a strftime description`
abbrev pub context_text : Unsupported → List ℕ
context_text unsupported.DeepList = codes "a description"
context_text unsupported.Conversion = codes "a strftime description"

-- the error for a fault in the text; `left` of the fault counts the bytes from its place to the end of the text, and
-- `len` those of the word there that the error quotes
abbrev pub refusal_at : List ℕ → Fault → Refusal
refusal_at text (fault.UnclosedOpeningBracket left) = unclosed (length text - left)
refusal_at text (fault.InvalidComponentName left len) =
    component_name (take len (drop (length text - left) text)) (length text - left)
refusal_at text (fault.InvalidModifier left len) =
    modifier (take len (drop (length text - left) text)) (length text - left)
refusal_at text (fault.MissingComponentName left) = missing_name (length text - left)
refusal_at text (fault.MissingCount left) = missing_modifier (codes "count") (length text - left)
refusal_at text (fault.Expected what left) = expected_here (expectation_text what) (length text - left)
refusal_at text (fault.NotSupported what left) =
    not_supported (unsupported_text what) (context_text what) (length text - left)
refusal_at text fault.NoRoom = too_long
