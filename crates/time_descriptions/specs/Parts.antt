-- No public contract rests on this file.
--
-- What the parser of strftime's descriptions keeps of a byte or a conversion.
use Rattle.std.proofs.Common.{Bor}
use Rattle.std.specs.Prelude.{◌≡◌, ℕ, List, [], ◌∷◌, map, None, Result, Ok, Err}
use Rattle.time_descriptions.specs.declared.error.Fault.{Fault}
use Rattle.time_components.specs.declared.inspect.Step.{Step}
use Rattle.time_descriptions.specs.declared.strftime.Part.{Part}
use Rattle.time_descriptions.specs.declared.strftime.Part.TheVariants as part
use Rattle.time_descriptions.specs.Grammar.{by_option}
use Rattle.time_descriptions.specs.Items.{Item, literal, component, flat}
use Rattle.time_descriptions.specs.Strftime.{colon_offset, item_of_byte, offset, pointed_fraction, row_of, shorthands, Found, failed, followed, strftime}

-- the items of a part; for a shorthand whose letter abbreviates nothing, none
abbrev pub part_items : Part → List Item
part_items (part.Byte b) = literal b [] ∷ []
part_items (part.Component c) = component c ∷ []
part_items part.Offset = offset
part_items part.ColonOffset = colon_offset
part_items part.PointedFraction = pointed_fraction
part_items (part.Shorthand letter) = by_option [] (map item_of_byte) (row_of shorthands letter)

-- The items and the fault that are found in a text are the items of the part that was read, followed by what is found
-- in the remaining text; or, for an error, no items and that fault.
abbrev pub Begins : Found → Result (Part × Bor (List ℕ)) Fault → Type 0
Begins found (Ok x) = found ≡ followed (part_items x.0) (strftime x.1.now)
Begins found (Err e) = found ≡ failed e

-- The text has no fault in strftime's syntax, and its items have these steps.
abbrev pub HasSteps : List ℕ → List Step → Type 0
HasSteps text steps = ((strftime text).1 ≡ None) × (steps ≡ flat (strftime text).0)
