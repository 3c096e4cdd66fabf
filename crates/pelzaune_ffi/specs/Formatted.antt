-- Moments that are formatted by a description.
use Rattle.std.specs.Prelude.{◌≡◌, ℕ, ◌+◌, ◌*◌, List, length, Option, Some, None, Result, Ok, Err, codes}
use Rattle.time_values.specs.Calendar.{greatest_year}
use Rattle.time_values.specs.Refusal.{Refusal as ParseRefusal}
use Rattle.time_values.specs.declared.offset_date_time.OffsetDateTime.{OffsetDateTime}
use Rattle.time_components.specs.Tree.{Tree}
use Rattle.time_descriptions.specs.Refusal.{Refusal}
use Rattle.time_formatting.specs.Texts.{text_of}
use Rattle.time_formatting.specs.declared.walk.Unformattable.{Unformattable}
use Rattle.time_formatting.specs.declared.walk.Unformattable.TheVariants.{TooLong, Year, Ignore}
use Rattle.pelzaune_ffi.specs.Described.{IsDescribed, fault_status}
use Rattle.pelzaune_ffi.specs.Results.{HasMoment, moment_refusal}
use Rattle.pelzaune_ffi.specs.Status.{component_number, laid_over, status_of, unknown_syntax, text_too_long}
use Rattle.pelzaune_ffi.specs.declared.descriptions.Syntax.{Syntax}
use Rattle.pelzaune_ffi.specs.declared.formatting.TheConstants.{MOST_BYTES}
use Rattle.pelzaune_ffi.specs.declared.parts.MomentParts.{MomentParts}

-- The status of a moment that has no text by a description: that of the component that can't be written, or 19 for a
-- text of more than `MOST_BYTES` bytes.
abbrev pub unformattable_status : Unformattable → ℕ
unformattable_status Year = 18 + 256 * component_number (codes "year")
unformattable_status Ignore = 18 + 256 * component_number (codes "ignore")
unformattable_status TooLong = text_too_long

-- Status 0, the text over the start of the buffer, truncated to the buffer's length, and the length of the whole text;
-- or the status of the error, and buffer and count are unchanged.
abbrev pub IsFormatted : Result (List ℕ) Unformattable → ℕ → List ℕ → List ℕ → ℕ → ℕ → Type 0
IsFormatted (Ok bytes) status buffer new_buffer count new_count =
    (status ≡ 0) × (new_buffer ≡ laid_over bytes buffer) × (new_count ≡ length bytes)
IsFormatted (Err why) status buffer new_buffer count new_count =
    (status ≡ unformattable_status why) × (new_buffer ≡ buffer) × (new_count ≡ count)

-- The moment with these parts is formatted by the tree, or rejected, as by `IsFormatted`; or the status of the first
-- part that is out of range, and buffer and count are unchanged.
abbrev pub FormatsParts : Option ParseRefusal → MomentParts → Tree → ℕ → List ℕ → List ℕ → ℕ → ℕ → Type 0
FormatsParts None s tree status buffer new_buffer count new_count =
    (v : OffsetDateTime) × HasMoment v s
    × IsFormatted (text_of MOST_BYTES greatest_year v tree) status buffer new_buffer count new_count
FormatsParts (Some e) s tree status buffer new_buffer count new_count =
    (status ≡ status_of e) × (new_buffer ≡ buffer) × (new_count ≡ count)

-- The moment with these parts is formatted by the described tree, or rejected, as by `FormatsParts`. A malformed
-- description has its fault's status, and buffer and count are unchanged.
abbrev pub FormatsByTree : Result Tree Refusal → MomentParts → ℕ → List ℕ → List ℕ → ℕ → ℕ → Type 0
FormatsByTree (Ok tree) s status buffer new_buffer count new_count =
    FormatsParts (moment_refusal s) s tree status buffer new_buffer count new_count
FormatsByTree (Err e) s status buffer new_buffer count new_count =
    (status ≡ fault_status e) × (new_buffer ≡ buffer) × (new_count ≡ count)

-- The moment with these parts is formatted by a description in the syntax, or rejected, as by `FormatsByTree`. An
-- unknown syntax has the status 17, and buffer and count are unchanged.
abbrev pub FormatsByDescription : Option Syntax → List ℕ → MomentParts → ℕ → List ℕ → List ℕ → ℕ → ℕ → Type 0
FormatsByDescription (Some s) description parts status buffer new_buffer count new_count =
    (described : Result Tree Refusal) × IsDescribed s description described
    × FormatsByTree described parts status buffer new_buffer count new_count
FormatsByDescription None description parts status buffer new_buffer count new_count =
    (status ≡ unknown_syntax) × (new_buffer ≡ buffer) × (new_count ≡ count)
