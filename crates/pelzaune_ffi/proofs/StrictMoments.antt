-- RFC 3339 over a strict text stores what the strict format stores of the text.
use Rattle.std.specs.Prelude.{ℕ, List, Some, Ok, Err}
use Rattle.time_values.specs.declared.offset_date_time.OffsetDateTime.{OffsetDateTime}
use Rattle.time_parsing.specs.Rfc3339Strict.{strict_text}
use Rattle.pelzaune_ffi.specs.Results.{Storing, StoresBy, of_moment}
use Rattle.pelzaune_ffi.specs.declared.status.Format.TheVariants.{Rfc3339, Rfc3339Strict}

pub strict_moment : {S : Type 0} (storing : Storing OffsetDateTime S) (text : List ℕ) (status : ℕ) (old new : S)
    → StoresBy storing of_moment (Some Rfc3339) (strict_text text) status old new
    → StoresBy storing of_moment (Some Rfc3339Strict) text status old new
strict_moment storing text status old new (Ok v, is, stored) = (Ok v, is, stored)
strict_moment storing text status old new (Err e, is, stored) = (Err e, is, stored)
