-- RFC 3339 with `T`, `t` or a space between the date and the time, parsed over a record. `Y` is the greatest year.
use Rattle.std.specs.Prelude.{◌≡◌, ◌==◌, ◌||◌, ◌&&◌, ◌↔◌, ℕ, nat_lt, Bool, true, List, length, take, slice_index, if◌then◌else◌}
use Rattle.time_values.specs.Refusal.{Refusal}
use Rattle.time_readers.specs.Direct.{RefusesRfc3339}
use Rattle.time_record.specs.Record.{Record}
use Rattle.time_parsing.specs.Outcome.{Reading, Refusing}
use Rattle.time_parsing.specs.Rfc3339 as rfc3339

-- whether there is an eleventh byte, and it is `T`, `t` or a space; the ten bytes before it may be any
abbrev pub has_separator : List ℕ → Bool
has_separator bytes =
    nat_lt 10 (length bytes)
    && (slice_index bytes 10 == 84 || (slice_index bytes 10 == 116 || slice_index bytes 10 == 32))

-- the bytes, or only the first ten of them (or fewer) if no `T`, `t` or space follows these
abbrev pub strict_text : List ℕ → List ℕ
strict_text bytes = if has_separator bytes then bytes else take 10 bytes

-- A prefix of the bytes is parsed as by RFC 3339. If there is no eleventh byte, or it isn't `T`, `t` or a space, no
-- prefix matches.
abbrev pub Reads : ℕ → Reading
Reads Y bytes = rfc3339.Reads Y (strict_text bytes)

-- the error of the first place of `strict_text` whose form or range is violated; without a separator it is a place of
-- the date, or the separator
abbrev pub Refuses : ℕ → Refusing
Refuses Y bytes = rfc3339.Refuses Y (strict_text bytes)

-- the error of bytes that don't parse as a moment, on the direct path: that of RFC 3339 for their `strict_text`
abbrev pub RefusesDirectly : ℕ → List ℕ → Refusal → Type 0
RefusesDirectly Y bytes = RefusesRfc3339 Y (strict_text bytes)

-- The strict format parses exactly the texts of RFC 3339 whose eleventh byte is `T`, `t` or a space, with equal rests
-- and records.
abbrev pub StrictTexts : ℕ → Type 0
StrictTexts Y =
    (bytes : List ℕ) (r : Record) (rest : List ℕ) (new : Record)
    → Reads Y bytes r rest new ↔ ((has_separator bytes ≡ true) × rfc3339.Reads Y bytes r rest new)
