-- The place of a text that RFC 3339 with only `T`, `t` or a space as separator rejects.
use Rattle.std.specs.Prelude.{◌≡◌, ℕ, ◌+◌, ◌-◌, List, length, Option}
use Rattle.std.specs.Option.{option_map}
use Rattle.time_record.specs.Record.{Record}
use Rattle.time_parsing.specs.Rfc3339Strict.{strict_text}
use Rattle.time_locating.specs.Located.{Locating, Marking}
use Rattle.time_locating.specs.Misses.{Miss, missed}
use Rattle.time_locating.specs.Rfc3339 as rfc3339

-- how many bytes follow the first ten, if the eleventh byte of a text isn't `T`, `t` or a space; 0 for any other text
abbrev pub cut_off : List ℕ → ℕ
cut_off bytes = length bytes - length (strict_text bytes)

-- The miss at the first of the fifteen places that doesn't match, the separator at the latest if it isn't `T`, `t` or a
-- space. If all match and bytes remain, it is the miss of the end. Its bytes left are counted in the whole text.
abbrev pub Locates : Locating
Locates bytes r m =
    (miss : Miss) × rfc3339.Locates (strict_text bytes) r miss × (m ≡ missed (miss.left + cut_off bytes) miss.wanted)

-- How many bytes are left at the start of the place of that name, whatever the record. None if a place doesn't match,
-- if the separator isn't `T`, `t` or a space, if no place has the name, or if the place has no text.
abbrev pub Marks : Marking
Marks name bytes r mark =
    (left : Option ℕ) × rfc3339.Marks name (strict_text bytes) r left
    × (mark ≡ option_map (λ n. n + cut_off bytes) left)
