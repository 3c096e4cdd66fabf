-- The part of a line at a place.
use Rattle.std.specs.Prelude.{ℕ, ◌+◌, List, [], ◌∷◌, if◌then◌else◌, Option, None, Some, Bool, true, false, ◌-◌, ◌==◌, length, take, drop, slice_index}
use Rattle.std.specs.Option.{option_map, option_and_then}
use Rattle.memchr.specs.Find.{occurs_at}
use Rattle.restamp_place.specs.declared.place.Place.{Place}
use Rattle.restamp_place.specs.declared.place.Place.TheVariants.{Whole, Front, Field, Between, After}
use Rattle.restamp_place.specs.Fields.{Span, span, nth_field}

-- ---- The place of a text in bytes

-- how many bytes come before the first occurrence of the text; 0 for an empty text; `None` if it doesn't occur
abbrev pub place_of : List ℕ → List ℕ → Option ℕ
place_of text [] = if occurs_at [] text 0 then Some 0 else None
place_of text (x ∷ bytes) =
    if occurs_at (x ∷ bytes) text 0 then Some 0 else option_map (λ n. n + 1) (place_of text bytes)

-- the length of a line without a CR at its end
abbrev pub body_length : List ℕ → ℕ
body_length line = if slice_index line (length line - 1) == 13 then length line - 1 else length line

-- a line without a CR at its end
abbrev pub body_of : List ℕ → List ℕ
body_of line = take (body_length line) line

-- the part of a line after the first `begin`, up to the next `close`; `None` if there is no `begin` or no later `close`
abbrev pub between_of : List ℕ → List ℕ → List ℕ → Option Span
between_of begin close line =
    option_and_then
    (λ n. let start = n + length begin in option_map (λ k. span start (start + k)) (place_of close (drop start line)))
    (place_of begin line)

-- the part of a line after the first `key`, to the end; `None` if `key` doesn't occur
abbrev pub after_of : List ℕ → List ℕ → Option Span
after_of key line = option_map (λ n. span (n + length key) (length line)) (place_of key line)

-- the part of a line that is its timestamp, or starts with it; a CR at the line's end is searched only by `Between`;
-- `None` if there is no such field (fields count from 1, and `nth_field` may reject quotes), or a text doesn't occur
abbrev pub span_of : Place → List ℕ → Option Span
span_of Whole line = Some (span 0 (body_length line))
span_of Front line = Some (span 0 (body_length line))
span_of (Field kind n) line = if n == 0 then None else nth_field kind (n - 1) (body_of line)
span_of (Between begin close) line = between_of begin.now close.now line
span_of (After key) line = after_of key.now (body_of line)

-- whether the format decides where the timestamp ends, so that its part extends to the end of the line, or to a
-- CR there
abbrev pub is_prefix : Place → Bool
is_prefix Front = true
is_prefix (After key) = true
is_prefix _ = false
