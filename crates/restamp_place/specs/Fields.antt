-- The fields of a line.
use Rattle.std.specs.Prelude.{ℕ, zero, suc, ◌+◌, ◌≤◌, Bool, not, ◌||◌, ◌==◌, nat_le, List, [], ◌∷◌, length, drop, slice_index, if◌then◌else◌, Option, None, Some}
use Rattle.std.specs.List.{position_or_len}
use Rattle.std.specs.Option.{option_and_then, option_map}
pub use Rattle.restamp_place.specs.declared.fields.Span.{Span}
pub use Rattle.restamp_place.specs.declared.fields.Field.{Field}
pub use Rattle.restamp_place.specs.declared.fields.Fields.{Fields}
pub use Rattle.restamp_place.specs.declared.fields.Fields.TheVariants.{Delimited, Blank, Quoted}

-- space or TAB
abbrev pub is_blank : ℕ → Bool
is_blank x = x == 32 || x == 9

-- the part of the bytes from index `start` to before `stop`
abbrev pub span : ℕ → ℕ → Span
span start stop = record { start = start; stop = stop }

-- a field whose content is the bytes from `start` to before `stop`; `edge` is the index after the field and its closing
-- quote
abbrev pub field : ℕ → ℕ → ℕ → Field
field start stop edge = record { said = span start stop; edge = edge }

-- A field of a line of n bytes: it lies within the line, and its content ends no later than the field does.
pub record IsWithin (n : ℕ) (f : Field) : Type 0 where
  pub ordered : f.said.start ≤ f.said.stop
  pub closed : f.said.stop ≤ f.edge
  pub within : f.edge ≤ n

-- a part that lies within n bytes
pub record IsPart (n : ℕ) (s : Span) : Type 0 where
  pub ordered : s.start ≤ s.stop
  pub within : s.stop ≤ n

-- the first field of a line: the bytes before the first delimiter `d`, or all if there is none
abbrev pub first_delimited : ℕ → List ℕ → Field
first_delimited d line = let stop = position_or_len (λ x. x == d) line in field 0 stop stop

-- the first run of bytes other than space and TAB; `None` if the line has no such byte
abbrev pub first_word : List ℕ → Option Field
first_word line =
    let start = position_or_len (λ x. not (is_blank x)) line in
    let stop = start + position_or_len is_blank (drop start line) in
    if start == length line then None else Some (field start stop stop)

-- the index of the quote that closes a field in quotes whose content starts with these bytes: the first `"` that isn't
-- one of a pair `""`; `None` if there is none
abbrev pub closing_quote : List ℕ → Option ℕ
closing_quote [] = None
closing_quote (x ∷ []) = if x == 34 then Some 0 else None
closing_quote (x ∷ y ∷ bytes) =
    if x == 34 then (if y == 34 then option_map (λ n. n + 2) (closing_quote bytes) else Some 0)
    else option_map (λ n. n + 1) (closing_quote (y ∷ bytes))

-- the field at the start of a line, in quotes with n bytes between them; `None` unless the delimiter `d` or the end
-- follows the closing quote
abbrev pub closed_field : ℕ → List ℕ → ℕ → Option Field
closed_field d line n =
    if n + 2 == length line || slice_index line (n + 2) == d then Some (field 1 (n + 1) (n + 2)) else None

-- The first field of a line. If it starts with a quote, it ends with the closing one; `None` if that is missing, or is
-- followed by neither the delimiter `d` nor the end. Any other field ends before the delimiter `d`, or at the end.
abbrev pub first_quoted : ℕ → List ℕ → Option Field
first_quoted d line =
    if slice_index line 0 == 34 then option_and_then (closed_field d line) (closing_quote (drop 1 line))
    else Some (first_delimited d line)

-- the first field of a line by that kind; `None` if `Blank` finds no word, or `first_quoted` rejects its quotes
abbrev pub first_field : Fields → List ℕ → Option Field
first_field (Delimited d) line = Some (first_delimited d line)
first_field Blank line = first_word line
first_field (Quoted d) line = first_quoted d line

-- the number of bytes between two fields: 1, the delimiter; 0 for `Blank`, where the next search skips any blanks
abbrev pub gap : Fields → ℕ
gap Blank = 0
gap _ = 1

-- the part moved n bytes towards the end of the line
abbrev pub moved : ℕ → Span → Span
moved n s = span (n + s.start) (n + s.stop)

-- the content of the field with index n, from 0, as a part of the line; `None` if there are too few fields, or
-- `first_quoted` rejects the quotes of one up to it
abbrev pub nth_field : Fields → ℕ → List ℕ → Option Span
nth_field fields zero line = option_map (λ f. f.said) (first_field fields line)
nth_field fields (suc n) line =
    option_and_then
    (λ f. let next = f.edge + gap fields in
    if nat_le next (length line) then option_map (moved next) (nth_field fields n (drop next line)) else None)
    (first_field fields line)
