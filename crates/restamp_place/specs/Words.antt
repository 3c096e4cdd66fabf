-- No public contract rests on this file.
--
-- Words that are skipped.
use Rattle.std.specs.Prelude.{◌≡◌, ℕ, zero, suc, ◌+◌, Bool, not, ◌&&◌, List, [], ◌∷◌, drop, slice_index, if◌then◌else◌}
use Rattle.std.specs.Option.{option_map}
use Rattle.restamp_place.specs.Fields.{Blank, is_blank, moved, nth_field}
use Rattle.restamp_place.specs.declared.fields.fast.Passed.{Passed}

-- a word ends with the byte x, and blanks follow: x isn't a space or TAB, but the first byte of `rest`, after x, is one
abbrev pub is_end : ℕ → List ℕ → Bool
is_end x rest = not (is_blank x) && is_blank (slice_index rest 0)

-- how many words end with one of the first n bytes, each followed by a space or TAB
abbrev pub word_ends : ℕ → List ℕ → ℕ
word_ends zero line = 0
word_ends (suc n) [] = 0
word_ends (suc n) (x ∷ rest) = (if is_end x rest then 1 else 0) + word_ends n rest

-- The word with index n of the line is the word with index `left` of its bytes from `start` on, or neither exists.
abbrev pub IsPassed : ℕ → List ℕ → Passed → Type 0
IsPassed n line p = nth_field Blank n line ≡ option_map (moved p.start) (nth_field Blank p.left (drop p.start line))
