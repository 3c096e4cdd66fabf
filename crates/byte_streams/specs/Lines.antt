-- The lines of bytes.
use Rattle.std.specs.Prelude.{◌≡◌, ◌<◌, ℕ, List, [], ◌∷◌, ◌++◌, if◌then◌else◌, ◌==◌, length, slice_index, map}

-- a line: the bytes before its LF, and the LF, or nothing if the input ends without one
pub record Line : Type 0 where
  pub text : List ℕ
  pub ending : List ℕ

-- a line that ends with LF
abbrev pub ended : List ℕ → Line
ended text = record { text = text; ending = 10 ∷ [] }

-- a line with no LF
abbrev pub unended : List ℕ → Line
unended text = record { text = text; ending = [] }

-- the lines, with the byte b before the first line's text; if there are no lines, one line of b without LF
abbrev pub onto_first : ℕ → List Line → List Line
onto_first b [] = unended (b ∷ []) ∷ []
onto_first b (line ∷ lines) = record { text = b ∷ line.text; ending = line.ending } ∷ lines

-- The lines of a text. Each line ends with LF, except the last line of a text whose last byte isn't LF.
abbrev pub lines_of : List ℕ → List Line
lines_of [] = []
lines_of (b ∷ bytes) = if b == 10 then ended [] ∷ lines_of bytes else onto_first b (lines_of bytes)

-- the lines of a text, each without its LF
abbrev pub line_texts : List ℕ → List (List ℕ)
line_texts bytes = map (λ (line : Line). line.text) (lines_of bytes)

-- the bytes of the lines with their endings, one line after the other
abbrev pub joined : List Line → List ℕ
joined [] = []
joined (line ∷ lines) = (line.text ++ line.ending) ++ joined lines

-- no byte is LF
abbrev pub HasNoLf : List ℕ → Type 0
HasNoLf bytes = (k : ℕ) → k < length bytes → ¬ (slice_index bytes k ≡ 10)

-- each line ends with LF, and has no other LF
abbrev pub AreEnded : List Line → Type 0
AreEnded [] = Unit {0}
AreEnded (line ∷ lines) = HasNoLf line.text × (line.ending ≡ 10 ∷ []) × AreEnded lines
