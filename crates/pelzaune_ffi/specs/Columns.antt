-- Columns: the lines of a text, each as the nanoseconds of its moment.
use Rattle.std.specs.Prelude.{◌≡◌, ℕ, ◌+◌, ◌-◌, ◌<◌, nat_eq, List, [], ◌∷◌, length, get_or, take, Ok, pos, neg_ℤ, if◌then◌else◌}
use Rattle.byte_streams.specs.Lines.{line_texts}
use Rattle.time_components.specs.Tree.{Tree}
use Rattle.pelzaune_ffi.specs.Described.{StoresByTree}
use Rattle.pelzaune_ffi.specs.Results.{IsCountStored, of_moment}
use Rattle.pelzaune_ffi.specs.declared.parts.Nanoseconds.{Nanoseconds}

-- A relation of a line, the status of its parse, and its entry before and after the line is stored.
abbrev pub Counting : Type 1
Counting = List ℕ → ℕ → Nanoseconds → Nanoseconds → Type 0

-- The line is parsed by the tree: the status is 0, and the new entry has the nanoseconds of its moment; or the status
-- is the error's, or 7 if they don't fit 64 bits, and the entry is unchanged.
abbrev pub by_tree : Tree → Counting
by_tree tree line status old new = StoresByTree IsCountStored of_moment (Ok tree) line status old new

-- Any line is rejected with this status, and the entry is unchanged.
abbrev pub rejecting : ℕ → Counting
rejecting reason line status old new = (status ≡ reason) × (new ≡ old)

-- The entry of a rejected line: the least signed number of 64 bits.
abbrev pub no_count : Nanoseconds
no_count = record { count = neg_ℤ (pos 9_223_372_036_854_775_808) }

-- The line without the CR at its end, if there is one.
abbrev pub without_cr : List ℕ → List ℕ
without_cr line = if nat_eq (get_or line (length line - 1) 0) 13 then take (length line - 1) line else line

-- 0 for the status 0, and 1 for any other, which is an error's.
abbrev pub one_if_refused : ℕ → ℕ
one_if_refused status = if nat_eq status 0 then 0 else 1

-- The entry at a line's index is what `stores` makes of `no_count` for the line without its CR, for as many lines as
-- there are entries. `refused` is the number of those lines that are rejected. An entry without a line is unchanged.
abbrev pub IsColumn : Counting → List (List ℕ) → List Nanoseconds → List Nanoseconds → ℕ → Type 0
IsColumn stores [] old new refused = (new ≡ old) × (refused ≡ 0)
IsColumn stores (line ∷ lines) [] new refused = (new ≡ []) × (refused ≡ 0)
IsColumn stores (line ∷ lines) (entry ∷ old) new refused =
    (status : ℕ) × (first : Nanoseconds) × stores (without_cr line) status no_count first
    × (others : List Nanoseconds) × (later : ℕ) × IsColumn stores lines old others later
    × (new ≡ first ∷ others) × (refused ≡ one_if_refused status + later)

-- The line is the first of a text, and the bytes `after` it, which are fewer than the text's, have the other lines.
pub record IsFirstLine (line text after : List ℕ) : Type 0 where
  pub lines : line_texts text ≡ line ∷ line_texts after
  pub shorter : length after < length text
