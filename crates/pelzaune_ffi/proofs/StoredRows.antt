-- A column, entry by entry.
use Rattle.std.specs.Prelude.{MatchOption, Option, Some, None}
use Rattle.std.proofs.Common.{◌≡◌, ℕ, ◌+◌, ◌<◌, List, [], ◌∷◌, ◌++◌, length, get_or, set, take, drop, ◌≤◌, ◌⊎◌, inl, inr, refl, arith, append_assoc, add_assoc, add-one, add-zero, append-nil, drop-cons, ◌==◌, true, eqb, Bool, false, map, zero, suc, ap, ◌-◌, ◌∙◌, if◌then◌else◌}
use Rattle.std.proofs.lemmas.List.{take_more_set, drop-set-lt, take_all, drop_all, take-append-drop}
use Rattle.std.proofs.lemmas.Bool.Decides.{nat_tests}
use Rattle.memchr.specs.Find.{IsFirstByte, is_byte}
use Rattle.time_values.specs.Refusal.{Refusal}
use Rattle.time_digits.specs.declared.Padding.{Padding}
use Rattle.time_digits.specs.declared.Padding.TheVariants as padding
use Rattle.time_components.specs.declared.inspect.Step.{Step}
use Rattle.time_components.specs.declared.inspect.Step.TheVariants as step
use Rattle.time_components.specs.Tree.{steps_after, steps_trees, tree_at, Trees, more as tree_more, sequence}
use Rattle.time_components.specs.declared.format_description.Component.TheVariants as component
use Rattle.time_components.specs.declared.modifier.Ignore.{Ignore}
use Rattle.time_components.specs.declared.modifier.SubsecondDigits.{SubsecondDigits}
use Rattle.time_components.specs.declared.modifier.SubsecondDigits.TheVariants as digits
use Rattle.time_components.specs.declared.modifier.TrailingInput.{TrailingInput}
use Rattle.time_components.specs.declared.modifier.TrailingInput.TheVariants as trailing
use Rattle.time_descriptions.specs.Values.{ignored}
use Rattle.time_descriptions.proofs.WrittenComponents.{ignored_of}
use Rattle.time_record.specs.Reading.{Reads, IsFault, Refuses}
use Rattle.time_record.specs.Record.{Record}
use Rattle.time_record.specs.WalkSteps.{Resumes}
use Rattle.time_record.proofs.WalkSteps.{behind_is, first_item}
use Rattle.byte_streams.specs.Lines.{line_texts}
use Rattle.byte_streams.proofs.LinesLemmas.{line_texts-found, line_texts-none}
use Rattle.pelzaune_ffi.specs.Columns.{Counting, IsColumn, no_count, one_if_refused, without_cr}
use Rattle.pelzaune_ffi.specs.declared.parts.Nanoseconds.{Nanoseconds}
use Rattle.pelzaune_ffi.specs.Described.{step_of, kinds, kind_in, padding_of, padding_number, digits_of, digits_number, trailing_of, trailing_number, is_set, skipping}
use Rattle.pelzaune_ffi.specs.declared.steps.StoredStep.{StoredStep}

-- the entries and the rejected lines so far make, with those of the remaining lines, those of all lines
abbrev pub Ends : Counting → List (List ℕ) → List Nanoseconds → List (List ℕ) → List Nanoseconds → List Nanoseconds → ℕ → Type 0
Ends stores all initial lines old before refused =
    (later : List Nanoseconds) (more : ℕ) → IsColumn stores lines old later more
    → IsColumn stores all initial (before ++ later) (refused + more)

-- one more line is stored
pub Ends-more : (stores : Counting) (all : List (List ℕ)) (initial entries : List Nanoseconds) (line : List ℕ) (others : List (List ℕ))
    (index status refused : ℕ) (entry : Nanoseconds) → index < length entries → stores (without_cr line) status no_count entry
    → Ends stores all initial (line ∷ others) (drop index entries) (take index entries) refused
    → Ends stores all initial others (drop (index + 1) (set entries index entry)) (take (index + 1) (set entries index entry))
    (refused + one_if_refused status)
Ends-more stores all initial entries line others index status refused entry within is_stored so_far later more column =
    let there : drop index entries ≡ get_or entries index entry ∷ drop (index + 1) entries = rw add-one (drop-cons entries index entry within) in
    let kept : IsColumn stores others (drop (index + 1) entries) later more = rw (drop-set-lt (index + 1) entries index entry (omega arith)) at column in
    let one : IsColumn stores (line ∷ others) (drop index entries) (entry ∷ later) (one_if_refused status + more) =
    rw there (status, entry, is_stored, later, more, kept, refl, refl) in
    rw (take_more_set entries index entry within, append_assoc (take index entries) (entry ∷ []) later, add_assoc refused (one_if_refused status) more)
    (so_far (entry ∷ later) (one_if_refused status + more) one)

-- no entries remain
none-left : (stores : Counting) (lines : List (List ℕ)) → IsColumn stores lines [] [] 0
none-left stores [] = (refl, refl)
none-left stores (line ∷ lines) = (refl, refl)

-- without remaining lines or entries, the column is complete
pub Ends-all : (stores : Counting) (all : List (List ℕ)) (initial entries : List Nanoseconds) (lines : List (List ℕ)) (index refused : ℕ)
    → (length entries ≤ index) ⊎ (lines ≡ []) → Ends stores all initial lines (drop index entries) (take index entries) refused
    → IsColumn stores all initial entries refused
Ends-all stores all initial entries lines index refused ended so_far =
    elim ended [
      | inl full ↦
          let nothing : drop index entries ≡ [] = drop_all index entries full in
          let whole : take index entries ≡ entries = take_all index entries full in
          rw whole at (rw append-nil at (rw add-zero at (so_far [] 0 (rw nothing (none-left stores lines)))))
      | inr none ↦ rw (take-append-drop index entries, add-zero) at (so_far (drop index entries) 0 (rw none (refl, refl)))
    ]

-- an empty text has no lines
pub no_lines : (xs : List ℕ) → (length xs == 0) ≡ true → line_texts xs ≡ []
no_lines [] e = refl
no_lines (x ∷ xs) e = absurd (grind (arith, nat_tests, e))

-- columns are equal where each line is stored equally
pub IsColumn-map : (P Q : Counting)
    → ((line : List ℕ) (status : ℕ) (old new : Nanoseconds) → P line status old new → Q line status old new)
    → (lines : List (List ℕ)) (old new : List Nanoseconds) (refused : ℕ)
    → IsColumn P lines old new refused → IsColumn Q lines old new refused
IsColumn-map P Q f [] old new refused h = h
IsColumn-map P Q f (line ∷ lines) [] new refused h = h
IsColumn-map P Q f (line ∷ lines) (entry ∷ old) new refused h =
    (h.0, h.1, f (without_cr line) h.0 no_count h.1 h.2, h.3, h.4, IsColumn-map P Q f lines old h.3 h.4 h.5, h.6, h.7)

-- ---- The index of the first LF, by the mask of the first bytes

abbrev pub lf : ℕ → Bool
lf x = eqb x 10

pub not_lf : (x : ℕ) → lf x ≡ false → x ≡ 10 → ⊥
not_lf x other is = cc

-- the result of a search
pub searched : (xs : List ℕ) (found : Option ℕ) → 0 < length xs → IsFirstByte (is_byte 10) xs found
    → MatchOption found (line_texts xs ≡ xs ∷ []) (λ i. (i < length xs) × (line_texts xs ≡ take i xs ∷ line_texts (drop (i + 1) xs)))
searched xs (Some i) some first = (first.0.high, line_texts-found xs i first.0 first.1)
searched xs None some first = line_texts-none xs some first

-- ---- Stored steps of known forms, by their numbers

module _ (h : StoredStep) where
  -- the step of a kind is the table's row
  of_kind : (kind : ℕ) → h.kind ≡ kind → step_of h ≡ kind_in (kinds h) 0 kind
  unfolding step_of
  of_kind kind is = ap (kind_in (kinds h) 0) is

  pub literal : h.kind ≡ 0 → step_of h ≡ step.Literal h.choice
  literal is = of_kind 0 is

  -- its choice and flag are known
  pub padded : (kind : ℕ) → (h.kind ≡ kind) × (h.choice ≡ 0) → step_of h ≡ kind_in (kinds (record h { choice = 0 })) 0 kind
  padded kind is = rw (of_kind kind is.0, is.1) refl

  pub flagged : (kind flag : ℕ) → (h.kind ≡ kind) × (h.choice ≡ 0) × (h.flag ≡ flag) →
      step_of h ≡ kind_in (kinds (record h { choice = 0; flag = flag })) 0 kind
  flagged kind flag is = rw (of_kind kind is.0, is.1, is.2) refl

-- this many steps of a row, from an index on
abbrev pub row : List StoredStep → StoredStep → ℕ → ℕ → List Step
row xs d zero i = []
row xs d (suc n) i = step_of (get_or xs i d) ∷ row xs d n (suc i)

from : (xs : List StoredStep) (d : StoredStep) (n i : ℕ) → i + n ≡ length xs → map step_of (drop i xs) ≡ row xs d n i
from xs d zero i is = rw (drop_all i xs (omega arith)) refl
from xs d (suc n) i is =
    rw (drop-cons xs i d (omega arith)) (ap (λ ys. step_of (get_or xs i d) ∷ ys) (from xs d n (suc i) (omega arith)))

pub row_of : (xs : List StoredStep) (d : StoredStep) (n : ℕ) → n ≡ length xs → map step_of xs ≡ row xs d n 0
row_of xs d n is = from xs d n 0 (omega arith)

-- ---- The trees of a row of stored steps

first_step : (s : Step) (steps : List Step) →
    steps_trees (s ∷ steps) ≡ tree_more (tree_at steps_trees s steps) (steps_trees (steps_after s steps))
first_step s steps =
    first_item (s ∷ steps) s (omega arith) refl
    ∙ ap (λ ys. tree_more (tree_at steps_trees s ys) (steps_trees (steps_after s ys))) (behind_is (s ∷ steps) (omega arith))

-- the item of the first step, and the items after it, as a pattern binds them
pub first_stored : (left : List StoredStep) (d : StoredStep) → 1 ≤ length left →
    steps_trees (map step_of left)
    ≡ tree_more (tree_at steps_trees (step_of (get_or left 0 d)) (map step_of (take (length left - 1) (drop 1 left))))
    (steps_trees (steps_after (step_of (get_or left 0 d)) (map step_of (take (length left - 1) (drop 1 left)))))
first_stored [] d within = absurd (omega arith)
first_stored (h ∷ hs) d within =
    let same : take (length (h ∷ hs) - 1) hs ≡ hs = take_all (length (h ∷ hs) - 1) hs (omega arith) in
    rw same (first_step (step_of h) (map step_of hs))

module _ {Y : ℕ} {all : Trees} {b0 : List ℕ} {r0 : Record} {n : ℕ} {left : Trees} {b : List ℕ} {r : Record} (g : Resumes Y all b0 r0 n left b r) where
  -- the remaining steps parse the rest
  pub rest_reads : (rest : List ℕ) (q : Record) → Reads Y (sequence left) b r rest q → Reads Y (sequence all) b0 r0 rest q
  unfolding Reads
  rest_reads rest q h = g.reads rest q h

  -- or reject it
  pub rest_refuses : (e : Refusal) → Refuses Y (sequence left) b r e → Refuses Y (sequence all) b0 r0 e
  unfolding Reads IsFault
  rest_refuses e h =
      let refused = g.refuses e (record { unread = h.unread; fault = h.fault }) in
      record { unread = refused.unread; fault = refused.fault }

-- ---- Choices survive storing as numbers

pub padding_back : (p : Padding) → padding_of (padding_number p) ≡ p
padding_back padding.Space = refl
padding_back padding.Zero = refl
padding_back padding.None = refl

pub digits_back : (d : SubsecondDigits) → digits_of (digits_number d) ≡ d
digits_back digits.One = refl
digits_back digits.Two = refl
digits_back digits.Three = refl
digits_back digits.Four = refl
digits_back digits.Five = refl
digits_back digits.Six = refl
digits_back digits.Seven = refl
digits_back digits.Eight = refl
digits_back digits.Nine = refl
digits_back digits.OneOrMore = refl

pub trailing_back : (t : TrailingInput) → trailing_of (trailing_number t) ≡ t
trailing_back trailing.Prohibit = refl
trailing_back trailing.Discard = refl

pub flag_back : (flag : Bool) → is_set (if flag then 1 else 0) ≡ flag
flag_back true = refl
flag_back false = refl

-- the count of skipped bytes determines the step
pub skips : (i : Ignore) → skipping (ignored i.count.value) ≡ step.Component (component.Ignore i)
skips i = ap skipping (ignored_of i i.count.value refl)
