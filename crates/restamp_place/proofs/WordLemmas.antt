-- Words of a line that are skipped.
use Rattle.std.specs.Option.{option_map}
use Rattle.std.specs.List.{position_or_len}
use Rattle.std.proofs.Common.{◌≡◌, ℕ, zero, suc, ◌+◌, ◌-◌, ◌<◌, ◌≤◌, false, List, [], ◌∷◌, ◌++◌, length, take, drop, refl, ap, arith, None, Some, take-append-drop, ◌==◌, Bool, true, not, if◌then◌else◌, get_or, ⊎_elim, get_or-drop, ◌∙◌, add-one, append_assoc, Option, IfSome, ◌&&◌}
use Rattle.std.proofs.lemmas.Bool.{le-leb}
use Rattle.std.proofs.lemmas.List.{take_all, length-drop, drop-drop}
use Rattle.std.proofs.lemmas.Bool.Decides.{nat_tests}
use Rattle.std.proofs.lemmas.List.Sums.{prefix_len-le-length}
use Rattle.std.proofs.Math.Seq.{drop-cons}
use mir.Val.{bool_byte}
use Rattle.restamp_place.specs.Fields.{Fields, Field, Span, Blank, first_field, nth_field, moved, gap, first_word, is_blank, closing_quote}
use Rattle.restamp_place.specs.Words.{IsPassed, is_end, word_ends}

-- ---- The fields of a line, one after the other

-- the rest of a slice, as the range `n..` of it
pub tail_range : (n : ℕ) (xs : List ℕ) → take (length xs - n) (drop n xs) ≡ drop n xs
tail_range n xs = take_all (length xs - n) (drop n xs) (omega (arith, length-drop n xs))

-- a part that is n bytes further on
abbrev pub further_on : ℕ → Option Span → Option Span
further_on k r = option_map (moved k) r

pub further_on-further_on : (j k : ℕ) (r : Option Span) → further_on j (further_on k r) ≡ further_on (j + k) r
further_on-further_on j k r = grind arith

-- a field is skipped
pub nth-step : (kind : Fields) (n : ℕ) (line : List ℕ) (f : Field)
    → 0 < n → first_field kind line ≡ Some f → f.edge + gap kind ≤ length line
    → nth_field kind n line ≡ further_on (f.edge + gap kind) (nth_field kind (n - 1) (drop (f.edge + gap kind) line))
nth-step kind zero line f some e fits = absurd (omega arith)
nth-step kind (suc n) line f some e fits = let k : suc n - 1 ≡ n = omega arith in rw (k, e, le-leb _ _ fits)

-- the last field ends at the end of the line
pub nth-short : (kind : Fields) (n : ℕ) (line : List ℕ) (f : Field)
    → 0 < n → first_field kind line ≡ Some f → length line < f.edge + gap kind → nth_field kind n line ≡ None
nth-short kind zero line f some e short = absurd (omega arith)
nth-short kind (suc n) line f some e short = rw e (grind (arith, nat_tests))

pub nth-none : (kind : Fields) (n : ℕ) (line : List ℕ) → first_field kind line ≡ None → nth_field kind n line ≡ None
nth-none kind n line e = grind arith

-- where the first word ends
abbrev edge_of : List ℕ → Option ℕ
edge_of line = option_map (λ f. f.edge) (first_word line)

-- a word ends within its line
edge-within : (line : List ℕ) → IfSome (first_word line) (λ f. f.edge ≤ length line)
edge-within line =
    grind (arith, nat_tests, prefix_len-le-length (λ x. not (not (is_blank x))), prefix_len-le-length (λ x. not (is_blank x)), length-drop {A = ℕ})

-- the word after m others, in the bytes after a word that ends there
abbrev after_edge : ℕ → List ℕ → Option ℕ → Option Span
after_edge m line None = None
after_edge m line (Some e) = further_on e (nth_field Blank m (drop e line))

nth-edge : (m : ℕ) (line : List ℕ) → nth_field Blank (suc m) line ≡ after_edge m line (edge_of line)
nth-edge m line = let within = edge-within line in grind (arith, nat_tests)

-- after a blank each word ends one byte further on
edge-blank : (x : ℕ) (line : List ℕ) → is_blank x ≡ true → edge_of (x ∷ line) ≡ option_map (λ e. 1 + e) (edge_of line)
edge-blank x line h = grind (arith, nat_tests)

edge-here : (x : ℕ) (line : List ℕ) → is_blank x ≡ false → edge_of (x ∷ line) ≡ Some (1 + position_or_len is_blank line)
edge-here x line h = grind (arith, nat_tests)

later : (m x : ℕ) (line : List ℕ) (r : Option ℕ) → after_edge m (x ∷ line) (option_map (λ e. 1 + e) r) ≡ further_on 1 (after_edge m line r)
later m x line r = grind (arith, further_on-further_on)

-- a byte inside a word is skipped
passed-inside : (m x : ℕ) (line : List ℕ) → edge_of (x ∷ line) ≡ option_map (λ e. 1 + e) (edge_of line)
    → nth_field Blank (suc m) (x ∷ line) ≡ further_on 1 (nth_field Blank (suc m) line)
passed-inside m x line e = rw (nth-edge m (x ∷ line), e, nth-edge m line) (later m x line (edge_of line))

-- one byte is skipped
passed-byte : (b d : Bool) (m x y : ℕ) (rest : List ℕ) → is_blank x ≡ b → is_blank y ≡ d
    → nth_field Blank (suc m) (x ∷ y ∷ rest) ≡ further_on 1 (nth_field Blank (suc m - (if not b && d then 1 else 0)) (y ∷ rest))
passed-byte true d m x y rest h g = let e : suc m - 0 ≡ suc m = omega arith in rw e (passed-inside m x (y ∷ rest) (edge-blank x (y ∷ rest) h))
passed-byte false true m x y rest h g = rw (nth-edge m (x ∷ y ∷ rest), edge-here x (y ∷ rest) h) (grind (arith, g))
passed-byte false false m x y rest h g =
    let e : suc m - 0 ≡ suc m = omega arith in
    rw e (passed-inside m x (y ∷ rest) (rw (edge-here x (y ∷ rest) h, edge-here y rest g) (grind (arith, g))))

-- Bytes are skipped if fewer words end before the last of them than have to be skipped.
passes : (k n : ℕ) (line : List ℕ) → k + 1 < length line → word_ends k line < n
    → nth_field Blank n line ≡ further_on (suc k) (nth_field Blank (n - word_ends (suc k) line) (drop (suc k) line))
passes k n [] inside fewer = absurd (omega arith)
passes k n (x ∷ []) inside fewer = absurd (omega arith)
passes k zero (x ∷ y ∷ rest) inside fewer = absurd (omega arith)
passes zero (suc m) (x ∷ y ∷ rest) inside fewer = rw (passed-byte (is_blank x) (is_blank y) m x y rest refl refl) (grind arith)
passes (suc k) (suc m) (x ∷ y ∷ rest) inside fewer =
    let e : ℕ = if is_end x (y ∷ rest) then 1 else 0 in
    let next = passes k (suc m - e) (y ∷ rest) (omega arith) (omega arith) in
    rw (passed-byte (is_blank x) (is_blank y) m x y rest refl refl, next) (grind (arith, further_on-further_on))

-- one more byte is counted
ends-more : (k : ℕ) (line : List ℕ) → k < length line
    → word_ends (k + 1) line ≡ word_ends k line + (if not (is_blank (get_or line k 0)) && is_blank (get_or line (k + 1) 0) then 1 else 0)
ends-more k [] inside = absurd (omega arith)
ends-more zero (x ∷ line) inside = omega arith
ends-more (suc k) (x ∷ line) inside =
    let e : suc k + 1 ≡ suc (k + 1) = omega arith in
    let rest = ends-more k line (omega arith) in rw (e, rest) (omega arith)

-- a block after the skipped bytes is skipped
pub passes-further : (n : ℕ) (line : List ℕ) (start left block ends : ℕ) → 0 < block → block < length (drop start line)
    → ends ≡ word_ends block (drop start line) → ends < left
    → IsPassed n line (record { start = start; left = left }) → IsPassed n line (record { start = start + block; left = left - ends })
passes-further n line start left zero ends some inside e fewer h = absurd (omega arith)
passes-further n line start left (suc k) ends some inside e fewer h =
    let rest = drop start line in
    let next : suc k ≡ k + 1 = omega arith in
    let all : ends ≡ word_ends (k + 1) rest = rw next at e in
    let one_less : word_ends k rest < left = omega (arith, all, ends-more k rest (omega arith)) in
    rw (h, passes k left rest (omega arith) one_less, further_on-further_on start (suc k), e, drop-drop (suc k) start line)

-- one more byte after the skipped ones is skipped, also if it ends the last word that has to be skipped
pub passes-byte : (n : ℕ) (line : List ℕ) (start left ends : ℕ) → 0 < left → 1 < length (drop start line) → ends ≡ word_ends 1 (drop start line)
    → IsPassed n line (record { start = start; left = left }) → IsPassed n line (record { start = start + 1; left = left - ends })
passes-byte n line start left ends some inside e h =
    rw (h, passes 0 left (drop start line) inside some, further_on-further_on start 1, e, drop-drop 1 start line)

-- what the loops that skip words do
pub ruleset word_steps = (passes-byte, passes-further, length-drop)

-- one more byte is counted at its place in a line
pub counts : (line : List ℕ) (start k ends more : ℕ) (a b : Bool) → k < length (drop start line)
    → ends ≤ k → ends ≡ word_ends k (drop start line)
    → a ≡ is_blank (get_or line (start + k) 0) → b ≡ is_blank (get_or line (start + k + 1) 0) → more ≡ bool_byte (not a && b)
    → (ends + more ≤ k + 1) × (ends + more ≡ word_ends (k + 1) (drop start line))
counts line start k ends more a b inside few said x y m =
    let next : start + (k + 1) ≡ start + k + 1 = omega arith in
    let counted = ends-more k (drop start line) inside in
    grind (arith, counted, get_or-drop start line k 0, get_or-drop start line (k + 1) 0)

-- ---- The place of the quote that closes a field

-- a place that is n bytes further on
abbrev pub further : ℕ → Option ℕ → Option ℕ
further k r = option_map (λ n. k + n) r

pub further-further : (j k : ℕ) (r : Option ℕ) → further j (further k r) ≡ further (j + k) r
further-further j k r = grind arith

further-back : (k : ℕ) (r : Option ℕ) → option_map (λ n. n + k) r ≡ further k r
further-back k r = grind arith

-- a byte at its place, and what comes after it
at_place : (bytes : List ℕ) (n : ℕ) → n < length bytes → drop n bytes ≡ get_or bytes n 0 ∷ drop (n + 1) bytes
at_place bytes n below = rw add-one (drop-cons bytes n 0 below)

pub closes-other : (bytes : List ℕ) (n : ℕ) → n < length bytes → (get_or bytes n 0 ≡ 34 → ⊥)
    → closing_quote (drop n bytes) ≡ further 1 (closing_quote (drop (n + 1) bytes))
closes-other bytes n below ne = rw (at_place bytes n below) (grind (arith, nat_tests))

pub closes-two : (bytes : List ℕ) (n : ℕ) → n + 1 < length bytes → get_or bytes n 0 ≡ 34 → get_or bytes (n + 1) 0 ≡ 34
    → closing_quote (drop n bytes) ≡ further 2 (closing_quote (drop (n + 2) bytes))
closes-two bytes n below e f =
    let next : n + 1 + 1 ≡ n + 2 = omega arith in
    rw (at_place bytes n (omega arith), at_place bytes (n + 1) below, e, f, next) (further-back 2 (closing_quote (drop (n + 2) bytes)))

-- what a step of a search for a closing quote does
pub ruleset quote_steps = (closes-other, closes-two, further-further)
