-- Joining lines, and splitting a text into lines.
use Rattle.std.specs.Prelude.{map}
use Rattle.std.proofs.Common.{◌≡◌, ℕ, ◌+◌, ◌<◌, suc, zero, List, [], ◌∷◌, ◌++◌, length, take, drop, refl, ap, sym, arith, ◌∙◌, append_assoc, inl, inr, get_or, add-one}
use Rattle.std.proofs.lemmas.Bool.Decides.{nat_tests}
use Rattle.std.proofs.lemmas.Bool.{cases_eq}
use Rattle.memchr.specs.Find.{Nowhere, NoneBefore, Passes, is_byte}
use Rattle.byte_streams.specs.Lines.{Line, ended, unended, onto_first, lines_of, line_texts, joined, AreEnded, HasNoLf}

pub joined-append : (lines more : List Line) → joined (lines ++ more) ≡ joined lines ++ joined more
joined-append [] more = refl
joined-append (line ∷ lines) more =
    ap (λ (l : List ℕ). (line.text ++ line.ending) ++ l) (joined-append lines more)
    ∙ sym (append_assoc (line.text ++ line.ending) (joined lines) (joined more))

pub AreEnded-append : (lines more : List Line) → AreEnded lines → AreEnded more → AreEnded (lines ++ more)
AreEnded-append [] more p q = q
AreEnded-append (line ∷ lines) more p q = (p.0, p.1, AreEnded-append lines more p.2 q)

pub HasNoLf-nil : HasNoLf []
HasNoLf-nil k below = absurd (omega arith)

pub HasNoLf-append : (xs ys : List ℕ) → HasNoLf xs → HasNoLf ys → HasNoLf (xs ++ ys)
HasNoLf-append [] ys p q k below = q k below
HasNoLf-append (x ∷ xs) ys p q zero below = p 0 (omega arith)
HasNoLf-append (x ∷ xs) ys p q (suc k) below = HasNoLf-append xs ys (λ j b. p (suc j) (omega arith)) q k (omega arith)

pub past_lf : (x : ℕ) (xs : List ℕ) → (x ≡ 10 → ⊥) → lines_of (x ∷ xs) ≡ onto_first x (lines_of xs)
past_lf x xs ne = grind (arith, nat_tests)

pub lines_of-ended : (line rest : List ℕ) → HasNoLf line → lines_of (line ++ 10 ∷ rest) ≡ ended line ∷ lines_of rest
lines_of-ended [] rest h = refl
lines_of-ended (x ∷ line) rest h =
    past_lf x (line ++ 10 ∷ rest) (h 0 (omega arith))
    ∙ ap (onto_first x) (lines_of-ended line rest (λ k below. h (suc k) (omega arith)))

pub lines_of-joined : (lines : List Line) (rest : List ℕ) → AreEnded lines → lines_of (joined lines ++ rest) ≡ lines ++ lines_of rest
lines_of-joined [] rest h = refl
lines_of-joined (line ∷ lines) rest h =
    let cut : (line.text ++ line.ending) ++ joined lines ++ rest ≡ line.text ++ 10 ∷ (joined lines ++ rest) =
    ap (λ (e : List ℕ). (line.text ++ e) ++ joined lines ++ rest) h.1
    ∙ append_assoc (line.text ++ 10 ∷ []) (joined lines) rest
    ∙ append_assoc line.text (10 ∷ []) (joined lines ++ rest) in
    let same : ended line.text ≡ line = λ j. record { text = line.text; ending = sym h.1 j } in
    ap lines_of cut
    ∙ lines_of-ended line.text (joined lines ++ rest) h.0
    ∙ ap (λ (l : Line). l ∷ lines_of (joined lines ++ rest)) same
    ∙ ap (λ (ls : List Line). line ∷ ls) (lines_of-joined lines rest h.2)

-- a text with no LF is one line, unless it is empty
pub lines_of-last : (text : List ℕ) → 0 < length text → HasNoLf text → lines_of text ≡ unended text ∷ []
lines_of-last [] some h = absurd (omega arith)
lines_of-last (x ∷ []) some h = past_lf x [] (h 0 (omega arith))
lines_of-last (x ∷ y ∷ text) some h =
    past_lf x (y ∷ text) (h 0 (omega arith))
    ∙ ap (onto_first x) (lines_of-last (y ∷ text) (omega arith) (λ k below. h (suc k) (omega arith)))

-- the lines of a text, joined, are its bytes
joined-onto_first : (x : ℕ) (lines : List Line) → joined (onto_first x lines) ≡ x ∷ joined lines
joined-onto_first x [] = refl
joined-onto_first x (line ∷ lines) = refl

pub joined-lines_of : (bytes : List ℕ) → joined (lines_of bytes) ≡ bytes
joined-lines_of [] = refl
joined-lines_of (x ∷ bytes) =
    elim (cases_eq x 10) [
      | inl e ↦ ap (λ (y : ℕ). joined (lines_of (y ∷ bytes))) e ∙ ap (λ (l : List ℕ). 10 ∷ l) (joined-lines_of bytes) ∙ ap (λ (y : ℕ). y ∷ bytes) (sym e)
      | inr ne ↦ ap joined (past_lf x bytes ne) ∙ joined-onto_first x (lines_of bytes) ∙ ap (λ (l : List ℕ). x ∷ l) (joined-lines_of bytes)
    ]

-- ---- A text, split at its first LF

pub line_texts-ended : (line rest : List ℕ) → HasNoLf line → line_texts (line ++ 10 ∷ rest) ≡ line ∷ line_texts rest
line_texts-ended line rest h = ap (map (λ (l : Line). l.text)) (lines_of-ended line rest h)

pub line_texts-last : (text : List ℕ) → 0 < length text → HasNoLf text → line_texts text ≡ text ∷ []
line_texts-last text some h = ap (map (λ (l : Line). l.text)) (lines_of-last text some h)

pub drop_more : (x : ℕ) (xs : List ℕ) (n : ℕ) → drop (suc n + 1) (x ∷ xs) ≡ drop (n + 1) xs
drop_more x xs n = simp add-one

at_lf : (x : ℕ) (xs : List ℕ) → x ≡ 10 → lines_of (x ∷ xs) ≡ ended [] ∷ lines_of xs
at_lf x xs e = rw e

pub lines_of-cut : (xs : List ℕ) (n : ℕ) → n < length xs
    → get_or xs n 0 ≡ 10 → ((k : ℕ) → k < n → get_or xs k 0 ≡ 10 → ⊥)
    → lines_of xs ≡ ended (take n xs) ∷ lines_of (drop (n + 1) xs)
lines_of-cut [] n h e before = absurd (omega arith)
lines_of-cut (x ∷ xs) zero h e before = at_lf x xs e
lines_of-cut (x ∷ xs) (suc n) h e before =
    rw drop_more
    (past_lf x xs (before 0 (omega arith))
    ∙ ap (onto_first x) (lines_of-cut xs n (omega arith) e (λ k below. before (suc k) (omega arith))))

pub line_texts-cut : (xs : List ℕ) (n : ℕ) → n < length xs
    → get_or xs n 0 ≡ 10 → ((k : ℕ) → k < n → get_or xs k 0 ≡ 10 → ⊥)
    → line_texts xs ≡ take n xs ∷ line_texts (drop (n + 1) xs)
line_texts-cut xs n h e before = ap (map (λ (l : Line). l.text)) (lines_of-cut xs n h e before)

-- the result of a search for a byte
passed : (a : ℕ) (xs : List ℕ) (k : ℕ) → Passes (is_byte a) xs k → get_or xs k 0 ≡ a
passed a xs k h = grind (arith, nat_tests)

passes : (a : ℕ) (xs : List ℕ) (k : ℕ) → get_or xs k 0 ≡ a → Passes (is_byte a) xs k
passes a xs k h = grind (arith, nat_tests)

pub line_texts-found : (xs : List ℕ) (n : ℕ)
    → NoneBefore (Passes (is_byte 10) xs) 0 (length xs) n → Passes (is_byte 10) xs n
    → line_texts xs ≡ take n xs ∷ line_texts (drop (n + 1) xs)
line_texts-found xs n first here =
    line_texts-cut xs n first.high (passed 10 xs n here) (λ k below is. first.before k (omega arith) below (passes 10 xs k is))

pub line_texts-none : (xs : List ℕ) → 0 < length xs → Nowhere (Passes (is_byte 10) xs) 0 (length xs) → line_texts xs ≡ xs ∷ []
line_texts-none xs some nowhere = line_texts-last xs some (λ k below is. nowhere k (omega arith) below (passes 10 xs k is))
