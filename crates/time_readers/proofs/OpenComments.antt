-- Nested comments, by the count of those that are open.
use Rattle.std.proofs.Common.{◌≡◌, ℕ, zero, suc, ◌+◌, ◌-◌, ◌<◌, ◌≢◌, List, [], ◌∷◌, refl, ap, sym, ◌∙◌, subst, arith, inl, inr, Some, None, if◌then◌else◌, option_and_then, ◌⊎◌, ◌≤◌, length, drop, get_or, Bool, true, false, ◌||◌, ◌==◌}
use Rattle.std.proofs.lemmas.Option.{none-some}
use Rattle.std.proofs.lemmas.Bool.Decides.{eqb_tells}
use Rattle.time_readers.specs.Readers.{Reader, one_of, char, ◌then◌, ◌or◌, zero_or_more}
use Rattle.time_readers.specs.MailBlanks.{fws, is_text, quoted_pair, comment_end, comment, is_blank, blanks, crlf, line_fold, cfws, opt_cfws, opt_cfws_colon_opt_cfws}
use Rattle.time_readers.proofs.Repeats.{then-some, then-none, or-some, or-none, none_or_some, zero_or_more-none}
use Rattle.time_readers.proofs.MailBlanks.{comment-takes, comment_end-blanks, comment_end-part, comment_end-last, fws-none, fws-blanks, more_lines-end, blanks_or_comment}

-- the ends of n open comments, if comments in the innermost may be nested that many levels deep
unfoldable pub ends : ℕ → ℕ → Reader
ends zero levels = Some
ends (suc n) levels = comment_end (comment levels) then ends n (suc levels)

-- a part of a comment's text
abbrev pub plain : Reader
plain = one_of is_text or quoted_pair

not_both : (s t : List ℕ) → char "(" s ≡ Some t → char ")" s ≡ None
not_both [] t e = refl
not_both (c ∷ s) t e = elim (eqb_tells c 40) [
  | inl same ↦ subst (λ x. char ")" (x ∷ s) ≡ None) (sym same.1) refl
  | inr other ↦ absurd (none-some t (sym (ap (λ b. if b then Some s else None) other.0) ∙ e))
]

no_inner : (l : ℕ) (s : List ℕ) → char "(" s ≡ None → comment l s ≡ None
unfolding comment
no_inner zero s e = refl
no_inner (suc l) s e = then-none (char "(") (comment_end (comment l)) s e

first_open : (l : ℕ) (s t : List ℕ) → char "(" s ≡ Some t → comment (suc l) s ≡ comment_end (comment l) t
unfolding comment
first_open l s t e = then-some (char "(") (comment_end (comment l)) s t e

ends_one : (l : ℕ) (s : List ℕ) → comment_end (comment l) s ≡ ends 1 l s
unfolding ends
ends_one l s = elim (none_or_some (comment_end (comment l) s)) [
  | inl e ↦ e ∙ sym (then-none (comment_end (comment l)) Some s e)
  | inr x ↦ x.1 ∙ sym (then-some (comment_end (comment l)) Some s x.0 x.1)
]

ends-blanks : (n l : ℕ) (s r : List ℕ) → fws s ≡ Some r → ends (suc n) l s ≡ ends (suc n) l r
unfolding ends
ends-blanks n l s r e = ap (option_and_then (ends n (suc l))) (comment_end-blanks (comment l) s r e)

ends-plain : (n l : ℕ) (s r : List ℕ) → fws s ≡ None → plain s ≡ Some r → ends (suc n) l s ≡ ends (suc n) l r
unfolding ends
ends-plain n l s r f e = ap (option_and_then (ends n (suc l))) (comment_end-part (comment l) (comment-takes l) s r f (or-some plain (comment l) s r e))

ends-last : (n l : ℕ) (s : List ℕ) → fws s ≡ None → plain s ≡ None → comment l s ≡ None → ends (suc n) l s ≡ option_and_then (ends n (suc l)) (char ")" s)
unfolding ends
ends-last n l s f p i = ap (option_and_then (ends n (suc l))) (comment_end-last (comment l) s f (or-none plain (comment l) s p ∙ i))

ends-open : (n l : ℕ) (s t : List ℕ) → fws s ≡ None → plain s ≡ None → char "(" s ≡ Some t → ends (suc n) (suc l) s ≡ ends (suc (suc n)) l t
unfolding ends
ends-open n l s t f p e =
    let more = ends (suc n) (suc l) in
    let opened = first_open l s t e in
    elim (none_or_some (comment_end (comment l) t)) [
      | inl none ↦
          ends-last n (suc l) s f p (opened ∙ none) ∙ ap (option_and_then (ends n (suc (suc l)))) (not_both s t e)
          ∙ sym (then-none (comment_end (comment l)) more t none)
      | inr x ↦
          ap (option_and_then (ends n (suc (suc l))))
          (comment_end-part (comment (suc l)) (comment-takes (suc l)) s x.0 f (or-none plain (comment (suc l)) s p ∙ opened ∙ x.1))
          ∙ sym (then-some (comment_end (comment l)) more t x.0 x.1)
    ]

-- that many comments are open, and the rest of the bytes must end them
abbrev pub IsOpen : ℕ → List ℕ → List ℕ → Type 0
IsOpen count rest input = (levels : ℕ) × (count + levels ≡ 31) × (ends count levels rest ≡ comment 31 input)

pub open-first : (s t : List ℕ) → char "(" s ≡ Some t → IsOpen 1 t s
open-first s t e = (30, refl, sym (first_open 30 s t e ∙ ends_one 30 t))

pub open-none : (s : List ℕ) → char "(" s ≡ None → comment 31 s ≡ None
open-none s e = no_inner 31 s e

pub open-blanks : (count : ℕ) (s r input : List ℕ) → 0 < count → fws s ≡ Some r → IsOpen count s input → IsOpen count r input
open-blanks zero s r input h e i = absurd (omega arith)
open-blanks (suc n) s r input h e i = (i.0, i.1, sym (ends-blanks n i.0 s r e) ∙ i.2)

pub open-plain : (count : ℕ) (s r input : List ℕ) → 0 < count → fws s ≡ None → plain s ≡ Some r → IsOpen count s input → IsOpen count r input
open-plain zero s r input h f e i = absurd (omega arith)
open-plain (suc n) s r input h f e i = (i.0, i.1, sym (ends-plain n i.0 s r f e) ∙ i.2)

-- a comment opens
pub open-more : (count : ℕ) (s t input : List ℕ) → 0 < count → count ≢ 31 → fws s ≡ None → plain s ≡ None
    → char "(" s ≡ Some t → IsOpen count s input → IsOpen (count + 1) t input
open-more zero s t input h few f p e i = absurd (omega arith)
open-more (suc n) s t input h few f p e (zero, all, is) = absurd (omega arith)
open-more (suc n) s t input h few f p e (suc l, all, is) =
    let one : suc (suc n) ≡ suc n + 1 = omega arith in
    (l, omega arith, subst (λ k. ends k l t ≡ comment 31 input) one (sym (ends-open n l s t f p e) ∙ is))

-- a comment opens at the deepest level, and is rejected
pub open-most : (count : ℕ) (s t input : List ℕ) → count ≡ 31 → fws s ≡ None → plain s ≡ None
    → char "(" s ≡ Some t → IsOpen count s input → comment 31 input ≡ None
unfolding comment
open-most zero s t input most f p e i = absurd (omega arith)
open-most (suc n) s t input most f p e (suc l, all, is) = absurd (omega arith)
open-most (suc n) s t input most f p e (zero, all, is) = sym is ∙ ends-last n 0 s f p refl ∙ ap (option_and_then (ends n 1)) (not_both s t e)

-- the innermost comment ends
pub open-less : (count : ℕ) (s t input : List ℕ) → 0 < count → fws s ≡ None → plain s ≡ None → char "(" s ≡ None → char ")" s ≡ Some t → IsOpen count s input
    → IsOpen (count - 1) t input
open-less zero s t input h f p o e i = absurd (omega arith)
open-less (suc n) s t input h f p o e i =
    let one : n ≡ suc n - 1 = omega arith in
    let is : ends n (suc i.0) t ≡ comment 31 input = sym (ends-last n i.0 s f p (no_inner i.0 s o) ∙ ap (option_and_then (ends n (suc i.0))) e) ∙ i.2 in
    (suc i.0, omega arith, subst (λ k. ends k (suc i.0) t ≡ comment 31 input) one is)

-- the bytes begin with nothing that a comment may contain
pub open-stop : (count : ℕ) (s input : List ℕ) → 0 < count → fws s ≡ None → plain s ≡ None → char "(" s ≡ None → char ")" s ≡ None → IsOpen count s input
    → comment 31 input ≡ None
open-stop zero s input h f p o e i = absurd (omega arith)
open-stop (suc n) s input h f p o e i = sym i.2 ∙ ends-last n i.0 s f p (no_inner i.0 s o) ∙ ap (option_and_then (ends n (suc i.0))) e

-- the outermost comment has ended
pub open-end : (count : ℕ) (s input : List ℕ) → count ≡ 0 → IsOpen count s input → comment 31 input ≡ Some s
unfolding ends
open-end zero s input none i = sym i.2
open-end (suc n) s input none i = absurd (omega arith)

-- ---- Blanks by the first bytes

short_other : (c d : ℕ) → c ≢ d → (c == d) ≡ false
short_other c d ne = elim (eqb_tells c d) [ inl same ↦ absurd (ne same.1) | inr differ ↦ differ.0 ]

not_blank : (c : ℕ) → c ≢ 32 → c ≢ 9 → is_blank c ≡ false
not_blank c ne ne' = ap (λ b. b || (c == 9)) (short_other c 32 ne) ∙ short_other c 9 ne'

blank : (b : ℕ) → (b ≡ 32) ⊎ (b ≡ 9) → is_blank b ≡ true
blank b (inl e) = ap is_blank e
blank b (inr e) = ap is_blank e

skipped : (test : ℕ → Bool) (c : ℕ) (s : List ℕ) → test c ≡ false → one_of test (c ∷ s) ≡ None
skipped test c s ne = ap (λ b. if b then Some s else None) ne

no_line : (c : ℕ) (s : List ℕ) → c ≢ 13 → crlf (c ∷ s) ≡ None
no_line c s ne = then-none (one_of (λ d. d == 13)) (one_of (λ d. d == 10)) (c ∷ s) (skipped (λ d. d == 13) c s (short_other c 13 ne))

no_fold : (c : ℕ) (s : List ℕ) → c ≢ 13 → line_fold (c ∷ s) ≡ None
unfolding line_fold
no_fold c s ne = then-none crlf blanks (c ∷ s) (no_line c s ne)

no_blanks : (c : ℕ) (s : List ℕ) → c ≢ 32 → c ≢ 9 → blanks (c ∷ s) ≡ None
unfolding blanks
no_blanks c s ne ne' = then-none (one_of is_blank) (zero_or_more (one_of is_blank)) (c ∷ s) (skipped is_blank c s (not_blank c ne ne'))

one_blank : (b c : ℕ) (s : List ℕ) → is_blank b ≡ true → c ≢ 32 → c ≢ 9 → blanks (b ∷ c ∷ s) ≡ Some (c ∷ s)
unfolding blanks
one_blank b c s is ne ne' =
    let first : one_of is_blank (b ∷ c ∷ s) ≡ Some (c ∷ s) = ap (λ t. if t then Some (c ∷ s) else None) is in
    then-some (one_of is_blank) (zero_or_more (one_of is_blank)) (b ∷ c ∷ s) (c ∷ s) first
    ∙ zero_or_more-none (one_of is_blank) (c ∷ s) (skipped is_blank c s (not_blank c ne ne'))

not_return : (b : ℕ) → (b ≡ 32) ⊎ (b ≡ 9) → b ≢ 13
not_return b (inl e) f = omega arith
not_return b (inr e) f = omega arith

fws_one : (b c : ℕ) (s : List ℕ) → (b ≡ 32) ⊎ (b ≡ 9) → c ≢ 32 → c ≢ 9 → c ≢ 13 → fws (b ∷ c ∷ s) ≡ Some (c ∷ s)
fws_one b c s is ne ne' cr =
    fws-blanks (b ∷ c ∷ s) (c ∷ s) (no_fold b (c ∷ s) (not_return b is)) (one_blank b c s (blank b is) ne ne') ∙ more_lines-end (c ∷ s) (no_line c s cr)

none_here : (c : ℕ) (s : List ℕ) → c ≢ 32 → c ≢ 9 → c ≢ 13 → c ≢ 40 → blanks_or_comment (c ∷ s) ≡ None
unfolding comment
none_here c s ne ne' cr bracket =
    or-none fws (comment 31) (c ∷ s) (fws-none (c ∷ s) (no_fold c s cr) (no_blanks c s ne ne'))
    ∙ then-none (char "(") (comment_end (comment 30)) (c ∷ s) (skipped (λ d. d == 40) c s (short_other c 40 bracket))

cfws_one : (b c : ℕ) (s : List ℕ) → (b ≡ 32) ⊎ (b ≡ 9) → c ≢ 32 → c ≢ 9 → c ≢ 13 → c ≢ 40 → cfws (b ∷ c ∷ s) ≡ Some (c ∷ s)
unfolding cfws
cfws_one b c s is ne ne' cr bracket =
    then-some blanks_or_comment (zero_or_more blanks_or_comment) (b ∷ c ∷ s) (c ∷ s) (or-some fws (comment 31) (b ∷ c ∷ s) (c ∷ s) (fws_one b c s is ne ne' cr))
    ∙ zero_or_more-none blanks_or_comment (c ∷ s) (none_here c s ne ne' cr bracket)

opt_cfws_none : (c : ℕ) (s : List ℕ) → 41 ≤ c → opt_cfws (c ∷ s) ≡ Some (c ∷ s)
unfolding opt_cfws cfws
opt_cfws_none c s h =
    or-none cfws Some (c ∷ s) (then-none blanks_or_comment (zero_or_more blanks_or_comment) (c ∷ s)
    (none_here c s (λ e. omega arith) (λ e. omega arith) (λ e. omega arith) (λ e. omega arith)))

colon_one : (c : ℕ) (s : List ℕ) → 41 ≤ c → opt_cfws_colon_opt_cfws (58 ∷ c ∷ s) ≡ Some (c ∷ s)
unfolding opt_cfws_colon_opt_cfws
colon_one c s h = then-some opt_cfws (char ":" then opt_cfws) (58 ∷ c ∷ s) (58 ∷ c ∷ s) (opt_cfws_none 58 (c ∷ s) (omega arith)) ∙ opt_cfws_none c s h

-- the bytes begin with one blank, and no blank or carriage return follows
abbrev pub IsOneBlank : List ℕ → Type 0
IsOneBlank s = ((get_or s 0 0 ≡ 32) ⊎ (get_or s 0 0 ≡ 9)) × (get_or s 1 0 ≢ 32) × (get_or s 1 0 ≢ 9) × (get_or s 1 0 ≢ 13)

pub fws-short : (s : List ℕ) → 2 ≤ length s → IsOneBlank s → fws s ≡ Some (drop 1 s)
fws-short [] h i = absurd (omega arith)
fws-short (b ∷ []) h i = absurd (omega arith)
fws-short (b ∷ c ∷ s) h i = fws_one b c s i.0 i.1 i.2 i.3

pub cfws-short : (s : List ℕ) → 2 ≤ length s → IsOneBlank s → get_or s 1 0 ≢ 40 → cfws s ≡ Some (drop 1 s)
cfws-short [] h i j = absurd (omega arith)
cfws-short (b ∷ []) h i j = absurd (omega arith)
cfws-short (b ∷ c ∷ s) h i j = cfws_one b c s i.0 i.1 i.2 i.3 j

pub opt_cfws-empty : (s : List ℕ) → length s ≡ 0 → opt_cfws s ≡ Some s
unfolding opt_cfws cfws fws line_fold blanks comment
opt_cfws-empty [] h = refl
opt_cfws-empty (c ∷ s) h = absurd (omega arith)

pub opt_cfws-short : (s : List ℕ) → 41 ≤ get_or s 0 0 → opt_cfws s ≡ Some s
opt_cfws-short [] i = absurd (omega arith)
opt_cfws-short (c ∷ s) i = opt_cfws_none c s i

pub colon-short : (s : List ℕ) → 2 ≤ length s → get_or s 0 0 ≡ 58 → 41 ≤ get_or s 1 0 → opt_cfws_colon_opt_cfws s ≡ Some (drop 1 s)
colon-short [] h i j = absurd (omega arith)
colon-short (b ∷ []) h i j = absurd (omega arith)
colon-short (b ∷ c ∷ s) h i j = subst (λ d. opt_cfws_colon_opt_cfws (d ∷ c ∷ s) ≡ Some (c ∷ s)) (sym i) (colon_one c s j)

-- one space, and then a byte with which no blank and no comment begins
pub opt_cfws-one : (s : List ℕ) → 2 ≤ length s → get_or s 0 0 ≡ 32 → 41 ≤ get_or s 1 0 → opt_cfws s ≡ Some (drop 1 s)
unfolding opt_cfws
opt_cfws-one [] h i j = absurd (omega arith)
opt_cfws-one (b ∷ []) h i j = absurd (omega arith)
opt_cfws-one (b ∷ c ∷ s) h i j =
    or-some cfws Some (b ∷ c ∷ s) (c ∷ s) (cfws_one b c s (inl i) (λ e. omega arith) (λ e. omega arith) (λ e. omega arith) (λ e. omega arith))
