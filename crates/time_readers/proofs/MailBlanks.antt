-- The readers of blanks and comments consume bytes, and how each continues after a part of it succeeds or rejects.
use Rattle.std.proofs.Common.{◌≡◌, ℕ, zero, suc, List, [], ◌++◌, ◌<◌, length, ap, sym, ◌∙◌, arith, Bool, true, false, Some, None, if◌then◌else◌, option_and_then, ◌==◌, is_some, ◌≤◌, ◌∷◌, take, refl, subst, append_assoc, Option, Bor, option_copied}
use Rattle.std.proofs.lemmas.Option.{same_Some, none-some}
use Rattle.time_values.specs.declared.weekday.Weekday.{Weekday}
use Rattle.time_values.specs.Names.{weekday_name}
use Rattle.time_digits.specs.Digits.{Form, Cut, NoCut, IsDigitRun, IsByte}
use Rattle.time_digits.proofs.Runs.{IsDigitRun-same, IsDigitRun-below}
use Rattle.time_components.proofs.NameLemmas.{same_name, weekdays_told}
use Rattle.time_readers.specs.Readers.{Reader, one_of, char, ◌then◌, ◌or◌, zero_or_more, one_or_more, IsRead, IsTwoDigits}
use Rattle.time_readers.specs.MailBlanks.{is_blank, blanks, crlf, line_fold, no_crlf, fws, is_text, is_quotable, quoted_pair, content, comment_end, comment, cfws, opt_cfws, opt_cfws_colon_opt_cfws}
use Rattle.time_readers.specs.Laws.{Consumes}
use Rattle.time_readers.specs.PlaceAnswers.{Reads}
use Rattle.time_readers.specs.declared.rfc2822.Numbers.{Numbers}
use Rattle.time_readers.specs.Rfc2822.{IsSilent, year_blanks, IsShortWeekday, IsWeekdayPart, IsYear, IsSecond}
use Rattle.time_readers.proofs.Repeats.{Leaves, takes-shorter, takes-leaves, one_of-takes, then-takes, then-leaves, or-takes, or-leaves, some-leaves, zero_or_more-leaves, zero_or_more-none, zero_or_more-more, zero_or_more-some, then-some, then-none, or-some, or-none}

one_or_more-takes : (p : Reader) → Consumes p → Consumes (one_or_more p)
one_or_more-takes p t = then-takes p (zero_or_more p) t (zero_or_more-leaves p t)

pub blanks-takes : Consumes blanks
unfolding blanks
blanks-takes = one_or_more-takes (one_of is_blank) (one_of-takes is_blank)

pub crlf-takes : Consumes crlf
crlf-takes = then-takes (one_of (λ c. c == 13)) (one_of (λ c. c == 10)) (one_of-takes _) (takes-leaves (one_of (λ c. c == 10)) (one_of-takes _))

pub line_fold-takes : Consumes line_fold
unfolding line_fold
line_fold-takes = then-takes crlf blanks crlf-takes (takes-leaves blanks blanks-takes)

no_crlf_cut : (b : Bool) (s r : List ℕ) → (if b then None else Some s) ≡ Some r → (text : List ℕ) × (s ≡ text ++ r)
no_crlf_cut true s r e = absurd (none-some r e)
no_crlf_cut false s r e = ([], same_Some s r e)

no_crlf-leaves : Leaves no_crlf
unfolding no_crlf
no_crlf-leaves s r e = no_crlf_cut (is_some (crlf s)) s r e

-- the folds after the first blanks of a run that doesn't begin with a fold
abbrev pub more_lines : Reader
more_lines = zero_or_more line_fold then no_crlf

pub fws-takes : Consumes fws
unfolding fws
fws-takes =
    let more = then-leaves (zero_or_more line_fold) no_crlf (zero_or_more-leaves line_fold line_fold-takes) no_crlf-leaves in
    or-takes line_fold (blanks then more_lines) line_fold-takes (then-takes blanks more_lines blanks-takes more)

pub fws-fold : (s r : List ℕ) → line_fold s ≡ Some r → fws s ≡ Some r
unfolding fws
fws-fold s r f = or-some line_fold (blanks then more_lines) s r f

pub fws-none : (s : List ℕ) → line_fold s ≡ None → blanks s ≡ None → fws s ≡ None
unfolding fws
fws-none s f b = or-none line_fold (blanks then more_lines) s f ∙ then-none blanks more_lines s b

pub fws-blanks : (s r : List ℕ) → line_fold s ≡ None → blanks s ≡ Some r → fws s ≡ more_lines r
unfolding fws
fws-blanks s r f b = or-none line_fold (blanks then more_lines) s f ∙ then-some blanks more_lines s r b

pub more_lines-line : (s l r : List ℕ) → crlf s ≡ Some l → blanks l ≡ Some r → more_lines s ≡ more_lines r
unfolding line_fold
more_lines-line s l r e b = ap (option_and_then no_crlf) (zero_or_more-more line_fold line_fold-takes s r (then-some crlf blanks s l e ∙ b))

pub line-shorter : (s l r : List ℕ) → crlf s ≡ Some l → blanks l ≡ Some r → length r < length s
line-shorter s l r e b =
    let line = takes-shorter crlf crlf-takes s l e in
    let more = takes-shorter blanks blanks-takes l r b in
    omega arith

-- a line's end without a blank after it
pub more_lines-stop : (s l : List ℕ) → crlf s ≡ Some l → blanks l ≡ None → more_lines s ≡ None
unfolding line_fold no_crlf
more_lines-stop s l e b =
    ap (option_and_then no_crlf) (zero_or_more-none line_fold s (then-some crlf blanks s l e ∙ b)) ∙ ap (λ o. if is_some o then None else Some s) e

pub more_lines-end : (s : List ℕ) → crlf s ≡ None → more_lines s ≡ Some s
unfolding line_fold no_crlf
more_lines-end s e = ap (option_and_then no_crlf) (zero_or_more-none line_fold s (then-none crlf blanks s e)) ∙ ap (λ o. if is_some o then None else Some s) e

pub quoted_pair-takes : Consumes quoted_pair
quoted_pair-takes = then-takes (char "\\") (one_of is_quotable) (one_of-takes _) (takes-leaves (one_of is_quotable) (one_of-takes _))

pub content-takes : (inner : Reader) → Consumes inner → Consumes (content inner)
content-takes inner t = or-takes (one_of is_text or quoted_pair) inner (or-takes (one_of is_text) quoted_pair (one_of-takes _) quoted_pair-takes) t

pub fws_all-leaves : Leaves (zero_or_more fws)
fws_all-leaves = zero_or_more-leaves fws fws-takes

-- a part of a comment, and the blanks after it
abbrev pub part : Reader → Reader
part inner = content inner then zero_or_more fws

part-takes : (inner : Reader) → Consumes inner → Consumes (part inner)
part-takes inner t = then-takes (content inner) (zero_or_more fws) (content-takes inner t) fws_all-leaves

comment_end-leaves : (inner : Reader) → Consumes inner → Leaves (comment_end inner)
unfolding comment_end
comment_end-leaves inner t =
    then-leaves (zero_or_more fws) (zero_or_more (part inner) then char ")") fws_all-leaves
    (then-leaves (zero_or_more (part inner)) (char ")") (zero_or_more-leaves (part inner) (part-takes inner t)) (takes-leaves (char ")") (one_of-takes _)))

pub comment-takes : (n : ℕ) → Consumes (comment n)
unfolding comment
comment-takes zero s r e = absurd (none-some r e)
comment-takes (suc n) s r e = then-takes (char "(") (comment_end (comment n)) (one_of-takes _) (comment_end-leaves (comment n) (comment-takes n)) s r e

-- blanks in a comment are skipped
pub comment_end-blanks : (inner : Reader) (s r : List ℕ) → fws s ≡ Some r → comment_end inner s ≡ comment_end inner r
unfolding comment_end
comment_end-blanks inner s r e = ap (option_and_then (zero_or_more (part inner) then char ")")) (zero_or_more-more fws fws-takes s r e)

-- the parts of a comment up to its end
abbrev pub parts : Reader → Reader
parts inner = zero_or_more (part inner) then char ")"

no_blanks : (inner : Reader) (s : List ℕ) → fws s ≡ None → comment_end inner s ≡ parts inner s
unfolding comment_end
no_blanks inner s e = ap (option_and_then (parts inner)) (zero_or_more-none fws s e)

-- a part in a comment is skipped
pub comment_end-part : (inner : Reader) → Consumes inner → (s r : List ℕ) → fws s ≡ None → content inner s ≡ Some r → comment_end inner s ≡ comment_end inner r
unfolding comment_end
comment_end-part inner t s r f e =
    let blanks = zero_or_more-some fws r in
    let step : part inner s ≡ Some blanks.0 = then-some (content inner) (zero_or_more fws) s r e ∙ blanks.1 in
    no_blanks inner s f ∙ ap (option_and_then (char ")")) (zero_or_more-more (part inner) (part-takes inner t) s blanks.0 step)
    ∙ sym (ap (option_and_then (parts inner)) blanks.1)

-- without blanks or a part the comment must end
pub comment_end-last : (inner : Reader) (s : List ℕ) → fws s ≡ None → content inner s ≡ None → comment_end inner s ≡ char ")" s
comment_end-last inner s f e =
    no_blanks inner s f ∙ ap (option_and_then (char ")")) (zero_or_more-none (part inner) s (then-none (content inner) (zero_or_more fws) s e))

abbrev pub blanks_or_comment : Reader
blanks_or_comment = fws or comment 31

pub blanks_or_comment-takes : Consumes blanks_or_comment
blanks_or_comment-takes = or-takes fws (comment 31) fws-takes (comment-takes 31)

pub cfws-takes : Consumes cfws
unfolding cfws
cfws-takes = one_or_more-takes blanks_or_comment blanks_or_comment-takes

pub opt_cfws-leaves : Leaves opt_cfws
unfolding opt_cfws
opt_cfws-leaves = or-leaves cfws Some (takes-leaves cfws cfws-takes) some-leaves

pub colon-leaves : Leaves opt_cfws_colon_opt_cfws
unfolding opt_cfws_colon_opt_cfws
colon-leaves =
    then-leaves opt_cfws (char ":" then opt_cfws) opt_cfws-leaves (then-leaves (char ":") opt_cfws (takes-leaves (char ":") (one_of-takes _)) opt_cfws-leaves)

-- ---- The places of a mail date, by the results of their readers

pub Reads-none : {V : Type 0} (S : Form V) (bytes : List ℕ) (answer : Option (Bor (List ℕ))) (v : V) → answer ≡ None → NoCut S bytes
    → Reads S bytes answer v
Reads-none S bytes answer v e none = subst (λ o. Reads S bytes o v) (sym e) none

-- the text that a reader consumes
pub read-cut : (p : Reader) → Leaves p → (s r : List ℕ) → p s ≡ Some r → (text : List ℕ) × (s ≡ text ++ r) × IsRead p text r
read-cut p l s r e =
    let cut = l s r e in
    (cut.0, cut.1, subst (λ t. p t ≡ Some r) cut.1 e)

-- a reader's result at a place that has no value
pub read-answer : {N : Type 0} (p : Reader) → Leaves p → (s : List ℕ) (answer : Option (Bor (List ℕ))) (n : N) → option_copied answer ≡ p s
    → Reads (λ text after m. IsRead p text after × (m ≡ n)) s answer n
read-answer p l s None n e = λ text rest m cut is. none-some rest (e ∙ ap p cut ∙ is.0)
read-answer p l s (Some r) n e =
    let cut = read-cut p l s r.now (sym e) in
    (cut.0, cut.1, (cut.2, refl))

-- a reader has one rest
pub read-same : (p : Reader) (s r text rest : List ℕ) → p s ≡ Some r → s ≡ text ++ rest → IsRead p text rest → r ≡ rest
read-same p s r text rest e cut is = same_Some r rest (sym e ∙ ap p cut ∙ is)

pub two_digits-below : (check_ranges : Bool) (least most : ℕ) (s rest : List ℕ) (v : ℕ) → Cut (IsTwoDigits check_ranges least most) s rest v → v ≤ 99
two_digits-below check_ranges least most s rest v cut = omega (arith, IsDigitRun-below 2 2 cut.0 rest v cut.2.0)

-- four digits below 1900
pub no_year : (s rest : List ℕ) (v : ℕ) → Cut (IsDigitRun 4 4) s rest v → v < 1900 → (text after : List ℕ) → s ≡ text ++ after → (full : Bool) (w : ℕ)
    → IsYear full text after w → ⊥
no_year s rest v cut low text after e true w is =
    let same = IsDigitRun-same 4 4 s rest v cut text after w e is.0 in
    omega (arith, is.1)
no_year s rest v cut low text after e false w is = is.0 cut.0 rest v (sym e ∙ cut.1) cut.2

pub second-cut : (check_ranges : Bool) (s mid rest : List ℕ) (v : ℕ) → opt_cfws_colon_opt_cfws s ≡ Some mid → Cut (IsTwoDigits check_ranges 0 60) mid rest v
    → Cut (IsSecond check_ranges) s rest (Some v)
second-cut check_ranges s mid rest v e cut =
    let colon = read-cut opt_cfws_colon_opt_cfws colon-leaves s mid e in
    let is : IsRead opt_cfws_colon_opt_cfws colon.0 (cut.0 ++ rest) = subst (λ t. IsRead opt_cfws_colon_opt_cfws colon.0 t) cut.1 colon.2 in
    (colon.0 ++ cut.0, colon.1 ∙ ap (λ t. colon.0 ++ t) cut.1 ∙ sym (append_assoc colon.0 cut.0 rest), (colon.0, cut.0, refl, is, cut.2))

-- blanks, a name, a comma and blanks
pub weekday-cut : (s mid left after rest : List ℕ) (w : Weekday) → opt_cfws s ≡ Some mid → Cut IsShortWeekday mid left w → Cut (IsByte 44) left after tt
    → opt_cfws after ≡ Some rest → Cut IsWeekdayPart s rest (Some w)
weekday-cut s mid left after rest w e name comma e' =
    let first = read-cut opt_cfws opt_cfws-leaves s mid e in
    let last = read-cut opt_cfws opt_cfws-leaves after rest e' in
    let tail : left ≡ 44 ∷ (last.0 ++ rest) = comma.1 ∙ ap (λ t. t ++ after) comma.2 ∙ ap (λ t. 44 ∷ t) last.1 in
    let middle : mid ≡ name.0 ++ 44 ∷ (last.0 ++ rest) = name.1 ∙ ap (λ t. name.0 ++ t) tail in
    let whole : name.0 ++ 44 ∷ (last.0 ++ rest) ≡ (name.0 ++ 44 ∷ last.0) ++ rest = sym (append_assoc name.0 (44 ∷ last.0) rest) in (
      first.0 ++ (name.0 ++ 44 ∷ last.0),
      first.1 ∙ ap (λ t. first.0 ++ t) (middle ∙ whole) ∙ sym (append_assoc first.0 (name.0 ++ 44 ∷ last.0) rest),
      (first.0, name.0, last.0, refl, subst (λ t. IsRead opt_cfws first.0 t) middle first.2, name.2, last.2),
    )

-- a weekday with no comma after it
pub no_comma : (s mid left : List ℕ) (w : Weekday) → opt_cfws s ≡ Some mid → Cut IsShortWeekday mid left w → NoCut (IsByte 44) left
    → (text rest : List ℕ) (v : Option Weekday) → s ≡ text ++ rest → IsWeekdayPart text rest v → ⊥
no_comma s mid left w e name none text rest None cut is =
    let same = read-same opt_cfws s mid text rest e cut is.0 in
    is.1 name.0 left w (sym same ∙ name.1) name.2
no_comma s mid left w e name none text rest (Some x) cut is =
    let tail = 44 ∷ (is.2 ++ rest) in
    let whole : s ≡ is.0 ++ (is.1 ++ tail) =
    cut ∙ ap (λ t. t ++ rest) is.3 ∙ append_assoc is.0 (is.1 ++ 44 ∷ is.2) rest ∙ ap (λ t. is.0 ++ t) (append_assoc is.1 (44 ∷ is.2) rest) in
    let same = read-same opt_cfws s mid is.0 (is.1 ++ tail) e whole is.4 in
    let after = (same_name false (λ d. take 3 (weekday_name d)) 3 weekdays_told name.0 is.1 left tail w x name.2 is.5 (sym name.1 ∙ same)).0 in
    none (44 ∷ []) (is.2 ++ rest) tt after refl

year_blanks-leaves : (full : Bool) → Leaves (year_blanks full)
year_blanks-leaves true = takes-leaves fws fws-takes
year_blanks-leaves false = takes-leaves cfws cfws-takes

-- blanks after a year
pub after-year : (full is_full : Bool) (n : Numbers) (s : List ℕ) (answer : Option (Bor (List ℕ))) → is_full ≡ full
    → option_copied answer ≡ year_blanks full s → Reads (IsSilent (year_blanks is_full) n) s answer n
after-year full is_full n s answer e h =
    subst (λ b. Reads (IsSilent (year_blanks b) n) s answer n) (sym e) (read-answer (year_blanks full) (year_blanks-leaves full) s answer n h)
