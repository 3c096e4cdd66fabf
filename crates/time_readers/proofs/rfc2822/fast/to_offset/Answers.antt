use Rattle.std.specs.Str.{str_to_ascii_lowercase}
use Rattle.std.proofs.Common.{◌≡◌, ℕ, ◌+◌, ◌-◌, ◌*◌, ◌≤◌, Bool, List, [], ◌∷◌, ◌++◌, length, get_or, take, drop, refl, ap, sym, ◌∙◌, subst, inl, arith, true, Some, rules}
use Rattle.std.proofs.lemmas.Simd.{pick_l_whole}
use Rattle.std.proofs.lemmas.List.{length-take-le, take-append-drop}
use Rattle.time_values.specs.declared.month.Month.{Month}
use Rattle.time_values.specs.Names.{month_name}
use Rattle.time_digits.specs.Digits.{IsDigit}
use Rattle.time_digits.proofs.WordBytes.{take-drop}
use Rattle.time_readers.specs.Block.{AllWithin, pair_at}
use Rattle.time_readers.specs.MailBlanks.{fws, cfws, opt_cfws_colon_opt_cfws}
use Rattle.time_readers.specs.Readers.{MatchesPlaces, IsWithin}
use Rattle.time_readers.specs.Rfc2822.{PlaceSyntax, to_offset_places}
use Rattle.time_readers.specs.declared.rfc2822.fast.TheConstants.{LEAST, GREATEST}
use Rattle.time_readers.specs.declared.rfc2822.Numbers.{Numbers}
use Rattle.time_readers.proofs.ToSecond.{within, two_digits, four_digits}
use Rattle.time_readers.proofs.OpenComments.{fws-short, cfws-short, colon-short}
use Rattle.time_readers.proofs.rfc2822.fast.to_offset.Goals as goal

-- ---- Twenty bytes within their bounds match the places of a mail date after its day, up to its offset

-- the numbers of a month, a year and a time
abbrev to_offset_numbers : Numbers → Month → ℕ → ℕ → ℕ → ℕ → Numbers
to_offset_numbers n month year hour minute second =
    record n { month = month; year = year; year_is_full = true; hour = hour; minute = minute; second = Some second }

cfws_at : (b c : ℕ) (s : List ℕ) → b ≡ 32 → 41 ≤ c → cfws (b ∷ c ∷ s) ≡ Some (c ∷ s)
cfws_at b c s is h = cfws-short (b ∷ c ∷ s) (omega arith) (inl is, (λ e. omega arith), (λ e. omega arith), (λ e. omega arith)) (λ e. omega arith)

fws_at : (b c : ℕ) (s : List ℕ) → b ≡ 32 → 41 ≤ c → fws (b ∷ c ∷ s) ≡ Some (c ∷ s)
fws_at b c s is h = fws-short (b ∷ c ∷ s) (omega arith) (inl is, (λ e. omega arith), (λ e. omega arith), (λ e. omega arith))

colon_at : (b c : ℕ) (s : List ℕ) → b ≡ 58 → 41 ≤ c → opt_cfws_colon_opt_cfws (b ∷ c ∷ s) ≡ Some (c ∷ s)
colon_at b c s is h = colon-short (b ∷ c ∷ s) (omega arith) is h

to_offset_stands : (check_ranges : Bool) (n : Numbers) (x a b c y y0 y1 y2 y3 z h0 h1 p n0 n1 q s0 s1 w next : ℕ) (rest : List ℕ)
    (month : Month) (year hour minute second : ℕ) → AllWithin LEAST GREATEST (x ∷ a ∷ b ∷ c ∷ y ∷ y0 ∷ y1 ∷ y2 ∷ y3 ∷ z ∷ h0 ∷ h1 ∷ p ∷ n0 ∷ n1 ∷ q ∷ [])
    → IsDigit s0 → IsDigit s1 → w ≡ 32 → 41 ≤ next
    → a ∷ b ∷ c ∷ [] ≡ take 3 (month_name month)
    → year ≡ ((y0 - 48) * 10 + (y1 - 48)) * 100 + ((y2 - 48) * 10 + (y3 - 48)) → 1900 ≤ year
    → hour ≡ (h0 - 48) * 10 + (h1 - 48) → IsWithin check_ranges 0 23 hour
    → minute ≡ (n0 - 48) * 10 + (n1 - 48)
    → second ≡ (s0 - 48) * 10 + (s1 - 48) → second ≤ 60
    → MatchesPlaces (PlaceSyntax check_ranges) to_offset_places n
    (x ∷ a ∷ b ∷ c ∷ y ∷ y0 ∷ y1 ∷ y2 ∷ y3 ∷ z ∷ h0 ∷ h1 ∷ p ∷ n0 ∷ n1 ∷ q ∷ s0 ∷ s1 ∷ w ∷ next ∷ rest) (next ∷ rest)
    (to_offset_numbers n month year hour minute second)
unfolding MatchesPlaces
to_offset_stands check_ranges n x a b c y y0 y1 y2 y3 z h0 h1 p n0 n1 q s0 s1 w next rest month year hour minute second (
  xl,
  xg,
  (
    al,
    ag,
    (
      bl,
      bg,
      (
        cl,
        cg,
        (
          yl,
          yg,
          (y0l, y0g, (y1l, y1g, (y2l, y2g, (y3l, y3g, (zl, zg, (h0l, h0g, (h1l, h1g, (pl, pg, (n0l, n0g, (n1l, n1g, (ql, qg, nothing))))))))))),
        ),
      ),
    ),
  ),
)
    sec0 sec1 space printed named yeq late heq hour_in neq seq shigh =
    let blank1 : x ≡ 32 = omega arith in
    let blank2 : y ≡ 32 = omega arith in
    let blank3 : z ≡ 32 = omega arith in
    let colon1 : p ≡ 58 = omega arith in
    let colon2 : q ≡ 58 = omega arith in
    let minute_in = within check_ranges 0 59 minute (omega arith) (omega arith) in
    let second_in = within check_ranges 0 60 second (omega arith) shigh in (
      _,
      _,
      (x ∷ [], refl, (cfws_at x a _ blank1 (omega arith), refl)),
      (
        _,
        _,
        (a ∷ b ∷ c ∷ [], refl, (month, ap str_to_ascii_lowercase named, refl)),
        (
          _,
          _,
          (y ∷ [], refl, (cfws_at y y0 _ blank2 (omega arith), refl)),
          (
            _,
            _,
            (_, refl, (true, year, (four_digits y0 y1 y2 y3 _ year (y0l, y0g) (y1l, y1g) (y2l, y2g) (y3l, y3g) yeq, late), refl)),
            (
              _,
              _,
              (z ∷ [], refl, (fws_at z h0 _ blank3 (omega arith), refl)),
              (
                _,
                _,
                (_, refl, (hour, two_digits check_ranges 0 23 h0 h1 _ hour (h0l, omega arith) (h1l, h1g) heq hour_in, refl)),
                (
                  _,
                  _,
                  (p ∷ [], refl, (colon_at p n0 _ colon1 (omega arith), refl)),
                  (
                    _,
                    _,
                    (_, refl, (minute, two_digits check_ranges 0 59 n0 n1 _ minute (n0l, omega arith) (n1l, n1g) neq minute_in, refl)),
                    (
                      _,
                      _,
                      (
                        _,
                        refl,
                        (
                          Some second,
                          (
                            q ∷ [],
                            s0 ∷ s1 ∷ [],
                            refl,
                            colon_at q s0 _ colon2 (omega arith),
                            two_digits check_ranges 0 60 s0 s1 _ second sec0 sec1 seq second_in,
                          ),
                          refl,
                        ),
                      ),
                      (
                        _,
                        _,
                        (w ∷ [], refl, (cfws_at w next rest space printed, refl)),
                        (refl, refl),
                      ),
                    ),
                  ),
                ),
              ),
            ),
          ),
        ),
      ),
    )

four_first : (xs : List ℕ) → 4 ≤ length xs → get_or xs 0 0 ∷ get_or xs 1 0 ∷ get_or xs 2 0 ∷ get_or xs 3 0 ∷ drop 4 xs ≡ xs
four_first [] h = absurd (omega arith)
four_first (a ∷ []) h = absurd (omega arith)
four_first (a ∷ b ∷ []) h = absurd (omega arith)
four_first (a ∷ b ∷ c ∷ []) h = absurd (omega arith)
four_first (a ∷ b ∷ c ∷ d ∷ xs) h = refl

three_left : (xs : List ℕ) → 4 ≤ length xs → get_or xs 3 0 ∷ drop 4 xs ≡ drop 3 xs
three_left [] h = absurd (omega arith)
three_left (a ∷ []) h = absurd (omega arith)
three_left (a ∷ b ∷ []) h = absurd (omega arith)
three_left (a ∷ b ∷ c ∷ []) h = absurd (omega arith)
three_left (a ∷ b ∷ c ∷ d ∷ xs) h = refl

to_offset_lists : (check_ranges : Bool) (n : Numbers) (text first rest : List ℕ) (month : Month) (year hour minute second : ℕ)
    → text ≡ first ++ rest → length first ≡ 16 → 4 ≤ length rest
    → AllWithin LEAST GREATEST first
    → IsDigit (get_or rest 0 0) → IsDigit (get_or rest 1 0) → get_or rest 2 0 ≡ 32 → 41 ≤ get_or rest 3 0
    → get_or first 1 0 ∷ get_or first 2 0 ∷ get_or first 3 0 ∷ [] ≡ take 3 (month_name month)
    → year ≡ pair_at first 5 * 100 + pair_at first 7 → 1900 ≤ year
    → hour ≡ pair_at first 10 → IsWithin check_ranges 0 23 hour
    → minute ≡ pair_at first 13
    → second ≡ pair_at rest 0 → second ≤ 60
    → MatchesPlaces (PlaceSyntax check_ranges) to_offset_places n text (take (length rest - 3) (drop 3 rest))
    (to_offset_numbers n month year hour minute second)
to_offset_lists check_ranges n text first rest month year hour minute second cut l short w
    sec0 sec1 space printed named yeq late heq hour_in neq seq shigh =
    let f = pick_l_whole 0 first 16 l in
    let r = four_first rest short in
    let stands = to_offset_stands check_ranges n _ _ _ _ _ _ _ _ _ _ _ _ _ _ _ _ _ _ _ _ (drop 4 rest) month year hour minute second
    (subst (AllWithin LEAST GREATEST) (sym f) w) sec0 sec1 space printed named yeq late heq hour_in neq seq shigh in
    subst (λ t. MatchesPlaces (PlaceSyntax check_ranges) to_offset_places n text t (to_offset_numbers n month year hour minute second))
    (three_left rest short ∙ sym (take-drop rest 3 (omega (arith, short))))
    (subst
    (λ t. MatchesPlaces (PlaceSyntax check_ranges) to_offset_places n t (get_or rest 3 0 ∷ drop 4 rest)
    (to_offset_numbers n month year hour minute second))
    ((λ i. f i ++ r i) ∙ sym cut) stands)

pub returns-in_err-first-clause-stands : goal.returns-in_err-first-clause-stands
returns-in_err-first-clause-stands g c = rw c.from_residual.ensures refl

-- the bound of the number of two digits, the first of them up to `5`
up_to_59 : (tens ones value : ℕ) → tens ≤ 53 → ones ≤ 57 → value ≡ (tens - 48) * 10 + (ones - 48) → value ≤ 60
up_to_59 tens ones value p q e = omega (arith, p, q, e)

pub returns-clause-stands : goal.returns-clause-stands
returns-clause-stands g c =
    let text = c.args.text.now in
    let first = c.in_ok-first.first.now in
    let rest = c.in_ok-first.rest.now in
    let split = c.in_ok-first.ensures.cases in
    let within : AllWithin LEAST GREATEST first = c.if-not-is_within.ensures refl in
    let numbers = c.pairs.ensures within in
    let cut : text ≡ first ++ rest = sym (take-append-drop 16 text) ∙ (λ i. sym split.0 i ++ sym split.1 i) in
    let long : length first ≡ 16 = ap length split.0 ∙ length-take-le 16 text (omega arith) in
    let short : 4 ≤ length rest = search rules in
    let sec0 : IsDigit (get_or rest 0 0) = search rules in
    let sec1 : IsDigit (get_or rest 1 0) = search rules in
    let space : get_or rest 2 0 ≡ 32 = search rules in
    let printed : 41 ≤ get_or rest 3 0 = search rules in
    let century = c.from.ensures ∙ ap (λ xs. get_or xs 0 0) numbers in
    let in_century = c.from-2.ensures ∙ ap (λ xs. get_or xs 1 0) numbers in
    let hour = ap (λ xs. get_or xs 2 0) numbers in
    let minute = ap (λ xs. get_or xs 3 0) numbers in
    let hour_in = c.is_in_range.ensures.0 c.if-not-is_in_range.false in
    to_offset_lists _ c.args.numbers.now text first rest c.in_ok-month.month _ _ _ _ cut long short within sec0 sec1 space printed
    c.in_ok-month.ensures (λ i. century i * 100 + in_century i) (omega arith) hour hour_in minute c.two_digits-second.ensures
    (up_to_59 _ _ _ (search rules) sec1.1 c.two_digits-second.ensures)
