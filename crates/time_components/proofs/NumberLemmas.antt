-- Numbers with a padding, and numbers with a sign.
use Rattle.std.proofs.Common.{List, [], ◌∷◌, ◌≡◌, ℕ, zero, suc, ◌+◌, ◌-◌, ◌^◌, ◌<◌, ◌≤◌, ◌⊎◌, ◌++◌, replicate, refl, ap, sym, ◌∙◌, inl, inr, arith, subst, Bool, false, Option}
use Rattle.time_values.specs.declared.month.Month.{Month}
use Rattle.time_values.specs.declared.month.Month.TheVariants.{January, February, March, April, May, June, July, August, September, October, November, December}
use Rattle.time_values.specs.declared.weekday.Weekday.{Weekday}
use Rattle.time_values.specs.declared.weekday.Weekday.TheVariants.{Monday, Tuesday, Wednesday, Thursday, Friday, Saturday, Sunday}
use Rattle.time_digits.specs.declared.Padding.{Padding}
use Rattle.time_digits.specs.declared.Padding.TheVariants as padding
use Rattle.time_digits.specs.declared.Sign.{Sign}
use Rattle.time_digits.specs.declared.Sign.TheVariants.{Negative, Positive}
use Rattle.time_digits.specs.Digits.{sign_byte, IsSign, Form, Cut, NoCut, Finds, IsDigit, IsDigitRun, IsPaddedRun, IsPaddedRunUpTo}
use Rattle.time_digits.specs.declared.ParsedItem.{ParsedItem}
use Rattle.time_digits.proofs.WordBytes.{Finds-same}
use Rattle.time_digits.proofs.Runs.{pow-mono, IsPaddedRun-below}
use Rattle.time_components.specs.Spelling.{IsSigned}

-- ---- Facts of each month and of each weekday

pub each_month : (P : Month → Type 0)
    → P January × P February × P March × P April × P May × P June × P July × P August × P September × P October × P November × P December
    → (v : Month) → P v
each_month P h January = h.0
each_month P h February = h.1
each_month P h March = h.2
each_month P h April = h.3
each_month P h May = h.4
each_month P h June = h.5
each_month P h July = h.6
each_month P h August = h.7
each_month P h September = h.8
each_month P h October = h.9
each_month P h November = h.10
each_month P h December = h.11

abbrev pub months : List Month
months = January ∷ February ∷ March ∷ April ∷ May ∷ June ∷ July ∷ August ∷ September ∷ October ∷ November ∷ December ∷ []

pub each_weekday : (P : Weekday → Type 0) → P Monday × P Tuesday × P Wednesday × P Thursday × P Friday × P Saturday × P Sunday → (v : Weekday) → P v
each_weekday P h Monday = h.0
each_weekday P h Tuesday = h.1
each_weekday P h Wednesday = h.2
each_weekday P h Thursday = h.3
each_weekday P h Friday = h.4
each_weekday P h Saturday = h.5
each_weekday P h Sunday = h.6

abbrev pub weekdays : List Weekday
weekdays = Monday ∷ Tuesday ∷ Wednesday ∷ Thursday ∷ Friday ∷ Saturday ∷ Sunday ∷ []

-- if every number of `most` places fits, each run fits
pub run_fits : {A : Type 0} (value : A → ℕ) (greatest : ℕ) (padding : Padding) (least most : ℕ) (input : List ℕ)
    (answer : Option (ParsedItem A)) → 10 ^ most ≤ greatest + 1
    → Finds (IsPaddedRunUpTo greatest padding least most) value input answer → Finds (IsPaddedRun padding least most) value input answer
run_fits value greatest padding least most input answer fits =
    Finds-same (IsPaddedRunUpTo greatest padding least most) (IsPaddedRun padding least most) value input answer
    (λ text rest v run. run.0)
    (λ text rest v run. (run, let below = IsPaddedRun-below padding least most text rest v run in omega arith))

-- a run doesn't begin with a sign
digits_first : (least most : ℕ) (text rest : List ℕ) (v c : ℕ) (tail : List ℕ) → 1 ≤ least → IsDigitRun least most text rest v
    → text ++ rest ≡ c ∷ tail → IsDigit c
digits_first least most [] rest v c tail h run e = absurd (omega (arith, run.enough))
digits_first least most (d ∷ text) rest v c tail h run e =
    let is : d ≡ c = cc in
    subst IsDigit is run.digits.0

spaced_first : (least most k : ℕ) (text rest digits : List ℕ) (v c : ℕ) (tail : List ℕ) → 1 ≤ least → text ≡ replicate k 32 ++ digits
    → k ≤ least - 1 → IsDigitRun (least - k) (most - k) digits rest v → text ++ rest ≡ c ∷ tail → (c ≡ 32) ⊎ IsDigit c
spaced_first least most zero text rest digits v c tail h cut few run e =
    inr (digits_first (least - 0) (most - 0) digits rest v c tail (omega arith) run (ap (λ t. t ++ rest) (sym cut) ∙ e))
spaced_first least most (suc k) text rest digits v c tail h cut few run e =
    let first : text ≡ 32 ∷ (replicate k 32 ++ digits) = cut in
    inl (cc)

run_first : (padding : Padding) (least most : ℕ) (text rest : List ℕ) (v c : ℕ) (tail : List ℕ) → 1 ≤ least
    → IsPaddedRun padding least most text rest v → text ++ rest ≡ c ∷ tail → (c ≡ 32) ⊎ IsDigit c
run_first padding.Space least most text rest v c tail h run e = spaced_first least most run.spaces text rest run.digits v c tail h run.cut run.few run.run e
run_first padding.Zero least most text rest v c tail h run e = inr (digits_first least most text rest v c tail h run e)
run_first padding.None least most text rest v c tail h run e = inr (digits_first 1 most text rest v c tail (omega arith) run e)

sign_first : (sign : Sign) → (sign_byte sign ≡ 32) ⊎ IsDigit (sign_byte sign) → ⊥
sign_first Negative (inl e) = omega arith
sign_first Negative (inr d) = omega arith
sign_first Positive (inl e) = omega arith
sign_first Positive (inr d) = omega arith

pub sign_byte-one : (s t : Sign) → sign_byte s ≡ sign_byte t → s ≡ t
sign_byte-one Negative Negative e = refl
sign_byte-one Negative Positive e = absurd (omega arith)
sign_byte-one Positive Negative e = absurd (omega arith)
sign_byte-one Positive Positive e = refl

-- a run and a text that begins with a sign differ
pub no_sign_first : (padding : Padding) (least most : ℕ) (text rest tail : List ℕ) (v : ℕ) (sign : Sign) → 1 ≤ least
    → IsPaddedRun padding least most text rest v → text ++ rest ≡ sign_byte sign ∷ tail → ⊥
no_sign_first padding least most text rest tail v sign h run e = sign_first sign (run_first padding least most text rest v (sign_byte sign) tail h run e)

-- a sign, and a number after it
pub signed_cut : (mandatory : Bool) (behind alone : Form ℕ) (input left rest : List ℕ) (sign : Sign) (n : ℕ)
    → Cut IsSign input left sign → Cut behind left rest n → Cut (IsSigned mandatory behind alone) input rest (sign, n)
signed_cut mandatory behind alone input left rest sign n first cut =
    let whole : input ≡ sign_byte sign ∷ (cut.0 ++ rest) =
    first.1 ∙ ap (λ t. t ++ left) first.2 ∙ ap (λ t. sign_byte sign ∷ t) cut.1 in
    (sign_byte sign ∷ cut.0, whole, inl (cut.0, refl, cut.2))

-- a sign, and no number after it
pub no_signed : (mandatory : Bool) (behind : Form ℕ) (padding : Padding) (least most : ℕ) (input left : List ℕ) (sign : Sign)
    → 1 ≤ least → Cut IsSign input left sign → NoCut behind left → NoCut (IsSigned mandatory behind (IsPaddedRun padding least most)) input
no_signed mandatory behind padding least most input left sign h first none text rest v e (inl (tail, is, found)) =
    let whole : sign_byte sign ∷ left ≡ sign_byte v.0 ∷ (tail ++ rest) =
    ap (λ t. t ++ left) (sym first.2) ∙ sym first.1 ∙ e ∙ ap (λ t. t ++ rest) is in
    let same : left ≡ tail ++ rest = cc in
    none tail rest v.1 same found
no_signed mandatory behind padding least most input left sign h first none text rest v e (inr (free, plus, found)) =
    no_sign_first padding least most text rest left v.1 sign h found (sym e ∙ first.1 ∙ ap (λ t. t ++ left) first.2)

-- no sign, and no number without a sign
pub no_unsigned : (mandatory : Bool) (behind alone : Form ℕ) (input : List ℕ)
    → NoCut IsSign input → (mandatory ≡ false → NoCut alone input) → NoCut (IsSigned mandatory behind alone) input
no_unsigned mandatory behind alone input unsigned none text rest v e (inl (tail, is, found)) =
    unsigned (sign_byte v.0 ∷ []) (tail ++ rest) v.0 (e ∙ ap (λ t. t ++ rest) is) refl
no_unsigned mandatory behind alone input unsigned none text rest v e (inr (free, plus, found)) = none free text rest v.1 e found

-- a number with a sign is below the power of ten of its places
pub signed_below : (mandatory : Bool) (p q : Padding) (least most least' most' top : ℕ) (text rest : List ℕ) (v : Sign × ℕ)
    → most ≤ top → most' ≤ top
    → IsSigned mandatory (IsPaddedRun p least most) (IsPaddedRun q least' most') text rest v → v.1 < 10 ^ top
signed_below mandatory p q least most least' most' top text rest v h k (inl (tail, is, run)) =
    let below = IsPaddedRun-below p least most tail rest v.1 run in
    let wide = pow-mono most top h in
    omega arith
signed_below mandatory p q least most least' most' top text rest v h k (inr (free, plus, run)) =
    let below = IsPaddedRun-below q least' most' text rest v.1 run in
    let wide = pow-mono most' top k in
    omega arith
