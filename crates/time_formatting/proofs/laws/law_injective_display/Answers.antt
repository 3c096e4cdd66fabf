use Rattle.std.proofs.Common.{◌≡◌, ◌≤◌, ◌<◌, ◌^◌, ℕ, suc, ℤ, pos, negsuc, neg_ℤ, ◌≤ℤ◌, unsigned_abs, Bool, List, ◌∷◌, ◌++◌, length, refl, sym, ap, subst, ◌∙◌, arith, inl, append_assoc, codes}
use Rattle.std.proofs.lemmas.Bool.Decides.{nat_tests}
use Rattle.std.proofs.lemmas.Int.{ints}
use Rattle.std.proofs.lemmas.List.{append_cancel_right}
use Rattle.time_values.specs.Calendar.{IsYear, month_length, greatest_year}
use Rattle.time_values.specs.Dates as Dates
use Rattle.time_values.specs.Instants.{IsInstant}
use Rattle.time_values.specs.Names.{month_number}
use Rattle.time_values.specs.Sign.{signed_by}
use Rattle.time_values.specs.DisplayTexts.{fixed, fraction_display, magnitude_display, year_sign_display, hour_display, date_display, time_display, is_behind, offset_sign_display, offset_display, plain_display, utc_display, moment_display}
use Rattle.time_values.specs.Times as Times
use Rattle.time_values.specs.declared.date.Date.{Date}
use Rattle.time_values.specs.declared.offset_date_time.OffsetDateTime.{OffsetDateTime}
use Rattle.time_values.specs.declared.plain_date_time.PlainDateTime.{PlainDateTime}
use Rattle.time_values.specs.declared.time.Time.{Time}
use Rattle.time_values.specs.declared.utc_date_time.UtcDateTime.{UtcDateTime}
use Rattle.time_values.specs.declared.utc_offset.UtcOffset.{UtcOffset}
use Rattle.time_values.proofs.InstantLemmas.{first_instant_is, last_instant_is, same_date_by_parts, same_time_by_parts, same_offset_by_parts, same_timestamp}
use Rattle.time_values.proofs.NumberLemmas.{month_number_in, same_month}
use Rattle.time_formatting.specs.WellKnown.{timestamp_display, IsInjective}
use Rattle.time_formatting.proofs.KeptDigits.{fixed-length}
use Rattle.time_formatting.proofs.SameTexts.{year_shown, year-same, year-lacks, hour-same, at_least_one, fraction-same, signed-hours, signed-minutes, signed-seconds, same_sign_byte, decimal-same, same_fronts, same_ends, Lacks, same_to, Lacks-append, Lacks-one, fixed-lacks, fixed-same}
use Rattle.time_formatting.proofs.laws.law_injective_display.Goals as goal

-- ---- Values that print alike are equal

-- texts one after another, joined from the other side
date_parts : (a b c d e f : List ℕ) → a ++ b ++ c ++ d ++ e ++ f ≡ (a ++ b) ++ (c ++ (d ++ (e ++ f)))
date_parts a b c d e f = simp append_assoc

time_parts : (a b c d e f : List ℕ) → a ++ b ++ c ++ d ++ e ++ f ≡ a ++ (b ++ (c ++ (d ++ (e ++ f))))
time_parts a b c d e f = simp append_assoc

three_parts : (a b c : List ℕ) → a ++ b ++ c ≡ a ++ (b ++ c)
three_parts a b c = simp append_assoc

four_parts : (a b c d : List ℕ) → a ++ b ++ c ++ d ≡ a ++ (b ++ (c ++ d))
four_parts a b c d = simp append_assoc

five_parts : (a b c d e : List ℕ) → a ++ b ++ c ++ d ++ e ≡ a ++ (b ++ (c ++ (d ++ e)))
five_parts a b c d e = simp append_assoc

-- two texts of k digits in front of others
digits-same : (k m n : ℕ) (x y : List ℕ) → m < 10 ^ k → n < 10 ^ k → fixed k m ++ x ≡ fixed k n ++ y → (m ≡ n) × (x ≡ y)
digits-same k m n x y small few e =
    let parts = same_fronts (fixed k m) (fixed k n) x y (fixed-length k m ∙ sym (fixed-length k n)) e in
    (fixed-same k m n small few parts.0, parts.1)

-- dates
year_within : (y : ℤ) → IsYear greatest_year y → unsigned_abs y < 10 ^ 6
year_within (pos n) h = omega (arith, ints, h)
year_within (negsuc n) h = omega (arith, ints, h)

month_short : (y : ℤ) (m : ℕ) → month_length y m ≤ 31
month_short y m = grind (arith, nat_tests)

day_within : (d : Date) → Dates.day d < 10 ^ 2
day_within d = let day = d.day_in in omega (arith, day, month_short (Dates.year d) (month_number (Dates.month d)))

-- `-MM-DD`
abbrev end_shown : ℕ → ℕ → List ℕ
end_shown m d = codes "-" ++ (fixed 2 m ++ (codes "-" ++ fixed 2 d))

end-length : (m d : ℕ) → length (end_shown m d) ≡ 6
unfolding fixed
end-length m d = refl

date-is : (d : Date) → date_display d ≡ year_shown (Dates.year d) ++ end_shown (month_number (Dates.month d)) (Dates.day d)
date-is d =
    date_parts (year_sign_display (Dates.year d)) (magnitude_display (unsigned_abs (Dates.year d))) (codes "-")
    (fixed 2 (month_number (Dates.month d))) (codes "-") (fixed 2 (Dates.day d))

end-same : (m n d e : ℕ) → m < 10 ^ 2 → n < 10 ^ 2 → d < 10 ^ 2 → e < 10 ^ 2 → end_shown m d ≡ end_shown n e → (m ≡ n) × (d ≡ e)
end-same m n d e month other day late same =
    let digits : fixed 2 m ++ 45 ∷ fixed 2 d ≡ fixed 2 n ++ 45 ∷ fixed 2 e = cc in
    let parts = digits-same 2 m n (45 ∷ fixed 2 d) (45 ∷ fixed 2 e) month other digits in
    let last : fixed 2 d ≡ fixed 2 e = cc in
    (parts.0, fixed-same 2 d e day late last)

one_date : IsInjective date_display
one_date d e same =
    let m = month_number_in (Dates.month d) in
    let n = month_number_in (Dates.month e) in
    let parts = same_ends (year_shown (Dates.year d)) (year_shown (Dates.year e))
    (end_shown (month_number (Dates.month d)) (Dates.day d)) (end_shown (month_number (Dates.month e)) (Dates.day e))
    (end-length (month_number (Dates.month d)) (Dates.day d) ∙ sym (end-length (month_number (Dates.month e)) (Dates.day e)))
    (sym (date-is d) ∙ same ∙ date-is e) in
    let year = year-same (Dates.year d) (Dates.year e) (year_within (Dates.year d) d.year_in) (year_within (Dates.year e) e.year_in) parts.0 in
    let others = end-same (month_number (Dates.month d)) (month_number (Dates.month e)) (Dates.day d) (Dates.day e)
    (omega (arith, m)) (omega (arith, n)) (day_within d) (day_within e) parts.1 in
    same_date_by_parts d e year (same_month (Dates.month d) (Dates.month e) others.0) others.1

-- a date has no space
date-lacks : (d : Date) → Lacks 32 (date_display d)
date-lacks d =
    subst (Lacks 32) (sym (date-is d))
    (Lacks-append 32 (year_shown (Dates.year d)) (end_shown (month_number (Dates.month d)) (Dates.day d))
    (year-lacks (Dates.year d) (year_within (Dates.year d) d.year_in))
    (Lacks-append 32 (codes "-") _ (Lacks-one 32 45 (λ e. omega (arith, e)))
    (Lacks-append 32 (fixed 2 (month_number (Dates.month d))) _ (fixed-lacks 32 2 (month_number (Dates.month d)) (inl (omega arith)))
    (Lacks-append 32 (codes "-") _ (Lacks-one 32 45 (λ e. omega (arith, e)))
    (fixed-lacks 32 2 (Dates.day d) (inl (omega arith)))))))

-- times
abbrev after_hour : Time → List ℕ
after_hour t =
    fixed 2 (Times.minute t) ++ (codes ":" ++ (fixed 2 (Times.second t)
    ++ fraction_display (at_least_one (Times.nanosecond t)) (Times.nanosecond t)))

time-is : (t : Time) → time_display t ≡ hour_display (Times.hour t) ++ (codes ":" ++ after_hour t)
time-is t =
    time_parts (hour_display (Times.hour t)) (codes ":") (fixed 2 (Times.minute t)) (codes ":") (fixed 2 (Times.second t))
    (fraction_display (at_least_one (Times.nanosecond t)) (Times.nanosecond t))

one_time : IsInjective time_display
one_time t u same =
    let hour = hour-same (Times.hour t) (Times.hour u) (after_hour t) (after_hour u) t.hour_in u.hour_in (sym (time-is t) ∙ same ∙ time-is u) in
    let minute = digits-same 2 (Times.minute t) (Times.minute u) _ _ (omega (arith, t.minute_in)) (omega (arith, u.minute_in)) hour.1 in
    let seconds : fixed 2 (Times.second t) ++ fraction_display (at_least_one (Times.nanosecond t)) (Times.nanosecond t)
    ≡ fixed 2 (Times.second u) ++ fraction_display (at_least_one (Times.nanosecond u)) (Times.nanosecond u) = cc in
    let second = digits-same 2 (Times.second t) (Times.second u) _ _ (omega (arith, t.second_in)) (omega (arith, u.second_in)) seconds in
    let nanosecond = fraction-same (Times.nanosecond t) (Times.nanosecond u) t.nanosecond_in u.nanosecond_in second.1 in
    same_time_by_parts t u hour.0 minute.0 second.0 nanosecond

-- offsets
abbrev offset_parts : ℕ → ℕ → ℕ → List ℕ
offset_parts h m s = fixed 2 h ++ (codes ":" ++ (fixed 2 m ++ (codes ":" ++ fixed 2 s)))

offset-length : (h m s : ℕ) → length (offset_parts h m s) ≡ 8
unfolding fixed
offset-length h m s = refl

parts-same : (h m s i n t : ℕ) → h < 10 ^ 2 → i < 10 ^ 2 → m < 10 ^ 2 → n < 10 ^ 2 → s < 10 ^ 2 → t < 10 ^ 2
    → offset_parts h m s ≡ offset_parts i n t → (h ≡ i) × (m ≡ n) × (s ≡ t)
parts-same h m s i n t ph pi pm pn ps pt same =
    let hour = digits-same 2 h i _ _ ph pi same in
    let minutes : fixed 2 m ++ (codes ":" ++ fixed 2 s) ≡ fixed 2 n ++ (codes ":" ++ fixed 2 t) = cc in
    let minute = digits-same 2 m n _ _ pm pn minutes in
    let seconds : fixed 2 s ≡ fixed 2 t = cc in
    (hour.0, minute.0, fixed-same 2 s t ps pt seconds)

size_within : (k : ℕ) (z : ℤ) → (neg_ℤ (pos k) ≤ℤ z) × (z ≤ℤ pos k) → unsigned_abs z ≤ k
size_within k (pos n) h = omega (arith, ints, h)
size_within k (negsuc n) h = omega (arith, ints, h)

-- a number is determined by its sign and its magnitude
same_signed : (b c : Bool) (y z : ℤ) → b ≡ c → unsigned_abs y ≡ unsigned_abs z → y ≡ signed_by b (pos (unsigned_abs y))
    → z ≡ signed_by c (pos (unsigned_abs z)) → y ≡ z
same_signed b c y z sign size one other =
    one ∙ ap (λ n. signed_by b (pos n)) size ∙ ap (λ a. signed_by a (pos (unsigned_abs z))) sign ∙ sym other

-- the digits of an offset
abbrev sizes_shown : UtcOffset → List ℕ
sizes_shown o = offset_parts (unsigned_abs o.hours) (unsigned_abs o.minutes) (unsigned_abs o.seconds)

offset-is : (o : UtcOffset) → offset_display o ≡ offset_sign_display o ∷ sizes_shown o
offset-is o =
    ap (λ digits. offset_sign_display o ∷ digits) (five_parts (fixed 2 (unsigned_abs o.hours)) (codes ":") (fixed 2 (unsigned_abs o.minutes)) (codes ":")
    (fixed 2 (unsigned_abs o.seconds)))

one_offset : IsInjective offset_display
one_offset o p same =
    let line : offset_sign_display o ∷ sizes_shown o ≡ offset_sign_display p ∷ sizes_shown p = sym (offset-is o) ∙ same ∙ offset-is p in
    let sign = same_sign_byte (is_behind o) (is_behind p) (let first : offset_sign_display o ≡ offset_sign_display p = cc in first) in
    let h = size_within 25 o.hours o.hours_in in let m = size_within 59 o.minutes o.minutes_in in let s = size_within 59 o.seconds o.seconds_in in
    let i = size_within 25 p.hours p.hours_in in let n = size_within 59 p.minutes p.minutes_in in let t = size_within 59 p.seconds p.seconds_in in
    let digits : sizes_shown o ≡ sizes_shown p = cc in
    let sizes = parts-same _ _ _ _ _ _ (omega (arith, h)) (omega (arith, i)) (omega (arith, m)) (omega (arith, n)) (omega (arith, s))
    (omega (arith, t)) digits in
    same_offset_by_parts o p
    (same_signed (is_behind o) (is_behind p) o.hours p.hours sign sizes.0 (signed-hours o.hours o.minutes o.seconds o.one_sign.0 o.one_sign.1)
    (signed-hours p.hours p.minutes p.seconds p.one_sign.0 p.one_sign.1))
    (same_signed (is_behind o) (is_behind p) o.minutes p.minutes sign sizes.1 (signed-minutes o.hours o.minutes o.seconds o.one_sign.0 o.one_sign.1)
    (signed-minutes p.hours p.minutes p.seconds p.one_sign.0 p.one_sign.1))
    (same_signed (is_behind o) (is_behind p) o.seconds p.seconds sign sizes.2 (signed-seconds o.hours o.minutes o.seconds o.one_sign.0 o.one_sign.1)
    (signed-seconds p.hours p.minutes p.seconds p.one_sign.0 p.one_sign.1))

-- date-times
same_plain : (a b : PlainDateTime) → a.date ≡ b.date → a.time ≡ b.time → a ≡ b
same_plain a b d t = λ i. record { date = d i; time = t i }

same_utc : (a b : UtcDateTime) → a.date ≡ b.date → a.time ≡ b.time → a ≡ b
same_utc a b d t = λ i. record { date = d i; time = t i }

same_zoned : (a b : OffsetDateTime) → a.date ≡ b.date → a.time ≡ b.time → a.offset ≡ b.offset → a ≡ b
same_zoned a b d t o = λ i. record { date = d i; time = t i; offset = o i }

-- a date before a space
before_space : (d e : Date) (x y : List ℕ) → date_display d ++ 32 ∷ x ≡ date_display e ++ 32 ∷ y → (d ≡ e) × (x ≡ y)
before_space d e x y same =
    let parts = same_to 32 (date_display d) (date_display e) x y (date-lacks d) (date-lacks e) same in
    (one_date d e parts.0, parts.1)

one_plain : IsInjective plain_display
one_plain p q same =
    let parts = before_space p.date q.date (time_display p.time) (time_display q.time)
    (sym (three_parts (date_display p.date) (codes " ") (time_display p.time)) ∙ same ∙ three_parts (date_display q.date) (codes " ") (time_display q.time)) in
    same_plain p q parts.0 (one_time p.time q.time parts.1)

one_utc : IsInjective utc_display
one_utc u v same =
    let parts = before_space u.date v.date (time_display u.time ++ codes " +00") (time_display v.time ++ codes " +00")
    (sym (four_parts (date_display u.date) (codes " ") (time_display u.time) (codes " +00")) ∙ same
    ∙ four_parts (date_display v.date) (codes " ") (time_display v.time) (codes " +00")) in
    same_utc u v parts.0 (one_time u.time v.time (append_cancel_right (time_display u.time) (time_display v.time) (codes " +00") parts.1))

offset_display-length : (o : UtcOffset) → length (codes " " ++ offset_display o) ≡ 10
offset_display-length o =
    ap (λ text. length (codes " " ++ text)) (offset-is o)
    ∙ ap (λ n. suc (suc n)) (offset-length (unsigned_abs o.hours) (unsigned_abs o.minutes) (unsigned_abs o.seconds))

one_moment : IsInjective moment_display
one_moment v w same =
    let parts = before_space v.date w.date (time_display v.time ++ (codes " " ++ offset_display v.offset))
    (time_display w.time ++ (codes " " ++ offset_display w.offset))
    (sym (five_parts (date_display v.date) (codes " ") (time_display v.time) (codes " ") (offset_display v.offset)) ∙ same
    ∙ five_parts (date_display w.date) (codes " ") (time_display w.time) (codes " ") (offset_display w.offset)) in
    let ends = same_ends (time_display v.time) (time_display w.time) (codes " " ++ offset_display v.offset) (codes " " ++ offset_display w.offset)
    (offset_display-length v.offset ∙ sym (offset_display-length w.offset)) parts.1 in
    let last : offset_display v.offset ≡ offset_display w.offset = cc in
    same_zoned v w parts.0 (one_time v.time w.time ends.0) (one_offset v.offset w.offset last)

-- timestamps
near : (z : ℤ) → IsInstant greatest_year z → unsigned_abs z < 10 ^ 64
near (pos n) h = omega (arith, ints, h, first_instant_is, last_instant_is)
near (negsuc n) h = omega (arith, ints, h, first_instant_is, last_instant_is)

one_timestamp : IsInjective timestamp_display
one_timestamp t u same =
    same_timestamp t u (decimal-same t.nanoseconds u.nanoseconds (near t.nanoseconds t.in_range) (near u.nanoseconds u.in_range) same)

pub returns-clause-date : goal.returns-clause-date
returns-clause-date c = one_date

pub returns-clause-time : goal.returns-clause-time
returns-clause-time c = one_time

pub returns-clause-offset : goal.returns-clause-offset
returns-clause-offset c = one_offset

pub returns-clause-plain_date_time : goal.returns-clause-plain_date_time
returns-clause-plain_date_time c = one_plain

pub returns-clause-utc_date_time : goal.returns-clause-utc_date_time
returns-clause-utc_date_time c = one_utc

pub returns-clause-offset_date_time : goal.returns-clause-offset_date_time
returns-clause-offset_date_time c = one_moment

pub returns-clause-timestamp : goal.returns-clause-timestamp
returns-clause-timestamp c = one_timestamp
