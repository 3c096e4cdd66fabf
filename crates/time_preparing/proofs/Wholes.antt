-- Whole texts of one form: their steps, and the values of their records.
use Rattle.std.proofs.Common.{◌≡◌, ◌≢◌, ℕ, ◌≤◌, List, [], ◌∷◌, ◌++◌, length, take, drop, get_or, true, false, Option, Some, None, Ok, Err, pos, inr}
use Rattle.std.proofs.Common.{refl, ap, sym, ◌∙◌, subst, arith}
use Rattle.std.specs.Prelude.{◌==◌, MatchOption, option_and_then}
use Rattle.std.proofs.lemmas.Bool.{le-leb, eqb-true}
use Rattle.std.proofs.lemmas.List.{take_all, drop_all}
use Rattle.time_values.specs.Moments.{offset_date, offset_of, offset_time, plain_date, plain_time}
use Rattle.time_values.specs.Offsets.{offset_refusal}
use Rattle.time_values.specs.Calendar.{greatest_year}
use Rattle.time_values.specs.Refusal.{Refusal, Constructs, insufficient}
use Rattle.time_values.specs.Sign.{signed_by}
use Rattle.time_values.specs.Dates as Dates
use Rattle.time_values.specs.Times as Times
use Rattle.time_values.specs.Times.{HasClock, time_refusal}
use Rattle.time_values.specs.declared.date.Date.{Date}
use Rattle.time_values.specs.declared.offset_date_time.OffsetDateTime.{OffsetDateTime}
use Rattle.time_values.specs.declared.plain_date_time.PlainDateTime.{PlainDateTime}
use Rattle.time_values.specs.declared.utc_offset.UtcOffset.{UtcOffset}
use Rattle.time_values.specs.declared.time.Time.{Time}
use Rattle.time_components.specs.Tree.{steps_shape, steps_trees, component, first_of, sequence, literal, more}
use Rattle.time_components.specs.declared.format_description.Component.TheVariants.{Hour12, Minute, Period}
use Rattle.time_components.specs.declared.inspect.Group.TheVariants.{First, List as List'}
use Rattle.time_components.specs.declared.inspect.Step.{Step}
use Rattle.time_components.specs.declared.inspect.Step.TheVariants as step
use Rattle.time_record.specs.Components.{is_pm}
use Rattle.time_record.specs.Reading.{Reads, ReadsAll}
use Rattle.time_record.specs.Record.{Record, empty}
use Rattle.time_record.specs.Resolution.{Clock, clock_at, hour_of_half, IsConstructed, IsDated, IsMoment, IsMomentOfParts, IsOffset, IsTimed, IsPlain}
use Rattle.time_record.proofs.WalkSteps.{behind_first, steps_trees-end}
use Rattle.time_record.proofs.Unique.{first_of-some, ReadsSome-here}
use Rattle.time_preparing.specs.Forms.{byte_parts, bytes_of, dated_parts, offset_parts, time_parts, with_half, with_offset, with_second}
use Rattle.time_preparing.specs.Forms.{month_day_parts, second_parts}
use Rattle.time_preparing.specs.Walk.{followed_by, leaves, seconds_tree}
use Rattle.time_preparing.specs.Whole.{clock_second, dated, half_parts, half_trees, in_year, in_year_parts, IsLed, IsOf, IsWholeSecond, Leads}
use Rattle.time_preparing.specs.Whole.{ReadsOver, ReadsWhole, timed, whole_parts, whole_trees}
use Rattle.time_preparing.specs.declared.forms.HalfNumbers.{HalfNumbers}
use Rattle.time_preparing.specs.declared.forms.InHalf.{InHalf}
use Rattle.time_preparing.specs.declared.forms.InMoment.{InMoment}
use Rattle.time_preparing.specs.declared.forms.InYear.{InYear}
use Rattle.time_preparing.specs.declared.forms.TheConstants.{HOUR_12, MINUTE}
use Rattle.time_preparing.specs.declared.forms.OffsetNumbers.{OffsetNumbers}
use Rattle.time_preparing.specs.declared.forms.Dated.{Dated}
use Rattle.time_preparing.specs.declared.forms.Dated.TheVariants.{YearFirst, StandardYearFirst, DayFirst}
use Rattle.time_preparing.specs.declared.whole.Whole.{Whole}
use Rattle.time_preparing.specs.declared.whole.Whole.TheVariants as whole
use Rattle.time_preparing.proofs.Parts.{byte_read}
use Rattle.time_preparing.proofs.Going.{one_as_list, reads_later}
use Rattle.time_preparing.proofs.Rows.{AllPlain, group_row, plain_alone, plain_row, second_row}

-- what was constructed
pub made : {V : Type 0} (o : Option Refusal) (P : V → Type 0) (v : V) → Constructs o P (Ok v) → P v
made None P v h = h
made (Some e) P v h = absurd h

-- the constructed value in the form of a record's conversion
constructed : {V : Type 0} (o : Option Refusal) (P : V → Type 0) (v : V) → Constructs o P (Ok v) → IsConstructed o P (Ok v)
constructed None P v h = h
constructed (Some e) P v h = absurd h

-- the values of the records

pub is_dated : (d : Date) → IsDated greatest_year (dated d empty) (Ok d)
unfolding IsDated
is_dated d = ((refl, refl, refl), d.year_in)

module _ (t : Time) (exact : IsWholeSecond t) where
  timed_by : (r : Record) → r.subsecond ≡ None → IsTimed (timed t r) (Ok t)
  unfolding IsTimed
  timed_by r missing =
      rw (
        missing,
        le-leb (Times.hour t) 23 (omega (arith, t.hour_in)),
        le-leb (Times.minute t) 59 (omega (arith, t.minute_in)),
        le-leb (Times.second t) 59 (omega (arith, t.second_in)),
      ) (refl, refl, refl, exact)

  pub is_timed : IsTimed (timed t empty) (Ok t)
  is_timed = timed_by empty refl

  -- a date and a time
  pub is_plain : (d : Date) (p : PlainDateTime) → plain_date p ≡ d → plain_time p ≡ t →
      IsPlain greatest_year (timed t (dated d empty)) (Ok p)
  unfolding IsPlain IsDated
  is_plain d p same_date same_time =
      inr (d, ((refl, refl, refl), d.year_in), inr (t, timed_by (dated d empty) refl, (same_date, same_time)))

  -- a date and time in a known year
  pub is_plain_in : (r : Record) (d : Date) (p : PlainDateTime) → r.year ≡ Some (Dates.year d) → r.ordinal ≡ None → r.subsecond ≡ None →
      plain_date p ≡ d → plain_time p ≡ t → IsPlain greatest_year (timed t (in_year d r)) (Ok p)
  unfolding IsPlain IsDated
  is_plain_in r d p same_year no_ordinal no_fraction same_date same_time =
      inr (d, rw (same_year, no_ordinal) ((refl, refl, refl), d.year_in), inr (t, timed_by (in_year d r) no_fraction, (same_date, same_time)))

  -- a date, a time and an offset
  module _ (d : Date) (n : OffsetNumbers) (o : UtcOffset) (of : IsOf n o) where
    is_offset : IsOffset (with_offset n (timed t (dated d empty))) (Ok o)
    unfolding IsOffset
    is_offset = constructed (offset_refusal n.hour (signed_by n.is_negative n.minute) (pos 0)) _ o of

    pub is_moment : (v : OffsetDateTime) → offset_date v ≡ d → offset_time v ≡ t → offset_of v ≡ o →
        IsMoment greatest_year (with_offset n (timed t (dated d empty))) (Ok v)
    unfolding IsMoment IsMomentOfParts IsDated
    is_moment v same_date same_time same_offset =
        inr (
          d,
          ((refl, refl, refl), d.year_in),
          inr (
            t,
            timed_by (with_offset n (dated d empty)) refl,
            inr (
              o,
              is_offset,
              ((same_date, same_time, same_offset), λ leap. absurd (cc)),
            ),
          ),
        )

-- a time of the 12-hour clock
abbrev ShowsClock : Time → Option Clock → Type 0
ShowsClock t clock = MatchOption clock (Ok t ≡ Err insufficient)
    (λ c. IsConstructed (time_refusal c.hour c.minute c.second c.nanosecond) (HasClock c.hour c.minute c.second c.nanosecond) (Ok t))

module _ (n : HalfNumbers) (hour : ℕ) (t : Time) (same : Some hour ≡ hour_of_half (Some n.hour) (Some (is_pm n.half))) where
  shown : (s f : ℕ) → Constructs (time_refusal hour n.minute s f) (HasClock hour n.minute s f) (Ok t) →
      IsConstructed (time_refusal hour n.minute s f) (HasClock hour n.minute s f) (Ok t)
  shown s f h = constructed (time_refusal hour n.minute s f) (HasClock hour n.minute s f) t h

  half_timed : (x : Option (ℕ × Option ℕ)) →
      Constructs (time_refusal hour n.minute (clock_second x).0 (clock_second x).1) (HasClock hour n.minute (clock_second x).0 (clock_second x).1) (Ok t) →
      IsTimed (record (with_second x (record empty { hour_12 = Some n.hour; minute = Some n.minute })) { hour_12_is_pm = Some (is_pm n.half) }) (Ok t)
  unfolding IsTimed
  half_timed None h =
      subst (λ o. ShowsClock t (option_and_then (λ k. clock_at k (Some n.minute) None None) o)) same (shown 0 0 h)
  half_timed (Some (s, None)) h =
      subst (λ o. ShowsClock t (option_and_then (λ k. clock_at k (Some n.minute) (Some s) None) o)) same (shown s 0 h)
  half_timed (Some (s, Some f)) h =
      subst (λ o. ShowsClock t (option_and_then (λ k. clock_at k (Some n.minute) (Some s) (Some f)) o)) same (shown s f h)

  pub is_half : Constructs (time_refusal hour n.minute (clock_second n.second).0 (clock_second n.second).1)
      (HasClock hour n.minute (clock_second n.second).0 (clock_second n.second).1) (Ok t) → IsTimed (with_half n empty) (Ok t)
  is_half h = half_timed n.second h

-- rows of leaves

leaves_joined : (xs ys : List Step) → leaves (xs ++ ys) ≡ followed_by (leaves xs) (leaves ys)
leaves_joined [] ys = refl
leaves_joined (step.Literal b ∷ xs) ys = ap (more (literal (b ∷ []))) (leaves_joined xs ys)
leaves_joined (step.More b ∷ xs) ys = ap (more (literal (b ∷ []))) (leaves_joined xs ys)
leaves_joined (step.Component c ∷ xs) ys = ap (more (component false c)) (leaves_joined xs ys)
leaves_joined (step.Group g len ∷ xs) ys = leaves_joined xs ys

-- rows with a byte between them
pub rows_read : (xs ys : List Step) (gap : ℕ) (b mid behind rest : List ℕ) (r q s : Record) →
    ReadsAll greatest_year (leaves xs) b r mid q → mid ≡ gap ∷ behind → ReadsAll greatest_year (leaves ys) behind q rest s →
    ReadsAll greatest_year (leaves (xs ++ step.Literal gap ∷ ys)) b r rest s
rows_read xs ys gap b mid behind rest r q s first is second =
    rw leaves_joined (reads_later (more (literal (gap ∷ [])) (leaves ys)) (leaves xs) b r mid q rest s first
    (byte_read (leaves ys) mid behind rest gap q s is second))

-- rows with a byte between them if there is one
rows_joined : (xs ys : List Step) (gap : Option ℕ) (b mid behind rest : List ℕ) (r q s : Record) →
    ReadsAll greatest_year (leaves xs) b r mid q → mid ≡ bytes_of gap ++ behind → ReadsAll greatest_year (leaves ys) behind q rest s →
    ReadsAll greatest_year (leaves (xs ++ (byte_parts gap ++ ys))) b r rest s
rows_joined xs ys None b mid behind rest r q s first is second =
    rw leaves_joined (reads_later (leaves ys) (leaves xs) b r mid q rest s first
    (subst (λ x. ReadsAll greatest_year (leaves ys) x q rest s) (sym is) second))
rows_joined xs ys (Some x) b mid behind rest r q s first is second = rows_read xs ys x b mid behind rest r q s first is second

pub no_bytes : (b : List ℕ) → (length b == 0) ≡ true → b ≡ []
no_bytes [] e = refl
no_bytes (x ∷ b) e = absurd (omega (arith, eqb-true (length (x ∷ b)) 0 e))

-- Steps that a form leads to.

plain_joined : (xs ys : List Step) → AllPlain xs → AllPlain ys → AllPlain (xs ++ ys)
plain_joined [] ys p q = q
plain_joined (step.Literal b ∷ xs) ys p q = plain_joined xs ys p q
plain_joined (step.More b ∷ xs) ys p q = absurd p
plain_joined (step.Component c ∷ xs) ys p q = plain_joined xs ys p q
plain_joined (step.Group g len ∷ xs) ys p q = absurd p

plain_date_form : (form : Dated) → AllPlain (dated_parts form)
plain_date_form (YearFirst b) = tt
plain_date_form (StandardYearFirst b) = tt
plain_date_form (DayFirst b) = tt

plain_offset : (b : Option ℕ) → AllPlain (offset_parts b)
plain_offset None = tt
plain_offset (Some b) = tt

plain_end : (before b : Option ℕ) → AllPlain (byte_parts before ++ offset_parts b)
plain_end None b = plain_offset b
plain_end (Some x) b = plain_offset b

half_row : (h : InHalf) → steps_trees (half_parts h) ≡ half_trees h
half_row h =
    let front = step.Component (Hour12 HOUR_12) ∷ step.Literal h.in_time ∷ step.Component (Minute MINUTE) ∷ [] in
    let later = step.Literal h.before_half ∷ step.Component (Period h.half) ∷ [] in
    plain_row front (second_parts h.before_second h.point ++ later) tt refl
    ∙ ap (followed_by (leaves front)) (second_row h.before_second h.point later ∙ ap (more (seconds_tree h.before_second h.point)) (plain_alone later tt))

whole_row : (w : Whole) → steps_trees (whole_parts w) ≡ whole_trees w
whole_row whole.Nothing = plain_alone [] tt
whole_row (whole.Date form) = plain_alone (dated_parts form) (plain_date_form form)
whole_row (whole.Time b) = plain_alone (time_parts b) tt
whole_row (whole.Half h) = half_row h
whole_row (whole.InYear y) = plain_alone (in_year_parts y) tt
whole_row (whole.Plain form between b) =
    plain_alone (dated_parts form ++ step.Literal between ∷ time_parts b)
    (plain_joined (dated_parts form) (step.Literal between ∷ time_parts b) (plain_date_form form) tt)
whole_row (whole.Moment m) =
    let behind = step.Literal m.between ∷ (time_parts m.in_time ++ (byte_parts m.before_offset ++ offset_parts m.in_offset)) in
    plain_alone (dated_parts m.date ++ behind)
    (plain_joined (dated_parts m.date) behind (plain_date_form m.date) (plain_end m.before_offset m.in_offset))

-- these steps read what the trees of the form read
reads_form : (w : Whole) (steps : List Step) → steps ≡ whole_parts w → (b : List ℕ) (r : Record) (rest : List ℕ) (new : Record) →
    ReadsAll greatest_year (whole_trees w) b r rest new → Reads greatest_year (steps_shape steps) b r rest new
unfolding Reads
reads_form w steps is b r rest new h = rw (is, whole_row w) h

pub leads : (w : Whole) (list steps : List Step) → list ≡ whole_parts w → IsLed list steps → Leads w steps
leads whole.Nothing list steps is led = tt
leads (whole.Date form) list steps is led = λ b r rest new h. led b r rest new (reads_form (whole.Date form) list is b r rest new h)
leads (whole.Time t) list steps is led = λ b r rest new h. led b r rest new (reads_form (whole.Time t) list is b r rest new h)
leads (whole.Half x) list steps is led = λ b r rest new h. led b r rest new (reads_form (whole.Half x) list is b r rest new h)
leads (whole.InYear y) list steps is led = λ b r rest new h. led b r rest new (reads_form (whole.InYear y) list is b r rest new h)
leads (whole.Plain form between t) list steps is led =
    λ b r rest new h. led b r rest new (reads_form (whole.Plain form between t) list is b r rest new h)
leads (whole.Moment m) list steps is led = λ b r rest new h. led b r rest new (reads_form (whole.Moment m) list is b r rest new h)

-- The form leads to its own steps.
pub own : (w : Whole) → Leads w (whole_parts w)
own w = leads w (whole_parts w) (whole_parts w) refl (λ b r rest new h. h)

-- the readings of a form that leads to the steps
pub led : (w : Whole) (steps : List Step) → Leads w steps → w ≢ whole.Nothing → (b : List ℕ) (r : Record) (rest : List ℕ) (new : Record) →
    ReadsAll greatest_year (whole_trees w) b r rest new → Reads greatest_year (steps_shape steps) b r rest new
led whole.Nothing steps leads some = absurd (some refl)
led (whole.Date form) steps leads some = leads
led (whole.Time t) steps leads some = leads
led (whole.Half x) steps leads some = leads
led (whole.InYear y) steps leads some = leads
led (whole.Plain form between t) steps leads some = leads
led (whole.Moment m) steps leads some = leads

-- a choice that begins with a list, and is all of the steps
module _ (steps : List Step) (choice list : Step) (all len : ℕ) (some : 1 ≤ length steps) (is : choice ≡ get_or steps 0 choice)
    (more_some : 1 ≤ length (behind_first steps)) (is' : list ≡ get_or (behind_first steps) 0 list)
    (chooses : choice ≡ step.Group First all) (lists : list ≡ step.Group List' len) where
  pub first_leads : (first : List Step) → all ≡ length (behind_first steps) → len ≤ length (behind_first (behind_first steps)) →
      first ≡ take len (behind_first (behind_first steps)) → IsLed first steps
  unfolding Reads
  first_leads first whole within cut = λ b r rest new h.
      let items = behind_first steps in
      let inside = behind_first items in
      let nothing : [] ≡ drop all items = sym (drop_all all items (omega arith)) in
      let outer = group_row steps choice some is First all all items [] chooses (omega arith) (sym (take_all all items (omega arith))) nothing in
      let inner = group_row items list more_some is' List' len len first (drop len inside) lists (omega arith) cut refl in
      let chosen : Reads greatest_year (first_of (steps_trees items)) b r rest new =
      rw inner (first_of-some greatest_year b r (more (sequence (steps_trees first)) (steps_trees (drop len inside))) rest new
      (ReadsSome-here greatest_year (sequence (steps_trees first)) (steps_trees (drop len inside)) b r rest new h)) in
      rw (outer, steps_trees-end [] (omega arith)) (one_as_list (first_of (steps_trees items)) b r rest new chosen)

-- whole texts

over_end : (w : Whole) (b rest : List ℕ) (begin q : Record) (P : Record → Type 0) → w ≢ whole.Nothing →
    ReadsAll greatest_year (whole_trees w) b begin rest q → rest ≡ [] → P q → ReadsOver w b begin P
over_end w b rest begin q P some reads end p = (some, q, subst (λ x. ReadsAll greatest_year (whole_trees w) b begin x q) end reads, p)

whole_end : (w : Whole) (b rest : List ℕ) (q : Record) (P : Record → Type 0) → w ≢ whole.Nothing →
    ReadsAll greatest_year (whole_trees w) b empty rest q → rest ≡ [] → P q → ReadsWhole w b P
whole_end w b rest q P some reads end p = over_end w b rest empty q P some reads end p

date_some : (form : Dated) → whole.Date form ≢ whole.Nothing
date_some form e = cc

time_some : (t : ℕ) → whole.Time t ≢ whole.Nothing
time_some t e = cc

plain_some : (form : Dated) (between t : ℕ) → whole.Plain form between t ≢ whole.Nothing
plain_some form between t e = cc

pub whole_date : (form : Dated) (b rest : List ℕ) (d : Date) →
    ((r : Record) → ReadsAll greatest_year (leaves (dated_parts form)) b r rest (dated d r)) → rest ≡ [] →
    ReadsWhole (whole.Date form) b (λ r. IsDated greatest_year r (Ok d))
whole_date form b rest d reads end =
    whole_end (whole.Date form) b rest (dated d empty) (λ r. IsDated greatest_year r (Ok d)) (date_some form) (reads empty) end (is_dated d)

pub whole_time : (between : ℕ) (b rest : List ℕ) (t : Time) → IsWholeSecond t →
    ((r : Record) → ReadsAll greatest_year (leaves (time_parts between)) b r rest (timed t r)) → rest ≡ [] →
    ReadsWhole (whole.Time between) b (λ r. IsTimed r (Ok t))
whole_time between b rest t exact reads end =
    whole_end (whole.Time between) b rest (timed t empty) (λ r. IsTimed r (Ok t)) (time_some between) (reads empty) end (is_timed t exact)

pub whole_plain : (form : Dated) (gap between : ℕ) (b mid behind rest : List ℕ) (d : Date) (t : Time) (p : PlainDateTime) → IsWholeSecond t →
    ((r : Record) → ReadsAll greatest_year (leaves (dated_parts form)) b r mid (dated d r)) → mid ≡ gap ∷ behind →
    ((r : Record) → ReadsAll greatest_year (leaves (time_parts between)) behind r rest (timed t r)) → rest ≡ [] →
    plain_date p ≡ d → plain_time p ≡ t →
    ReadsWhole (whole.Plain form gap between) b (λ r. IsPlain greatest_year r (Ok p))
whole_plain form gap between b mid behind rest d t p exact reads is read_time end same_date same_time =
    whole_end (whole.Plain form gap between) b rest (timed t (dated d empty)) (λ r. IsPlain greatest_year r (Ok p)) (plain_some form gap between)
    (rows_read (dated_parts form) (time_parts between) gap b mid behind rest empty (dated d empty) (timed t (dated d empty))
    (reads empty) is (read_time (dated d empty))) end (is_plain t exact d p same_date same_time)

half_some : (h : InHalf) → whole.Half h ≢ whole.Nothing
half_some h e = cc

pub whole_half : (h : InHalf) (b rest : List ℕ) (n : HalfNumbers) (t : Time) →
    ((r : Record) → ReadsAll greatest_year (half_trees h) b r rest (with_half n r)) → rest ≡ [] → IsTimed (with_half n empty) (Ok t) →
    ReadsWhole (whole.Half h) b (λ r. IsTimed r (Ok t))
whole_half h b rest n t reads end is =
    whole_end (whole.Half h) b rest (with_half n empty) (λ r. IsTimed r (Ok t)) (half_some h) (reads empty) end is

in_year_some : (y : InYear) → whole.InYear y ≢ whole.Nothing
in_year_some y e = cc

pub whole_in_year : (y : InYear) (b mid behind rest : List ℕ) (known : Record) (d : Date) (t : Time) (p : PlainDateTime) → IsWholeSecond t →
    known.year ≡ Some (Dates.year d) → known.ordinal ≡ None → known.subsecond ≡ None →
    ((r : Record) → ReadsAll greatest_year (leaves (month_day_parts y.in_date)) b r mid (in_year d r)) → mid ≡ y.between ∷ behind →
    ((r : Record) → ReadsAll greatest_year (leaves (time_parts y.in_time)) behind r rest (timed t r)) → rest ≡ [] →
    plain_date p ≡ d → plain_time p ≡ t →
    ReadsOver (whole.InYear y) b known (λ r. IsPlain greatest_year r (Ok p))
whole_in_year y b mid behind rest known d t p exact same_year no_ordinal no_fraction reads is read_time end same_date same_time =
    let q = in_year d known in
    over_end (whole.InYear y) b rest known (timed t q) (λ r. IsPlain greatest_year r (Ok p)) (in_year_some y)
    (rows_read (month_day_parts y.in_date) (time_parts y.in_time) y.between b mid behind rest known q (timed t q)
    (reads known) is (read_time q)) end (is_plain_in t exact known d p same_year no_ordinal no_fraction same_date same_time)

moment_some : (m : InMoment) → whole.Moment m ≢ whole.Nothing
moment_some m e = cc

pub whole_moment : (m : InMoment) (b mid behind later at rest : List ℕ) (d : Date) (t : Time) (n : OffsetNumbers) (o : UtcOffset)
    (v : OffsetDateTime) → IsWholeSecond t → IsOf n o →
    ((r : Record) → ReadsAll greatest_year (leaves (dated_parts m.date)) b r mid (dated d r)) → mid ≡ m.between ∷ behind →
    ((r : Record) → ReadsAll greatest_year (leaves (time_parts m.in_time)) behind r later (timed t r)) →
    later ≡ bytes_of m.before_offset ++ at →
    ((r : Record) → ReadsAll greatest_year (leaves (offset_parts m.in_offset)) at r rest (with_offset n r)) → rest ≡ [] →
    offset_date v ≡ d → offset_time v ≡ t → offset_of v ≡ o →
    ReadsWhole (whole.Moment m) b (λ r. IsMoment greatest_year r (Ok v))
whole_moment m b mid behind later at rest d t n o v exact of reads is read_time is' read_offset end same_date same_time same_offset =
    let q = dated d empty in
    let s = timed t q in
    let behind_read = rows_joined (time_parts m.in_time) (offset_parts m.in_offset) m.before_offset behind later at rest q s (with_offset n s)
    (read_time q) is' (read_offset s) in
    whole_end (whole.Moment m) b rest (with_offset n s) (λ r. IsMoment greatest_year r (Ok v)) (moment_some m)
    (rows_read (dated_parts m.date) (time_parts m.in_time ++ (byte_parts m.before_offset ++ offset_parts m.in_offset)) m.between
    b mid behind rest empty q (with_offset n s) (reads empty) is behind_read) end (is_moment t exact d n o of v same_date same_time same_offset)
