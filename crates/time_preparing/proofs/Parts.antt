-- Forms of parts that are read one after the other.
use Rattle.time_values.specs.Calendar.{greatest_year}
use Rattle.std.proofs.Common.{◌≡◌, ℕ, ◌≤◌, List, [], ◌∷◌, ◌++◌, Option, Some, None, Bor, IfSome, Bool, true, false, ℤ, inl, inr, refl, ap, sym, subst, arith}
use Rattle.std.specs.Prelude.{nat_le, unsigned_abs}
use Rattle.std.proofs.lemmas.Bool.{le-leb}
use Rattle.time_digits.specs.Digits.{Cut}
use Rattle.time_components.specs.Spelling.{Spells, Value, flagged, number, period, signed}
use Rattle.time_components.specs.Tree.{Tree, Trees, component, literal, optional, sequence, more, none}
use Rattle.time_components.specs.declared.format_description.Component.{Component}
use Rattle.time_components.specs.declared.format_description.Component.TheVariants.{CalendarYearFullExtendedRange, CalendarYearFullStandardRange, Day, Hour12, Hour24, Minute, Period, Second, Subsecond, OffsetHour, OffsetMinute}
use Rattle.time_components.specs.declared.modifier.Day.{Day as Day'}
use Rattle.time_record.specs.Components.{put_value}
use Rattle.time_record.specs.Reading.{Reads, ReadsAll}
use Rattle.time_record.specs.Record.{Record, Sets}
use Rattle.time_record.specs.WalkSteps.{MayRead}
use Rattle.time_record.proofs.ComponentLemmas.{reads_literal}
use Rattle.time_preparing.specs.Walk.{fraction_tree, leaves, MayReadAll, seconds_tree}
use Rattle.time_preparing.specs.Forms.{bytes_of, offset_parts, with_half, with_second}
use Rattle.time_preparing.specs.Whole.{half_trees}
use Rattle.time_preparing.specs.declared.forms.HalfNumbers.{HalfNumbers}
use Rattle.time_preparing.specs.declared.forms.InHalf.{InHalf}
use Rattle.time_preparing.specs.declared.forms.TheConstants.{YEAR, STANDARD_YEAR, HOUR_12, HOUR, MINUTE, SECOND, SUBSECOND, OFFSET_HOUR, OFFSET_MINUTE}
use Rattle.time_preparing.proofs.Going.{reads_later}

-- nothing is left to read
pub read_all : (b : List ℕ) (r : Record) → ReadsAll greatest_year none b r b r
unfolding ReadsAll
read_all b r = (refl, refl)

module _ (ts : Trees) (b mid rest : List ℕ) where
  -- a component, and what follows it
  pub component_read : (c : Component) (v : Value) (r q s : Record) → Cut (Spells false c) b mid v → put_value greatest_year c v r ≡ Some q →
      ReadsAll greatest_year ts mid q rest s → ReadsAll greatest_year (more (component false c) ts) b r rest s
  unfolding ReadsAll
  component_read c v r q s cut puts behind =
      (mid, q, record { text = cut.0; value = v; cut = cut.1; spells = cut.2; puts = puts }, behind)

  -- a byte, and what follows it
  pub byte_read : (byte : ℕ) (r s : Record) → b ≡ byte ∷ mid → ReadsAll greatest_year ts mid r rest s →
      ReadsAll greatest_year (more (literal (byte ∷ [])) ts) b r rest s
  unfolding ReadsAll
  byte_read byte r s is behind = (mid, r, reads_literal greatest_year (byte ∷ []) b r mid is, behind)

  -- any tree, and what follows it
  pub tree_read : (t : Tree) (r q s : Record) → Reads greatest_year t b r mid q → ReadsAll greatest_year ts mid q rest s → ReadsAll greatest_year
      (more t ts) b r rest s
  unfolding ReadsAll
  tree_read t r q s here behind = (mid, q, here, behind)

-- a byte alone
pub byte_may_read : (byte : ℕ) (b : List ℕ) (r : Record) (result : Option (Bor (List ℕ))) →
    IfSome result (λ rest. b ≡ byte ∷ rest.now) → MayReadAll (more (literal (byte ∷ [])) none) b r result r
byte_may_read byte b r (Some rest) h = byte_read none b rest.now rest.now byte r r h (read_all rest.now r)
byte_may_read byte b r None h = refl

-- a tree alone
pub tree_may_read : (t : Tree) (b : List ℕ) (r q : Record) (result : Option (Bor (List ℕ))) →
    MayRead greatest_year t b r result q → MayReadAll (more t none) b r result q
tree_may_read t b r q (Some rest) h = tree_read none b rest.now rest.now t r q q h (read_all rest.now q)
tree_may_read t b r q None h = h

-- Three components with one byte between them.
pub three_read : (between : ℕ) (c d e : Component) (b c_rest d_in d_rest e_in rest : List ℕ) (v w x : Value)
    (r p q s : Record) →
    Cut (Spells false c) b c_rest v → c_rest ≡ between ∷ d_in →
    Cut (Spells false d) d_in d_rest w → d_rest ≡ between ∷ e_in →
    Cut (Spells false e) e_in rest x →
    put_value greatest_year c v r ≡ Some p → put_value greatest_year d w p ≡ Some q → put_value greatest_year e x q ≡ Some s →
    ReadsAll greatest_year (more (component false c) (more (literal (between ∷ [])) (more (component false d) (more (literal (between ∷ []))
    (more (component false e) none))))) b r rest s
three_read between c d e b c_rest d_in d_rest e_in rest v w x r p q s c_cut first d_cut second e_cut puts_c puts_d puts_e =
    component_read _ b c_rest rest c v r p s c_cut puts_c
    (byte_read _ c_rest d_in rest between p s first
    (component_read _ d_in d_rest rest d w p q s d_cut puts_d
    (byte_read _ d_rest e_in rest between q s second
    (component_read none e_in rest rest e x q s s e_cut puts_e (read_all rest s)))))

-- Two components with a byte between them.
pub two_read : (between : ℕ) (c d : Component) (b c_rest d_in rest : List ℕ) (v w : Value) (r p q : Record) →
    Cut (Spells false c) b c_rest v → c_rest ≡ between ∷ d_in → Cut (Spells false d) d_in rest w →
    put_value greatest_year c v r ≡ Some p → put_value greatest_year d w p ≡ Some q →
    ReadsAll greatest_year (more (component false c) (more (literal (between ∷ [])) (more (component false d) none))) b r rest q
two_read between c d b c_rest d_in rest v w r p q c_cut first d_cut puts_c puts_d =
    component_read _ b c_rest rest c v r p q c_cut puts_c
    (byte_read _ c_rest d_in rest between p q first
    (component_read none d_in rest rest d w p q q d_cut puts_d (read_all rest q)))

-- An offset's hour and its minute, with that byte between them if there is one.
pub offset_read : (between : Option ℕ) (b h_rest m_in rest : List ℕ) (h m : ℤ) (minus : Bool) (r p q : Record) →
    Cut (Spells false (OffsetHour OFFSET_HOUR)) b h_rest (flagged h minus) → h_rest ≡ bytes_of between ++ m_in →
    Cut (Spells false (OffsetMinute OFFSET_MINUTE)) m_in rest (signed m) →
    put_value greatest_year (OffsetHour OFFSET_HOUR) (flagged h minus) r ≡ Some p → put_value greatest_year (OffsetMinute OFFSET_MINUTE) (signed m) p ≡ Some q →
    ReadsAll greatest_year (leaves (offset_parts between)) b r rest q
offset_read None b h_rest m_in rest h m minus r p q h_cut is m_cut puts_h puts_m =
    component_read _ b h_rest rest (OffsetHour OFFSET_HOUR) (flagged h minus) r p q h_cut puts_h
    (component_read none h_rest rest rest (OffsetMinute OFFSET_MINUTE) (signed m) p q q
    (subst (λ s. Cut (Spells false (OffsetMinute OFFSET_MINUTE)) s rest (signed m)) (sym is) m_cut) puts_m (read_all rest q))
offset_read (Some byte) b h_rest m_in rest h m minus r p q h_cut is m_cut puts_h puts_m =
    two_read byte (OffsetHour OFFSET_HOUR) (OffsetMinute OFFSET_MINUTE) b h_rest m_in rest (flagged h minus) (signed m) r p q
    h_cut is m_cut puts_h puts_m

-- numbers that are stored

pub put_offset_hour : (h : ℤ) (minus : Bool) (r : Record) → nat_le (unsigned_abs h) 25 ≡ true →
    put_value greatest_year (OffsetHour OFFSET_HOUR) (flagged h minus) r ≡ Some (record r { offset_hour = Some h; offset_is_negative = minus })
put_offset_hour h minus r within = rw within refl

pub put_offset_minute : (m : ℤ) (r : Record) → nat_le (unsigned_abs m) 59 ≡ true →
    put_value greatest_year (OffsetMinute OFFSET_MINUTE) (signed m) r ≡ Some (record r { offset_minute = Some m })
put_offset_minute m r within = rw within refl

pub put_year : (y : ℤ) (r : Record) → nat_le (unsigned_abs y) greatest_year ≡ true →
    put_value greatest_year (CalendarYearFullExtendedRange YEAR) (signed y) r ≡ Some (record r { year = Some y })
put_year y r within = rw within refl

pub put_standard_year : (y : ℤ) (r : Record) → nat_le (unsigned_abs y) greatest_year ≡ true →
    put_value greatest_year (CalendarYearFullStandardRange STANDARD_YEAR) (signed y) r ≡ Some (record r { year = Some y })
put_standard_year y r within = rw within refl

pub put_day : (m : Day') (b rest : List ℕ) (n : ℕ) (r : Record) → Cut (Spells false (Day m)) b rest (number n) → n ≤ 31 →
    put_value greatest_year (Day m) (number n) r ≡ Some (record r { day = Some n })
put_day m b rest n r cut within =
    let found = cut.2 in
    let same : n ≡ found.0 = cc (found.1) in
    rw (le-leb 1 n (omega (arith, found.2.1)), le-leb n 31 within) refl

pub put_hour : (n : ℕ) (r : Record) → n ≤ 23 → put_value greatest_year (Hour24 HOUR) (number n) r ≡ Some (record r { hour_24 = Some n })
put_hour n r within = rw (le-leb n 23 within) refl

pub put_minute : (n : ℕ) (r : Record) → n ≤ 59 → put_value greatest_year (Minute MINUTE) (number n) r ≡ Some (record r { minute = Some n })
put_minute n r within = rw (le-leb n 59 within) refl

pub put_second : (n : ℕ) (r : Record) → n ≤ 60 → put_value greatest_year (Second SECOND) (number n) r ≡ Some (record r { second = Some n })
put_second n r within = rw (le-leb n 60 within) refl

pub put_hour_12 : (n : ℕ) (r : Record) → 1 ≤ n → n ≤ 12 → put_value greatest_year (Hour12 HOUR_12) (number n) r ≡ Some (record r { hour_12 = Some n })
put_hour_12 n r some within = rw (le-leb 1 n some, le-leb n 12 within) refl

pub put_subsecond : (n : ℕ) (r : Record) → n ≤ 999999999 →
    put_value greatest_year (Subsecond SUBSECOND) (number n) r ≡ Some (record r { subsecond = Some n })
put_subsecond n r within = rw (le-leb n 999999999 within) refl

-- what a setter stores
pub set_some : (o : Option Record) (r q : Record) (u : Unit {0}) → Sets o r (Some u) q → o ≡ Some q
set_some None r q u h = absurd h
set_some (Some p) r q u h = ap Some (sym h)

-- an optional part that begins with a byte

missing : (ts : Trees) (byte : ℕ) (b : List ℕ) (r : Record) → ((rest : List ℕ) → b ≡ byte ∷ rest → ⊥) →
    Reads greatest_year (optional (sequence (more (literal (byte ∷ [])) ts))) b r b r
unfolding Reads ReadsAll
missing ts byte b r other = inr (λ rest q h. other h.0 h.2.0, refl, refl)

present : (ts : Trees) (b rest : List ℕ) (r q : Record) → ReadsAll greatest_year ts b r rest q → Reads greatest_year (optional (sequence ts)) b r rest q
unfolding Reads
present ts b rest r q h = inl h

pub no_fraction : (p : ℕ) (b : List ℕ) (r : Record) → ((rest : List ℕ) → b ≡ p ∷ rest → ⊥) → Reads greatest_year (fraction_tree p) b r b r
no_fraction p b r other = missing (more (component false (Subsecond SUBSECOND)) none) p b r other

pub fraction_read : (p n : ℕ) (b mid rest : List ℕ) (r : Record) → b ≡ p ∷ mid → Cut (Spells false (Subsecond SUBSECOND)) mid rest (number n) →
    n ≤ 999999999 → Reads greatest_year (fraction_tree p) b r rest (record r { subsecond = Some n })
fraction_read p n b mid rest r is cut within =
    let q : Record = record r { subsecond = Some n } in
    present (more (literal (p ∷ [])) (more (component false (Subsecond SUBSECOND)) none)) b rest r q
    (byte_read (more (component false (Subsecond SUBSECOND)) none) b mid rest p r q is
    (component_read none mid rest rest (Subsecond SUBSECOND) (number n) r q q cut (put_subsecond n r within) (read_all rest q)))

pub no_seconds : (between p : ℕ) (b : List ℕ) (r : Record) → ((rest : List ℕ) → b ≡ between ∷ rest → ⊥) →
    ReadsAll greatest_year (more (seconds_tree between p) none) b r b r
no_seconds between p b r other =
    let t = more (component false (Second SECOND)) (more (fraction_tree p) none) in
    tree_read none b b b (optional (sequence (more (literal (between ∷ [])) t))) r r r (missing t between b r other) (read_all b r)

pub seconds_read : (between p n : ℕ) (b mid behind rest : List ℕ) (r s q : Record) → b ≡ between ∷ mid →
    Cut (Spells false (Second SECOND)) mid behind (number n) → put_value greatest_year (Second SECOND) (number n) r ≡ Some s →
    Reads greatest_year (fraction_tree p) behind s rest q → ReadsAll greatest_year (more (seconds_tree between p) none) b r rest q
seconds_read between p n b mid behind rest r s q is cut puts fraction =
    let ts = more (fraction_tree p) none in
    let t = more (component false (Second SECOND)) ts in
    tree_read none b rest rest (optional (sequence (more (literal (between ∷ [])) t))) r q q
    (present (more (literal (between ∷ [])) t) b rest r q (byte_read t b mid rest between r q is
    (component_read ts mid behind rest (Second SECOND) (number n) r s q cut puts
    (tree_read none behind rest rest (fraction_tree p) s q q fraction (read_all rest q)))))
    (read_all rest q)

-- a time of the 12-hour clock
pub half_read : (h : InHalf) (n : HalfNumbers) (b hour_rest minute_in minute_rest second_rest half_in rest : List ℕ) (r : Record) →
    Cut (Spells false (Hour12 HOUR_12)) b hour_rest (number n.hour) → 1 ≤ n.hour → n.hour ≤ 12 → hour_rest ≡ h.in_time ∷ minute_in →
    Cut (Spells false (Minute MINUTE)) minute_in minute_rest (number n.minute) → n.minute ≤ 59 →
    ((q : Record) → ReadsAll greatest_year (more (seconds_tree h.before_second h.point) none) minute_rest q second_rest (with_second n.second q)) →
    second_rest ≡ h.before_half ∷ half_in → Cut (Spells false (Period h.half)) half_in rest (period n.half) →
    ReadsAll greatest_year (half_trees h) b r rest (with_half n r)
half_read h n b hour_rest minute_in minute_rest second_rest half_in rest r hour some most first minute within seconds second half =
    let p : Record = record r { hour_12 = Some n.hour } in
    let q : Record = record p { minute = Some n.minute } in
    let s = with_second n.second q in
    let later = more (component false (Period h.half)) none in
    let behind = more (literal (h.before_half ∷ [])) later in
    component_read _ b hour_rest rest (Hour12 HOUR_12) (number n.hour) r p (with_half n r) hour (put_hour_12 n.hour r some most)
    (byte_read _ hour_rest minute_in rest h.in_time p (with_half n r) first
    (component_read _ minute_in minute_rest rest (Minute MINUTE) (number n.minute) p q (with_half n r) minute (put_minute n.minute p within)
    (reads_later behind (more (seconds_tree h.before_second h.point) none) minute_rest q second_rest s rest (with_half n r) (seconds q)
    (byte_read later second_rest half_in rest h.before_half s (with_half n r) second
    (component_read none half_in rest rest (Period h.half) (period n.half) s (with_half n r) (with_half n r) half refl (read_all rest (with_half n r)))))))
