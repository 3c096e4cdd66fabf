-- The offsets that a zone can have at a local date and time.
use Rattle.std.specs.Borrow.{Bor}
use Rattle.std.specs.Prelude.{IfSome, option_map}
use Rattle.std.proofs.Common.{◌≡◌, ℕ, ◌-◌, ◌<◌, ℤ, pos, neg_ℤ, ◌≤ℤ◌, true, false, ◌==◌, if◌then◌else◌, List, length, map, get_or, Option, None, Some, refl, sym, ap, subst, ◌∙◌, arith, vec_len, ◌⊎◌, ◌+ℤ◌, ◌-ℤ◌, ◌<ℤ◌, cond, inl, inr}
use Rattle.std.proofs.lemmas.Bool.Decides.{nat_tests}
use Rattle.std.proofs.lemmas.Grind.{common_steps}
use Rattle.std.proofs.lemmas.List.{get_or-map}
use Rattle.std.proofs.lemmas.Int.{ints}
use Rattle.jiff_core.specs.Timestamp.{IsTimestampNanos, IsOffsetSeconds, nanos_of_seconds}
use Rattle.jiff_core.specs.declared.Offset.{Offset}
use Rattle.jiff_tz.specs.PosixRule.{match_some}
use Rattle.jiff_tz.specs.PosixText.{dst_view, tz_view}
use Rattle.jiff_tz.specs.declared.posix.Dst.{Dst}
use Rattle.jiff_tz.specs.declared.posix.TimeZone.{TimeZone as PosixTimeZone, TimeZone as PosixZone}
use Rattle.jiff_tz.specs.PosixRule as Rule
use Rattle.jiff_tz.specs.Tzif as Table
use Rattle.jiff_tz.specs.Tzif.{count_at, floor_second, no_transition, rule_after, transition_at, type_after}
use Rattle.jiff_tz.specs.TzifText.{no_row, transition_text}
use Rattle.jiff_tz.specs.Zone as Zone
use Rattle.jiff_tz.specs.declared.timezone.TimeZone.{TimeZone}
use Rattle.jiff_tz.specs.declared.timezone.TimeZone.TheVariants as kind
use Rattle.jiff_tz.specs.declared.tzif.Tzif.{Tzif, Tzif as TableZone}
use Rattle.jiff_tz.specs.declared.tzif.transition.Transition.{Transition}
use Rattle.jiff_core.specs.Calendar.{IsBetween}
use Rattle.jiff_core.specs.DateTime.{civil_nanos, IsCivilNanos}
use Rattle.jiff_core.specs.declared.civil.datetime.DateTime.{DateTime}
use Rattle.jiff_tz.specs.Year.{year_of_nanos}
use Rattle.jiff_tz.specs.declared.ambiguous.AmbiguousOffset.{AmbiguousOffset}
use Rattle.jiff_tz.specs.declared.ambiguous.AmbiguousOffset.TheVariants.{Unambiguous, Gap, Fold}
use Rattle.jiff_tz.specs.declared.timezone.TimeZone.TheVariants.{UTC, Unknown, Fixed, Posix, Tzif as TimeTzif}
use Rattle.jiff_core.proofs.SignedLemmas.{signed_arith}
use Rattle.jiff_tz.proofs.TzifLemmas.{row_at}
use Rattle.jiff_tz.proofs.ZoneTheorems.{count_is, floor_shift}
use Rattle.time_values.specs.Instants.{IsWhole}
use Rattle.time_values.specs.Moments.{plain_instant}
use Rattle.time_values.specs.Calendar.{greatest_year}
use Rattle.time_values.specs.declared.offset_date_time.OffsetDateTime.{OffsetDateTime}
use Rattle.time_values.specs.declared.plain_date_time.PlainDateTime.{PlainDateTime}
use Rattle.time_zones.specs.Spread.{HasOneOffset, IsRowOffset, HasOffset, Covers, IsSide, IsOfDst, IsOfRule, rule_text}
use Rattle.time_zones.specs.Zones.{Shows, HasClock, HasLocalTime, IsOnlyMoment, HasOneSource}
use Rattle.time_zones.specs.declared.spread.Spread.{Spread}
use Rattle.time_zones.proofs.TableLemmas.{table_side}

-- ---- The offset of a zone between two rows of its table

module _ (z : Tzif) (rows : List Transition) (same : map transition_text rows ≡ map transition_text z.transitions.items) where
  same_length : length rows ≡ length z.transitions.items
  same_length =
      let a : length (map transition_text rows) ≡ length rows = grind (arith, common_steps) in
      let b : length (map transition_text z.transitions.items) ≡ length z.transitions.items = grind (arith, common_steps) in
      sym a ∙ ap length same ∙ b

  -- the text of a row that was read is that of the table's row
  row_is : (k : ℕ) (e : Transition) → e ≡ get_or rows k e → k < length rows → transition_text e ≡ transition_text (transition_at z k)
  row_is k e is below =
      sym (row_at rows k e is below) ∙ ap (λ (texts : List _). get_or texts k no_row) same
      ∙ get_or-map transition_text z.transitions.items k (no_transition z) no_row (omega (arith, same_length))

  module _ (begin end : ℤ) (o : Offset) (r : IsRowOffset rows begin end o) where
    last_is : transition_text r.last ≡ transition_text (transition_at z (r.place - 1))
    last_is = row_is (r.place - 1) r.last r.is_last (omega (arith, r.within))

    next_is : transition_text r.next ≡ transition_text (transition_at z r.place)
    next_is = row_is r.place r.next r.is_next r.within

    count : (second : ℤ) → IsBetween begin end second → count_at z second ≡ r.place
    count second within =
        let last = ap (λ t. t.second) last_is in
        let next = ap (λ t. t.second) next_is in
        count_is z second r.place (omega (arith, r.within, same_length))
        (λ l. omega (arith, signed_arith, last, r.begun, within)) (λ l. omega (arith, signed_arith, next, r.ended, within))

    -- no rule follows there
    no_rule : rule_after z r.place ≡ None
    no_rule =
        let within : r.place < length z.transitions.items = omega (arith, r.within, same_length) in
        let apart : (r.place == vec_len z.transitions) ≡ false = grind (arith, nat_tests) in
        ap (λ b. if b then z.posix_tz else None) apart

    type_is : (type_after z r.place).offset.seconds ≡ o.seconds
    type_is =
        let some : (r.place == 0) ≡ false = grind (arith, nat_tests, r.some) in
        ap (λ b. (if b then z.first else (transition_at z (r.place - 1)).after).offset.seconds) some
        ∙ sym (ap (λ t. t.after.seconds) last_is) ∙ ap (λ (p : Offset). p.seconds) (sym r.offset)

    pub row_offset : (n : ℤ) → IsBetween begin end (floor_second n) → o.seconds ≡ (Table.offset_at z n).seconds
    row_offset n within =
        let there = count (floor_second n) within in
        sym (ap (λ (k : ℕ). (match_some (rule_after z k) (type_after z k).offset (λ tz. Rule.offset_at tz n)).seconds) there
        ∙ ap (λ rule. (match_some rule (type_after z r.place).offset (λ tz. Rule.offset_at tz n)).seconds) no_rule ∙ type_is)

  -- from the last row on all rows are before
  pub past_rows : (second : ℤ) (last : Transition) → 0 < length rows → last ≡ get_or rows (length rows - 1) last → last.second ≤ℤ second
      → count_at z second ≡ vec_len z.transitions
  past_rows second last some is begun =
      let row = ap (λ t. t.second) (row_is (length rows - 1) last is (omega (arith, some))) in
      let count = count_is z second (length rows) (omega (arith, same_length)) (λ l. omega (arith, signed_arith, row, begun))
      (λ l. absurd (omega (arith, same_length, l))) in
      omega (arith, count, same_length)

-- implications of a value
pub if_some : {A : Type 0} (o : Option A) (P Q : A → Type 0) → ((a : A) → P a → Q a) → IfSome o P → IfSome o Q
if_some None P Q each h = h
if_some (Some a) P Q each h = each a h

-- the offset of a table is that of its zone
pub zone_row : (zone : TimeZone) (table : Bor Tzif) (n s : ℤ) → zone ≡ kind.Tzif table → s ≡ (Table.offset_at table.now n).seconds
    → s ≡ Zone.offset_at zone n
unfolding Zone.offset_at
zone_row zone table n s is e = subst (λ (x : TimeZone). s ≡ Zone.offset_at x n) (sym is) e

-- the whole seconds of an instant are the second in which it lies
pub floor_of_whole : (n z : ℤ) → IsWhole 1_000_000_000 n z → floor_second n ≡ z
floor_of_whole n z is = omega (arith, signed_arith, is)

-- an instant in one of those seconds is in the range of zones
pub second_told : (n begin end : ℤ) → IsBetween begin end (floor_second n) → neg_ℤ (pos 377_705_023_201) ≤ℤ begin
    → end ≤ℤ pos 253_402_207_200 → IsTimestampNanos n
second_told n begin end within first last = omega (arith, signed_arith, within, first, last)

-- the offset of a rule with one offset
one_offset : (rule : PosixTimeZone) (o : Offset) (n : ℤ) → HasOneOffset rule o → o ≡ Rule.offset_at rule n
one_offset rule o n one =
    one.1 ∙ ap (λ dst. match_some (Rule.dst_at_by rule.std_offset dst n) rule.std_offset (λ d. d.offset)) (sym one.0)

no_dst : (dst : Option Dst) → option_map dst_view dst ≡ None → dst ≡ None
no_dst None e = refl
no_dst (Some d) e = absurd cc

-- a rule whose text is equal to that rule's
same_rule : (rule tz : PosixTimeZone) (o : Offset) (n : ℤ) → HasOneOffset rule o → tz_view rule ≡ tz_view tz
    → o.seconds ≡ (Rule.offset_at tz n).seconds
same_rule rule tz o n one same =
    let none : tz.dst ≡ None = no_dst tz.dst (sym (ap (λ t. t.dst) same) ∙ ap (option_map dst_view) one.0) in
    ap (λ (p : Offset). p.seconds) one.1 ∙ ap (λ t. t.std_seconds) same
    ∙ ap (λ (p : Offset). p.seconds) (one_offset tz tz.std_offset n (none, refl))

-- after all rows of a table such a rule has its offset
pub behind_rows : (z : Tzif) (rule : PosixTimeZone) (o : Offset) (n : ℤ) → Some (tz_view rule) ≡ option_map tz_view z.posix_tz
    → HasOneOffset rule o → count_at z (floor_second n) ≡ vec_len z.transitions → o.seconds ≡ (Table.offset_at z n).seconds
behind_rows z rule o n reads one there =
    by_rule z.posix_tz reads
    ∙ sym (ap (λ own. (match_some own (type_after z (count_at z (floor_second n))).offset (λ tz. Rule.offset_at tz n)).seconds) goes_on)
  where
    goes_on : rule_after z (count_at z (floor_second n)) ≡ z.posix_tz
    goes_on =
        let all : (count_at z (floor_second n) == vec_len z.transitions) ≡ true = grind (arith, nat_tests, there) in
        ap (λ b. if b then z.posix_tz else None) all

    by_rule : (own : Option PosixTimeZone) → Some (tz_view rule) ≡ option_map tz_view own
        → o.seconds ≡ (match_some own (type_after z (count_at z (floor_second n))).offset (λ tz. Rule.offset_at tz n)).seconds
    by_rule None e = absurd cc
    by_rule (Some tz) e = let same : tz_view rule ≡ tz_view tz = cc in same_rule rule tz o n one same

-- the offset of a rule is that of its zone
pub zone_rule : (zone : TimeZone) (rule : PosixTimeZone) (o : Offset) (n : ℤ) → zone ≡ kind.Posix rule → HasOneOffset rule o
    → o.seconds ≡ Zone.offset_at zone n
unfolding Zone.offset_at
zone_rule zone rule o n is one =
    subst (λ (x : TimeZone). o.seconds ≡ Zone.offset_at x n) (sym is) (ap (λ (p : Offset). p.seconds) (one_offset rule o n one))

-- each offset of a zone is in the range of offsets
pub zone_offset_in : (zone : TimeZone) (n : ℤ) → IsOffsetSeconds (Zone.offset_at zone n)
unfolding Zone.offset_at
zone_offset_in UTC n = Zone.zero_in_range
zone_offset_in Unknown n = Zone.zero_in_range
zone_offset_in (Fixed offset) n = offset.in_range
zone_offset_in (Posix tz) n = (Rule.offset_at tz n).in_range
zone_offset_in (TimeTzif z) n = (Table.offset_at z.now n).in_range

-- a rule gives the offset of standard time or of daylight saving time
rule_offset_by : (std : Offset) (dst : Option Dst) (n : ℤ)
    → ((Rule.match_some (Rule.dst_at_by std dst n) std (λ d. d.offset)).seconds ≡ std.seconds)
    ⊎ IsOfDst (option_map dst_view dst) (Rule.match_some (Rule.dst_at_by std dst n) std (λ d. d.offset)).seconds
rule_offset_by std None n = inl refl
rule_offset_by std (Some d) n = elim (Rule.in_window (Rule.utc_window d (year_of_nanos n) std) n)
    as (λ b. ((Rule.match_some (cond b (Some d) None) std (λ d. d.offset)).seconds ≡ std.seconds)
    ⊎ ((Rule.match_some (cond b (Some d) None) std (λ d. d.offset)).seconds ≡ d.offset.seconds)) [
      | true ↦ inr refl
      | false ↦ inl refl
    ]

rule_offset : (tz : PosixZone) (n : ℤ) → IsOfRule (Some (tz_view tz)) (Rule.offset_at tz n).seconds
rule_offset tz n = rule_offset_by tz.std_offset tz.dst n

-- the rule that follows a table is the zone's
rule_is : (z : TableZone) (j : ℕ) (tz : PosixZone) → rule_after z j ≡ Some tz → z.posix_tz ≡ Some tz
rule_is z j tz = elim (j == vec_len z.transitions) as (λ b. cond b z.posix_tz None ≡ Some tz → z.posix_tz ≡ Some tz) [
  | true ↦ λ e. e
  | false ↦ λ e. absurd (cc)
]

table_candidate : (z : TableZone) (dt : DateTime) (s : ℤ)
    → (Table.offset_at z (civil_nanos dt -ℤ nanos_of_seconds s)).seconds ≡ s
    → IsSide (Table.ambiguous_at z dt) s ⊎ IsOfRule (option_map tz_view z.posix_tz) s
table_candidate z dt s =
    let n = civil_nanos dt -ℤ nanos_of_seconds s in
    let f = floor_second n in
    let j = count_at z f in
    let shift = floor_shift dt s in
    elim (rule_after z j)
    as (λ r. rule_after z j ≡ r → (Rule.match_some r (type_after z j).offset (λ tz. Rule.offset_at tz n)).seconds ≡ s
    → IsSide (Table.ambiguous_at z dt) s ⊎ IsOfRule (option_map tz_view z.posix_tz) s) [
      | None ↦ λ none. λ e.
          inl (subst (IsSide (Table.ambiguous_at z dt)) e (table_side z dt f none (omega (arith, signed_arith))))
      | Some tz ↦ λ some. λ e.
          inr (subst (λ r. IsOfRule (option_map tz_view r) s) (sym (rule_is z j tz some))
          (subst (IsOfRule (Some (tz_view tz))) e (rule_offset tz n)))
    ] refl

-- an offset of a zone is one that the kit returns, or one of the rule
pub zone_candidate : (zone : TimeZone) (dt : DateTime) (s : ℤ) → HasOffset zone (civil_nanos dt) s
    → IsSide (Zone.ambiguous_at zone dt) s ⊎ IsOfRule (rule_text zone) s
unfolding Zone.offset_at Zone.ambiguous_at
zone_candidate UTC dt s h = inl (sym h.same)
zone_candidate Unknown dt s h = inl (sym h.same)
zone_candidate (Fixed offset) dt s h = inl (sym h.same)
zone_candidate (Posix tz) dt s h = inr (subst (IsOfRule (Some (tz_view tz))) h.same (rule_offset tz (civil_nanos dt -ℤ nanos_of_seconds s)))
zone_candidate (TimeTzif z) dt s h = table_candidate z.now dt s h.same

-- an instant with a local time has its offset there
pub shows-HasOffset : (zone : TimeZone) (reading n : ℤ) → Shows zone reading n
    → HasOffset zone reading (Zone.offset_at zone n) × (n ≡ reading -ℤ nanos_of_seconds (Zone.offset_at zone n))
shows-HasOffset zone reading n h =
    let same : n ≡ reading -ℤ nanos_of_seconds (Zone.offset_at zone n) = omega (arith, ints, h.1) in (
      record {
        told = subst IsTimestampNanos same h.0;
        same = sym (ap (Zone.offset_at zone) same);
      },
      same,
    )

-- a spread that covers each offset reaches from the first instant to the last
pub spread_reaches : (zone : TimeZone) (reading : ℤ) (w : Spread) → ((s : ℤ) → HasOffset zone reading s → Covers (Some w) s)
    → (n : ℤ) → Shows zone reading n → IsBetween (reading -ℤ nanos_of_seconds w.greatest.seconds) (reading -ℤ nanos_of_seconds w.least.seconds) n
spread_reaches zone reading w each n h =
    let at = shows-HasOffset zone reading n h in
    let within = each (Zone.offset_at zone n) at.0 in
    omega (arith, ints, within, at.1)

-- a local time that occurs is in the years of the kit
pub shows-IsCivilNanos : (zone : TimeZone) (reading n : ℤ) → Shows zone reading n → IsCivilNanos reading
shows-IsCivilNanos zone reading n h = omega (arith, ints, h, zone_offset_in zone n)

-- if both ends of a range of offsets are in the range of zones, all are
pub told_between : (reading s : ℤ) → IsTimestampNanos (reading -ℤ nanos_of_seconds (neg_ℤ (pos 93_599)))
    → IsTimestampNanos (reading -ℤ nanos_of_seconds (pos 93_599)) → IsOffsetSeconds s → IsTimestampNanos (reading -ℤ nanos_of_seconds s)
told_between reading s first last within = omega (arith, ints, first, last, within)

-- a moment at an offset that the zone has there has that local time in the zone
pub clock-HasLocalTime : (zone : TimeZone) (clock : PlainDateTime) (m : OffsetDateTime) (s : ℤ) → HasClock clock s m
    → HasOffset zone (plain_instant greatest_year clock) s → HasLocalTime zone clock m
clock-HasLocalTime zone clock m s h o =
    let at = sym h.instant in
    (h.date, h.time, h.offset ∙ subst (λ n. s ≡ Zone.offset_at zone n) at (sym o.same), subst IsTimestampNanos at o.told)

-- an instant with a local time is as near to it as offsets reach
near : (reading n s second : ℤ) → IsOffsetSeconds s → n +ℤ nanos_of_seconds s ≡ reading → floor_second reading ≡ second
    → IsBetween (second -ℤ pos 93_599) (second +ℤ pos 93_599) (floor_second n)
near reading n s second within shows is = omega (arith, signed_arith, within, shows, is)

-- with one offset as near as that there is one moment
pub one_moment : (zone : TimeZone) (clock : PlainDateTime) (m : OffsetDateTime) (o : Offset) (second : ℤ)
    → floor_second (plain_instant greatest_year clock) ≡ second
    → ((n : ℤ) → IsBetween (second -ℤ pos 93_599) (second +ℤ pos 93_599) (floor_second n)
    → IsTimestampNanos n × (o.seconds ≡ Zone.offset_at zone n))
    → HasClock clock o.seconds m → IsOnlyMoment zone clock m
one_moment zone clock m o second is same has =
    let reading = plain_instant greatest_year clock in
    let at = same (reading -ℤ nanos_of_seconds o.seconds)
    (near reading (reading -ℤ nanos_of_seconds o.seconds) o.seconds second o.in_range (omega (arith, ints)) is) in (
      clock-HasLocalTime zone clock m o.seconds has record { told = at.0; same = sym at.1 },
      λ n h.
          let there = same n (near reading n (Zone.offset_at zone n) second (zone_offset_in zone n) h.1 is) in
          omega (arith, ints, there.1, h.1, has.instant),
    )

-- a local time whose moment is in the range of zones at every offset is in those years
pub told-IsCivilNanos : (reading : ℤ) → ((s : ℤ) → IsOffsetSeconds s → IsTimestampNanos (reading -ℤ nanos_of_seconds s)) → IsCivilNanos reading
told-IsCivilNanos reading all =
    let utc = all (pos 0) Zone.zero_in_range in
    omega (arith, ints, utc)

-- an offset that was tried is covered
pub tried : (zone : TimeZone) (reading : ℤ) (found : Option Spread) (o s : ℤ) → (HasOffset zone reading o → Covers found o)
    → HasOffset zone reading s → s ≡ o → Covers found s
tried zone reading found o s covered has same = subst (Covers found) (sym same) (covered (subst (HasOffset zone reading) same has))

-- the two offsets of a rule
two_of_rule : (std : Offset) (dst : Option Dst) → (a : ℤ) × (b : ℤ)
    × ((n : ℤ) → ((Rule.match_some (Rule.dst_at_by std dst n) std (λ d. d.offset)).seconds ≡ a)
    ⊎ ((Rule.match_some (Rule.dst_at_by std dst n) std (λ d. d.offset)).seconds ≡ b))
two_of_rule std None = (std.seconds, std.seconds, λ n. inl refl)
two_of_rule std (Some d) = (std.seconds, d.offset.seconds, rule_offset_by std (Some d))

-- and of the kit's result for a date and time
two_sides : (offsets : AmbiguousOffset) → (a : ℤ) × (b : ℤ) × ((s : ℤ) → IsSide offsets s → (s ≡ a) ⊎ (s ≡ b))
two_sides (Unambiguous offset) = (offset.seconds, offset.seconds, λ s h. inl h)
two_sides (Gap before after) = (before.seconds, after.seconds, λ s h. h)
two_sides (Fold before after) = (before.seconds, after.seconds, λ s h. h)

-- a zone with one source has at most two offsets at a local date and time
pub two_offsets : (zone : TimeZone) (dt : DateTime) → HasOneSource zone
    → (a : ℤ) × (b : ℤ) × ((s : ℤ) → HasOffset zone (civil_nanos dt) s → (s ≡ a) ⊎ (s ≡ b))
unfolding Zone.offset_at
two_offsets UTC dt one = (pos 0, pos 0, λ s h. inl (sym h.same))
two_offsets Unknown dt one = (pos 0, pos 0, λ s h. inl (sym h.same))
two_offsets (Fixed offset) dt one = (offset.seconds, offset.seconds, λ s h. inl (sym h.same))
two_offsets (Posix tz) dt one =
    let two = two_of_rule tz.std_offset tz.dst in
    (two.0, two.1, λ s h. subst (λ o. (o ≡ two.0) ⊎ (o ≡ two.1)) h.same (two.2 (civil_nanos dt -ℤ nanos_of_seconds s)))
two_offsets (TimeTzif z) dt one =
    let two = two_sides (Table.ambiguous_at z.now dt) in (
      two.0,
      two.1,
      λ s h. elim (table_candidate z.now dt s h.same) [
        | inl side ↦ two.2 s side
        | inr rule ↦ absurd (subst (λ r. IsOfRule r s) one rule)
      ],
    )

-- if three numbers are among two, and the first and the second differ, the third equals one of these
pub one_of_two : (a b e l s : ℤ) → (e ≡ a) ⊎ (e ≡ b) → (l ≡ a) ⊎ (l ≡ b) → (s ≡ a) ⊎ (s ≡ b) → l <ℤ e → (s ≡ e) ⊎ (s ≡ l)
one_of_two a b e l s (inl p) (inl q) r apart = absurd (omega (arith, ints, p, q, apart))
one_of_two a b e l s (inr p) (inr q) r apart = absurd (omega (arith, ints, p, q, apart))
one_of_two a b e l s (inl p) (inr q) (inl r) apart = inl (r ∙ sym p)
one_of_two a b e l s (inl p) (inr q) (inr r) apart = inr (r ∙ sym q)
one_of_two a b e l s (inr p) (inl q) (inl r) apart = inr (r ∙ sym q)
one_of_two a b e l s (inr p) (inl q) (inr r) apart = inl (r ∙ sym p)
