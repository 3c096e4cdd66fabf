-- The offset of a table at an instant is one that the kit returns for the local date and time then.
use Rattle.std.proofs.Common.{◌≡◌, ℕ, zero, suc, ◌+◌, ◌-◌, ◌≤◌, ◌<◌, ℤ, ◌+ℤ◌, ◌≤ℤ◌, ◌<ℤ◌, true, false, cond, ◌==◌, int_le, int_lt, List, length, None, refl, sym, ap, subst, ◌∙◌, arith, inl, inr}
use Rattle.std.proofs.lemmas.Bool.Decides.{leb_tells, nat_tests}
use Rattle.std.proofs.lemmas.List.Sums.{prefix_len_passes, prefix_len_stops, prefix_len-le-length}
use Rattle.std.specs.Int.{int_min, int_max}
use borrow.Author.Differences.{lt-true, lt-false, le-true, le-false}
use Rattle.jiff_core.specs.DateTime.{civil_seconds}
use Rattle.jiff_core.specs.declared.civil.datetime.DateTime.{DateTime}
use Rattle.jiff_core.proofs.SignedLemmas.{signed_arith}
use Rattle.jiff_tz.specs.Tzif.{transition_at, no_transition, type_after, rule_after, count_at, civil_count_at, civil_start, civil_end, is_inside, offsets_in, ambiguous_at, ambiguous_after}
use Rattle.jiff_tz.specs.declared.ambiguous.AmbiguousOffset.TheVariants.{Gap, Fold}
use Rattle.jiff_tz.specs.declared.tzif.Tzif.{Tzif}
use Rattle.jiff_tz.specs.declared.tzif.transition.Transition.{Transition}
use Rattle.jiff_tz.proofs.TzifLemmas.{starts_rise}
use Rattle.jiff_tz.proofs.ZoneTheorems.{goes_on, first_goes_on}
use Rattle.time_zones.specs.Spread.{IsSide}

-- the table's rows
abbrev rows : Tzif → List Transition
rows z = z.transitions.items

min_below : (x y : ℤ) → (int_min x y ≤ℤ x) × (int_min x y ≤ℤ y)
min_below x y = elim (int_lt y x) as (λ b. int_lt y x ≡ b → (cond b y x ≤ℤ x) × (cond b y x ≤ℤ y)) [
  | true ↦ λ e. let l = lt-true y x e in (omega (arith, signed_arith), omega (arith, signed_arith))
  | false ↦ λ e. let l = lt-false y x e in (omega (arith, signed_arith), omega (arith, signed_arith))
] refl

max_above : (x y : ℤ) → (x ≤ℤ int_max x y) × (y ≤ℤ int_max x y)
max_above x y = elim (int_lt y x) as (λ b. int_lt y x ≡ b → (x ≤ℤ cond b x y) × (y ≤ℤ cond b x y)) [
  | true ↦ λ e. let l = lt-true y x e in (omega (arith, signed_arith), omega (arith, signed_arith))
  | false ↦ λ e. let l = lt-false y x e in (omega (arith, signed_arith), omega (arith, signed_arith))
] refl

-- a transition's gap or fold lies around both offsets
after_start : (t : Transition) → civil_start t ≤ℤ (t.second +ℤ t.after.offset.seconds)
after_start t =
    let m = (min_below t.before.seconds t.after.offset.seconds).1 in
    omega (arith, signed_arith)

before_end : (t : Transition) → (t.second +ℤ t.before.seconds) ≤ℤ civil_end t
before_end t =
    let m = (max_above t.before.seconds t.after.offset.seconds).0 in
    omega (arith, signed_arith)

-- both offsets of a transition are sides of its gap or fold
sides_of : (t : Transition) → IsSide (offsets_in t) t.before.seconds × IsSide (offsets_in t) t.after.offset.seconds
sides_of t = elim (int_lt t.before.seconds t.after.offset.seconds)
    as (λ b. IsSide (cond b (Gap t.before t.after.offset) (Fold t.before t.after.offset)) t.before.seconds
    × IsSide (cond b (Gap t.before t.after.offset) (Fold t.before t.after.offset)) t.after.offset.seconds) [
      | true ↦ (inl refl, inr refl)
      | false ↦ (inl refl, inr refl)
    ]

-- the rows around an instant
passed : (z : Tzif) (s : ℤ) → 0 < count_at z s → (transition_at z (count_at z s - 1)).second ≤ℤ s
passed z s l =
    let pass = prefix_len_passes (λ t. int_le t.second s) (rows z) (count_at z s - 1) (no_transition z) (omega arith) in
    let under = le-true (transition_at z (count_at z s - 1)).second s pass in
    omega (arith, signed_arith)

not_yet : (z : Tzif) (s : ℤ) → count_at z s < length (rows z) → s <ℤ (transition_at z (count_at z s)).second
not_yet z s l =
    let stop = prefix_len_stops (λ t. int_le t.second s) (rows z) (no_transition z) l in
    let over = le-false (transition_at z (count_at z s)).second s stop in
    omega (arith, signed_arith)

-- the rows around a second of the civil clock
started : (z : Tzif) (c : ℤ) (j : ℕ) → j < civil_count_at z c → civil_start (transition_at z j) ≤ℤ c
started z c j l =
    let pass = prefix_len_passes (λ t. int_le (civil_start t) c) (rows z) j (no_transition z) l in
    let under = le-true (civil_start (transition_at z j)) c pass in
    omega (arith, signed_arith)

not_started : (z : Tzif) (c : ℤ) → civil_count_at z c < length (rows z) → c <ℤ civil_start (transition_at z (civil_count_at z c))
not_started z c l =
    let stop = prefix_len_stops (λ t. int_le (civil_start t) c) (rows z) (no_transition z) l in
    let over = le-false (civil_start (transition_at z (civil_count_at z c))) c stop in
    omega (arith, signed_arith)

-- a second outside the last gap or fold lies at or past its end
ended : (z : Tzif) (k : ℕ) (c : ℤ) → is_inside z k c ≡ false → 0 < k → civil_end (transition_at z (k - 1)) ≤ℤ c
ended z k c h l =
    let some : (k == 0) ≡ false = grind (arith, nat_tests) in
    let inside : int_lt c (civil_end (transition_at z (k - 1))) ≡ false =
    subst (λ b. cond b false (int_lt c (civil_end (transition_at z (k - 1)))) ≡ false) some h in
    let over = lt-false c (civil_end (transition_at z (k - 1))) inside in
    omega (arith, signed_arith)

-- a second inside it: there is such a row
has_row : (z : Tzif) (k : ℕ) (c : ℤ) → is_inside z k c ≡ true → 0 < k
has_row z zero c h = absurd (cc)
has_row z (suc k) c h = omega arith

-- the type after some rows is the one that the last of them sets
last_type : (z : Tzif) (k : ℕ) → 0 < k → type_after z k ≡ (transition_at z (k - 1)).after
last_type z k l =
    let some : (k == 0) ≡ false = grind (arith, nat_tests) in
    subst (λ b. cond b z.first (transition_at z (k - 1)).after ≡ (transition_at z (k - 1)).after) (sym some) refl

-- and it is the type before the next row
next_before : (z : Tzif) (k : ℕ) → k < length (rows z) → (transition_at z k).before.seconds ≡ (type_after z k).offset.seconds
next_before z zero l = first_goes_on z l
next_before z (suc k) l =
    let parts = goes_on z k (omega arith) in
    let same : k + 1 ≡ suc k = omega arith in
    let last = last_type z (suc k) (omega arith) in
    let back : suc k - 1 ≡ k = omega arith in
    let type : (type_after z (suc k)).offset.seconds ≡ (transition_at z k).after.offset.seconds =
    ap (λ t. t.offset.seconds) last ∙ ap (λ i. (transition_at z i).after.offset.seconds) back in
    let next : (transition_at z k).after.offset.seconds ≡ (transition_at z (suc k)).before.seconds =
    parts.2 ∙ ap (λ i. (transition_at z i).before.seconds) same in
    sym next ∙ sym type

-- inside a gap or fold the kit returns its two offsets
inside_sides : (z : Tzif) (dt : DateTime) (o : ℤ) → is_inside z (civil_count_at z (civil_seconds dt)) (civil_seconds dt) ≡ true
    → IsSide (offsets_in (transition_at z (civil_count_at z (civil_seconds dt) - 1))) o → IsSide (ambiguous_at z dt) o
inside_sides z dt o inside side =
    let k = civil_count_at z (civil_seconds dt) in
    subst (λ b. IsSide (cond b (offsets_in (transition_at z (k - 1))) (ambiguous_after z k dt)) o) (sym inside) side

-- after as many rows as have started on the civil clock
after_same : (z : Tzif) (dt : DateTime) → rule_after z (civil_count_at z (civil_seconds dt)) ≡ None
    → IsSide (ambiguous_at z dt) (type_after z (civil_count_at z (civil_seconds dt))).offset.seconds
after_same z dt none =
    let c = civil_seconds dt in
    let k = civil_count_at z c in
    let o = (type_after z k).offset.seconds in
    elim (is_inside z k c)
    as (λ b. is_inside z k c ≡ b → IsSide (cond b (offsets_in (transition_at z (k - 1))) (ambiguous_after z k dt)) o) [
      | true ↦ λ inside.
          subst (λ t. IsSide (offsets_in (transition_at z (k - 1))) t.offset.seconds)
          (sym (last_type z k (has_row z k c inside))) (sides_of (transition_at z (k - 1))).1
      | false ↦ λ outside. rw none refl
    ] refl

-- after fewer rows: the last of those that have started isn't over on the civil clock
after_fewer : (z : Tzif) (dt : DateTime) (s : ℤ) → count_at z s < civil_count_at z (civil_seconds dt)
    → s +ℤ (type_after z (count_at z s)).offset.seconds ≡ civil_seconds dt
    → IsSide (ambiguous_at z dt) (type_after z (count_at z s)).offset.seconds
after_fewer z dt s fewer shown =
    let c = civil_seconds dt in
    let k = civil_count_at z c in
    let j = count_at z s in
    let bound : k ≤ length (rows z) = prefix_len-le-length _ (rows z) in
    let before = next_before z j (omega arith) in
    let stop = not_yet z s (omega arith) in
    let end = before_end (transition_at z j) in
    elim (leb_tells (j + 1) (k - 1)) [
      | inl early ↦
          let next = (goes_on z j (omega arith)).1 in
          let rise = starts_rise z.first.offset.seconds (rows z) (no_transition z) z.ordered (j + 1) (k - 1) early.1 (omega arith) in
          let from = started z c (k - 1) (omega arith) in
          absurd (omega (arith, signed_arith))
      | inr last ↦
          let same : k - 1 ≡ j = omega arith in
          let inside : is_inside z k c ≡ true = elim (is_inside z k c) as (λ b. is_inside z k c ≡ b → b ≡ true) [
            | true ↦ λ e. refl
            | false ↦ λ outside.
                let over = ended z k c outside (omega arith) in
                let row_is = ap (λ i. civil_end (transition_at z i)) same in
                absurd (omega (arith, signed_arith))
          ] refl in
          inside_sides z dt (type_after z j).offset.seconds inside
          (subst (IsSide (offsets_in (transition_at z (k - 1)))) (ap (λ i. (transition_at z i).before.seconds) same ∙ before)
          (sides_of (transition_at z (k - 1))).0)
    ]

-- after more rows: the last of them has not started on the civil clock
after_more : (z : Tzif) (c s : ℤ) → civil_count_at z c < count_at z s
    → s +ℤ (type_after z (count_at z s)).offset.seconds ≡ c → ⊥
after_more z c s more shown =
    let k = civil_count_at z c in
    let j = count_at z s in
    let bound : j ≤ length (rows z) = prefix_len-le-length _ (rows z) in
    let up = passed z s (omega arith) in
    let type = ap (λ t. t.offset.seconds) (last_type z j (omega arith)) in
    let start = after_start (transition_at z (j - 1)) in
    let rise = starts_rise z.first.offset.seconds (rows z) (no_transition z) z.ordered k (j - 1) (omega arith) (omega arith) in
    let later = not_started z c (omega arith) in
    omega (arith, signed_arith)

-- the offset of a table at a second is a side of the local time then
pub table_side : (z : Tzif) (dt : DateTime) (s : ℤ) → rule_after z (count_at z s) ≡ None
    → s +ℤ (type_after z (count_at z s)).offset.seconds ≡ civil_seconds dt
    → IsSide (ambiguous_at z dt) (type_after z (count_at z s)).offset.seconds
table_side z dt s none shown =
    let c = civil_seconds dt in
    elim (leb_tells (civil_count_at z c) (count_at z s)) [
      | inl from ↦
          elim (leb_tells (count_at z s) (civil_count_at z c)) [
            | inl at ↦
                let same : civil_count_at z c ≡ count_at z s = omega arith in
                subst (λ j. rule_after z j ≡ None → IsSide (ambiguous_at z dt) (type_after z j).offset.seconds) same (after_same z dt) none
            | inr more ↦ absurd (after_more z c s more.1 shown)
          ]
      | inr fewer ↦ after_fewer z dt s fewer.1 shown
    ]
