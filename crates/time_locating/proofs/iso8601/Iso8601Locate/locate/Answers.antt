use Rattle.std.specs.Prelude.{option_map, unwrap_or, option_copied}
use Rattle.std.specs.Result.{result_ok}
use Rattle.std.proofs.Common.{◌≡◌, ℕ, ◌-◌, ◌≤◌, List, [], ◌∷◌, ◌++◌, length, Bool, true, false, Option, Some, None, Result, Ok, Err, Bor, refl, ap, sym, subst, arith}
use Rattle.std.proofs.lemmas.Option.{none-some, same_Some, option_and_then_some}
use Rattle.time_values.specs.Refusal.{Refusal}
use Rattle.time_values.specs.declared.error.Parse.{Parse}
use Rattle.time_values.specs.Calendar.{greatest_year}
use Rattle.time_readers.specs.IsoPieces.{Found, byte}
use Rattle.time_readers.specs.IsoDates.{IsoDate, date_text}
use Rattle.time_readers.specs.IsoOffsets.{offset_rows, offset_text}
use Rattle.time_readers.specs.IsoTimes.{time_rows, time_text}
use Rattle.time_readers.specs.declared.iso8601.ExtendedKind.{ExtendedKind}
use Rattle.time_readers.specs.declared.iso8601.ExtendedKind.TheVariants.{Unknown}
use Rattle.time_readers.specs.declared.iso8601.TimeNumbers.{TimeNumbers}
use Rattle.time_record.specs.Record.{Record, put_all}
use Rattle.time_parsing.specs.Iso8601.{Reads, Refuses, date_entries, date_over, offset_entries, offset_over, put_or_fault, reading, result_and_then, time_entries, time_over, with_value}
use Rattle.time_parsing.specs.IsoSteps.{after_date, after_offset, after_time, answer, date_or_none, without_date}
use Rattle.time_parsing.specs.Outcome.{ParsesInto, begun}
use Rattle.time_parsing.specs.Rfc3339.{with_leap_second, without_offset_sign}
use Rattle.time_parsing.proofs.IsoParts.{read-answered}
use Rattle.time_locating.specs.Iso8601 as spec
use Rattle.time_locating.specs.Iso8601.{Locates, after, by_date, date_rows, from_time, left_at_number, miss_or_rest_misses, misses, offset_misses, offset_piece, rest_of, row_misses, rows_after, rows_misses, time_piece, expected_at}
use Rattle.time_locating.specs.Located.{IsLocated, place_in, erased_located, wants, erased_miss}
use Rattle.time_locating.specs.Misses.{Miss, furthest, further, missed, place_after, the_end}
use Rattle.time_locating.specs.declared.located.Located.{Located}
use Rattle.time_locating.specs.declared.iso8601.Piece.{Piece}
use Rattle.time_locating.proofs.TurnSteps.{LeavesUpTo, further-leaves, furthest-append}
use Rattle.time_locating.proofs.IsoDates.{Ok-Err, date-number, need-Ok, no_date-misses, rest-below, same_Ok}
use Rattle.time_locating.proofs.IsoLengths.{after-within, byte-length, offset_text-within, time_text-within}
use Rattle.time_locating.proofs.MarkSteps.{no_furthest}
use Rattle.time_locating.proofs.iso8601.Iso8601Locate.locate.Goals as goal

-- ---- The place of an ISO 8601 text, from its readings and misses.

-- ---- misses leave no more bytes than there are

piece-within : (most : ℕ) (p : Piece) (ps : List Piece) (b : List ℕ) (o : Option (List ℕ)) → after p b ≡ o → length b ≤ most
    → ((rest : List ℕ) → length rest ≤ most → LeavesUpTo most (furthest (row_misses ps rest)))
    → LeavesUpTo most (furthest (miss_or_rest_misses (missed (length b) (expected_at p)) (row_misses ps) o))
piece-within most p ps b None is h later = h
piece-within most p ps b (Some rest) is h later = later rest (omega (arith, after-within p b rest is))

row-within : (most : ℕ) (ps : List Piece) (b : List ℕ) → length b ≤ most → LeavesUpTo most (furthest (row_misses ps b))
row-within most [] b h = tt
row-within most (p ∷ ps) b h = piece-within most p ps b (after p b) refl h (λ rest k. row-within most ps rest k)

join-within : (most : ℕ) (ms ns : List Miss) → LeavesUpTo most (furthest ms) → LeavesUpTo most (furthest ns)
    → LeavesUpTo most (furthest (ms ++ ns))
join-within most ms ns h k = subst (LeavesUpTo most) (sym (furthest-append ms ns)) (further-leaves most (furthest ms) (furthest ns) h k)

rows-within : (most : ℕ) (rows : List (List Piece)) (b : List ℕ) → length b ≤ most → LeavesUpTo most (furthest (rows_misses rows b))
rows-within most [] b h = tt
rows-within most (row ∷ rows) b h =
    join-within most (row_misses row b) (rows_misses rows b) (row-within most row b h) (rows-within most rows b h)

letter-within : (most : ℕ) (needs_t : Bool) (kind : ExtendedKind) (b : List ℕ) (o : Option (List ℕ)) → byte 84 b ≡ o → length b ≤ most
    → LeavesUpTo most (furthest (spec.after_t needs_t kind b o))
letter-within most needs_t kind b (Some x) is h =
    let room : length x ≤ most = omega (arith, byte-length 84 b x is) in
    rows-within most (rows_after time_piece time_rows kind) x room
letter-within most true kind b None is h = h
letter-within most false kind b None is h = rows-within most (rows_after time_piece time_rows kind) b h

offset-misses-within : (most : ℕ) (needs_t : Bool) (kind : ExtendedKind) (b : List ℕ) (o : Option (Found TimeNumbers))
    → time_text needs_t kind b ≡ o → length b ≤ most → LeavesUpTo most (furthest (spec.after_time o))
offset-misses-within most needs_t kind b None is h = tt
offset-misses-within most needs_t kind b (Some t) is h =
    let room : length t.rest ≤ most = omega (arith, time_text-within needs_t kind b t is) in
    rows-within most (rows_after offset_piece offset_rows t.kind) t.rest room

from_time-within : (most : ℕ) (needs_t : Bool) (kind : ExtendedKind) (b : List ℕ) → length b ≤ most
    → LeavesUpTo most (furthest (from_time needs_t kind b))
unfolding from_time
from_time-within most needs_t kind b h =
    join-within most (spec.after_time (time_text needs_t kind b)) (spec.after_t needs_t kind b (byte 84 b))
    (offset-misses-within most needs_t kind b (time_text needs_t kind b) refl h)
    (letter-within most needs_t kind b (byte 84 b) refl h)

without_date-within : (most : ℕ) (b : List ℕ) → length b ≤ most → LeavesUpTo most (furthest (spec.without_date b))
without_date-within most b h =
    join-within most (from_time false Unknown b) (offset_misses Unknown b) (from_time-within most false Unknown b h)
    (rows-within most (rows_after offset_piece offset_rows Unknown) b h)

after_date-within : (b : List ℕ) (d : Found IsoDate) (p : Result Record Refusal) → date_text b ≡ Ok d
    → LeavesUpTo (length b) (furthest (spec.after_date b d p))
after_date-within b d (Ok q) is = from_time-within (length b) true d.kind d.rest (rest-below d.kind d.value (length d.rest) (length b) (date-number b d is).0)
after_date-within b d (Err e) is =
    further-leaves (length b) (Some (missed (left_at_number d.kind d.value (length d.rest)) _)) (furthest (spec.without_date b))
    (date-number b d is).0 (without_date-within (length b) b (omega arith))

by_date-within : (b : List ℕ) (r : Record) (o : Result (Found IsoDate) Refusal) → date_text b ≡ o
    → LeavesUpTo (length b) (furthest (by_date b r o))
by_date-within b r (Err e) is =
    join-within (length b) (rows_misses date_rows b) (spec.without_date b)
    (rows-within (length b) date_rows b (omega arith)) (without_date-within (length b) b (omega arith))
by_date-within b r (Ok d) is = after_date-within b d (put_or_fault greatest_year (date_entries d.value) r) is

misses-within : (b : List ℕ) (r : Record) → LeavesUpTo (length b) (furthest (misses b r))
unfolding misses
misses-within b r = by_date-within b r (date_text b) refl

-- ---- readings leave no more bytes than there are

value-rest : {V W : Type 0} (u : Found V) (o : Option W) (t : Found W) → option_map (with_value u) o ≡ Some t → t.rest ≡ u.rest
value-rest u None t h = absurd (none-some t h)
value-rest {V} {W} u (Some w) t h = sym (ap (λ (z : Found W). z.rest) (same_Some (with_value u w) t h))

put-rest : (d : Found IsoDate) (p : Result Record Refusal) (x : Found Record)
    → result_and_then (λ q. Ok (with_value d q)) p ≡ Ok x → x.rest ≡ d.rest
put-rest d (Ok q) x h = sym (ap (λ (z : Found Record). z.rest) (same_Ok (with_value d q) x h))
put-rest d (Err e) x h = absurd (Ok-Err x e h)

text-within : (b : List ℕ) (r : Record) (o : Result (Found IsoDate) Refusal) (x : Found Record) → date_text b ≡ o
    → result_and_then (λ d. result_and_then (λ q. Ok (with_value d q)) (put_or_fault greatest_year (date_entries d.value) r)) o ≡ Ok x
    → length x.rest ≤ length b
text-within b r (Err e) x is h = absurd (Ok-Err x e h)
text-within b r (Ok d) x is h =
    let same = ap length (put-rest d (put_or_fault greatest_year (date_entries d.value) r) x h) in
    let room = rest-below d.kind d.value (length d.rest) (length b) (date-number b d is).0 in
    omega arith

date_over-within : (b : List ℕ) (r : Record) (x : Found Record) → date_over greatest_year b r ≡ Ok x → length x.rest ≤ length b
unfolding date_over
date_over-within b r x h = text-within b r (date_text b) x refl h

time_over-within : (needs_t : Bool) (kind : ExtendedKind) (b : List ℕ) (r : Record) (t : Found Record)
    → time_over greatest_year needs_t kind b r ≡ Some t → length t.rest ≤ length b
unfolding time_over
time_over-within needs_t kind b r t h =
    option_and_then_some (λ u. option_map (with_value u) (put_all greatest_year (time_entries u.value) r)) (time_text needs_t kind b) t h
    (λ u e k.
    omega (arith, ap length (value-rest u (put_all greatest_year (time_entries u.value) r) t k), time_text-within needs_t kind b u e))

offset_over-within : (kind : ExtendedKind) (b : List ℕ) (r : Record) (o : Found Record)
    → offset_over greatest_year kind b r ≡ Some o → length o.rest ≤ length b
unfolding offset_over
offset_over-within kind b r o h =
    option_and_then_some (λ u. option_map (with_value u) (put_all greatest_year (offset_entries u.value) (without_offset_sign r))) (offset_text kind b) o h
    (λ u e k.
    omega (
      arith,
      ap length (value-rest u (put_all greatest_year (offset_entries u.value) (without_offset_sign r)) o k),
      offset_text-within kind b u e,
    ))

unwrapped : (kind : ExtendedKind) (b : List ℕ) (r : Record) (o : Option (Found Record)) → offset_over greatest_year kind b r ≡ o
    → length (unwrap_or {T = List ℕ × Record} (option_map {U = List ℕ × Record} (λ (f : Found Record). (f.rest, f.value)) o) (b, r)).0 ≤ length b
unwrapped kind b r None is = omega arith
unwrapped kind b r (Some f) is = offset_over-within kind b r f is

after_offset-within : (kind : ExtendedKind) (b : List ℕ) (r : Record) (o : Option (Found Record)) (p : List ℕ × Record)
    → offset_over greatest_year kind b r ≡ o → option_map {U = List ℕ × Record} (λ (f : Found Record). (f.rest, f.value)) o ≡ Some p
    → length p.0 ≤ length b
after_offset-within kind b r None p is h = absurd (none-some p h)
after_offset-within kind b r (Some f) p is h =
    omega (arith, offset_over-within kind b r f is, ap (λ (z : List ℕ × Record). length z.0) (same_Some (f.rest, f.value) p h))

after_time-within : (kind : ExtendedKind) (b : List ℕ) (r : Record) → length (after_time greatest_year kind b r).0 ≤ length b
unfolding after_time
after_time-within kind b r = unwrapped kind b r (offset_over greatest_year kind b r) refl

after_date-rest : (d : Found Record) (o : Option (Found Record)) → time_over greatest_year true d.kind d.rest d.value ≡ o
    → length (after_date greatest_year d o).0 ≤ length d.rest
after_date-rest d None is = omega arith
after_date-rest d (Some t) is =
    let time = time_over-within true d.kind d.rest d.value t is in
    let offset = after_time-within t.kind t.rest t.value in omega arith

without_date-rest : (b : List ℕ) (r : Record) (e : Refusal) (o : Option (Found Record)) (p : List ℕ × Record)
    → time_over greatest_year false Unknown b r ≡ o → without_date greatest_year e b r o ≡ Ok p → length p.0 ≤ length b
without_date-rest b r e (Some t) p is h =
    let time = time_over-within false Unknown b r t is in
    let offset = after_time-within t.kind t.rest t.value in
    omega (arith, ap (λ (z : List ℕ × Record). length z.0) (same_Ok (after_time greatest_year t.kind t.rest t.value) p h))
without_date-rest b r e None p is h =
    need-Ok (after_offset greatest_year Unknown b r) e (λ o. Ok o) p h
    (λ o found k.
    omega (
      arith,
      after_offset-within Unknown b r (offset_over greatest_year Unknown b r) o refl found,
      ap (λ (z : List ℕ × Record). length z.0)
          (same_Ok o p k),
    ))

parts-rest : (b : List ℕ) (r : Record) (o : Result (Found Record) Refusal) (p : List ℕ × Record) → date_over greatest_year b r ≡ o
    → date_or_none greatest_year b r o ≡ Ok p → length p.0 ≤ length b
parts-rest b r (Ok d) p is h =
    let date = date_over-within b r d is in
    let others = after_date-rest d (time_over greatest_year true d.kind d.rest d.value) refl in
    omega (arith, ap (λ (z : List ℕ × Record). length z.0) (same_Ok (after_date greatest_year d (time_over greatest_year true d.kind d.rest d.value)) p h))
parts-rest b r (Err e) p is h = without_date-rest b r e (time_over greatest_year false Unknown b r) p refl h

reading-within : (b : List ℕ) (r : Record) (x : List ℕ) (q : Record) → reading greatest_year b r ≡ Some (x, q) → length x ≤ length b
unfolding answer
reading-within b r x q h = parts-rest b r (date_over greatest_year b r) (x, q) refl (read-answered greatest_year b r (x, q) h)

-- ---- a text without a date misses something

some-first : (m : Miss) (ms : List Miss) → furthest (m ∷ ms) ≡ None → ⊥
some-first m ms h = let clash : m ∷ ms ≡ [] = no_furthest (m ∷ ms) h in absurd cc

joined-first : (ms ns : List Miss) → (ms ≡ [] → ⊥) → furthest (ms ++ ns) ≡ None → ⊥
joined-first [] ns some h = some refl
joined-first (m ∷ ms) ns some h = some-first m (ms ++ ns) h

put_refused : (b : List ℕ) (d : Found IsoDate) (p : Result Record Refusal) (e : Refusal)
    → result_and_then (λ q. Ok (with_value d q)) p ≡ Err e → furthest (spec.after_date b d p) ≡ None → ⊥
put_refused b d (Ok q) e h none = Ok-Err (with_value d q) e (sym h)
put_refused b d (Err f) e h none = some-first _ (spec.without_date b) none

text_refused : (b : List ℕ) (r : Record) (o : Result (Found IsoDate) Refusal) (e : Refusal) → date_text b ≡ o
    → result_and_then (λ d. result_and_then (λ q. Ok (with_value d q)) (put_or_fault greatest_year (date_entries d.value) r)) o ≡ Err e
    → furthest (by_date b r o) ≡ None → ⊥
text_refused b r (Err f) e is h none = joined-first (rows_misses date_rows b) (spec.without_date b) (no_date-misses b f is) none
text_refused b r (Ok d) e is h none = put_refused b d (put_or_fault greatest_year (date_entries d.value) r) e h none

date_refused : (b : List ℕ) (r : Record) (e : Refusal) → date_over greatest_year b r ≡ Err e → furthest (misses b r) ≡ None → ⊥
unfolding date_over misses
date_refused b r e h none = text_refused b r (date_text b) e refl h none

-- ---- the result

some_further : (m : Miss) (n : Option Miss) → further (Some m) n ≡ None → ⊥
some_further m None is = none-some m (sym is)
some_further m (Some n) is = none-some _ (sym is)

module _ (b : List ℕ) (r : Record) where
  -- the miss at a place
  found : (place : Option Miss) (result : Option Located)
      → place_after (rest_of (reading greatest_year b (with_leap_second r))) (furthest (misses b (with_leap_second r))) ≡ place
      → LeavesUpTo (length b) place → (place ≡ None → ⊥) → erased_located result ≡ place_in (length b) place
      → IsLocated (Reads greatest_year) Locates b r result
  found None result is within some e = absurd (some refl)
  found (Some m) None is within some e = absurd (none-some (missed (length b - m.left) m.wanted) e)
  found (Some m) (Some at) is within some e =
      let same : missed at.index (wants at.expected) ≡ missed (length b - m.left) m.wanted = same_Some _ _ e in
      let index = ap (λ (x : Miss). x.left) same in
      (m, is, omega arith, ap (λ (x : Miss). x.wanted) same)

  -- a front is read
  read_located : (x : List ℕ) (q : Record) (result : Option Located) → reading greatest_year b (with_leap_second r) ≡ Some (x, q)
      → erased_located result ≡ place_in (length b) (place_after (Some x) (furthest (misses b (with_leap_second r))))
      → IsLocated (Reads greatest_year) Locates b r result
  read_located [] q None h e = (q, h)
  read_located [] q (Some at) h e = absurd (none-some (missed at.index (wants at.expected)) (sym e))
  read_located (c ∷ x) q result h e =
      let end = missed (length (c ∷ x)) the_end in
      let others = furthest (misses b (with_leap_second r)) in
      found (further (Some end) others) result (ap (λ (o : Option (List ℕ × Record)). place_after (rest_of o) others) h)
      (further-leaves (length b) (Some end) others (reading-within b (with_leap_second r) (c ∷ x) q h)
      (misses-within b (with_leap_second r))) (some_further end others) e

  -- the result for the parse's reading
  pub iso_located : (read : Result (Bor (List ℕ)) Parse) (new : Record) (missed : Option Miss) (result : Option Located)
      → ParsesInto (Reads greatest_year) (Refuses greatest_year) b r read new → missed ≡ furthest (misses b (with_leap_second r))
      → erased_located result ≡ place_in (length b) (place_after (option_copied (result_ok read)) missed)
      → IsLocated (Reads greatest_year) Locates b r result
  iso_located (Ok rest) new miss result h is e =
      read_located rest.now new result h (subst (λ m. erased_located result ≡ place_in (length b) (place_after (Some rest.now) m)) is e)
  iso_located (Err fault) new miss result h is e =
      let others = furthest (misses b (with_leap_second r)) in
      found others result (ap (λ (o : Option (List ℕ × Record)). place_after (rest_of o) others) h.0.0)
      (misses-within b (with_leap_second r)) (date_refused b (with_leap_second r) _ h.0.1)
      (subst (λ m. erased_located result ≡ place_in (length b) m) is e)

pub returns : goal.returns
returns c =
    iso_located c.args.input.now (begun c.args.defaults) c.parse_into.result c.parse_into.new.parsed (erased_miss c.missed.result) c.place.result
    (rw c.begin-parsed.ensures at c.parse_into.ensures) (c.missed.ensures (with_leap_second (begun c.args.defaults)))
    (rw c.ok-unread.ensures.value at c.place.ensures.text)
