-- A moment's text by a tree parses back by the tree.
use Rattle.std.proofs.Common.{Option, MatchOption, is_some, if◌then◌else◌, Result, option_and_then, arith, ◌≡◌, ℕ, ℤ, Bool, true, false, None, Some, Ok, Err, inl, inr, refl, sym, ap, subst, ◌∙◌, List, [], ◌∷◌, ◌++◌, length, nat_le, append-nil, append_assoc}
use Rattle.std.proofs.{lemmas.Option.option_and_then_some, lemmas.Option.same_Some, Math.Seq.take-length}
use Rattle.time_formatting.specs.Texts.{ComponentSpelled, text_after, texts_after, joined, and_then}
use Rattle.time_formatting.proofs.Spelled.{component_spelled}
use Rattle.time_record.specs.{Resolution.IsDated, Reading.ReadsAll, Reading.Refuses}
use Rattle.restamp_formats.specs.Common.{Date, OffsetDateTime, UtcOffset, greatest_year, Items, Tree, Trees, literal, component, sequence, optional, first_of, none, more, steps_shape, Step, component_text, value_of, text_of, Unformattable, Record, put, empty, IsOffset, IsMoment, IsMomentOfParts, put_value, Reads, ReadsSome, IsOutcome, Defaults, Reading}
use Rattle.restamp_formats.specs.Reading.{has_year, completed, ParsesAs, said, is_negative_fraction, guarded, IsCompleted}
use Rattle.restamp_formats.specs.ComponentValues.{Piece, verbatim, part, pieces, all_pieces, whole_text, AllStop, or_nothing, put_values, DeterminesMoment, ReadsTree, no_defaults}
use Rattle.restamp_formats.specs.{Laws.KeepsMoment, Form.described, Reason.negative_fraction}
use Rattle.restamp_formats.proofs.MissingFieldRecords.{CountedAt, count_stays, counted_moment, dated_parts, found, fraction_stays}

-- ---- Defaults change no record that has all of a moment.

module _ (r : Record) where
  -- a record with a date has one of a year's parts
  dated_said : (d : Date) → IsDated greatest_year r (Ok d) → has_year r ≡ true
  dated_said d is = let parts = dated_parts r d is in grind arith

  offset_said : (o : UtcOffset) → IsOffset r (Ok o) → is_some r.offset_hour ≡ true
  unfolding IsOffset
  offset_said o is = found o r.offset_hour _ is

  -- a record with a year and an hour of an offset is unchanged
  stays : (defaults : Defaults) → has_year r ≡ true → is_some r.offset_hour ≡ true → r ≡ completed defaults r
  stays defaults year hour = grind arith

  same_parts : (defaults : Defaults) (v : OffsetDateTime) → IsMomentOfParts greatest_year r (Ok v) → r ≡ completed defaults r
  unfolding IsMomentOfParts
  same_parts defaults v (inl (e, first, other)) = absurd cc
  same_parts defaults v (inr (d, dated, inl (e, first, other))) = absurd cc
  same_parts defaults v (inr (d, dated, inr (t, timed, inl (e, first, other)))) = absurd cc
  same_parts defaults v (inr (d, dated, inr (t, timed, inr (o, offset, judged)))) = stays defaults (dated_said d dated) (offset_said o offset)

pub keeps_moment : KeepsMoment
unfolding IsMoment
keeps_moment defaults r v is = by_count r.unix_timestamp_nanos refl is
  where
    by_count : (count : Option ℤ) → r.unix_timestamp_nanos ≡ count
        → MatchOption count (IsMomentOfParts greatest_year r (Ok v)) (CountedAt (Ok v) r.subsecond) → IsMoment greatest_year (completed defaults r) (Ok v)
    by_count None e p = subst (λ q. IsMoment greatest_year q (Ok v)) (same_parts r defaults v p) is
    by_count (Some n) e p =
        counted_moment (completed defaults r) r (Ok v) (ap is_some e) (count_stays defaults r) (fraction_stays defaults r) is

module _ (v : OffsetDateTime) where
  joined_is : (fits : Bool) (bytes joint : List ℕ) (e : Unformattable)
      → (if fits then Ok joint else Err e) ≡ Ok bytes → bytes ≡ joint
  joined_is fits bytes joint e p = grind arith

  and_then_ok : (first : Result (List ℕ) Unformattable) (next : List ℕ → Result (List ℕ) Unformattable) (bytes : List ℕ)
      → and_then first next ≡ Ok bytes → (mid : List ℕ) × (first ≡ Ok mid) × (next mid ≡ Ok bytes)
  and_then_ok (Ok mid) next bytes e = (mid, refl, e)
  and_then_ok (Err why) next bytes e = absurd cc

  nothing_is : (before bytes : List ℕ) → texts_after 35 greatest_year v before none ≡ Ok bytes → bytes ≡ before ++ []
  nothing_is before bytes e = let same : bytes ≡ before = cc in same ∙ sym (append-nil before)

  -- the text of joined pieces
  text-joined : (ps qs : List Piece) → whole_text v (ps ++ qs) ≡ whole_text v ps ++ whole_text v qs
  text-joined [] qs = refl
  text-joined (verbatim text ∷ ps) qs = rw (text-joined ps qs, append_assoc text (whole_text v ps) (whole_text v qs))
  text-joined (part c ∷ ps) qs =
      rw (text-joined ps qs, append_assoc (or_nothing (component_text greatest_year v c)) (whole_text v ps) (whole_text v qs))

  stops-later : (ps qs : List Piece) → AllStop v (ps ++ qs) → AllStop v qs
  stops-later [] qs stops = stops
  stops-later (verbatim text ∷ ps) qs stops = stops-later ps qs stops
  stops-later (part c ∷ ps) qs stops = stops-later ps qs stops.1

  put-joined : (ps qs : List Piece) (r new : Record) → put_values v (ps ++ qs) r ≡ Some new
      → (mid : Record) × (put_values v ps r ≡ Some mid) × (put_values v qs mid ≡ Some new)
  put-joined [] qs r new puts = (r, refl, puts)
  put-joined (verbatim text ∷ ps) qs r new puts = put-joined ps qs r new puts
  put-joined (part c ∷ ps) qs r new puts =
      option_and_then_some (put_values v (ps ++ qs)) (put_value greatest_year c (value_of greatest_year v c) r) new puts (λ first here next.
      let later = put-joined ps qs first new next in
      (later.0, ap (option_and_then (put_values v ps)) here ∙ later.1, later.2))

  -- a tree appends its text
  mutual
    text_is : (t : Tree) (before bytes : List ℕ) → text_after 35 greatest_year v before t ≡ Ok bytes
        → bytes ≡ before ++ whole_text v (pieces t)
    text_is (literal text) before bytes e =
        rw (append-nil text) (joined_is (nat_le (length (before ++ text)) 35) bytes (before ++ text) Unformattable.TooLong e)
    text_is (component whole c) before bytes e =
        let (text, is, put) = and_then_ok (component_text greatest_year v c) (joined 35 before) bytes e in
        rw (is, append-nil text) (joined_is (nat_le (length (before ++ text)) 35) bytes (before ++ text) Unformattable.TooLong put)
    text_is (sequence ts) before bytes e = texts_are ts before bytes e
    text_is (optional t) before bytes e = text_is t before bytes e
    text_is (first_of none) before bytes e = nothing_is before bytes e
    text_is (first_of (more t ts)) before bytes e = text_is t before bytes e

    texts_are : (ts : Trees) (before bytes : List ℕ) → texts_after 35 greatest_year v before ts ≡ Ok bytes
        → bytes ≡ before ++ whole_text v (all_pieces ts)
    texts_are none before bytes e = nothing_is before bytes e
    texts_are (more t ts) before bytes e =
        let (mid, first, later) = and_then_ok (text_after 35 greatest_year v before t) (λ b. texts_after 35 greatest_year v b ts) bytes e in
        rw (
          text-joined (pieces t) (all_pieces ts),
          ← append_assoc before (whole_text v (pieces t)) (whole_text v (all_pieces ts)),
          ← text_is t before mid first,
        ) (texts_are ts mid bytes later)

  -- the tree parses its text, followed by the text of later pieces
  module _ (spelled : ComponentSpelled greatest_year) where
    mutual
      unfolding Reads ReadsAll ReadsSome

      tree_back : (t : Tree) (later : List Piece) (before bytes : List ℕ) (r new : Record) → text_after 35 greatest_year v before t ≡ Ok bytes
          → AllStop v (pieces t ++ later) → put_values v (pieces t) r ≡ Some new
          → Reads greatest_year t (whole_text v (pieces t ++ later)) r (whole_text v later) new
      tree_back (literal text) later before bytes r new e stops puts = (refl, sym (same_Some r new puts))
      tree_back (component whole c) later before bytes r new e stops puts =
          let (text, is, put) = and_then_ok (component_text greatest_year v c) (joined 35 before) bytes e in record {
            text = text;
            value = value_of greatest_year v c;
            cut = ap (λ made. or_nothing made ++ whole_text v later) is;
            spells = spelled v c whole text (whole_text v later) is stops.0;
            puts = option_and_then_some Some (put_value greatest_year c (value_of greatest_year v c) r) new puts (λ q here next. here ∙ next);
          }
      tree_back (sequence ts) later before bytes r new e stops puts = trees_back ts later before bytes r new e stops puts
      tree_back (optional t) later before bytes r new e stops puts = inl (tree_back t later before bytes r new e stops puts)
      tree_back (first_of none) later before bytes r new e stops puts = (refl, sym (same_Some r new puts))
      tree_back (first_of (more t ts)) later before bytes r new e stops puts =
          inl (tree_back t later before bytes r new e stops puts)

      trees_back : (ts : Trees) (later : List Piece) (before bytes : List ℕ) (r new : Record) → texts_after 35 greatest_year v before ts ≡ Ok bytes
          → AllStop v (all_pieces ts ++ later) → put_values v (all_pieces ts) r ≡ Some new
          → ReadsAll greatest_year ts (whole_text v (all_pieces ts ++ later)) r (whole_text v later) new
      trees_back none later before bytes r new e stops puts = (refl, sym (same_Some r new puts))
      trees_back (more t ts) later before bytes r new e stops puts =
          let here = pieces t in
          let behind = all_pieces ts ++ later in
          let (mid, first, next) = and_then_ok (text_after 35 greatest_year v before t) (λ b. texts_after 35 greatest_year v b ts) bytes e in
          let (q, put, puts_next) = put-joined here (all_pieces ts) r new puts in
          let flat = append_assoc here (all_pieces ts) later in
          let all = subst (AllStop v) flat stops in
          subst (λ (ps : List Piece). ReadsAll greatest_year (more t ts) (whole_text v ps) r (whole_text v later) new) (sym flat) (
            whole_text v behind,
            q,
            tree_back t behind before mid r q first all put,
            trees_back ts later mid bytes q new next (stops-later here behind all) puts_next,
          )

-- the match of a whole text
abbrev pub SaysAll : Reading → Defaults → OffsetDateTime → List ℕ → Type 0
SaysAll format defaults v bytes = ParsesAs format false bytes defaults (Ok (said v (length bytes)))

-- the text parses as the moment by a description with the tree
module _ (d : List Step) (t : Tree) (v : OffsetDateTime) (bytes : List ℕ) (same : steps_shape d ≡ t)
    (written : text_of 35 greatest_year v t ≡ Ok bytes) where
  abbrev text : List ℕ
  text = whole_text v (pieces t)

  same_text : text ≡ bytes
  same_text = sym (text_is v t [] bytes written)

  abbrev Back : Tree → List ℕ → Defaults → Type 0
  Back u b defaults =
      IsOutcome (IsCompleted defaults) (Reads greatest_year u) (Refuses greatest_year u) b empty (Ok v)

  outcome : (defaults : Defaults) → DeterminesMoment t defaults v → Back (steps_shape d) bytes defaults
  outcome defaults says =
      let all = append-nil (pieces t) in
      let reads = tree_back v component_spelled t [] [] bytes empty says.after written
      (subst (AllStop v) (sym all) says.stops) says.puts in
      let back = subst (λ b. Reads greatest_year t b empty [] says.after) (ap (whole_text v) all ∙ same_text) reads in
      subst (λ u. Back u bytes defaults) (sym same) (says.after, back, says.is)

  not_guarded : is_negative_fraction text ≡ false
      → Ok (said v (length bytes)) ≡ guarded (Reading.Counted d) bytes (said v (length bytes))
  not_guarded plain =
      let none = ap is_negative_fraction (take-length bytes ∙ sym same_text) ∙ plain in
      sym (ap (λ refused. if refused then Err negative_fraction else Ok (said v (length bytes))) none)

tree_says : (format : Reading) (defaults : Defaults) (t : Tree) (v : OffsetDateTime) (bytes : List ℕ)
    → ReadsTree format defaults t v → text_of 35 greatest_year v t ≡ Ok bytes → SaysAll format defaults v bytes
tree_says (Reading.Described d) defaults t v bytes (same, says) e =
    (Ok (said v (length bytes)), (Ok v, outcome d t v bytes same e defaults says, refl), refl)
tree_says (Reading.Complete d) defaults t v bytes (same, says) e =
    (Ok (said v (length bytes)), (Ok v, outcome d t v bytes same e no_defaults says, refl), refl)
tree_says (Reading.Counted d) defaults t v bytes (same, says, plain) e = (
  Ok (said v (length bytes)),
  (Ok v, outcome d t v bytes same e defaults says, refl),
  not_guarded d t v bytes same e plain,
)
tree_says format defaults t v bytes all e = absurd all

described_is : (text : Items) (made : Result (List ℕ) Unformattable) → Ok text ≡ described made → made ≡ Ok text.items
described_is text (Ok bytes) e =
    let same : text ≡ record { items = bytes } = cc in ap (λ (t : Items). Ok t.items) (sym same)
described_is text (Err why) e = absurd cc

pub described_back : (format : Reading) (defaults : Defaults) (t : Tree) (v : OffsetDateTime) (text : Items)
    → ReadsTree format defaults t v → Ok text ≡ described (text_of 35 greatest_year v t)
    → SaysAll format defaults v text.items
described_back format defaults t v text all e =
    tree_says format defaults t v text.items all (described_is text (text_of 35 greatest_year v t) e)
