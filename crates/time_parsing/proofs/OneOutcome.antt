-- An exact format and a resolution with one result have one outcome.
use Rattle.std.proofs.Common.{◌≡◌, ℕ, List, [], sym, ap, ◌∙◌, subst, ⊎_elim, None, Some, Result, Ok, Err, refl, ◌+◌, ◌/◌, ◌%◌, get_or, arith, ◌≢◌, ◌⊎◌, inl, inr, MatchResult, Bool, true, false}
use Rattle.time_values.specs.Refusal.{Refusal, trailing}
use Rattle.time_values.specs.Calendar.{greatest_year}
use Rattle.time_values.specs.Times as Times
use Rattle.time_values.specs.Moments.{offset_time, offset_date}
use Rattle.time_values.specs.declared.offset_date_time.OffsetDateTime.{OffsetDateTime}
use Rattle.time_values.specs.Dates as Dates
use Rattle.time_values.specs.Names.{month_number}
use Rattle.time_values.specs.DisplayTexts.{fixed}
use Rattle.time_formatting.specs.declared.parts.FractionDigits.TheVariants.{Auto, Exactly}
use Rattle.time_formatting.specs.WellKnown.{moment_text, basic_text}
use Rattle.time_components.specs.declared.format_description.Component.{Component}
use Rattle.time_components.specs.declared.format_description.Component.TheVariants.{Ignore}
use Rattle.time_components.specs.Spelling.{Spells}
use Rattle.time_components.specs.Tree.{Tree, Trees, literal, component, sequence, optional, first_of, none as tree_none, more as tree_more}
use Rattle.time_record.specs.Laws.{OneResolution}
use Rattle.time_record.specs.Record.{Record, empty}
use Rattle.time_record.specs.Resolution.{IsMoment}
use Rattle.time_record.specs.Reading.{CleanComponent, Clean, CleanAll, CleanFirst, unmarked, unmarked_all, HasNone, ReadsComponent, Reads as TreeReads, ReadsAll, ReadsSome, IsFault, IsFaultAll}
use Rattle.time_record.proofs.ResolutionLemmas.{IsMoment-one}
use Rattle.time_record.proofs.ComponentLemmas.{Spells-part}
use Rattle.time_parsing.specs.Outcome.{Reading, Refusing, Resolving, IsWhole, Path, over_record, direct, begun, IsExact, IsExactPath, OneFront, OneOutcome, OneMomentOutcome, IsOutcome}
use Rattle.time_parsing.specs.Rfc3339.{Reads, Refuses}
use Rattle.time_parsing.specs.Written.{IsCut, written, OneText, OneShortText, OneMailText, OneExtendedText, OneBasicText, ExtendedOrBasic}
use Rattle.time_parsing.specs.exact.Laws.{rfc3339_exact, iso8601_exact, rfc2822_exact}
use Rattle.time_parsing.specs.Iso8601 as Iso8601
use Rattle.time_parsing.specs.Rfc2822 as Rfc2822
use Rattle.time_parsing.specs.TreeLaws.{AreEquivalentOn, WholeCharacters}
use Rattle.time_parsing.proofs.WrittenBack.{read_back, auto-keeps, all_digits}
use Rattle.time_parsing.proofs.IsoBack.{basic_read_back}
use Rattle.time_parsing.proofs.MailForm.{mail_read_back}

-- the value of a front, with the rest
with_rest : {V : Type 0} → List ℕ → Result V Refusal → Result (V × List ℕ) Refusal
with_rest rest (Ok v) = Ok (v, rest)
with_rest rest (Err e) = Err e

module _ (R : Reading) (F : Refusing) (exact : IsExact R F) where
  -- a text that is read whole is not rejected
  whole_or_refused : (b : List ℕ) (r p : Record) (e : Refusal) → R b r [] p → IsWhole R F b r (Err e) → ⊥
  whole_or_refused b r p e read refused =
      ⊎_elim (λ here. exact.not_both b r [] p e read here) (λ w. w.3 (exact.one_rest b r w.0 [] w.1 p w.2 read)) refused

  one_refusal : (b : List ℕ) (r : Record) (e f : Refusal) → IsWhole R F b r (Err e) → IsWhole R F b r (Err f) → e ≡ f
  one_refusal b r e f u v =
      ⊎_elim
      (λ here. ⊎_elim (λ there. exact.one_refusal b r e f here there) (λ w. absurd (exact.not_both b r w.0 w.1 e w.2 here)) v)
      (λ w. ⊎_elim (λ there. absurd (exact.not_both b r w.0 w.1 f w.2 there)) (λ z. w.4 ∙ sym z.4) v) u

  same_record : (b : List ℕ) (r p q : Record) → R b r [] p → R b r [] q → p ≡ q
  same_record b r p q u v = exact.one_record b r [] [] p q u v

  pub one_outcome : {V : Type 0} (resolves : Resolving V) → OneResolution resolves → OneOutcome resolves R F
  one_outcome {V} resolves one b r (Ok v) (Ok w) x y =
      one y.0 (Ok v) (Ok w) (subst (λ (p : Record). resolves p (Ok v)) (same_record b r x.0 y.0 x.1 y.1) x.2) y.2
  one_outcome {V} resolves one b r (Ok v) (Err e) x y =
      ⊎_elim (λ refused. absurd (whole_or_refused b r x.0 e x.1 refused))
      (λ z. one z.0 (Ok v) (Err e) (subst (λ (p : Record). resolves p (Ok v)) (same_record b r x.0 z.0 x.1 z.1) x.2) z.2) y
  one_outcome {V} resolves one b r (Err e) (Ok v) x y =
      ⊎_elim (λ refused. absurd (whole_or_refused b r y.0 e y.1 refused))
      (λ z. one y.0 (Err e) (Ok v) (subst (λ (p : Record). resolves p (Err e)) (same_record b r z.0 y.0 z.1 y.1) z.2) y.2) x
  one_outcome {V} resolves one b r (Err e) (Err f) x y =
      ⊎_elim
      (λ here. ⊎_elim (λ there. ap Err (one_refusal b r e f here there)) (λ z. absurd (whole_or_refused b r z.0 e z.1 here)) y)
      (λ w. ⊎_elim (λ there. absurd (whole_or_refused b r w.0 f w.1 there))
      (λ z. one z.0 (Err e) (Err f) (subst (λ (p : Record). resolves p (Err e)) (same_record b r w.0 z.0 w.1 z.1) w.2) z.2) y) x

  -- a record with a front of the bytes has one value or one error
  same_front : {V : Type 0} (resolves : Resolving V) → OneResolution resolves → (b : List ℕ) (r p q : Record) (x y : List ℕ)
      (u v : Result V Refusal) → R b r x p → R b r y q → resolves p u → resolves q v → u ≡ v
  same_front {V} resolves one b r p q x y u v reads others first second =
      one q u v (subst (λ (w : Record). resolves w u) (exact.one_record b r x y p q reads others) first) second

  pub one_front : {V : Type 0} (resolves : Resolving V) → OneResolution resolves → OneFront resolves R F
  unfolding with_rest
  one_front {V} resolves one b r (Ok v) (Ok w) x y =
      ap (with_rest v.1) (same_front resolves one b r x.0 y.0 v.1 w.1 (Ok v.0) (Ok w.0) x.1 y.1 x.2 y.2)
      ∙ ap (λ (rest : List ℕ). Ok (w.0, rest)) (exact.one_rest b r v.1 w.1 x.0 y.0 x.1 y.1)
  one_front {V} resolves one b r (Ok v) (Err e) x y =
      ⊎_elim (λ refused. absurd (exact.not_both b r v.1 x.0 e x.1 refused))
      (λ z. ap (with_rest v.1) (same_front resolves one b r x.0 z.1 v.1 z.0 (Ok v.0) (Err e) x.1 z.2 x.2 z.3)) y
  one_front {V} resolves one b r (Err e) (Ok v) x y =
      ⊎_elim (λ refused. absurd (exact.not_both b r v.1 y.0 e y.1 refused))
      (λ z. ap (with_rest v.1) (same_front resolves one b r z.1 y.0 z.0 v.1 (Err e) (Ok v.0) z.2 y.1 z.3 y.2)) x
  one_front {V} resolves one b r (Err e) (Err f) x y =
      ⊎_elim
      (λ here. ⊎_elim (λ there. ap Err (exact.one_refusal b r e f here there)) (λ z. absurd (exact.not_both b r z.0 z.1 e z.2 here)) y)
      (λ w. ⊎_elim (λ there. absurd (exact.not_both b r w.0 w.1 f w.2 there))
      (λ z. ap (with_rest []) (same_front resolves one b r w.1 z.1 w.0 z.0 (Err e) (Err f) w.2 z.2 w.3 z.3)) y) x

-- an exact path has one outcome of a moment
pub one_moment_outcome : (path : Path) (R : Reading) (F : Refusing) → IsExact R F → IsExactPath greatest_year path R F
    → OneResolution (IsMoment greatest_year) → OneMomentOutcome greatest_year path R F
one_moment_outcome over_record R F exact alone one b d x y p q =
    one_outcome R F exact (IsMoment greatest_year) one b (begun d) x y p q
one_moment_outcome (direct refused) R F exact alone one b (Some d) x y p q =
    one_outcome R F exact (IsMoment greatest_year) one b d x y p q
one_moment_outcome (direct refused) R F exact alone one b None (Ok v) (Ok w) p q =
    one_outcome R F exact (IsMoment greatest_year) one b empty (Ok v) (Ok w) p q
one_moment_outcome (direct refused) R F exact alone one b None (Ok v) (Err f) p q = absurd (alone.1 b v f p q)
one_moment_outcome (direct refused) R F exact alone one b None (Err e) (Ok w) p q = absurd (alone.1 b w e q p)
one_moment_outcome (direct refused) R F exact alone one b None (Err e) (Err f) p q = ap Err (alone.0 b e f p q)

-- ---- Moments with equal texts are equal, except for the digits that aren't written

pub same_Ok : (v w : OffsetDateTime) → ◌≡◌ {A = Result OffsetDateTime Refusal} (Ok v) (Ok w) → v ≡ w
same_Ok v w e = cc

pub one_text : OneText
one_text digits others v w a b none cut other other_cut same =
    let first = read_back digits v a none cut in
    let second = read_back others w b other other_cut in
    let moved = subst (λ text. IsOutcome (IsMoment greatest_year) (Reads greatest_year) (Refuses greatest_year) text empty (Ok b)) (sym same) second.1 in
    same_Ok a b (one_outcome (Reads greatest_year) (Refuses greatest_year) (rfc3339_exact greatest_year) (IsMoment greatest_year) IsMoment-one
    (moment_text (written digits v) v) empty (Ok a) (Ok b) first.1 moved)

-- no digit of the moment is dropped
one_whole : (v : OffsetDateTime) → IsCut (written Auto v) v v
one_whole v = record {
  date = refl;
  clock = (refl, refl, refl, sym (auto-keeps (Times.nanosecond (offset_time v)) (offset_time v).nanosecond_in));
  offset = refl;
}

pub one_short_text : OneShortText
one_short_text v w none other same =
    one_text Auto Auto v w v w none (one_whole v) other (one_whole w) same

-- ---- Moments with equal texts of RFC 2822, or of ISO 8601, are equal except for the digits that aren't written

-- moments with equal texts over an empty record
one_moment : (R : Reading) (F : Refusing) → IsExact R F → (bytes : List ℕ) (a b : OffsetDateTime)
    → IsOutcome (IsMoment greatest_year) R F bytes empty (Ok a) → IsOutcome (IsMoment greatest_year) R F bytes empty (Ok b) → a ≡ b
one_moment R F exact bytes a b first second =
    same_Ok a b (one_outcome R F exact (IsMoment greatest_year) IsMoment-one bytes empty (Ok a) (Ok b) first second)

pub one_mail_text : OneMailText
one_mail_text v w a b bytes none cut text other other_cut other_text =
    one_moment (Rfc2822.Reads greatest_year) (Rfc2822.Refuses greatest_year) (rfc2822_exact greatest_year) bytes a b
    (mail_read_back v a bytes none cut text).1 (mail_read_back w b bytes other other_cut other_text).1

pub one_extended_text : OneExtendedText
one_extended_text v w none other same = one_text (Exactly 9) (Exactly 9) v w v w none (all_digits v) other (all_digits w) same

pub one_basic_text : OneBasicText
one_basic_text v w a b none cut other other_cut same =
    let reads = Iso8601.Reads greatest_year in
    let refuses = Iso8601.Refuses greatest_year in
    one_moment reads refuses (iso8601_exact greatest_year) (basic_text v) a b (basic_read_back v a none cut).1
    (subst (λ text. IsOutcome (IsMoment greatest_year) reads refuses text empty (Ok b)) (sym same) (basic_read_back w b other other_cut).1)

-- the byte after the year
fifth : (v w : OffsetDateTime) → moment_text 9 v ≡ basic_text w → ◌≡◌ {A = ℕ} 45 (48 + month_number (Dates.month (offset_date w)) / 10 % 10)
unfolding fixed
fifth v w same = ap (λ text. get_or text 4 0) same

pub extended_or_basic : ExtendedOrBasic
extended_or_basic v w same = omega (arith, fifth v w same)

-- ---- A moment of the record of a whole text is the outcome of the text

-- the moment of a record that was read up to a rest
pub outcome_before : (reads : Reading) (refuses : Refusing) (bytes rest : List ℕ) (begin r : Record) (answer : Result OffsetDateTime Refusal)
    → reads bytes begin rest r
    → MatchResult answer
    (λ v. (rest ≡ []) × IsMoment greatest_year r (Ok v))
    (λ e. ((rest ≢ []) × (e ≡ trailing)) ⊎ ((rest ≡ []) × IsMoment greatest_year r (Err e)))
    → IsOutcome (IsMoment greatest_year) reads refuses bytes begin answer
outcome_before reads refuses bytes rest begin r (Ok v) read (end, moment) = (r, subst (λ x. reads bytes begin x r) end read, moment)
outcome_before reads refuses bytes rest begin r (Err e) read (inl (more, is)) = inl (inr (rest, r, read, more, is))
outcome_before reads refuses bytes rest begin r (Err e) read (inr (end, moment)) =
    inr (r, subst (λ x. reads bytes begin x r) end read, moment)

-- ---- Marked and unmarked trees, if no `Ignore` ends inside a character. `Y` is the greatest year.

-- a marked component that leaves a whole character
module _ (Y : ℕ) (b : List ℕ) (r : Record) (rest : List ℕ) (q : Record) where
  part : (w : Bool) (c : Component) → ReadsComponent Y w c b r rest q → ReadsComponent Y false c b r rest q
  part false c h = h
  part true c h = record {
    text = h.text;
    value = h.value;
    cut = h.cut;
    spells = Spells-part c h.text rest h.value h.spells;
    puts = h.puts;
  }

  spells-whole : (c : Component) → CleanComponent Y c b r → (h : ReadsComponent Y false c b r rest q) → Spells true c h.text rest h.value
  spells-whole (Ignore m) clean h = (h.spells.0, h.spells.1, clean m rest q refl h)
  spells-whole c clean h = h.spells

  whole : (w : Bool) (c : Component) → CleanComponent Y c b r → ReadsComponent Y false c b r rest q → ReadsComponent Y w c b r rest q
  whole false c clean h = h
  whole true c clean h = record { text = h.text; value = h.value; cut = h.cut; spells = spells-whole c clean h; puts = h.puts }

module _ (Y : ℕ) where
  mutual
    unfolding TreeReads ReadsAll ReadsSome Clean CleanAll CleanFirst

    read-unmarked : (t : Tree) (b : List ℕ) (r : Record) → Clean Y (unmarked t) b r → (rest : List ℕ) (q : Record) →
        TreeReads Y t b r rest q → TreeReads Y (unmarked t) b r rest q
    read-unmarked (literal t) b r clean rest q h = h
    read-unmarked (component w c) b r clean rest q h = part Y b r rest q w c h
    read-unmarked (sequence ts) b r clean rest q h = read_all-unmarked ts b r clean rest q h
    read-unmarked (optional t) b r clean rest q (inl h) = inl (read-unmarked t b r clean rest q h)
    read-unmarked (optional t) b r clean rest q (inr h) = inr (λ x p k. h.0 x p (read-marked t b r clean x p k), h.1, h.2)
    read-unmarked (first_of tree_none) b r clean rest q h = h
    read-unmarked (first_of (tree_more t ts)) b r clean rest q h = read_some-unmarked (tree_more t ts) b r clean rest q h

    read-marked : (t : Tree) (b : List ℕ) (r : Record) → Clean Y (unmarked t) b r → (rest : List ℕ) (q : Record) →
        TreeReads Y (unmarked t) b r rest q → TreeReads Y t b r rest q
    read-marked (literal t) b r clean rest q h = h
    read-marked (component w c) b r clean rest q h = whole Y b r rest q w c clean h
    read-marked (sequence ts) b r clean rest q h = read_all-marked ts b r clean rest q h
    read-marked (optional t) b r clean rest q (inl h) = inl (read-marked t b r clean rest q h)
    read-marked (optional t) b r clean rest q (inr h) = inr (λ x p k. h.0 x p (read-unmarked t b r clean x p k), h.1, h.2)
    read-marked (first_of tree_none) b r clean rest q h = h
    read-marked (first_of (tree_more t ts)) b r clean rest q h = read_some-marked (tree_more t ts) b r clean rest q h

    read_all-unmarked : (ts : Trees) (b : List ℕ) (r : Record) → CleanAll Y (unmarked_all ts) b r → (rest : List ℕ) (q : Record) →
        ReadsAll Y ts b r rest q → ReadsAll Y (unmarked_all ts) b r rest q
    read_all-unmarked tree_none b r clean rest q h = h
    read_all-unmarked (tree_more t ts) b r clean rest q (mid, m, h, hs) =
        let k = read-unmarked t b r clean.0 mid m h in
        (mid, m, k, read_all-unmarked ts mid m (clean.1 mid m k) rest q hs)

    read_all-marked : (ts : Trees) (b : List ℕ) (r : Record) → CleanAll Y (unmarked_all ts) b r → (rest : List ℕ) (q : Record) →
        ReadsAll Y (unmarked_all ts) b r rest q → ReadsAll Y ts b r rest q
    read_all-marked tree_none b r clean rest q h = h
    read_all-marked (tree_more t ts) b r clean rest q (mid, m, h, hs) =
        (mid, m, read-marked t b r clean.0 mid m h, read_all-marked ts mid m (clean.1 mid m h) rest q hs)

    read_some-unmarked : (ts : Trees) (b : List ℕ) (r : Record) → CleanFirst Y (unmarked_all ts) b r → (rest : List ℕ) (q : Record) →
        ReadsSome Y ts b r rest q → ReadsSome Y (unmarked_all ts) b r rest q
    read_some-unmarked tree_none b r clean rest q h = h
    read_some-unmarked (tree_more t ts) b r clean rest q (inl h) = inl (read-unmarked t b r clean.0 rest q h)
    read_some-unmarked (tree_more t ts) b r clean rest q (inr h) =
        let unread : HasNone (TreeReads Y (unmarked t) b r) = λ x p k. h.0 x p (read-marked t b r clean.0 x p k) in
        inr (unread, read_some-unmarked ts b r (clean.1 unread) rest q h.1)

    read_some-marked : (ts : Trees) (b : List ℕ) (r : Record) → CleanFirst Y (unmarked_all ts) b r → (rest : List ℕ) (q : Record) →
        ReadsSome Y (unmarked_all ts) b r rest q → ReadsSome Y ts b r rest q
    read_some-marked tree_none b r clean rest q h = h
    read_some-marked (tree_more t ts) b r clean rest q (inl h) = inl (read-marked t b r clean.0 rest q h)
    read_some-marked (tree_more t ts) b r clean rest q (inr h) =
        inr (λ x p k. h.0 x p (read-unmarked t b r clean.0 x p k), read_some-marked ts b r (clean.1 h.0) rest q h.1)

  mutual
    unfolding TreeReads ReadsAll IsFault IsFaultAll Clean CleanAll CleanFirst

    fault-unmarked : (t : Tree) (b : List ℕ) (r : Record) → Clean Y (unmarked t) b r → (e : Refusal) →
        IsFault Y t b r e → IsFault Y (unmarked t) b r e
    fault-unmarked (literal t) b r clean e h = h
    fault-unmarked (component w c) b r clean e h = h
    fault-unmarked (sequence ts) b r clean e h = fault_all-unmarked ts b r clean e h
    fault-unmarked (optional t) b r clean e h = h
    fault-unmarked (first_of tree_none) b r clean e h = h
    fault-unmarked (first_of (tree_more t ts)) b r clean e h = fault-unmarked t b r clean.0 e h

    fault_all-unmarked : (ts : Trees) (b : List ℕ) (r : Record) → CleanAll Y (unmarked_all ts) b r → (e : Refusal) →
        IsFaultAll Y ts b r e → IsFaultAll Y (unmarked_all ts) b r e
    fault_all-unmarked tree_none b r clean e h = h
    fault_all-unmarked (tree_more t ts) b r clean e (inl h) =
        inl (λ x p k. h.0 x p (read-marked t b r clean.0 x p k), fault-unmarked t b r clean.0 e h.1)
    fault_all-unmarked (tree_more t ts) b r clean e (inr (mid, m, h, hs)) =
        let k = read-unmarked t b r clean.0 mid m h in
        inr (mid, m, k, fault_all-unmarked ts mid m (clean.1 mid m k) e hs)

  mutual
    unfolding TreeReads ReadsAll IsFault IsFaultAll Clean CleanAll CleanFirst

    fault-marked : (t : Tree) (b : List ℕ) (r : Record) → Clean Y (unmarked t) b r → (e : Refusal) →
        IsFault Y (unmarked t) b r e → IsFault Y t b r e
    fault-marked (literal t) b r clean e h = h
    fault-marked (component w c) b r clean e h = h
    fault-marked (sequence ts) b r clean e h = fault_all-marked ts b r clean e h
    fault-marked (optional t) b r clean e h = h
    fault-marked (first_of tree_none) b r clean e h = h
    fault-marked (first_of (tree_more t ts)) b r clean e h = fault-marked t b r clean.0 e h

    fault_all-marked : (ts : Trees) (b : List ℕ) (r : Record) → CleanAll Y (unmarked_all ts) b r → (e : Refusal) →
        IsFaultAll Y (unmarked_all ts) b r e → IsFaultAll Y ts b r e
    fault_all-marked tree_none b r clean e h = h
    fault_all-marked (tree_more t ts) b r clean e (inl h) =
        inl (λ x p k. h.0 x p (read-unmarked t b r clean.0 x p k), fault-marked t b r clean.0 e h.1)
    fault_all-marked (tree_more t ts) b r clean e (inr (mid, m, h, hs)) =
        inr (mid, m, read-marked t b r clean.0 mid m h, fault_all-marked ts mid m (clean.1 mid m h) e hs)

  alike-unmarked : (t : Tree) (b : List ℕ) (r : Record) → Clean Y (unmarked t) b r → AreEquivalentOn Y t (unmarked t) b r
  alike-unmarked t b r clean = record {
    reads = λ rest q. (read-unmarked t b r clean rest q, read-marked t b r clean rest q);
    refuses = λ e. (
      λ h. record {
        unread = λ x p k. h.unread x p (read-marked t b r clean x p k);
        fault = fault-unmarked t b r clean e h.fault;
      },
      λ h. record {
        unread = λ x p k. h.unread x p (read-unmarked t b r clean x p k);
        fault = fault-marked t b r clean e h.fault;
      },
    );
  }

  pub whole_characters : WholeCharacters Y
  whole_characters t u b r is clean =
      subst (λ s. AreEquivalentOn Y t s b r) is (alike-unmarked t b r (subst (λ s. Clean Y s b r) (sym is) clean))
