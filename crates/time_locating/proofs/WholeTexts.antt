-- The numbers of a whole text's places are stored in any record.
use Rattle.std.specs.Prelude.{MatchBool, codes, ◌++◌, if◌then◌else◌, unsigned_abs, nat_le}
use Rattle.std.specs.Str.{bytes_eq}
use Rattle.std.specs.Option.{option_map}
use Rattle.std.proofs.Common.{◌≡◌, ap, sym, ◌∙◌, refl, subst, inl, inr, List, [], ℕ, Bool, true, false, Option, Some, None, Ok, Err, arith, ◌-◌, ◌≤◌, ◌∷◌, length, length-append, suc, ◌+◌, ◌<◌, drop, get_or, drop-cons, add-one, zero, pos, IfSome}
use Rattle.std.proofs.lemmas.Option.{none-some, same_Some}
use Rattle.std.proofs.lemmas.Bool.{le-leb}
use Rattle.time_values.specs.Refusal.{Refusal}
use Rattle.time_values.specs.Names.{month_at, month_number}
use Rattle.time_values.specs.Calendar.{greatest_year}
use Rattle.time_values.specs.Sign.{signed_by}
use Rattle.time_values.specs.declared.month.Month.{Month}
use Rattle.time_values.specs.declared.weekday.Weekday.{Weekday}
use Rattle.time_digits.specs.Digits.{Cut}
use Rattle.time_digits.specs.declared.Sign.{Sign}
use Rattle.time_readers.specs.Readers.{Format, MatchesPlaces}
use Rattle.time_readers.specs.Rfc2822 as mail
use Rattle.time_readers.specs.Rfc3339 as rfc3339
use Rattle.time_readers.specs.declared.rfc2822.Numbers as MailNumbers
use Rattle.time_readers.specs.declared.rfc3339.Numbers.{Numbers}
use Rattle.time_readers.proofs.Walking.{MatchesPlaces-ends}
use Rattle.time_readers.proofs.RangedForms as Keeping
use Rattle.time_readers.proofs.MailRanges as MailRanges
use Rattle.time_readers.proofs.MailRanges.{signed-abs}
use Rattle.time_record.specs.Record.{Record, Entry, day_is, month_is, offset_second_is, year_is}
use Rattle.time_parsing.specs.Outcome.{IsExact, IsWhole, Reading, Refusing, Resolving}
use Rattle.time_parsing.specs.Rfc2822 as over_mail
use Rattle.time_parsing.specs.Rfc3339 as over
use Rattle.time_parsing.specs.exact.RecordedRfc2822.{AllInRange, in_range-append, put-each, put_each}
use Rattle.time_locating.specs.Located.{IsErrorAt, IsExactMark, IsExactPlace, IsMarked, IsRangeAt, IsRefusedAt, IsValueAt, Locating, Marking, OneAnswer, OneIndex, PlacesOutcomes, PlacesRefusals, range_name, erased_located, wants, IsLocated, end_of}
use Rattle.time_locating.specs.Misses.{Miss, missed, Expectation, the_end}
use Rattle.time_locating.specs.declared.located.Located.{Located}
use Rattle.time_locating.specs.Marks.{Beginning, LocatesPlace, MarksPlaces, MarksText, is_place_of}
use Rattle.time_locating.proofs.IsoDates.{Ok-Err}

-- ---- A text has one answer

pub one_answer : (reads : Reading) (locates : Locating) → IsExactPlace reads locates → OneAnswer reads locates
one_answer reads locates exact bytes r None None h k = refl
one_answer reads locates exact bytes r None (Some at) h k = absurd (exact.not_read bytes r h.0 k.0 k.1 h.1)
one_answer reads locates exact bytes r (Some at) None h k = absurd (exact.not_read bytes r k.0 h.0 h.1 k.1)
one_answer reads locates exact bytes r (Some at) (Some other) h k =
    let same = exact.one_place bytes r h.0 k.0 h.1 k.1 in
    let left = ap (λ (m : Miss). m.left) same in
    let sum = h.2 in
    let other_sum = k.2 in
    let index : at.index ≡ other.index = omega arith in
    let wanted = h.3 ∙ ap (λ (m : Miss). m.wanted) same ∙ sym k.3 in
    ap (λ n. Some (missed n (wants at.expected))) index ∙ ap (λ w. Some (missed other.index w)) wanted

-- a text has no place exactly if it has a record
module _ (reads : Reading) (refuses : Refusing) (locates : Locating) (exact : IsExact reads refuses) (places : IsExactPlace reads locates) where
  unread_whole : (bytes : List ℕ) (r p : Record) (e : Refusal) → reads bytes r [] p → IsWhole reads refuses bytes r (Err e) → ⊥
  unread_whole bytes r p e h (inl refused) = exact.not_both bytes r [] p e h refused
  unread_whole bytes r p e h (inr k) = k.3 (exact.one_rest bytes r k.0 [] k.1 p k.2 h)

  pub place_of_refusal : PlacesRefusals reads refuses locates
  place_of_refusal bytes r None (Ok p) h k = (λ none. (p, refl), λ some. refl)
  place_of_refusal bytes r None (Err e) h k = absurd (unread_whole bytes r h.0 e h.1 k)
  place_of_refusal bytes r (Some at) (Ok p) h k = absurd (places.not_read bytes r p h.0 h.1 k)
  place_of_refusal bytes r (Some at) (Err e) h k =
      (λ none. absurd (none-some at (sym none)), λ some. absurd (Ok-Err some.0 e some.1))

  -- a text has no place exactly if it is read whole, and its outcome is what the record resolves to
  pub place_of_outcome : {V : Type 0} (resolves : Resolving V) → PlacesOutcomes resolves reads refuses locates
  place_of_outcome resolves bytes r None (Ok v) h k = (λ none. k, λ whole. refl)
  place_of_outcome resolves bytes r None (Err e) h (inl k) = absurd (unread_whole bytes r h.0 e h.1 k)
  place_of_outcome resolves bytes r None (Err e) h (inr k) = (λ none. k, λ whole. refl)
  place_of_outcome resolves bytes r (Some at) outcome h k =
      (λ none. absurd (none-some at (sym none)), λ whole. absurd (places.not_read bytes r whole.0 h.0 h.1 whole.1))

-- a component has one index
marked-one : (marks : Marking) → IsExactMark marks → (name bytes : List ℕ) (r : Record) (x y : Option ℕ) → IsMarked marks name bytes r x
    → IsMarked marks name bytes r y → x ≡ y
marked-one marks one name bytes r None None h k = refl
marked-one marks one name bytes r None (Some j) h k = absurd (none-some k.0 (one name bytes r None (Some k.0) h k.1))
marked-one marks one name bytes r (Some i) None h k = absurd (none-some h.0 (one name bytes r None (Some h.0) k h.1))
marked-one marks one name bytes r (Some i) (Some j) h k =
    let same : h.0 ≡ k.0 = same_Some h.0 k.0 (one name bytes r (Some h.0) (Some k.0) h.1 k.1) in
    let sum = h.2 in
    let other_sum = k.2 in
    ap Some (omega arith)

-- the error of a text has one index
module _ (reads : Reading) (locates : Locating) (marks : Marking) (places : IsExactPlace reads locates) (one : IsExactMark marks)
    (bytes : List ℕ) (r : Record) where
  week-one : (ordinal : Bool) (index other : Option ℕ)
      → MatchBool ordinal (IsMarked marks (codes "week number") bytes r index) (index ≡ None)
      → MatchBool ordinal (IsMarked marks (codes "week number") bytes r other) (other ≡ None) → index ≡ other
  week-one true index other h k = marked-one marks one (codes "week number") bytes r index other h k
  week-one false index other h k = h ∙ sym k

  range-one : (name : List ℕ) (own index other : Option ℕ) → IsRangeAt marks bytes r name own index → IsRangeAt marks bytes r name own other
      → index ≡ other
  range-one name (Some i) index other h k = h ∙ sym k
  range-one name None index other h k = week-one (bytes_eq name (codes "ordinal")) index other h k

  value-one : (o : Option (List ℕ)) (index other : Option ℕ) → IsValueAt marks bytes r o index → IsValueAt marks bytes r o other
      → index ≡ other
  value-one None index other h k = h ∙ sym k
  value-one (Some name) index other (own, h, is) (same, k, be) =
      let one_own = marked-one marks one name bytes r own same h k in
      range-one name same index other (subst (λ o. IsRangeAt marks bytes r name o index) one_own is) be

  refused-one : (e : Refusal) (p q : Option Located) (index other : Option ℕ) → erased_located p ≡ erased_located q
      → IsRefusedAt marks bytes r e p index → IsRefusedAt marks bytes r e q other → index ≡ other
  refused-one e None None index other is h k = value-one (range_name e) index other h k
  refused-one e None (Some at) index other is h k = absurd (none-some (missed at.index (wants at.expected)) is)
  refused-one e (Some at) None index other is h k = absurd (none-some (missed at.index (wants at.expected)) (sym is))
  refused-one e (Some at) (Some to) index other is h k =
      let same = same_Some (missed at.index (wants at.expected)) (missed to.index (wants to.expected)) is in
      h ∙ ap (λ (m : Miss). Some m.left) same ∙ sym k

  error-one : (e : Refusal) (index other : Option ℕ) → IsErrorAt reads locates marks bytes r e index
      → IsErrorAt reads locates marks bytes r e other → index ≡ other
  error-one e index other (p, h, is) (q, k, be) =
      refused-one e p q index other (one_answer reads locates places bytes r p q h k) is be

pub one_index : (reads : Reading) (locates : Locating) (marks : Marking) → IsExactPlace reads locates → IsExactMark marks
    → OneIndex reads locates marks
one_index reads locates marks places one bytes r e index other h k = error-one reads locates marks places one bytes r e index other h k

-- ---- The place of a text by the places of a format, from the result

module _ {P N : Type 0} (A : Format P N) (ps : List P) (start : N) where
  -- the rest isn't longer than the bytes
  pub left-within : (bytes rest : List ℕ) (n : N) → MatchesPlaces A ps start bytes rest n → length rest ≤ length bytes
  left-within bytes rest n s =
      let ends = MatchesPlaces-ends A ps start n bytes rest s in
      let sum = ap length ends.1 ∙ length-append ends.0 rest in
      omega arith

  module _ (expected_from : Beginning P) (expected_at : P → Expectation) (reads : Reading) (begin : Record) (bytes : List ℕ) where
    -- all places match
    pub stands-located : (rest : List ℕ) (n : N) (result : Option Located) → MatchesPlaces A ps start bytes rest n
        → ((r : Record) → MatchesPlaces A ps start bytes [] n → (q : Record) × reads bytes r [] q)
        → erased_located result ≡ end_of (length bytes) rest
        → IsLocated reads (λ b r m. LocatesPlace A ps start expected_from expected_at b m) bytes begin result
    stands-located [] n None s whole is = whole begin s
    stands-located [] n (Some at) s whole is = let clash : Some (missed at.index (wants at.expected)) ≡ None = is in cc
    stands-located (b ∷ rest) n None s whole is =
        let clash : None ≡ Some (missed (length bytes - length (b ∷ rest)) the_end) = is in cc
    stands-located (b ∷ rest) n (Some at) s whole is =
        let same : missed at.index (wants at.expected) ≡ missed (length bytes - length (b ∷ rest)) the_end = cc in
        let index = ap (λ (m : Miss). m.left) same in
        let within = left-within bytes (b ∷ rest) n s in (
          missed (length (b ∷ rest)) the_end,
          inr (b ∷ rest, n, s, (λ none. let clash : b ∷ rest ≡ [] = none in cc), refl),
          omega arith,
          ap (λ (m : Miss). m.wanted) same,
        )

-- ---- The mark of a text by the places of a format, from the rest after each of them

-- the rest after a place, as it is returned, if P agrees with what is known before and after it
abbrev pub LeftAfter : {P N S : Type 0} → Format P N → (N → S → Type 0) → P → List ℕ → S → Option (List ℕ) → S → Type 0
LeftAfter {P} {N} A Agrees p b known found after =
    (n m : N) (mid : List ℕ) → Agrees n known → Cut (A p n) b mid m → (found ≡ Some mid) × Agrees m after

module _ {P N S : Type 0} (A : Format P N) (expected_from : Beginning P) (fault : P → Refusal) (name : List ℕ) (Agrees : N → S → Type 0)
    (all : List P) (start : N) (bytes : List ℕ) where
  -- The places that are left match, and their mark is that of all places.
  pub record Left (left : List P) (b : List ℕ) (known : S) : Type 0 where
    pub numbers : N
    pub end : List ℕ
    pub last : N
    pub stand : MatchesPlaces A left numbers b end last
    pub agrees : Agrees numbers known
    pub marks : (mark : Option ℕ) → MarksPlaces A expected_from fault name left numbers b mark → MarksPlaces A expected_from fault name all start bytes mark

  pub Left-start : (end : List ℕ) (last : N) (known : S) → MatchesPlaces A all start bytes end last → Agrees start known → Left all bytes known
  Left-start end last known s h = record {
    numbers = start;
    end = end;
    last = last;
    stand = s;
    agrees = h;
    marks = λ mark x. x;
  }

  -- the next place leaves that rest, and is marked or passed
  pub record Next (later : List P) (p : P) (b : List ℕ) (found : Option (List ℕ)) (after : S) : Type 0 where
    pub mid : List ℕ
    pub is : found ≡ Some mid
    pub here : is_place_of name (fault p) b mid ≡ true
        → MarksPlaces A expected_from fault name all start bytes (Some (length (expected_from p b)))
    pub past : is_place_of name (fault p) b mid ≡ false → Left later mid after

  Left-next : (p : P) (later : List P) (b : List ℕ) (known : S) → Left (p ∷ later) b known → (found : Option (List ℕ)) (after : S)
      → LeftAfter A Agrees p b known found after → Next later p b found after
  unfolding MatchesPlaces MarksPlaces
  Left-next p later b known f found after step =
      let s = f.stand in
      let answer = step f.numbers s.1 s.0 f.agrees s.2 in
      record {
        mid = s.0;
        is = answer.0;
        here = λ yes. f.marks (Some (length (expected_from p b))) (s.0, s.1, s.2, inl (yes, refl));
        past = λ no. record {
          numbers = s.1;
          end = f.end;
          last = f.last;
          stand = s.3;
          agrees = answer.1;
          marks = λ mark x. f.marks mark (s.0, s.1, s.2, inr (no, x));
        };
      }

  pub Left-at : (i : ℕ) (p : P) (b : List ℕ) (known : S) → i < length all → Left (drop i all) b known
      → (found : Option (List ℕ)) (after : S) → LeftAfter A Agrees (get_or all i p) b known found after
      → Next (drop (i + 1) all) (get_or all i p) b found after
  Left-at i p b known within f found after step =
      let here = subst (λ (ps : List P). Left ps b known) (drop-cons all i p within) f in
      rw add-one (Left-next (get_or all i p) (drop (suc i) all) b known here found after step)

  -- no place is left
  pub Left-end : (left : List P) (b : List ℕ) (known : S) → left ≡ [] → Left left b known → MarksPlaces A expected_from fault name all start bytes None
  unfolding MarksPlaces
  Left-end left b known is f = f.marks None (subst (λ (ps : List P). MarksPlaces A expected_from fault name ps f.numbers b None) (sym is) refl)

-- the expected text of a place begins in the bytes that are left there
abbrev pub IsWithin : {P : Type 0} → Beginning P → Type 0
IsWithin {P} expected_from = (p : P) (b : List ℕ) → length (expected_from p b) ≤ length b

module _ {P N : Type 0} (A : Format P N) (expected_from : Beginning P) (within : IsWithin expected_from) (fault : P → Refusal) (name : List ℕ) where
  -- no mark leaves more bytes than there are
  MarksPlaces-within : (ps : List P) (n : N) (b : List ℕ) (left : ℕ) → MarksPlaces A expected_from fault name ps n b (Some left) → left ≤ length b
  unfolding MarksPlaces
  MarksPlaces-within [] n b left h = let clash : Some left ≡ None = h in cc
  MarksPlaces-within (p ∷ ps) n b left (mid, m, cut, inl h) =
      let same : left ≡ length (expected_from p b) = cc in omega (arith, within p b)
  MarksPlaces-within (p ∷ ps) n b left (mid, m, cut, inr h) =
      let later = MarksPlaces-within ps m mid left h.1 in
      omega (arith, ap length cut.1, length-append cut.0 mid)

  module _ (ps : List P) (start : N) (bytes : List ℕ) (r : Record) where
    -- the index of a mark
    pub places_marked : (rest : List ℕ) (n : N) (mark : Option ℕ) → MatchesPlaces A ps start bytes rest n
        → MarksPlaces A expected_from fault name ps start bytes mark
        → IsMarked (λ o b q x. MarksText A expected_from fault ps start o b x) name bytes r (option_map (λ left. length bytes - left) mark)
    places_marked rest n None s h = inr ((rest, n, s), h)
    places_marked rest n (Some left) s h =
        (left, inr ((rest, n, s), h), omega (arith, MarksPlaces-within ps start bytes left h))

numbered : (v : ℕ) → 1 ≤ v → v ≤ 12 → month_number (month_at v) ≡ v
numbered zero least most = absurd (omega arith)
numbered (suc zero) least most = refl
numbered (suc (suc zero)) least most = refl
numbered (suc (suc (suc zero))) least most = refl
numbered (suc (suc (suc (suc zero)))) least most = refl
numbered (suc (suc (suc (suc (suc zero))))) least most = refl
numbered (suc (suc (suc (suc (suc (suc zero)))))) least most = refl
numbered (suc (suc (suc (suc (suc (suc (suc zero))))))) least most = refl
numbered (suc (suc (suc (suc (suc (suc (suc (suc zero)))))))) least most = refl
numbered (suc (suc (suc (suc (suc (suc (suc (suc (suc zero))))))))) least most = refl
numbered (suc (suc (suc (suc (suc (suc (suc (suc (suc (suc zero)))))))))) least most = refl
numbered (suc (suc (suc (suc (suc (suc (suc (suc (suc (suc (suc zero))))))))))) least most = refl
numbered (suc (suc (suc (suc (suc (suc (suc (suc (suc (suc (suc (suc zero)))))))))))) least most = refl
numbered (suc (suc (suc (suc (suc (suc (suc (suc (suc (suc (suc (suc (suc v))))))))))))) least most = absurd (omega arith)

near : (b : Bool) (v most : ℕ) → v ≤ most → nat_le (unsigned_abs (signed_by b (pos v))) most ≡ true
near b v most h = rw (signed-abs b v) (le-leb v most h)

subsecond-in_range : (o : Option ℕ) → IfSome o (λ v. v ≤ 999999999) → AllInRange greatest_year (over.subsecond_entries o)
subsecond-in_range None h = tt
subsecond-in_range (Some v) h = (le-leb v 999999999 h, tt)

zulu-in_range : (b : Bool) (es : List Entry) → AllInRange greatest_year es
    → AllInRange greatest_year (if b then es ++ offset_second_is (pos 0) ∷ [] else es)
zulu-in_range true es all = in_range-append greatest_year es (offset_second_is (pos 0) ∷ []) all (refl, tt)
zulu-in_range false es all = all

entries-in_range : (n : Numbers) (m : Month) → Keeping.InPlaces true n → AllInRange greatest_year (over.entries n m)
entries-in_range n m i =
    let offset : AllInRange greatest_year (over.numeric_offset_entries n) = (
      near n.offset_is_negative n.offset_hour 25 (omega (arith, i.offset_hour)),
      (near n.offset_is_negative n.offset_minute 59 i.offset_minute.1, tt),
    ) in
    let others =
    in_range-append greatest_year (over.subsecond_entries n.subsecond) (over.offset_entries n)
    (subsecond-in_range n.subsecond i.subsecond) (zulu-in_range n.is_utc (over.numeric_offset_entries n) offset) in
    let date : AllInRange greatest_year (over.date_entries n m) =
    (le-leb n.year greatest_year (omega (arith, i.year)), (refl, (rw (le-leb 1 n.day i.day.0, le-leb n.day 31 i.day.1) refl, tt))) in
    in_range-append greatest_year (over.date_entries n m) (over.time_entries n ++ over.offset_entries n) date
    (le-leb n.hour 23 i.hour.1, (le-leb n.minute 59 i.minute.1, (le-leb n.second 60 i.second.1, others)))

-- a text of RFC 3339 that has the form is read over any record
pub reads_form : (bytes rest : List ℕ) (n : Numbers) (r : Record) → rfc3339.HasForm true bytes rest n
    → (q : Record) × over.Reads greatest_year bytes r rest q
reads_form bytes rest n r form =
    let i = Keeping.HasForm-in_places true bytes rest n form in
    let m = month_at n.month in
    let start = over.with_leap_second (over.without_offset_sign r) in (
      put_each (over.entries n m) start,
      (n, m, form, numbered n.month i.month.0 i.month.1, put-each greatest_year (over.entries n m) start (entries-in_range n m i)),
    )

weekday-in_range : (o : Option Weekday) → AllInRange greatest_year (over_mail.weekday_entries o)
weekday-in_range None = tt
weekday-in_range (Some w) = (refl, tt)

mail_second-in_range : (o : Option ℕ) → IfSome o (λ v. (0 ≤ v) × (v ≤ 60)) → AllInRange greatest_year (over_mail.second_entries o)
mail_second-in_range None h = tt
mail_second-in_range (Some v) h = (le-leb v 60 h.1, tt)

mail_offset-in_range : (n : MailNumbers.Numbers) (s : Option Sign) → MailRanges.InPlaces true n → AllInRange greatest_year (over_mail.offset_entries s n)
mail_offset-in_range n None i = (le-leb (unsigned_abs n.offset_hour) 25 i.offset_hour.1, (refl, (refl, tt)))
mail_offset-in_range n (Some s) i =
    let minute = le-leb (unsigned_abs n.offset_minute) 59 i.offset_minute.1 in
    (le-leb (unsigned_abs n.offset_hour) 25 i.offset_hour.1, (minute, tt))

mail_entries-in_range : (n : MailNumbers.Numbers) → MailRanges.InPlaces true n → AllInRange greatest_year (over_mail.entries n)
mail_entries-in_range n i =
    let date =
    in_range-append greatest_year (over_mail.weekday_entries n.weekday)
    (day_is n.day ∷ month_is n.month ∷ year_is (pos n.year) ∷ []) (weekday-in_range n.weekday)
    (rw (le-leb 1 n.day i.day.0, le-leb n.day 31 i.day.1) refl, (refl, (le-leb n.year greatest_year (omega (arith, i.year.1)), tt))) in
    let time : AllInRange greatest_year (over_mail.time_entries n) =
    (le-leb n.hour 23 i.hour.1, (le-leb n.minute 59 i.minute.1, mail_second-in_range n.second i.second)) in
    in_range-append greatest_year (over_mail.date_entries n ++ over_mail.time_entries n) (over_mail.offset_entries n.offset_sign n)
    (in_range-append greatest_year (over_mail.date_entries n) (over_mail.time_entries n) date time) (mail_offset-in_range n n.offset_sign i)

-- a mail date that has the form is read over any record
pub mail_reads_form : (bytes rest : List ℕ) (n : MailNumbers.Numbers) (r : Record) → mail.HasForm true bytes rest n
    → (q : Record) × over_mail.Reads greatest_year bytes r rest q
mail_reads_form bytes rest n r form =
    let i = MailRanges.HasForm-in_places true bytes rest n form in
    let start = over.with_leap_second (over.without_offset_sign r) in
    (put_each (over_mail.entries n) start, (n, form, put-each greatest_year (over_mail.entries n) start (mail_entries-in_range n i)))
