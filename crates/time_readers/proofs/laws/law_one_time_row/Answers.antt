use Rattle.std.specs.Prelude.{nat_le}
use Rattle.std.proofs.Common.{◌≡◌, ◌≤◌, ℕ, List, length, Bool, true, false, refl, arith, Option, Some, None}
use Rattle.std.proofs.lemmas.Bool.{true≢false, false≢true}
use Rattle.time_readers.specs.Laws.{OneTimeRow}
use Rattle.time_readers.specs.declared.iso8601.ExtendedKind.{ExtendedKind}
use Rattle.time_readers.specs.declared.iso8601.ExtendedKind.TheVariants.{Basic, Extended, Unknown}
use Rattle.time_readers.specs.declared.iso8601.TimeNumbers.{TimeNumbers}
use Rattle.time_readers.specs.IsoTimes.{not_basic, is_extended, time_texts, says, any_second}
use Rattle.time_readers.specs.IsoPieces.{Number, plain, fraction, number, byte}
use Rattle.time_readers.specs.IsoGrammar.{hour_and_minute}
use Rattle.time_readers.proofs.IsoPieces.{colon-no_number}
use Rattle.time_readers.proofs.laws.law_one_time_row.Goals as goal

-- ---- At most one row of the table of times matches: that row, by the parts at the front of the bytes

-- at most one row matches
abbrev One : ExtendedKind → List ℕ → Type 0
One kind b = length (time_texts kind b) ≤ 1

-- A whole hour from 0 to 23, and no colon after it.
module _ (b m : List ℕ) (h : ℕ) (hour : number b ≡ Some (m, plain h)) (small : nat_le h 23 ≡ true) (none : byte 58 m ≡ None) where
  -- a minute and a second without separators
  basic_second_row : (kind : ExtendedKind) (r q : List ℕ) (w : ℕ) (s : Number) (t : Option TimeNumbers) → is_extended kind ≡ false
      → number m ≡ Some (r, plain w) → nat_le w 59 ≡ true
      → number r ≡ Some (q, s) → says any_second s (hour_and_minute h w) ≡ t → One kind b
  basic_second_row Basic r q w s None k n l e i = rw (hour, small, none, n, l, e, i) (omega arith)
  basic_second_row Basic r q w s (Some t) k n l e i = rw (hour, small, none, n, l, e, i) (omega arith)
  basic_second_row Unknown r q w s None k n l e i = rw (hour, small, none, n, l, e, i) (omega arith)
  basic_second_row Unknown r q w s (Some t) k n l e i = rw (hour, small, none, n, l, e, i) (omega arith)
  basic_second_row Extended r q w s t k n l e i = absurd (true≢false k)

  basic_row : (kind : ExtendedKind) (r : List ℕ) (w : ℕ) (s : Option (List ℕ × Number)) → is_extended kind ≡ false
      → number m ≡ Some (r, plain w) → nat_le w 59 ≡ true
      → number r ≡ s → One kind b
  basic_row kind r w (Some f) k n l e =
      basic_second_row kind r f.0 w f.1 (says any_second f.1 (hour_and_minute h w)) k n l e refl
  basic_row Basic r w None k n l e = rw (hour, small, none, n, l, e) (omega arith)
  basic_row Unknown r w None k n l e = rw (hour, small, none, n, l, e) (omega arith)
  basic_row Extended r w None k n l e = absurd (true≢false k)

  -- a minute, a colon and a second
  extended_second_row : (r x q : List ℕ) (w : ℕ) (s : Number) (t : Option TimeNumbers) → number m ≡ Some (r, plain w) → nat_le w 59 ≡ true
      → byte 58 r ≡ Some x → number x ≡ Some (q, s) → says any_second s (hour_and_minute h w) ≡ t → One Extended b
  extended_second_row r x q w s None n l z e i = rw (hour, small, none, n, l, z, e, i) (omega arith)
  extended_second_row r x q w s (Some t) n l z e i = rw (hour, small, none, n, l, z, e, i) (omega arith)

  extended_colon_row : (r x : List ℕ) (w : ℕ) (s : Option (List ℕ × Number)) → number m ≡ Some (r, plain w) → nat_le w 59 ≡ true
      → byte 58 r ≡ Some x → number x ≡ s → One Extended b
  extended_colon_row r x w None n l z e = rw (hour, small, none, n, l, z, e) (omega arith)
  extended_colon_row r x w (Some f) n l z e =
      extended_second_row r x f.0 w f.1 (says any_second f.1 (hour_and_minute h w)) n l z e refl

  extended_row : (r : List ℕ) (w : ℕ) (x : Option (List ℕ)) → number m ≡ Some (r, plain w) → nat_le w 59 ≡ true → byte 58 r ≡ x
      → One Extended b
  extended_row r w None n l z = rw (hour, small, none, n, l, z) (omega arith)
  extended_row r w (Some x) n l z = extended_colon_row r x w (number x) n l z refl

  -- a whole minute
  minute_row : (kind : ExtendedKind) (r : List ℕ) (w : ℕ) (t : Bool) → number m ≡ Some (r, plain w) → nat_le w 59 ≡ t → One kind b
  minute_row Basic r w false n l = rw (hour, small, none, n, l) (omega arith)
  minute_row Extended r w false n l = rw (hour, small, none, n, l) (omega arith)
  minute_row Unknown r w false n l = rw (hour, small, none, n, l) (omega arith)
  minute_row Basic r w true n l = basic_row Basic r w (number r) refl n l refl
  minute_row Unknown r w true n l = basic_row Unknown r w (number r) refl n l refl
  minute_row Extended r w true n l = extended_row r w (byte 58 r) n l refl

  -- a minute and a fraction
  minute_fraction_row : (kind : ExtendedKind) (r d : List ℕ) (w : ℕ) (t : Bool) → number m ≡ Some (r, fraction w d) → nat_le w 59 ≡ t
      → One kind b
  minute_fraction_row Basic r d w true n l = rw (hour, small, none, n, l) (omega arith)
  minute_fraction_row Basic r d w false n l = rw (hour, small, none, n, l) (omega arith)
  minute_fraction_row Extended r d w true n l = rw (hour, small, none, n, l) (omega arith)
  minute_fraction_row Extended r d w false n l = rw (hour, small, none, n, l) (omega arith)
  minute_fraction_row Unknown r d w true n l = rw (hour, small, none, n, l) (omega arith)
  minute_fraction_row Unknown r d w false n l = rw (hour, small, none, n, l) (omega arith)

  -- a number after the hour, or none
  no_colon_row : (kind : ExtendedKind) (s : Option (List ℕ × Number)) → number m ≡ s → One kind b
  no_colon_row Basic None n = rw (hour, small, none, n) (omega arith)
  no_colon_row Extended None n = rw (hour, small, none, n) (omega arith)
  no_colon_row Unknown None n = rw (hour, small, none, n) (omega arith)
  no_colon_row kind (Some (r, plain w)) n = minute_row kind r w (nat_le w 59) n refl
  no_colon_row kind (Some (r, fraction w d)) n = minute_fraction_row kind r d w (nat_le w 59) n refl

-- A whole hour from 0 to 23, and a colon after it.
module _ (b m y : List ℕ) (h : ℕ) (hour : number b ≡ Some (m, plain h)) (small : nat_le h 23 ≡ true) (colon : byte 58 m ≡ Some y) where
  -- a minute, a colon and a second
  colon_second_row : (kind : ExtendedKind) (r x q : List ℕ) (w : ℕ) (s : Number) (t : Option TimeNumbers) → not_basic kind ≡ true
      → number y ≡ Some (r, plain w) → nat_le w 59 ≡ true
      → byte 58 r ≡ Some x → number x ≡ Some (q, s) → says any_second s (hour_and_minute h w) ≡ t → One kind b
  colon_second_row Basic r x q w s t k n l z e i = absurd (false≢true k)
  colon_second_row Extended r x q w s None k n l z e i = rw (hour, small, colon, colon-no_number m y colon, n, l, z, e, i) (omega arith)
  colon_second_row Extended r x q w s (Some t) k n l z e i = rw (hour, small, colon, colon-no_number m y colon, n, l, z, e, i) (omega arith)
  colon_second_row Unknown r x q w s None k n l z e i = rw (hour, small, colon, colon-no_number m y colon, n, l, z, e, i) (omega arith)
  colon_second_row Unknown r x q w s (Some t) k n l z e i = rw (hour, small, colon, colon-no_number m y colon, n, l, z, e, i) (omega arith)

  colon_colon_row : (kind : ExtendedKind) (r x : List ℕ) (w : ℕ) (s : Option (List ℕ × Number)) → not_basic kind ≡ true
      → number y ≡ Some (r, plain w) → nat_le w 59 ≡ true
      → byte 58 r ≡ Some x → number x ≡ s → One kind b
  colon_colon_row kind r x w (Some f) k n l z e =
      colon_second_row kind r x f.0 w f.1 (says any_second f.1 (hour_and_minute h w)) k n l z e refl
  colon_colon_row Basic r x w None k n l z e = absurd (false≢true k)
  colon_colon_row Extended r x w None k n l z e = rw (hour, small, colon, colon-no_number m y colon, n, l, z, e) (omega arith)
  colon_colon_row Unknown r x w None k n l z e = rw (hour, small, colon, colon-no_number m y colon, n, l, z, e) (omega arith)

  -- a whole minute
  colon_minute_row : (kind : ExtendedKind) (r : List ℕ) (w : ℕ) (x : Option (List ℕ)) → not_basic kind ≡ true
      → number y ≡ Some (r, plain w) → nat_le w 59 ≡ true → byte 58 r ≡ x → One kind b
  colon_minute_row kind r w (Some x) k n l z = colon_colon_row kind r x w (number x) k n l z refl
  colon_minute_row Basic r w None k n l z = absurd (false≢true k)
  colon_minute_row Extended r w None k n l z = rw (hour, small, colon, colon-no_number m y colon, n, l, z) (omega arith)
  colon_minute_row Unknown r w None k n l z = rw (hour, small, colon, colon-no_number m y colon, n, l, z) (omega arith)

  colon_whole_row : (kind : ExtendedKind) (r : List ℕ) (w : ℕ) (t : Bool) → not_basic kind ≡ true
      → number y ≡ Some (r, plain w) → nat_le w 59 ≡ t → One kind b
  colon_whole_row kind r w true k n l = colon_minute_row kind r w (byte 58 r) k n l refl
  colon_whole_row Basic r w false k n l = absurd (false≢true k)
  colon_whole_row Extended r w false k n l = rw (hour, small, colon, colon-no_number m y colon, n, l) (omega arith)
  colon_whole_row Unknown r w false k n l = rw (hour, small, colon, colon-no_number m y colon, n, l) (omega arith)

  -- a minute and a fraction
  colon_fraction_row : (kind : ExtendedKind) (r d : List ℕ) (w : ℕ) (t : Bool) → not_basic kind ≡ true
      → number y ≡ Some (r, fraction w d) → nat_le w 59 ≡ t → One kind b
  colon_fraction_row Basic r d w t k n l = absurd (false≢true k)
  colon_fraction_row Extended r d w true k n l = rw (hour, small, colon, colon-no_number m y colon, n, l) (omega arith)
  colon_fraction_row Extended r d w false k n l = rw (hour, small, colon, colon-no_number m y colon, n, l) (omega arith)
  colon_fraction_row Unknown r d w true k n l = rw (hour, small, colon, colon-no_number m y colon, n, l) (omega arith)
  colon_fraction_row Unknown r d w false k n l = rw (hour, small, colon, colon-no_number m y colon, n, l) (omega arith)

  -- a number after the colon, or none
  after_colon_row : (kind : ExtendedKind) (s : Option (List ℕ × Number)) → not_basic kind ≡ true → number y ≡ s → One kind b
  after_colon_row kind (Some (r, plain w)) k n = colon_whole_row kind r w (nat_le w 59) k n refl
  after_colon_row kind (Some (r, fraction w d)) k n = colon_fraction_row kind r d w (nat_le w 59) k n refl
  after_colon_row Basic None k n = absurd (false≢true k)
  after_colon_row Extended None k n = rw (hour, small, colon, colon-no_number m y colon, n) (omega arith)
  after_colon_row Unknown None k n = rw (hour, small, colon, colon-no_number m y colon, n) (omega arith)

  -- in a text that may be extended, or not
  colon_row : (kind : ExtendedKind) → One kind b
  colon_row Basic = rw (hour, small, colon, colon-no_number m y colon) (omega arith)
  colon_row Extended = after_colon_row Extended (number y) refl refl
  colon_row Unknown = after_colon_row Unknown (number y) refl refl

-- a whole hour from 0 to 23
hour_row : (kind : ExtendedKind) (b m : List ℕ) (h : ℕ) (c : Option (List ℕ)) → number b ≡ Some (m, plain h) → nat_le h 23 ≡ true
    → byte 58 m ≡ c → One kind b
hour_row kind b m h None e p c = no_colon_row b m h e p c kind (number m) refl
hour_row kind b m h (Some y) e p c = colon_row b m y h e p c kind

-- a whole hour
whole_row : (kind : ExtendedKind) (b m : List ℕ) (h : ℕ) (t : Bool) → number b ≡ Some (m, plain h) → nat_le h 23 ≡ t → One kind b
whole_row Basic b m h false e p = rw (e, p) (omega arith)
whole_row Extended b m h false e p = rw (e, p) (omega arith)
whole_row Unknown b m h false e p = rw (e, p) (omega arith)
whole_row kind b m h true e p = hour_row kind b m h (byte 58 m) e p refl

-- an hour and a fraction
fraction_row : (kind : ExtendedKind) (b m d : List ℕ) (h : ℕ) (t : Bool) → number b ≡ Some (m, fraction h d) → nat_le h 23 ≡ t
    → One kind b
fraction_row Basic b m d h true e p = rw (e, p) (omega arith)
fraction_row Basic b m d h false e p = rw (e, p) (omega arith)
fraction_row Extended b m d h true e p = rw (e, p) (omega arith)
fraction_row Extended b m d h false e p = rw (e, p) (omega arith)
fraction_row Unknown b m d h true e p = rw (e, p) (omega arith)
fraction_row Unknown b m d h false e p = rw (e, p) (omega arith)

first_number : (kind : ExtendedKind) (b : List ℕ) (s : Option (List ℕ × Number)) → number b ≡ s → One kind b
first_number Basic b None e = rw e (omega arith)
first_number Extended b None e = rw e (omega arith)
first_number Unknown b None e = rw e (omega arith)
first_number kind b (Some (m, plain h)) e = whole_row kind b m h (nat_le h 23) e refl
first_number kind b (Some (m, fraction h d)) e = fraction_row kind b m d h (nat_le h 23) e refl

one_time_row : OneTimeRow
one_time_row kind b = first_number kind b (number b) refl

pub returns : goal.returns
returns c = one_time_row
