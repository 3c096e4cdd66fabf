-- The row of the table of times that matches, by the parts at the front of the bytes, or that no row matches.
use Rattle.std.specs.Prelude.{nat_le, option_and_then}
use Rattle.std.specs.Borrow.{Bor}
use Rattle.std.proofs.Common.{◌≡◌, ◌≤◌, ℕ, List, ◌∷◌, length, refl, arith, Option, Some, None, ◌<◌, true, false, ap, ◌∙◌}
use Rattle.std.proofs.Math.Bool.{and-false}
use Rattle.std.proofs.lemmas.Bool.{le-leb, lt-leb, true≢false, false≢true}
use Rattle.time_digits.specs.declared.Sign.{Sign}
use Rattle.time_readers.specs.declared.iso8601.ExtendedKind.{ExtendedKind}
use Rattle.time_readers.specs.declared.iso8601.ExtendedKind.TheVariants.{Basic, Extended, Unknown}
use Rattle.time_readers.specs.IsoGrammar.{offset_minute, offset_by_pieces, hour_and_minute, second_found, basic_second, extended_second}
use Rattle.time_readers.specs.IsoOffsets.{offset_text, offset_texts}
use Rattle.time_readers.specs.IsoPieces.{byte, digits, sign, up_to, Found, number_of, Number, plain, fraction, number}
use Rattle.time_readers.specs.Laws.{OneOffsetRow}
use Rattle.time_readers.specs.declared.iso8601.TimeNumbers.{TimeNumbers}
use Rattle.time_readers.specs.IsoTimes.{floor_of, not_basic, is_extended, basic_where_unknown, time_after, says, any_second, past_hour, past_minute}
use Rattle.time_readers.proofs.IsoPieces.{byte-first, colon-no_number}

-- ---- The row of the table of offsets that matches, by the parts at the front of the bytes, and that no other row does

no_digits-no_minute : (s : List ℕ) → digits 2 s ≡ None → up_to 59 2 s ≡ None
unfolding up_to
no_digits-no_minute s none = rw none refl

colon-no_minute : (s rest : List ℕ) → byte 58 s ≡ Some rest → up_to 59 2 s ≡ None
unfolding up_to digits
colon-no_minute s rest e = rw (byte-first 58 s rest e, and-false (nat_le 2 (length (58 ∷ rest)))) refl

z-no_sign : (s rest : List ℕ) → byte 90 s ≡ Some rest → sign s ≡ None
unfolding sign
z-no_sign s rest e = rw (byte-first 90 s rest e) refl

-- the table agrees with parsing one piece after another, and at most one row matches
pub record Fits (kind : ExtendedKind) (b : List ℕ) : Type 0 where
  pub same : offset_text kind b ≡ offset_by_pieces kind b
  pub one : length (offset_texts kind b) ≤ 1

-- a sign and an hour
module _ (b a m : List ℕ) (s : Sign) (h : ℕ) (no_z : byte 90 b ≡ None) (signed : sign b ≡ Some (a, s)) (hour : up_to 25 2 a ≡ Some (m, h)) where
  basic : (d w : Option (List ℕ × ℕ)) → digits 2 m ≡ d → up_to 59 2 m ≡ w → Fits Basic b
  unfolding offset_text offset_by_pieces offset_minute
  basic None w d u = record {
    same = rw (no_z, signed, hour, d) refl;
    one = rw (no_z, signed, hour, d, no_digits-no_minute m d) (omega arith);
  }
  basic (Some f) None d u = record { same = rw (no_z, signed, hour, d, u) refl; one = rw (no_z, signed, hour, d, u) (omega arith) }
  basic (Some f) (Some w) d u = record { same = rw (no_z, signed, hour, d, u) refl; one = rw (no_z, signed, hour, d, u) (omega arith) }

  extended_alone : (d w : Option (List ℕ × ℕ)) → byte 58 m ≡ None → digits 2 m ≡ d → up_to 59 2 m ≡ w → Fits Extended b
  unfolding offset_text offset_by_pieces offset_minute
  extended_alone None w c d u = record {
    same = rw (no_z, signed, hour, c, d) refl;
    one = rw (no_z, signed, hour, c, d, no_digits-no_minute m d) (omega arith);
  }
  extended_alone (Some f) None c d u = record { same = rw (no_z, signed, hour, c, d, u) refl; one = rw (no_z, signed, hour, c, d, u) (omega arith) }
  extended_alone (Some f) (Some w) c d u = record { same = rw (no_z, signed, hour, c, d, u) refl; one = rw (no_z, signed, hour, c, d, u) (omega arith) }

  iso_extended_colon : (y : List ℕ) (w : Option (List ℕ × ℕ)) → byte 58 m ≡ Some y → up_to 59 2 y ≡ w → Fits Extended b
  unfolding offset_text offset_by_pieces offset_minute
  iso_extended_colon y None c u = record {
    same = rw (no_z, signed, hour, c, colon-no_minute m y c, u) refl;
    one = rw (no_z, signed, hour, c, colon-no_minute m y c, u) (omega arith);
  }
  iso_extended_colon y (Some w) c u = record {
    same = rw (no_z, signed, hour, c, colon-no_minute m y c, u) refl;
    one = rw (no_z, signed, hour, c, colon-no_minute m y c, u) (omega arith);
  }

  unknown_alone : (d w : Option (List ℕ × ℕ)) → byte 58 m ≡ None → digits 2 m ≡ d → up_to 59 2 m ≡ w → Fits Unknown b
  unfolding offset_text offset_by_pieces offset_minute
  unknown_alone None w c d u = record {
    same = rw (no_z, signed, hour, c, d) refl;
    one = rw (no_z, signed, hour, c, d, no_digits-no_minute m d) (omega arith);
  }
  unknown_alone (Some f) None c d u = record { same = rw (no_z, signed, hour, c, d, u) refl; one = rw (no_z, signed, hour, c, d, u) (omega arith) }
  unknown_alone (Some f) (Some w) c d u = record { same = rw (no_z, signed, hour, c, d, u) refl; one = rw (no_z, signed, hour, c, d, u) (omega arith) }

  unknown_colon : (y : List ℕ) (w : Option (List ℕ × ℕ)) → byte 58 m ≡ Some y → up_to 59 2 y ≡ w → Fits Unknown b
  unfolding offset_text offset_by_pieces offset_minute
  unknown_colon y None c u = record {
    same = rw (no_z, signed, hour, c, colon-no_minute m y c, u) refl;
    one = rw (no_z, signed, hour, c, colon-no_minute m y c, u) (omega arith);
  }
  unknown_colon y (Some w) c u = record {
    same = rw (no_z, signed, hour, c, colon-no_minute m y c, u) refl;
    one = rw (no_z, signed, hour, c, colon-no_minute m y c, u) (omega arith);
  }

  after_hour : (kind : ExtendedKind) (c : Option (List ℕ)) → byte 58 m ≡ c → Fits kind b
  after_hour Basic c e = basic (digits 2 m) (up_to 59 2 m) refl refl
  after_hour Extended None e = extended_alone (digits 2 m) (up_to 59 2 m) e refl refl
  after_hour Extended (Some y) e = iso_extended_colon y (up_to 59 2 y) e refl
  after_hour Unknown None e = unknown_alone (digits 2 m) (up_to 59 2 m) e refl refl
  after_hour Unknown (Some y) e = unknown_colon y (up_to 59 2 y) e refl

-- a sign
after_sign : (kind : ExtendedKind) (b a : List ℕ) (s : Sign) (h : Option (List ℕ × ℕ)) → byte 90 b ≡ None → sign b ≡ Some (a, s)
    → up_to 25 2 a ≡ h → Fits kind b
unfolding offset_text offset_by_pieces
after_sign kind b a s (Some (m, h)) z e u = after_hour b a m s h z e u kind (byte 58 m) refl
after_sign Basic b a s None z e u = record { same = rw (z, e, u) refl; one = rw (z, e, u) (omega arith) }
after_sign Extended b a s None z e u = record { same = rw (z, e, u) refl; one = rw (z, e, u) (omega arith) }
after_sign Unknown b a s None z e u = record { same = rw (z, e, u) refl; one = rw (z, e, u) (omega arith) }

-- no `Z`
without_z : (kind : ExtendedKind) (b : List ℕ) (s : Option (List ℕ × Sign)) → byte 90 b ≡ None → sign b ≡ s → Fits kind b
unfolding offset_text offset_by_pieces
without_z kind b (Some (a, s)) z e = after_sign kind b a s (up_to 25 2 a) z e refl
without_z Basic b None z e = record { same = rw (z, e) refl; one = rw (z, e) (omega arith) }
without_z Extended b None z e = record { same = rw (z, e) refl; one = rw (z, e) (omega arith) }
without_z Unknown b None z e = record { same = rw (z, e) refl; one = rw (z, e) (omega arith) }

-- `Z`, or not
z_or_not : (kind : ExtendedKind) (b : List ℕ) (c : Option (List ℕ)) → byte 90 b ≡ c → Fits kind b
unfolding offset_text offset_by_pieces
z_or_not kind b None z = without_z kind b (sign b) z refl
z_or_not Basic b (Some r) z = record { same = rw z refl; one = rw (z, z-no_sign b r z) (omega arith) }
z_or_not Extended b (Some r) z = record { same = rw z refl; one = rw (z, z-no_sign b r z) (omega arith) }
z_or_not Unknown b (Some r) z = record { same = rw z refl; one = rw (z, z-no_sign b r z) (omega arith) }

pub offset_by_pieces_is : (kind : ExtendedKind) (b : List ℕ) → offset_text kind b ≡ offset_by_pieces kind b
offset_by_pieces_is kind b = (z_or_not kind b (byte 90 b) refl).same

pub one_offset_row : OneOffsetRow
one_offset_row kind b = (z_or_not kind b (byte 90 b) refl).one

-- a time that was found, and the rest after it
abbrev pub found : List ℕ → TimeNumbers → ExtendedKind → Option (Found TimeNumbers)
found rest t kind = Some (record { rest = rest; value = t; kind = kind })

-- a number without a fraction, from the parser's result
pub plain_number : (s rest : List ℕ) (v : ℕ) (f : Option (Bor (List ℕ)))
    → number s ≡ Some (rest, number_of v f) → f ≡ None → number s ≡ Some (rest, plain v)
plain_number s rest v f n e = n ∙ ap (λ (g : Option (Bor (List ℕ))). Some (rest, number_of v g)) e

pub number_and_fraction : (s rest : List ℕ) (v : ℕ) (f : Option (Bor (List ℕ))) (d : Bor (List ℕ))
    → number s ≡ Some (rest, number_of v f) → f ≡ Some d → number s ≡ Some (rest, fraction v d.now)
number_and_fraction s rest v f d n e = n ∙ ap (λ (g : Option (Bor (List ℕ))). Some (rest, number_of v g)) e

-- no number
pub no_hour : (kind : ExtendedKind) (b : List ℕ) → number b ≡ None → time_after kind b ≡ None
unfolding time_after
no_hour Basic b n = rw n refl
no_hour Extended b n = rw n refl
no_hour Unknown b n = rw n refl

-- a number above 23 for the hour
pub hour_past : (kind : ExtendedKind) (b m : List ℕ) (h : ℕ) (f : Option (Bor (List ℕ)))
    → number b ≡ Some (m, number_of h f) → 23 < h → time_after kind b ≡ None
unfolding time_after
hour_past Basic b m h None n p = rw (n, lt-leb h 23 p) refl
hour_past Basic b m h (Some d) n p = rw (n, lt-leb h 23 p) refl
hour_past Extended b m h None n p = rw (n, lt-leb h 23 p) refl
hour_past Extended b m h (Some d) n p = rw (n, lt-leb h 23 p) refl
hour_past Unknown b m h None n p = rw (n, lt-leb h 23 p) refl
hour_past Unknown b m h (Some d) n p = rw (n, lt-leb h 23 p) refl

-- an hour and a fraction
pub hour_and_fraction_stand : (kind : ExtendedKind) (b m d : List ℕ) (h : ℕ)
    → number b ≡ Some (m, fraction h d) → h ≤ 23
    → time_after kind b ≡ found m (past_hour (floor_of d 3_600_000_000_000) (hour_and_minute h 0)) kind
unfolding time_after
hour_and_fraction_stand kind b m d h n l = rw (n, le-leb h 23 l) refl

-- A whole hour, and the parts after it.
module _ (b m : List ℕ) (h : ℕ) (hour : number b ≡ Some (m, plain h)) (small : h ≤ 23) where
  -- nothing more
  pub hour_alone : (kind : ExtendedKind) → byte 58 m ≡ None → number m ≡ None
      → time_after kind b ≡ found m (hour_and_minute h 0) kind
  unfolding time_after
  hour_alone Basic c n = rw (hour, le-leb h 23 small, c, n) refl
  hour_alone Extended c n = rw (hour, le-leb h 23 small, c, n) refl
  hour_alone Unknown c n = rw (hour, le-leb h 23 small, c, n) refl

  -- a number above 59 for the minute
  pub minute_past : (kind : ExtendedKind) (r : List ℕ) (w : ℕ) (f : Option (Bor (List ℕ)))
      → byte 58 m ≡ None → number m ≡ Some (r, number_of w f) → 59 < w → time_after kind b ≡ None
  unfolding time_after
  minute_past Basic r w None c n p = rw (hour, le-leb h 23 small, c, n, lt-leb w 59 p) refl
  minute_past Basic r w (Some d) c n p = rw (hour, le-leb h 23 small, c, n, lt-leb w 59 p) refl
  minute_past Extended r w None c n p = rw (hour, le-leb h 23 small, c, n, lt-leb w 59 p) refl
  minute_past Extended r w (Some d) c n p = rw (hour, le-leb h 23 small, c, n, lt-leb w 59 p) refl
  minute_past Unknown r w None c n p = rw (hour, le-leb h 23 small, c, n, lt-leb w 59 p) refl
  minute_past Unknown r w (Some d) c n p = rw (hour, le-leb h 23 small, c, n, lt-leb w 59 p) refl

  -- a minute and a fraction
  pub minute_and_fraction_stand : (kind : ExtendedKind) (r d : List ℕ) (w : ℕ)
      → byte 58 m ≡ None → number m ≡ Some (r, fraction w d) → w ≤ 59
      → time_after kind b
      ≡ found r (past_minute (floor_of d 60_000_000_000) (hour_and_minute h w)) (basic_where_unknown kind)
  unfolding time_after
  minute_and_fraction_stand Basic r d w c n l = rw (hour, le-leb h 23 small, c, n, le-leb w 59 l) refl
  minute_and_fraction_stand Extended r d w c n l = rw (hour, le-leb h 23 small, c, n, le-leb w 59 l) refl
  minute_and_fraction_stand Unknown r d w c n l = rw (hour, le-leb h 23 small, c, n, le-leb w 59 l) refl

  -- A whole minute without separators, and after it: a number,
  basic_number : (kind : ExtendedKind) (r q : List ℕ) (w : ℕ) (s : Number) (t : Option TimeNumbers)
      → is_extended kind ≡ false → byte 58 m ≡ None → number m ≡ Some (r, plain w) → w ≤ 59
      → number r ≡ Some (q, s) → says any_second s (hour_and_minute h w) ≡ t
      → time_after kind b ≡ second_found (hour_and_minute h w) Basic (q, s)
  unfolding time_after
  basic_number Basic r q w s None k c n l e i = rw (hour, le-leb h 23 small, c, n, le-leb w 59 l, e, i) refl
  basic_number Basic r q w s (Some t) k c n l e i = rw (hour, le-leb h 23 small, c, n, le-leb w 59 l, e, i) refl
  basic_number Extended r q w s t k c n l e i = absurd (true≢false k)
  basic_number Unknown r q w s None k c n l e i = rw (hour, le-leb h 23 small, c, n, le-leb w 59 l, e, i) refl
  basic_number Unknown r q w s (Some t) k c n l e i = rw (hour, le-leb h 23 small, c, n, le-leb w 59 l, e, i) refl

  -- or no number
  pub minute_basic : (kind : ExtendedKind) (r : List ℕ) (w : ℕ) (s : Option (List ℕ × Number))
      → is_extended kind ≡ false → byte 58 m ≡ None → number m ≡ Some (r, plain w) → w ≤ 59 → number r ≡ s
      → time_after kind b ≡ basic_second (hour_and_minute h w) r s
  unfolding time_after
  minute_basic kind r w (Some f) k c n l e =
      basic_number kind r f.0 w f.1 (says any_second f.1 (hour_and_minute h w)) k c n l e refl
  minute_basic Basic r w None k c n l e = rw (hour, le-leb h 23 small, c, n, le-leb w 59 l, e) refl
  minute_basic Extended r w None k c n l e = absurd (true≢false k)
  minute_basic Unknown r w None k c n l e = rw (hour, le-leb h 23 small, c, n, le-leb w 59 l, e) refl

  -- A whole minute in an extended text, and after it: a colon and a number,
  extended_number : (kind : ExtendedKind) (r x q : List ℕ) (w : ℕ) (s : Number) (t : Option TimeNumbers)
      → is_extended kind ≡ true → byte 58 m ≡ None → number m ≡ Some (r, plain w) → w ≤ 59
      → byte 58 r ≡ Some x → number x ≡ Some (q, s) → says any_second s (hour_and_minute h w) ≡ t
      → time_after kind b ≡ second_found (hour_and_minute h w) Extended (q, s)
  unfolding time_after
  extended_number Basic r x q w s t k c n l z e i = absurd (false≢true k)
  extended_number Extended r x q w s None k c n l z e i =
      rw (hour, le-leb h 23 small, c, n, le-leb w 59 l, z, e, i) refl
  extended_number Extended r x q w s (Some t) k c n l z e i =
      rw (hour, le-leb h 23 small, c, n, le-leb w 59 l, z, e, i) refl
  extended_number Unknown r x q w s t k c n l z e i = absurd (false≢true k)

  -- a colon and no number,
  extended_colon : (kind : ExtendedKind) (r x : List ℕ) (w : ℕ) (s : Option (List ℕ × Number))
      → is_extended kind ≡ true → byte 58 m ≡ None → number m ≡ Some (r, plain w) → w ≤ 59
      → byte 58 r ≡ Some x → number x ≡ s
      → time_after kind b ≡ option_and_then (second_found (hour_and_minute h w) Extended) s
  unfolding time_after
  extended_colon kind r x w (Some f) k c n l z e =
      extended_number kind r x f.0 w f.1 (says any_second f.1 (hour_and_minute h w)) k c n l z e refl
  extended_colon Basic r x w None k c n l z e = absurd (false≢true k)
  extended_colon Extended r x w None k c n l z e = rw (hour, le-leb h 23 small, c, n, le-leb w 59 l, z, e) refl
  extended_colon Unknown r x w None k c n l z e = absurd (false≢true k)

  -- or no colon
  pub minute_extended : (kind : ExtendedKind) (r : List ℕ) (w : ℕ) (x : Option (List ℕ))
      → is_extended kind ≡ true → byte 58 m ≡ None → number m ≡ Some (r, plain w) → w ≤ 59 → byte 58 r ≡ x
      → time_after kind b ≡ extended_second (hour_and_minute h w) r x
  unfolding time_after
  minute_extended kind r w (Some x) k c n l z = extended_colon kind r x w (number x) k c n l z refl
  minute_extended Basic r w None k c n l z = absurd (false≢true k)
  minute_extended Extended r w None k c n l z = rw (hour, le-leb h 23 small, c, n, le-leb w 59 l, z) refl
  minute_extended Unknown r w None k c n l z = absurd (false≢true k)

  -- A colon after the hour, in a text without separators
  pub colon_basic : (kind : ExtendedKind) (y : List ℕ)
      → not_basic kind ≡ false → byte 58 m ≡ Some y → time_after kind b ≡ None
  unfolding time_after
  colon_basic Basic y k c = rw (hour, le-leb h 23 small, c, colon-no_number m y c) refl
  colon_basic Extended y k c = absurd (true≢false k)
  colon_basic Unknown y k c = absurd (true≢false k)

  -- or in another text, with no number after it
  pub colon_no_minute : (kind : ExtendedKind) (y : List ℕ)
      → not_basic kind ≡ true → byte 58 m ≡ Some y → number y ≡ None → time_after kind b ≡ None
  unfolding time_after
  colon_no_minute Basic y k c n = absurd (false≢true k)
  colon_no_minute Extended y k c n = rw (hour, le-leb h 23 small, c, colon-no_number m y c, n) refl
  colon_no_minute Unknown y k c n = rw (hour, le-leb h 23 small, c, colon-no_number m y c, n) refl

  -- or with a number above 59 after it
  pub colon_minute_past : (kind : ExtendedKind) (y r : List ℕ) (w : ℕ) (f : Option (Bor (List ℕ)))
      → not_basic kind ≡ true → byte 58 m ≡ Some y → number y ≡ Some (r, number_of w f) → 59 < w
      → time_after kind b ≡ None
  unfolding time_after
  colon_minute_past Basic y r w f k c n p = absurd (false≢true k)
  colon_minute_past Extended y r w None k c n p =
      rw (hour, le-leb h 23 small, c, colon-no_number m y c, n, lt-leb w 59 p) refl
  colon_minute_past Extended y r w (Some d) k c n p =
      rw (hour, le-leb h 23 small, c, colon-no_number m y c, n, lt-leb w 59 p) refl
  colon_minute_past Unknown y r w None k c n p =
      rw (hour, le-leb h 23 small, c, colon-no_number m y c, n, lt-leb w 59 p) refl
  colon_minute_past Unknown y r w (Some d) k c n p =
      rw (hour, le-leb h 23 small, c, colon-no_number m y c, n, lt-leb w 59 p) refl

  -- a minute and a fraction
  pub colon_minute_and_fraction : (kind : ExtendedKind) (y r d : List ℕ) (w : ℕ)
      → not_basic kind ≡ true → byte 58 m ≡ Some y → number y ≡ Some (r, fraction w d) → w ≤ 59
      → time_after kind b ≡ found r (past_minute (floor_of d 60_000_000_000) (hour_and_minute h w)) Extended
  unfolding time_after
  colon_minute_and_fraction Basic y r d w k c n l = absurd (false≢true k)
  colon_minute_and_fraction Extended y r d w k c n l =
      rw (hour, le-leb h 23 small, c, colon-no_number m y c, n, le-leb w 59 l) refl
  colon_minute_and_fraction Unknown y r d w k c n l =
      rw (hour, le-leb h 23 small, c, colon-no_number m y c, n, le-leb w 59 l) refl

  -- A whole minute after the colon, and after it a colon and a number,
  colon_number : (kind : ExtendedKind) (y r x q : List ℕ) (w : ℕ) (s : Number) (t : Option TimeNumbers)
      → not_basic kind ≡ true → byte 58 m ≡ Some y → number y ≡ Some (r, plain w) → w ≤ 59
      → byte 58 r ≡ Some x → number x ≡ Some (q, s) → says any_second s (hour_and_minute h w) ≡ t
      → time_after kind b ≡ second_found (hour_and_minute h w) Extended (q, s)
  unfolding time_after
  colon_number Basic y r x q w s t k c n l z e i = absurd (false≢true k)
  colon_number Extended y r x q w s None k c n l z e i =
      rw (hour, le-leb h 23 small, c, colon-no_number m y c, n, le-leb w 59 l, z, e, i) refl
  colon_number Extended y r x q w s (Some t) k c n l z e i =
      rw (hour, le-leb h 23 small, c, colon-no_number m y c, n, le-leb w 59 l, z, e, i) refl
  colon_number Unknown y r x q w s None k c n l z e i =
      rw (hour, le-leb h 23 small, c, colon-no_number m y c, n, le-leb w 59 l, z, e, i) refl
  colon_number Unknown y r x q w s (Some t) k c n l z e i =
      rw (hour, le-leb h 23 small, c, colon-no_number m y c, n, le-leb w 59 l, z, e, i) refl

  -- a colon and no number,
  colon_colon : (kind : ExtendedKind) (y r x : List ℕ) (w : ℕ) (s : Option (List ℕ × Number))
      → not_basic kind ≡ true → byte 58 m ≡ Some y → number y ≡ Some (r, plain w) → w ≤ 59
      → byte 58 r ≡ Some x → number x ≡ s
      → time_after kind b ≡ option_and_then (second_found (hour_and_minute h w) Extended) s
  unfolding time_after
  colon_colon kind y r x w (Some f) k c n l z e =
      colon_number kind y r x f.0 w f.1 (says any_second f.1 (hour_and_minute h w)) k c n l z e refl
  colon_colon Basic y r x w None k c n l z e = absurd (false≢true k)
  colon_colon Extended y r x w None k c n l z e =
      rw (hour, le-leb h 23 small, c, colon-no_number m y c, n, le-leb w 59 l, z, e) refl
  colon_colon Unknown y r x w None k c n l z e =
      rw (hour, le-leb h 23 small, c, colon-no_number m y c, n, le-leb w 59 l, z, e) refl

  -- or no colon
  pub colon_minute : (kind : ExtendedKind) (y r : List ℕ) (w : ℕ) (x : Option (List ℕ))
      → not_basic kind ≡ true → byte 58 m ≡ Some y → number y ≡ Some (r, plain w) → w ≤ 59 → byte 58 r ≡ x
      → time_after kind b ≡ extended_second (hour_and_minute h w) r x
  unfolding time_after
  colon_minute kind y r w (Some x) k c n l z = colon_colon kind y r x w (number x) k c n l z refl
  colon_minute Basic y r w None k c n l z = absurd (false≢true k)
  colon_minute Extended y r w None k c n l z =
      rw (hour, le-leb h 23 small, c, colon-no_number m y c, n, le-leb w 59 l, z) refl
  colon_minute Unknown y r w None k c n l z =
      rw (hour, le-leb h 23 small, c, colon-no_number m y c, n, le-leb w 59 l, z) refl
