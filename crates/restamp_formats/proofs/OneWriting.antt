-- A moment has exactly one text in a form.
use Rattle.std.proofs.Common.{Option, Result, MatchOption, MatchBool, option_map, ◌≡◌, ℕ, ℤ, List, sym, ap, subst, refl, arith, ◌∙◌, None, Some, Ok, Err, ◌+◌, ◌≤◌, Bool, true, false, length, take, drop}
use Rattle.std.proofs.lemmas.Int.{ints}
use Rattle.time_values.specs.Instants.{clock_nanos}
use Rattle.time_values.proofs.{InstantLemmas.instant_is, InstantLemmas.clock_nanos_range, InstantLemmas.same_moment, NumberLemmas.same_weekday}
use Rattle.time_zones.specs.{Suffix.ParsesSuffix, Suffix.zone_tag_of, declared.suffix.Suffixed.Suffixed}
use Rattle.time_zones.proofs.{FolderLemmas.same_offset_by_seconds, FolderLemmas.one_check, LongestLemmas.suffix_once}
use Rattle.time_formatting.specs.WellKnown.{mail_text}
use Rattle.restamp_formats.specs.Common.{TimeZone, local_time_at, offset_date, offset_time, offset_of, offset_instant, IsInstant, IsWhole, greatest_year, Items, OffsetDateTime, UtcOffset, trailing, Checked, AgreesWith, IsLongest, IsSuffix, Tag, critical_key, Zones, WritesTextWith, IsMailText, FractionDigits, Unwritable, Clock, Form, Named, Writing, Match}
use Rattle.restamp_formats.specs.Zoned.{IsConvertedTo, IsConvertedIn, IsConverted, conversion_error, IsChecked, IsLongestSuffix, IsSuffixed, Suffix, checked, extended, has_tail, has_local_offset}
use Rattle.restamp_formats.specs.Form.{IsCount, counted, IsNamedText, IsWrittenBy, IsWritten, unit_of, written}
use Rattle.restamp_formats.specs.{Reason.Reason, Reason.unread, declared.form.Unit.Unit as Unit_}

-- Two values that satisfy a property which only one value satisfies are equal, also if the property is one of two by an
-- option or a truth value.
pub both_are : {X : Type 0} {x y z : X} → x ≡ z → y ≡ z → x ≡ y
both_are p q = p ∙ sym q

pub one_option : {V X : Type 0} (o : Option V) (P : X → Type 0) (Q : V → X → Type 0) (x y : X)
    → (P x → P y → x ≡ y) → ((v : V) → Q v x → Q v y → x ≡ y)
    → MatchOption o (P x) (λ v. Q v x) → MatchOption o (P y) (λ v. Q v y) → x ≡ y
one_option None P Q x y none some p q = none p q
one_option (Some v) P Q x y none some p q = some v p q

pub one_bool : {X : Type 0} (b : Bool) (P Q : X → Type 0) (x y : X)
    → (P x → P y → x ≡ y) → (Q x → Q y → x ≡ y) → MatchBool b (P x) (Q x) → MatchBool b (P y) (Q y) → x ≡ y
one_bool true P Q x y one other p q = one p q
one_bool false P Q x y one other p q = other p q

-- the local date and time of a moment
clock_is : (v : OffsetDateTime)
    → clock_nanos greatest_year (offset_date v) (offset_time v) ≡ local_time_at (offset_instant greatest_year v) (offset_of v)
clock_is v = let e = instant_is (offset_date v) (offset_time v) (offset_of v) in omega (arith, ints, e)

-- moments with one instant and one offset are equal
pub same_shown : (v w : OffsetDateTime)
    → offset_instant greatest_year v ≡ offset_instant greatest_year w → offset_of v ≡ offset_of w → v ≡ w
same_shown v w e o =
    let clocks : clock_nanos greatest_year (offset_date v) (offset_time v) ≡ clock_nanos greatest_year (offset_date w) (offset_time w) =
    clock_is v ∙ ap (λ n. local_time_at n (offset_of v)) e ∙ ap (local_time_at (offset_instant greatest_year w)) o ∙ sym (clock_is w) in
    let parts = same_moment (offset_date v) (offset_date w) (offset_time v) (offset_time w) clocks in
    λ j. record { date = parts.0 j; time = parts.1 j; offset = o j }

-- a moment has a date at its own offset
pub converted_in : (v : OffsetDateTime) → IsInstant greatest_year (local_time_at (offset_instant greatest_year v) (offset_of v))
converted_in v = subst (IsInstant greatest_year) (clock_is v) (clock_nanos_range (offset_date v) (offset_time v))

-- a moment has a date at the offset that it is converted to
date_at : (o : UtcOffset) (v w : OffsetDateTime) → IsConvertedTo o v (Some w)
    → IsInstant greatest_year (local_time_at (offset_instant greatest_year v) o)
date_at o v w is =
    subst (λ n. IsInstant greatest_year (local_time_at n o)) is.0
    (subst (λ k. IsInstant greatest_year (local_time_at (offset_instant greatest_year w) k)) is.1 (converted_in w))

one_shown_at : (o : UtcOffset) (v : OffsetDateTime) (a b : Option OffsetDateTime)
    → IsConvertedTo o v a → IsConvertedTo o v b → a ≡ b
one_shown_at o v None None p q = refl
one_shown_at o v None (Some w) p q = absurd (p (date_at o v w q))
one_shown_at o v (Some w) None p q = absurd (q (date_at o v w p))
one_shown_at o v (Some w) (Some x) p q = ap Some (same_shown w x (p.0 ∙ sym q.0) (p.1 ∙ sym q.1))

one_shown_in : (zone : TimeZone) (v : OffsetDateTime) (a b : Option OffsetDateTime)
    → IsConvertedIn zone v a → IsConvertedIn zone v b → a ≡ b
one_shown_in zone v None None p q = refl
one_shown_in zone v None (Some w) p q = absurd (p q.1)
one_shown_in zone v (Some w) None p q = absurd (q p.1)
one_shown_in zone v (Some w) (Some x) p q =
    ap Some (same_shown w x (p.0 ∙ sym q.0) (same_offset_by_seconds (offset_of w) (offset_of x) (p.2 ∙ sym q.2)))

pub one_shown : (on : Clock) (v : OffsetDateTime) (a b : Option OffsetDateTime)
    → IsConverted on v a → IsConverted on v b → a ≡ b
one_shown Clock.Own v a b p q = p ∙ sym q
one_shown (Clock.Fixed o) v a b p q = one_shown_at o v a b p q
one_shown (Clock.Zone zone) v a b p q = one_shown_in zone v a b p q

same_items : (s t : Items) → s.items ≡ t.items → s ≡ t
same_items s t e = λ j. record { items = e j }

one_such : (reason : Option Unwritable) (such : List ℕ → Type 0) (a b : Result Items Unwritable)
    → ((s t : List ℕ) → such s → such t → s ≡ t) → WritesTextWith reason such a → WritesTextWith reason such b → a ≡ b
one_such (Some why) such a b one p q = p ∙ sym q
one_such None such (Ok s) (Ok t) one p q = ap Ok (same_items s t (one s.items t.items p q))
one_such None such (Ok s) (Err e) one p q = absurd q
one_such None such (Err e) b one p q = absurd p

one_mail_text : (v : OffsetDateTime) (s t : List ℕ) → IsMailText v s → IsMailText v t → s ≡ t
one_mail_text v s t p q = p.2 ∙ ap (λ w. mail_text w v) (same_weekday p.0 q.0 (p.1 ∙ sym q.1)) ∙ sym q.2

one_whole : (unit : Unit_) (n x y : ℤ) → IsWhole (unit_of unit) n x → IsWhole (unit_of unit) n y → x ≡ y
one_whole unit n x y p q = grind (arith, ints)

one_count : (unit : Unit_) (v : OffsetDateTime) (a b : Option ℤ) → IsCount unit v a → IsCount unit v b → a ≡ b
one_count unit v None None p q = refl
one_count unit v None (Some y) p q = absurd (p q.0)
one_count unit v (Some x) None p q = absurd (q p.0)
one_count unit v (Some x) (Some y) p q = ap Some (one_whole unit (offset_instant greatest_year v) x y p.1 q.1)

one_named : (named : Named) (digits : FractionDigits) (v : OffsetDateTime) (a b : Result Items Reason)
    → IsNamedText named digits v a → IsNamedText named digits v b → a ≡ b
one_named Named.Rfc3339 digits v a b p q = p.2 ∙ ap written (one_such _ (λ t. t ≡ _) p.0 q.0 (λ s t. both_are) p.1 q.1) ∙ sym q.2
one_named Named.Rfc2822 digits v a b p q = p.2 ∙ ap written (one_such _ (IsMailText v) p.0 q.0 (one_mail_text v) p.1 q.1) ∙ sym q.2
one_named Named.Iso8601 digits v a b p q = p.2 ∙ ap written (one_such _ (λ t. t ≡ _) p.0 q.0 (λ s t. both_are) p.1 q.1) ∙ sym q.2
one_named (Named.Count unit) digits v a b p q = p.2 ∙ ap counted (one_count unit v p.0 q.0 p.1 q.1) ∙ sym q.2

one_by : (writing : Writing) (digits : FractionDigits) (v : OffsetDateTime) (a b : Result Items Reason)
    → IsWrittenBy writing digits v a → IsWrittenBy writing digits v b → a ≡ b
one_by (Writing.Named named) digits v a b p q = one_named named digits v a b p q
one_by (Writing.Described d) digits v a b p q = p ∙ sym q

pub one_written : (form : Form) (v : OffsetDateTime) (a b : Result Items Reason)
    → IsWritten form v a → IsWritten form v b → a ≡ b
one_written form v a b p q =
    one_option q.0 (λ x. x ≡ Err (conversion_error form.clock)) (λ w x. IsWrittenBy form.writing.now form.digits w x) a b both_are
    (λ w. one_by form.writing.now form.digits w a b)
    (subst (λ (shown : Option OffsetDateTime). MatchOption shown (a ≡ Err (conversion_error form.clock))
    (λ w. IsWrittenBy form.writing.now form.digits w a)) (one_shown form.clock v p.0 q.0 p.1 q.1) p.2) q.2

-- ---- A timestamp with a suffix: the longest suffix after it is unique, and so is the match of both

pub one_suffix : (bytes : List ℕ) (s t : Suffix) → IsLongestSuffix bytes s → IsLongestSuffix bytes t → s ≡ t
one_suffix bytes s t h k =
    let most : s.len ≤ t.len = k.longest s.len s.zone s.tags h.within h.is_suffix in
    let least : t.len ≤ s.len = h.longest t.len t.zone t.tags k.within k.is_suffix in
    let len : s.len ≡ t.len = omega arith in
    let same = suffix_once (take t.len bytes) s.zone t.zone s.tags t.tags
    (subst (λ (n : ℕ). IsSuffix (take n bytes) s.zone s.tags) len h.is_suffix) k.is_suffix in
    λ i. record { len = len i; zone = same.0 i; tags = same.1 i }

module _ (zones : Zones) (text : List ℕ) (front : Match) where
  one_checked : (s : Suffix) (a b : Result Match Reason) → IsChecked zones text front s a → IsChecked zones text front s b → a ≡ b
  one_checked s a b p q =
      p.2 ∙ ap (checked (extended front s.len))
      (one_check zones (has_local_offset (take front.length text)) front.moment s.zone (critical_key s.tags) p.0 q.0 p.1 q.1) ∙ sym q.2

  pub one_suffixed : (is_prefix : Bool) (a b : Result Match Reason) → IsSuffixed zones is_prefix text front a
      → IsSuffixed zones is_prefix text front b → a ≡ b
  one_suffixed is_prefix a b p q =
      one_bool (has_tail is_prefix text (front.length + q.0.len)) (λ x. x ≡ Err (unread trailing)) (λ x. IsChecked zones text front q.0 x) a b
      both_are (one_checked q.0 a b)
      (subst (λ (s : Suffix). MatchBool (has_tail is_prefix text (front.length + s.len)) (a ≡ Err (unread trailing))
      (IsChecked zones text front s a)) (one_suffix (drop front.length text) p.0 q.0 p.1 q.1) p.2) q.2

-- the suffix that was parsed, with these tags
abbrev pub suffix_of : Suffixed → List Tag → Suffix
suffix_of r tags = record { len = r.len; zone = option_map zone_tag_of r.zone; tags = tags }

-- that suffix is the longest one after a prefix, and decides the match of the text
pub read-longest : (text : List ℕ) (front : Match) (r : Suffixed) (rest : List ℕ) → rest ≡ drop front.length text → r.len ≤ length rest
    → (says : ParsesSuffix (take r.len rest) r) → IsLongest rest r.len → IsLongestSuffix (drop front.length text) (suffix_of r says.0)
read-longest text front r rest cut within says longest =
    subst (λ (bytes : List ℕ). IsLongestSuffix bytes (suffix_of r says.0)) cut
    (record { within = within; is_suffix = says.1; longest = longest })

module _ (zones : Zones) (is_prefix : Bool) (text : List ℕ) (front : Match) (r : Suffixed) (rest : List ℕ)
    (cut : rest ≡ drop front.length text) (within : r.len ≤ length rest) (says : ParsesSuffix (take r.len rest) r)
    (longest : IsLongest rest r.len) where
  found : IsLongestSuffix (drop front.length text) (suffix_of r says.0)
  found = read-longest text front r rest cut within says longest

  pub read-refused : has_tail is_prefix text (front.length + r.len) ≡ true → IsSuffixed zones is_prefix text front (Err (unread trailing))
  read-refused tail = (suffix_of r says.0, found, rw tail refl)

  pub read-checked : (tells : Bool) (answer : Checked) → has_tail is_prefix text (front.length + r.len) ≡ false
      → tells ≡ has_local_offset (take front.length text)
      → AgreesWith zones tells front.moment (option_map zone_tag_of r.zone) (option_map (λ key. key.now) r.critical_key) answer
      → IsSuffixed zones is_prefix text front (checked (extended front r.len) answer)
  read-checked tells answer tail is goes =
      let by_tags = subst (λ (key : Option (List ℕ)). AgreesWith zones tells front.moment (option_map zone_tag_of r.zone) key answer) says.2 goes in
      let by_front = subst (λ (b : Bool). AgreesWith zones b front.moment (option_map zone_tag_of r.zone) (critical_key says.0) answer) is by_tags in
      (suffix_of r says.0, found, rw tail (answer, by_front, refl))
