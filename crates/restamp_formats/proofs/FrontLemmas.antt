-- A moment of RFC 3339 that is all of some bytes is also a prefix of more.
use Rattle.std.proofs.Common.{◌≡◌, ◌≤◌, ◌-◌, ◌∙◌, ℕ, ℤ, Bool, IsTrue, true, false, List, [], ◌∷◌, ◌++◌, length, take, drop, length-drop, take-append-drop, ap, refl, subst, inl, inr, arith, append_assoc, Option, Some, None, Ok, ◌+◌, Err, sym, length-append, nat_lt, ◌&&◌}
use Rattle.std.proofs.{Math.Seq.take-length, Math.Seq.take-append_seam, Math.Seq.drop-append_seam, lemmas.Bool.and_parts, lemmas.Bool.Decides.nat_tests}
use Rattle.std.specs.Char.{to_ascii_lowercase}
use Rattle.time_zones.specs.Suffix.{is_time_end}
use Rattle.time_digits.specs.Digits.{Cut, IsDigit, IsDigitRun, NoDigitFirst, sign_byte}
use Rattle.time_readers.specs.Rfc3339.{PlaceSyntax, HasForm, IsOffsetColon, IsOffsetMinute, IsSubsecond, NoDotFirst, date_places, nothing_read, offset_places, time_places, to_second_places}
use Rattle.time_readers.specs.{Readers.MatchesPlaces, declared.rfc3339.Numbers.Numbers, declared.rfc3339.Place.Place}
use Rattle.time_readers.proofs.Walking.{MatchesPlaces-append, MatchesPlaces-ends, MatchesPlaces-split}
use Rattle.time_parsing.specs.Iso8601 as Iso8601
use Rattle.time_parsing.specs.Rfc3339Strict.{Reads, Refuses}
use Rattle.time_parsing.proofs.StrictTexts.{separator-append, strict_texts}
use Rattle.restamp_formats.specs.Common.{greatest_year, OffsetDateTime, UtcOffset, Record, is_some, AgreesWith, IsSuffix, Tag, ZoneTag, critical_key, Zones, RefusesDirectly, empty, IsMoment, IsOutcome, IsFront, direct, Defaults, Match, Reading}
use Rattle.restamp_formats.specs.Zoned.{IsLongestSuffix, IsSuffixed, Suffix, has_tail, has_local_offset}
use Rattle.restamp_formats.specs.{Reading.IsReadBy, Reading.IsReadInFront, Reading.IsReadWith, Reading.said, Reading.with_offset, Reading.with_year, Reading.ParsesAs, Laws.ReadsSuffixedBack}
use Rattle.restamp_formats.proofs.OneReading.{one_has}

-- places without a fraction
abbrev is_plain : Place → Bool
is_plain Place.Subsecond = false
is_plain p = true

abbrev are_plain : List Place → Bool
are_plain [] = true
are_plain (p ∷ ps) = is_plain p && are_plain ps

module _ (tail : List ℕ) where
  no_digit : (xs : List ℕ) → 1 ≤ length xs → NoDigitFirst xs → NoDigitFirst (xs ++ tail)
  no_digit [] some first = absurd (omega (arith, some))
  no_digit (x ∷ xs) some first = first

  no_dot : (xs : List ℕ) → 1 ≤ length xs → NoDotFirst xs → NoDotFirst (xs ++ tail)
  no_dot [] some first = absurd (omega (arith, some))
  no_dot (x ∷ xs) some first = first

  -- a run of digits of one width is one before more bytes too
  run : (width : ℕ) (text xs : List ℕ) (v : ℕ) → IsDigitRun width width text xs v → IsDigitRun width width text (xs ++ tail) v
  run width text xs v h = record {
    digits = h.digits;
    enough = h.enough;
    within = h.within;
    ends = inl (omega (arith, h.enough, h.within));
    is = h.is;
  }

  subsecond : (text xs : List ℕ) (v : Option ℕ) → 1 ≤ length xs → IsSubsecond text xs v → IsSubsecond text (xs ++ tail) v
  subsecond text xs None some h = (h.0, no_dot xs some h.1)
  subsecond text xs (Some v) some h =
      (h.0, h.1, record { digits = h.2.digits; enough = h.2.enough; ends = no_digit xs some h.2.ends; is = h.2.is })

  offset_minute : (utc : Bool) (n m : Numbers) (text xs : List ℕ) → IsOffsetMinute true utc n text xs m
      → IsOffsetMinute true utc n text (xs ++ tail) m
  offset_minute true n m text xs h = h
  offset_minute false n m text xs h = (h.0, (run 2 text xs h.0 h.1.0, h.1.1), h.2)

  -- a place keeps its syntax if more bytes follow
  asked : (p : Place) (n m : Numbers) (text xs : List ℕ) → (is_plain p ≡ false → 1 ≤ length xs) → PlaceSyntax true p n text xs m
      → PlaceSyntax true p n text (xs ++ tail) m
  asked Place.Year n m text xs some h = (h.0, run 4 text xs h.0 h.1, h.2)
  asked Place.Month n m text xs some h = (h.0, (run 2 text xs h.0 h.1.0, h.1.1), h.2, h.3)
  asked Place.Day n m text xs some h = (h.0, (run 2 text xs h.0 h.1.0, h.1.1), h.2)
  asked Place.Hour n m text xs some h = (h.0, (run 2 text xs h.0 h.1.0, h.1.1), h.2)
  asked Place.Minute n m text xs some h = (h.0, (run 2 text xs h.0 h.1.0, h.1.1), h.2)
  asked Place.Second n m text xs some h = (h.0, (run 2 text xs h.0 h.1.0, h.1.1), h.2)
  asked Place.Subsecond n m text xs some h = (h.0, subsecond text xs h.0 (some refl) h.1, h.2)
  asked Place.OffsetHour n m text xs some (inl utc) = inl utc
  asked Place.OffsetHour n m text xs some (inr signed) = inr (record {
    sign = signed.sign;
    digits = signed.digits;
    hour = signed.hour;
    cut = signed.cut;
    run = (run 2 signed.digits xs signed.hour signed.run.0, signed.run.1);
    says = signed.says;
  })
  asked Place.OffsetMinute n m text xs some h = offset_minute n.is_utc n m text xs h
  asked p n m text xs some h = h

  cut : (p : Place) (n m : Numbers) (bytes xs : List ℕ) → (is_plain p ≡ false → 1 ≤ length xs) → Cut (PlaceSyntax true p n) bytes xs m
      → Cut (PlaceSyntax true p n) (bytes ++ tail) (xs ++ tail) m
  cut p n m bytes xs some h =
      (h.0, ap (λ x. x ++ tail) h.1 ∙ append_assoc h.0 xs tail, asked p n m h.0 xs some h.2)

  stand : (ps : List Place) (n m : Numbers) (bytes rest : List ℕ) → are_plain ps ≡ true → MatchesPlaces (PlaceSyntax true) ps n bytes rest m
      → MatchesPlaces (PlaceSyntax true) ps n (bytes ++ tail) (rest ++ tail) m
  unfolding MatchesPlaces
  stand [] n m bytes rest plain s = (ap (λ x. x ++ tail) s.0, s.1)
  stand (p ∷ ps) n m bytes rest plain s =
      let parts = and_parts (is_plain p) (are_plain ps) plain in
      (s.0 ++ tail, s.1, cut p n s.1 bytes s.0 (λ is. absurd (let plain = parts.0 in cc)) s.2, stand ps s.1 m s.0 rest parts.1 s.3)

  -- an offset has at least one byte
  offset_long : (n m : Numbers) (bytes rest : List ℕ) → Cut (PlaceSyntax true Place.OffsetHour n) bytes rest m → 1 ≤ length bytes
  offset_long n m bytes rest (text, is, inl utc) =
      let long : length bytes ≡ length (utc.0.0 ∷ rest) = ap length (is ∙ ap (λ x. x ++ rest) utc.0.1) in omega (arith, long)
  offset_long n m bytes rest (text, is, inr signed) =
      let long = ap length (is ∙ ap (λ x. x ++ rest) signed.cut) in omega (arith, long)

  form : (bytes : List ℕ) (n : Numbers) → HasForm true bytes [] n → HasForm true (bytes ++ tail) tail n
  unfolding MatchesPlaces
  form bytes n h =
      let first = MatchesPlaces-split (PlaceSyntax true) to_second_places (Place.Subsecond ∷ offset_places) nothing_read n bytes [] h in
      let mid = first.0 in
      let k = first.1.0 in
      let s = first.1.2 in
      let long = offset_long s.1 s.3.1 s.0 s.3.0 s.3.2 in
      MatchesPlaces-append (PlaceSyntax true) to_second_places (Place.Subsecond ∷ offset_places) nothing_read k n (bytes ++ tail) (mid ++ tail) tail
      (stand to_second_places nothing_read k bytes mid refl first.1.1)
      (s.0 ++ tail, s.1, cut Place.Subsecond k s.1 mid s.0 (λ is. long) s.2, stand offset_places s.1 n s.0 [] refl s.3)

-- The moment of all the bytes is that of a prefix of more.
pub front-moment : (bytes tail : List ℕ) (v : OffsetDateTime)
    → IsOutcome (IsMoment greatest_year) (Reads greatest_year) (Refuses greatest_year) bytes empty (Ok v)
    → IsFront (IsMoment greatest_year) (Reads greatest_year) (Refuses greatest_year) (bytes ++ tail) empty (Ok (v, tail))
front-moment bytes tail v (r, read, moment) =
    let (separator, (n, m, whole, month, put)) = (strict_texts greatest_year bytes empty [] r).0 read in (
      r,
      (strict_texts greatest_year (bytes ++ tail) empty tail r).1
          (separator-append bytes tail separator, (n, m, form tail bytes n whole, month, put)),
      moment,
    )

-- a prefix of a text parses as the moment
pub front_said : (text : List ℕ) (end : ℕ) (v : OffsetDateTime) → end ≤ length text
    → IsOutcome (IsMoment greatest_year) (Reads greatest_year) (Refuses greatest_year) (take end text) empty (Ok v)
    → IsReadBy true (direct (RefusesDirectly greatest_year)) (Reads greatest_year) (Refuses greatest_year) text (Ok (said v end))
front_said text end v fits moment =
    let rest = drop end text in
    let long : end ≡ length text - length rest = omega (arith, fits, length-drop end text) in (
      Ok (v, rest),
      subst (λ (b : List ℕ). IsFront (IsMoment greatest_year) (Reads greatest_year) (Refuses greatest_year) b empty (Ok (v, rest)))
          (take-append-drop end text) (front-moment (take end text) rest v moment),
      ap (λ (k : ℕ). Ok (said v k)) long,
    )

-- ---- A text of ISO 8601 with a year and an offset

-- the defaults change no record with a year and the hour of an offset
unchanged : (year : Option ℤ) (offset : Option UtcOffset) (r : Record) → is_some r.year ≡ true → is_some r.offset_hour ≡ true
    → with_offset offset (with_year year r) ≡ r
unchanged None None r has_year has_offset = refl
unchanged None (Some o) r has_year has_offset = rw has_offset refl
unchanged (Some y) None r has_year has_offset = rw has_year refl
unchanged (Some y) (Some o) r has_year has_offset = rw (has_year, has_offset) refl

-- a moment before the rest of a text, with any defaults; if the rest is empty, it is the moment of the whole text
pub front_completed : (is_prefix : Bool) (text rest : List ℕ) (v : OffsetDateTime) (defaults : Defaults)
    → Iso8601.ReadsMoment greatest_year text v rest → (is_prefix ≡ false → rest ≡ [])
    → IsReadWith is_prefix (Iso8601.Reads greatest_year) (Iso8601.Refuses greatest_year) text defaults
    (Ok (said v (length text - length rest)))
front_completed true text rest v defaults (r, read, moment, year, offset) whole =
    let same = unchanged defaults.year defaults.offset r year offset in (
      Ok (v, rest),
      (r, read, subst (λ (q : Record). IsMoment greatest_year q (Ok v)) (sym same) moment),
      refl,
    )
front_completed false text rest v defaults (r, read, moment, year, offset) whole =
    let same = unchanged defaults.year defaults.offset r year offset in
    let none = whole refl in
    let long : length text - length rest ≡ length text = omega (arith, ap length none) in (
      Ok v,
      (
        r,
        subst (λ (l : List ℕ). Iso8601.Reads greatest_year text empty l r) none read,
        subst (λ (q : Record). IsMoment greatest_year q (Ok v)) (sym same) moment,
      ),
      ap (λ (n : ℕ). Ok (said v n)) long,
    )

-- ---- A timestamp at the start of a text ends with a digit or the letter of UTC

-- the timestamp before the rest ends with such a byte
pub record EndsBefore (text rest : List ℕ) : Type 0 where
  pub before : List ℕ
  pub end : ℕ
  pub is_end : IsTrue (is_time_end end)
  pub whole : text ≡ before ++ end ∷ rest

ends_longer : (front text rest longer : List ℕ) → longer ≡ front ++ text → EndsBefore text rest → EndsBefore longer rest
ends_longer front text rest longer e ends = record {
  before = front ++ ends.before;
  end = ends.end;
  is_end = ends.is_end;
  whole = e ∙ ap (λ (l : List ℕ). front ++ l) ends.whole ∙ sym (append_assoc front ends.before (ends.end ∷ rest));
}

digit_ends : (b : ℕ) → IsDigit b → is_time_end b ≡ true
digit_ends b h = grind (arith, nat_tests)

zulu_ends : (b : ℕ) → to_ascii_lowercase b ≡ to_ascii_lowercase 90 → is_time_end b ≡ true
zulu_ends b h = grind (arith, nat_tests)

run_ends : (text after rest : List ℕ) (v : ℕ) → IsDigitRun 2 2 text after v → EndsBefore (text ++ rest) rest
run_ends [] after rest v h = absurd (omega (arith, h.enough))
run_ends (a ∷ []) after rest v h = absurd (omega (arith, h.enough))
run_ends (a ∷ b ∷ []) after rest v h = record { before = a ∷ []; end = b; is_end = digit_ends b h.digits.1.0; whole = refl }
run_ends (a ∷ b ∷ c ∷ text) after rest v h = absurd (omega (arith, h.within))

hour_ends : (n m : Numbers) (bytes rest : List ℕ) → Cut (PlaceSyntax true Place.OffsetHour n) bytes rest m → EndsBefore bytes rest
hour_ends n m bytes rest (text, e, inl utc) = record {
  before = [];
  end = utc.0.0;
  is_end = zulu_ends utc.0.0 utc.0.2;
  whole = e ∙ ap (λ x. x ++ rest) utc.0.1;
}
hour_ends n m bytes rest (text, e, inr signed) =
    ends_longer (sign_byte signed.sign ∷ []) (signed.digits ++ rest) rest bytes (e ∙ ap (λ x. x ++ rest) signed.cut)
    (run_ends signed.digits rest rest signed.hour signed.run.0)

minute_ends : (utc : Bool) (n m : Numbers) (bytes mid next last colon minute : List ℕ) → EndsBefore bytes mid → mid ≡ colon ++ next
    → IsOffsetColon utc colon → next ≡ minute ++ last → IsOffsetMinute true utc n minute last m → EndsBefore bytes last
minute_ends true n m bytes mid next last colon minute ends e is f asks =
    subst (EndsBefore bytes) (e ∙ ap (λ x. x ++ next) is ∙ f ∙ ap (λ x. x ++ last) asks.0) ends
minute_ends false n m bytes mid next last colon minute ends e is f asks =
    ends_longer (ends.before ++ ends.end ∷ colon) next last bytes
    (ends.whole ∙ ap (λ x. ends.before ++ ends.end ∷ x) e ∙ sym (append_assoc ends.before (ends.end ∷ colon) next))
    (subst (λ x. EndsBefore x last) (sym f) (run_ends minute last last asks.0 asks.1.0))

offset_ends : (n m : Numbers) (bytes rest : List ℕ) → MatchesPlaces (PlaceSyntax true) offset_places n bytes rest m → EndsBefore bytes rest
unfolding MatchesPlaces
offset_ends n m bytes rest (mid, k, hour, (next, j, (colon, e, (is, same)), (last, i, (minute, f, asks), (ended, all)))) =
    subst (EndsBefore bytes) (sym ended)
    (minute_ends j.is_utc j i bytes mid next last colon minute (hour_ends n k bytes mid hour) e
    (subst (λ (now : Numbers). IsOffsetColon now.is_utc colon) (sym same) is) f asks)

form_ends : (bytes rest : List ℕ) (n : Numbers) → HasForm true bytes rest n → EndsBefore bytes rest
form_ends bytes rest n h =
    let cut = MatchesPlaces-split (PlaceSyntax true) (date_places ++ time_places) offset_places nothing_read n bytes rest h in
    let before = MatchesPlaces-ends (PlaceSyntax true) (date_places ++ time_places) nothing_read cut.1.0 bytes cut.0 cut.1.1 in
    ends_longer before.0 cut.0 rest bytes before.1 (offset_ends cut.1.0 n cut.0 rest cut.1.2)

what_is_left : (text rest : List ℕ) (ends : EndsBefore text rest) → drop (length text - length rest) text ≡ rest
what_is_left text rest ends =
    let front = ends.before ++ ends.end ∷ [] in
    let whole : text ≡ front ++ rest = ends.whole ∙ sym (append_assoc ends.before (ends.end ∷ []) rest) in
    let long : length text - length rest ≡ length front = omega (arith, ap length whole, length-append front rest) in
    ap (λ (n : ℕ). drop n text) long ∙ ap (drop (length front)) whole ∙ drop-append_seam front rest

pub front_ends : (text : List ℕ) (s : Match) → IsReadInFront text (Ok s) → EndsBefore text (drop s.length text)
front_ends text s (Ok (v, rest), (r, read, moment), e) =
    let form = ((strict_texts greatest_year text empty rest r).0 read).1 in
    let ends = form_ends text rest form.0 form.2 in
    let same : s ≡ said v (length text - length rest) = cc in
    subst (EndsBefore text) (sym (ap (λ (x : Match). drop x.length text) same ∙ what_is_left text rest ends)) ends
front_ends text s (Err f, front, e) = absurd cc

-- ---- A text of RFC 3339 with a suffix that fits its moment parses back

-- the moment of a whole text
whole-moment : (text : List ℕ) (defaults : Defaults) (v : OffsetDateTime)
    → ParsesAs Reading.Rfc3339 false text defaults (Ok (said v (length text)))
    → IsOutcome (IsMoment greatest_year) (Reads greatest_year) (Refuses greatest_year) text empty (Ok v)
whole-moment text defaults v (Ok s, (Ok w, outcome, zoned_whole), is) =
    let same : said v (length text) ≡ said w (length text) = cc in
    subst (λ (u : OffsetDateTime). IsOutcome (IsMoment greatest_year) (Reads greatest_year) (Refuses greatest_year) text empty (Ok u))
    (sym (ap (λ (x : Match). x.moment) same)) outcome
whole-moment text defaults v (Ok s, (Err e, outcome, zoned_whole), is) = absurd cc
whole-moment text defaults v (Err e, read, is) = absurd cc

none_left : (n m : ℕ) → m ≡ n → nat_lt n m ≡ false
none_left n m e = grind (arith, nat_tests)

module _ (zones : Zones) (v : OffsetDateTime) (text behind : List ℕ) (zone : Option ZoneTag) (tags : List Tag) where
  abbrev zoned_whole : List ℕ
  zoned_whole = text ++ behind

  abbrev suffix : Suffix
  suffix = record { len = length behind; zone = zone; tags = tags }

  longest : IsSuffix behind zone tags → IsLongestSuffix (drop (length text) zoned_whole) suffix
  longest is =
      subst (λ (bytes : List ℕ). IsLongestSuffix bytes suffix) (sym (drop-append_seam text behind)) (record {
        within = omega arith;
        is_suffix = subst (λ (bytes : List ℕ). IsSuffix bytes zone tags) (sym (take-length behind)) is;
        longest = λ n z t within it. within;
      })

  suffixed : IsSuffix behind zone tags → AgreesWith zones (has_local_offset text) v zone (critical_key tags) (Ok tt)
      → IsSuffixed zones false zoned_whole (said v (length text)) (Ok (said v (length zoned_whole)))
  suffixed is goes =
      let ended : has_tail false zoned_whole (length text + length behind) ≡ false =
      none_left (length text + length behind) (length zoned_whole) (length-append text behind) in
      let with_front = subst (λ (front : List ℕ). AgreesWith zones (has_local_offset front) v zone (critical_key tags) (Ok tt))
      (sym (take-append_seam text behind)) goes in
      (suffix, longest is, rw ended (Ok tt, with_front, ap (λ (n : ℕ). Ok (said v n)) (length-append text behind)))

pub reads_suffixed_back : ReadsSuffixedBack
reads_suffixed_back zones defaults v text behind zone tags read says is goes reads =
    let moment = subst (λ (front : List ℕ). IsOutcome (IsMoment greatest_year) (Reads greatest_year) (Refuses greatest_year) front empty (Ok v))
    (sym (take-append_seam text behind)) (whole-moment text defaults v says) in
    let front = front_said (text ++ behind) (length text) v (omega (arith, length-append text behind)) moment in
    one_has (Reading.Zoned zones) false (text ++ behind) defaults read (Ok (said v (length (text ++ behind)))) reads
    (Ok (said v (length text)), front, suffixed zones v text behind zone tags is goes)
