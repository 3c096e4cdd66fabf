-- The bytes of the texts in brackets, and what each text represents.
use Rattle.std.specs.Prelude.{All, option_map, if◌then◌else◌}
use Rattle.std.specs.Char.{is_ascii_alphanumeric, is_ascii_digit}
use Rattle.std.specs.Int.{is_in_range}
use Rattle.std.specs.List.{AllPass, slice_split, onto_first}
use Rattle.std.specs.Bool.{then_some}
use Rattle.std.specs.Option.{option_or}
use Rattle.std.proofs.Common.{◌≡◌, ◌⊎◌, ℕ, zero, suc, ◌+◌, ◌/◌, ◌%◌, ◌<◌, ◌==◌, ◌||◌, cond, Bool, true, false, List, [], ◌∷◌, ◌++◌, get_or, refl, sym, ap, subst, ◌∙◌, arith, inl, inr, length, Option, Some, None, Bor, append_assoc, append-nil, length-append}
use Rattle.std.proofs.lemmas.Bool.{false≢true}
use Rattle.std.proofs.lemmas.Bool.Decides.{nat_tests}
use Rattle.std.proofs.lemmas.Int.{ints}
use Rattle.time_values.specs.declared.utc_offset.UtcOffset.{UtcOffset}
use Rattle.time_zones.specs.Suffix.{is_zone_initial, is_zone_char, is_key_char, IsTimeZonePart, IsTimeZoneName, two_digits, IsHourMinute, IsNumOffset, Zone, named, at_offset, IsZoneText, AreSuffixValues, Tag, IsSuffixTag, bracketed, ZoneTag, IsZoneTag, tag_text, tags_text, critical_key}
use Rattle.time_zones.specs.SuffixFronts.{is_bracket_char, IsKeyed, BeginsBracketed, BeginsWithZone, HasNoZone, BeginsWithTag, HasNoTag}
use Rattle.time_zones.proofs.FolderLemmas.{same_offset_by_seconds}
use Rattle.time_zones.proofs.NameLemmas.{head_passes, tail_passes, cons_passes, none_passes, append_passes, more_pass, word_passes, or_left, or_right, key_passes, same_head, all_cons, brackets_once}

-- the bytes of names and offsets
abbrev is_zone_byte : ℕ → Bool
is_zone_byte b = is_zone_char b || b == 47 || b == 58

onto_first_passes : (p : ℕ → Bool) (x : ℕ) (parts : List (List ℕ)) → All (AllPass p) (onto_first x parts) → (p x ≡ true) × All (AllPass p) parts
onto_first_passes p x [] h = (head_passes p x [] (h 0 [] (omega arith)), λ k d l. absurd (omega arith))
onto_first_passes p x (part ∷ parts) h =
    let first = h 0 [] (omega arith) in
    (head_passes p x part first, go) where
      go : All (AllPass p) (part ∷ parts)
      go zero d l = tail_passes p x part (h 0 [] (omega arith))
      go (suc k) d l = h (suc k) d (omega arith)

parts_step : (p : ℕ → Bool) (c x : ℕ) (parts : List (List ℕ)) (b : Bool) → (x == c) ≡ b
    → All (AllPass p) (cond b ([] ∷ parts) (onto_first x parts)) → ((p x || x == c) ≡ true) × All (AllPass p) parts
parts_step p c x parts true e h = (or_right (p x) (x == c) e, λ k d l. h (suc k) d (omega arith))
parts_step p c x parts false e h = let both = onto_first_passes p x parts h in (or_left (p x) (x == c) both.0, both.1)

-- a text consists of the bytes of its parts, and of those between them
parts_pass : (p : ℕ → Bool) (c : ℕ) (text : List ℕ) → All (AllPass p) (slice_split (λ b. b == c) text) → AllPass (λ b. p b || b == c) text
parts_pass p c [] h = none_passes (λ b. p b || b == c)
parts_pass p c (x ∷ xs) h =
    let step = parts_step p c x (slice_split (λ b. b == c) xs) (x == c) refl h in
    cons_passes (λ b. p b || b == c) x xs step.0 (parts_pass p c xs step.1)

part_passes : (part : List ℕ) → IsTimeZonePart part → AllPass is_zone_char part
part_passes part h = word_passes is_zone_initial is_zone_char (λ x e. or_left _ _ (or_left _ _ (or_left _ _ e))) part h.0

name_passes : (name : List ℕ) → IsTimeZoneName name → AllPass is_zone_byte name
name_passes name h =
    more_pass (λ b. is_zone_char b || b == 47) is_zone_byte (λ x e. or_left _ _ e) name
    (parts_pass is_zone_char 47 name (λ k d l. part_passes (get_or (slice_split (λ b. b == 47) name) k d) (h k d l)))

digit_passes : (n : ℕ) → n < 10 → is_zone_byte (48 + n) ≡ true
digit_passes n h =
    let digit : is_ascii_digit (48 + n) ≡ true = grind (arith, nat_tests) in
    or_left _ _ (or_left _ _ (or_left _ _ (or_left _ _ (or_right _ _ digit))))

digits_pass : (n : ℕ) (rest : List ℕ) → n < 100 → AllPass is_zone_byte rest → AllPass is_zone_byte (two_digits n ++ rest)
digits_pass n rest h k =
    cons_passes is_zone_byte (48 + n / 10) ((48 + n % 10) ∷ rest) (digit_passes (n / 10) (omega arith))
    (cons_passes is_zone_byte (48 + n % 10) rest (digit_passes (n % 10) (omega arith)) k)

time_passes : (text : List ℕ) (n : ℕ) → IsHourMinute text n → AllPass is_zone_byte text
time_passes text n h =
    let minute = digits_pass h.minute [] (let lt = h.minute_in in omega arith) (none_passes is_zone_byte) in
    let hour = digits_pass h.hour (58 ∷ two_digits h.minute) (let lt = h.hour_in in omega arith)
    (cons_passes is_zone_byte 58 (two_digits h.minute) refl minute) in
    subst (AllPass is_zone_byte) (sym h.whole) hour

offset_passes : (text : List ℕ) (o : UtcOffset) → IsNumOffset text o → AllPass is_zone_byte text
offset_passes text o h =
    let time = time_passes h.time h.seconds h.is_time in
    elim h.signed [
      | inl p ↦ subst (AllPass is_zone_byte) (sym p.0) (cons_passes is_zone_byte 43 h.time refl time)
      | inr p ↦ subst (AllPass is_zone_byte) (sym p.0) (cons_passes is_zone_byte 45 h.time refl time)
    ]

zone_bytes : (text : List ℕ) (z : Zone) → IsZoneText text z → AllPass is_zone_byte text
zone_bytes text (named name) h = subst (AllPass is_zone_byte) (sym h.0) (name_passes name h.1)
zone_bytes text (at_offset o) h = offset_passes text o h

pub zone_held : (text : List ℕ) (z : Zone) → IsZoneText text z → AllPass is_bracket_char text
zone_held text z h = more_pass is_zone_byte is_bracket_char (λ x e. or_left _ _ e) text (zone_bytes text z h)

lacks : (p : ℕ → Bool) (c : ℕ) → p c ≡ false → (xs r : List ℕ) → AllPass p (xs ++ c ∷ r) → ⊥
lacks p c fails [] r h = false≢true (sym fails ∙ head_passes p c r h)
lacks p c fails (x ∷ xs) r h = lacks p c fails xs r (tail_passes p x (xs ++ c ∷ r) h)

-- no zone is a tag
pub zone_no_tag : (text key values : List ℕ) (z : Zone) → IsZoneText text z → text ≡ key ++ 61 ∷ values → ⊥
zone_no_tag text key values z h e = lacks is_zone_byte 61 refl key values (subst (AllPass is_zone_byte) e (zone_bytes text z h))

or_cases : (a b : Bool) → (a || b) ≡ true → (a ≡ true) ⊎ (b ≡ true)
or_cases true b e = inl refl
or_cases false b e = inr e

-- tests of letters and digits, by the tests that they consist of
alphanumeric_of : (upper lower dot under digit dash plus : Bool) → ((digit || upper) || lower) ≡ true
    → ((((((upper || lower) || dot) || under) || digit) || dash) || plus) ≡ true
alphanumeric_of true lower dot under digit dash plus e = refl
alphanumeric_of false true dot under digit dash plus e = refl
alphanumeric_of false false true under digit dash plus e = refl
alphanumeric_of false false false true digit dash plus e = refl
alphanumeric_of false false false false true dash plus e = refl
alphanumeric_of false false false false false dash plus e = absurd (false≢true e)

key_of : (upper lower dot under digit dash plus : Bool) → (((lower || under) || digit) || dash) ≡ true
    → ((((((upper || lower) || dot) || under) || digit) || dash) || plus) ≡ true
key_of true lower dot under digit dash plus e = refl
key_of false true dot under digit dash plus e = refl
key_of false false true under digit dash plus e = refl
key_of false false false true digit dash plus e = refl
key_of false false false false true dash plus e = refl
key_of false false false false false true plus e = refl
key_of false false false false false false plus e = absurd (false≢true e)

alphanumeric_in_zone : (x : ℕ) → is_ascii_alphanumeric x ≡ true → is_zone_char x ≡ true
alphanumeric_in_zone x e = alphanumeric_of (is_in_range 65 90 x) (is_in_range 97 122 x) (x == 46) (x == 95) (is_in_range 48 57 x) (x == 45) (x == 43) e

key_in_zone : (x : ℕ) → is_key_char x ≡ true → is_zone_char x ≡ true
key_in_zone x e = key_of (is_in_range 65 90 x) (is_in_range 97 122 x) (x == 46) (x == 95) (is_in_range 48 57 x) (x == 45) (x == 43) e

zone_char_held : (x : ℕ) → is_zone_char x ≡ true → is_bracket_char x ≡ true
zone_char_held x e = or_left _ _ (or_left _ _ (or_left _ _ e))

value_held : (x : ℕ) → (is_ascii_alphanumeric x || x == 45) ≡ true → is_bracket_char x ≡ true
value_held x e = elim (or_cases (is_ascii_alphanumeric x) (x == 45) e) [
  | inl letter ↦ zone_char_held x (alphanumeric_in_zone x letter)
  | inr dash ↦ zone_char_held x (or_left _ _ (or_right _ _ dash))
]

values_held : (values : List ℕ) → AreSuffixValues values → AllPass is_bracket_char values
values_held values h =
    more_pass (λ b. is_ascii_alphanumeric b || b == 45) is_bracket_char value_held values
    (parts_pass is_ascii_alphanumeric 45 values (λ k d l. (h k d l).1))

pub tag_held : (t : Tag) → IsSuffixTag t → AllPass is_bracket_char (t.key ++ 61 ∷ t.values)
tag_held t h =
    append_passes is_bracket_char t.key (61 ∷ t.values)
    (more_pass is_key_char is_bracket_char (λ x e. zone_char_held x (key_in_zone x e)) t.key (key_passes t.key h.0))
    (cons_passes is_bracket_char 61 t.values refl (values_held t.values h.1))

initial_step : (x : ℕ) (parts : List (List ℕ)) (b : Bool) → All IsTimeZonePart (cond b ([] ∷ parts) (onto_first x parts)) → is_zone_initial x ≡ true
initial_step x parts true h = absurd (h 0 [] (omega arith)).0
initial_step x [] false h = (h 0 [] (omega arith)).0.0
initial_step x (part ∷ parts) false h = (h 0 [] (omega arith)).0.0

name_initial : (x : ℕ) (xs : List ℕ) → IsTimeZoneName (x ∷ xs) → is_zone_initial x ≡ true
name_initial x xs h = initial_step x (slice_split (λ b. b == 47) xs) (x == 47) h

name_no_offset : (text : List ℕ) (o : UtcOffset) → IsTimeZoneName text → IsNumOffset text o → ⊥
name_no_offset text o name offset = elim offset.signed [
  | inl p ↦ false≢true (name_initial 43 offset.time (subst IsTimeZoneName p.0 name))
  | inr p ↦ false≢true (name_initial 45 offset.time (subst IsTimeZoneName p.0 name))
]

time_once : (text : List ℕ) (n m : ℕ) → IsHourMinute text n → IsHourMinute text m → n ≡ m
time_once text n m h k =
    let e = sym h.whole ∙ k.whole in
    let tens : 48 + h.hour / 10 ≡ 48 + k.hour / 10 = cc in
    let ones : 48 + h.hour % 10 ≡ 48 + k.hour % 10 = cc in
    let minute_tens : 48 + h.minute / 10 ≡ 48 + k.minute / 10 = cc in
    let minute_ones : 48 + h.minute % 10 ≡ 48 + k.minute % 10 = cc in
    let hour : h.hour ≡ k.hour = omega arith in
    let minute : h.minute ≡ k.minute = omega arith in
    omega (arith, h.are_seconds, k.are_seconds)

same_time : (a b : ℕ) (xs ys : List ℕ) → a ∷ xs ≡ b ∷ ys → xs ≡ ys
same_time a b xs ys e = cc

offset_once : (text : List ℕ) (o u : UtcOffset) → IsNumOffset text o → IsNumOffset text u → o ≡ u
offset_once text o u h k =
    let seconds = λ (e : h.time ≡ k.time). time_once k.time h.seconds k.seconds (subst (λ t. IsHourMinute t h.seconds) e h.is_time) k.is_time in
    elim h.signed [
      | inl p ↦ elim k.signed [
        | inl q ↦ same_offset_by_seconds o u (let n = seconds (same_time 43 43 _ _ (sym p.0 ∙ q.0)) in omega (arith, ints, p.1, q.1))
        | inr q ↦ let signs = same_head 43 45 _ _ (sym p.0 ∙ q.0) in absurd (omega arith)
      ]
      | inr p ↦ elim k.signed [
        | inl q ↦ let signs = same_head 45 43 _ _ (sym p.0 ∙ q.0) in absurd (omega arith)
        | inr q ↦ same_offset_by_seconds o u (let n = seconds (same_time 45 45 _ _ (sym p.0 ∙ q.0)) in omega (arith, ints, p.1, q.1))
      ]
    ]

-- a text specifies one zone
pub zone_once : (text : List ℕ) (z w : Zone) → IsZoneText text z → IsZoneText text w → z ≡ w
zone_once text (named a) (named b) h k = ap named (sym h.0 ∙ k.0)
zone_once text (named a) (at_offset o) h k = absurd (name_no_offset text o (subst IsTimeZoneName (sym h.0) h.1) k)
zone_once text (at_offset o) (named a) h k = absurd (name_no_offset text o (subst IsTimeZoneName (sym k.0) k.1) h)
zone_once text (at_offset o) (at_offset u) h k = ap at_offset (offset_once text o u h k)

-- ---- Zones and tags at the start of a text, each in one way

pub tag_brackets : (text : List ℕ) (t : Tag) (rest : List ℕ) → BeginsWithTag text t rest
    → BeginsBracketed text t.is_critical (t.key ++ 61 ∷ t.values) rest
tag_brackets text t rest h = record {
  whole = h.whole;
  are_bracket_chars = tag_held t h.is_tag;
}

pub zone_brackets : (text : List ℕ) (z : ZoneTag) (rest front : List ℕ) → text ≡ front ++ rest → (h : IsZoneTag front z)
    → BeginsBracketed text z.is_critical h.inside rest
zone_brackets text z rest front e h = record {
  whole = e ∙ ap (λ x. x ++ rest) h.whole;
  are_bracket_chars = zone_held h.inside z.zone h.is_zone;
}

pub same_brackets : (text : List ℕ) (c d : Bool) (x y r s : List ℕ) → BeginsBracketed text c x r → BeginsBracketed text d y s
    → (c ≡ d) × (x ≡ y) × (r ≡ s)
same_brackets text c d x y r s h k = brackets_once c d x y r s h.are_bracket_chars k.are_bracket_chars (sym h.whole ∙ k.whole)

pub no_tag_unbracketed : (text : List ℕ) → ((c : Bool) (inside rest : List ℕ) → BeginsBracketed text c inside rest → ⊥) → HasNoTag text
no_tag_unbracketed text none t rest h = none t.is_critical (t.key ++ 61 ∷ t.values) rest (tag_brackets text t rest h)

pub no_tag_unkeyed : (text : List ℕ) (c : Bool) (inside left : List ℕ) → BeginsBracketed text c inside left
    → ((key values : List ℕ) → IsKeyed inside key values → ⊥) → HasNoTag text
no_tag_unkeyed text c inside left found none t rest h =
    let same = same_brackets text c t.is_critical inside (t.key ++ 61 ∷ t.values) left rest found (tag_brackets text t rest h) in
    none t.key t.values (record {
      whole = same.1;
      is_key = h.is_tag.0;
      are_values = h.is_tag.1;
    })

pub tag_found : (text : List ℕ) (c : Bool) (inside rest key values : List ℕ) → BeginsBracketed text c inside rest
    → IsKeyed inside key values → BeginsWithTag text (record { is_critical = c; key = key; values = values }) rest
tag_found text c inside rest key values found keyed = record {
  whole = found.whole ∙ ap (λ x. bracketed c x ++ rest) keyed.whole;
  is_tag = (keyed.is_key, keyed.are_values);
}

pub key_if_critical : (c : Bool) (key : Bor (List ℕ)) → option_map (λ k. k.now) (then_some c key) ≡ (if c then Some key.now else None)
key_if_critical true key = refl
key_if_critical false key = refl

tag_not_empty : (t : Tag) → 0 < length (tag_text t)
tag_not_empty t = omega arith

pub shorter_by_tag : (text : List ℕ) (t : Tag) (rest : List ℕ) → BeginsWithTag text t rest → length rest < length text
shorter_by_tag text t rest h =
    let some = tag_not_empty t in
    omega (arith, ap length h.whole, length-append (tag_text t) rest)

pub no_zone_unbracketed : (text : List ℕ) → ((c : Bool) (inside rest : List ℕ) → BeginsBracketed text c inside rest → ⊥) → HasNoZone text
no_zone_unbracketed text none z rest h = none z.is_critical h.is_zone.inside rest (zone_brackets text z rest h.front h.whole h.is_zone)

pub no_zone_untold : (text : List ℕ) (c : Bool) (inside left : List ℕ) → BeginsBracketed text c inside left
    → ((z : Zone) → IsZoneText inside z → ⊥) → HasNoZone text
no_zone_untold text c inside left found none z rest h =
    let same = same_brackets text c z.is_critical inside h.is_zone.inside left rest found (zone_brackets text z rest h.front h.whole h.is_zone) in
    none z.zone (subst (λ t. IsZoneText t z.zone) (sym same.1) h.is_zone.is_zone)

pub zone_found : (text : List ℕ) (z : ZoneTag) (inside rest : List ℕ) → BeginsBracketed text z.is_critical inside rest → IsZoneText inside z.zone
    → BeginsWithZone text (Some z) rest
zone_found text z inside rest found told = record {
  front = bracketed z.is_critical inside;
  whole = found.whole;
  is_zone = record {
    inside = inside;
    whole = refl;
    is_zone = told;
  };
}

-- tags that were read, the rest after them, and the first critical key
pub record TagsRead (text rest : List ℕ) (key : Option (List ℕ)) : Type 0 where
  pub tags : List Tag
  pub whole : text ≡ tags_text tags ++ rest
  pub are_tags : All IsSuffixTag tags
  pub key_is : key ≡ critical_key tags

tags_text-push : (ts : List Tag) (t : Tag) → tags_text (ts ++ t ∷ []) ≡ tags_text ts ++ tag_text t
tags_text-push [] t = append-nil (tag_text t)
tags_text-push (u ∷ ts) t = ap (λ x. tag_text u ++ x) (tags_text-push ts t) ∙ sym (append_assoc (tag_text u) (tags_text ts) (tag_text t))

or_step : (b : Bool) (x : Option (List ℕ)) (key : List ℕ) (y z : Option (List ℕ)) → z ≡ option_or x y
    → (if b then Some key else z) ≡ option_or (if b then Some key else x) y
or_step true x key y z e = refl
or_step false x key y z e = e

critical_key-push : (ts : List Tag) (t : Tag) → critical_key (ts ++ t ∷ []) ≡ option_or (critical_key ts) (critical_key (t ∷ []))
critical_key-push [] t = refl
critical_key-push (u ∷ ts) t =
    or_step u.is_critical (critical_key ts) u.key (critical_key (t ∷ [])) (critical_key (ts ++ t ∷ [])) (critical_key-push ts t)

all_push : (ts : List Tag) (t : Tag) → All IsSuffixTag ts → IsSuffixTag t → All IsSuffixTag (ts ++ t ∷ [])
all_push [] t h k = all_cons IsSuffixTag t [] k h
all_push (u ∷ ts) t h k = all_cons IsSuffixTag u (ts ++ t ∷ []) (h 0 u (omega arith)) (all_push ts t (λ n d l. h (suc n) d (omega arith)) k)

pub more_tags : (text rest after : List ℕ) (t : Tag) (key last : Option (List ℕ)) → TagsRead text rest key → BeginsWithTag rest t after
    → last ≡ critical_key (t ∷ []) → TagsRead text after (option_or key last)
more_tags text rest after t key last h next e = record {
  tags = h.tags ++ t ∷ [];
  whole = h.whole ∙ ap (λ x. tags_text h.tags ++ x) next.whole ∙ sym (append_assoc (tags_text h.tags) (tag_text t) after)
      ∙ ap (λ x. x ++ after) (sym (tags_text-push h.tags t));
  are_tags = all_push h.tags t h.are_tags next.is_tag;
  key_is = ap (λ k. option_or k last) h.key_is ∙ ap (λ k. option_or (critical_key h.tags) k) e ∙ sym (critical_key-push h.tags t);
}

pub option_map-or : (a b : Option (Bor (List ℕ)))
    → option_map (λ k. k.now) (option_or a b) ≡ option_or (option_map (λ k. k.now) a) (option_map (λ k. k.now) b)
option_map-or None b = refl
option_map-or (Some a) b = refl
