-- Names of zones, part by part.
use Rattle.std.specs.Prelude.{All, MatchBool, IfNone, pos, neg_ℤ, unsigned_abs, IsSome}
use Rattle.std.specs.List.{AllPass, AllWithin, HoldsAt, prefix_len, slice_split}
use Rattle.std.proofs.Common.{◌≡◌, ℕ, zero, suc, ◌<◌, ◌||◌, Bool, true, false, IsTrue, List, [], ◌∷◌, ◌++◌, length, take, drop, get_or, Option, Some, None, refl, sym, ap, ◌∙◌, arith, ◌≢◌, subst, append_assoc, take-append-drop, inl, inr, ◌+◌, ◌==◌, append-nil}
use Rattle.std.proofs.lemmas.Bool.{false≢true}
use Rattle.std.proofs.lemmas.Grind.{common_steps}
use Rattle.std.proofs.lemmas.List.Sums.{prefix_len-le-length, prefix_len_passes}
use Rattle.std.proofs.lemmas.Bool.Decides.{nat_tests}
use Rattle.jiff_tz.specs.PosixReader.{read_whole}
use Rattle.time_values.specs.Offsets.{offset_seconds}
use Rattle.time_values.specs.declared.utc_offset.UtcOffset.{UtcOffset}
use Rattle.time_zones.specs.Suffix.{IsWord, is_key_initial, is_key_char, IsHourMinute, IsNumOffset, IsSuffixKey, AreSuffixValues, flagged, bracketed, IsTimeZonePart, NamesInFolder, WrittenIsSuffix}
use Rattle.time_zones.specs.SuffixFronts.{is_bracket_char, IsKeyed, BeginsBracketed}
use Rattle.time_zones.specs.Finding.{IsPart, IsZoneName, IsRuleOrPath, IsPlaceOfPath, IsPlaceOfSetting}
use Rattle.time_zones.specs.declared.place.Place.{Place}

-- ---- Lists whose elements pass a test, up to the first that doesn't

-- the result of `all` for the parts of a text
pub true_of_all : (P : List ℕ → Type 0) (xs : List (List ℕ)) (r : Bool)
    → MatchBool r (AllWithin P xs 0 (length xs)) ((k : ℕ) × (k < length xs) × HoldsAt (λ x. P x → ⊥) xs k)
    → (IsTrue r → All P xs) × (All P xs → IsTrue r)
true_of_all P xs true h = (λ _. λ k d l. h k d (omega arith) l, λ _. refl)
true_of_all P xs false h = (λ t. absurd (false≢true t), λ all. absurd (h.2 [] (all h.0 [] h.1)))

-- the elements of a list that pass a test, one by one
pub head_passes : (p : ℕ → Bool) (x : ℕ) (xs : List ℕ) → AllPass p (x ∷ xs) → p x ≡ true
head_passes p x xs h = h 0 0 (omega arith)

pub tail_passes : (p : ℕ → Bool) (x : ℕ) (xs : List ℕ) → AllPass p (x ∷ xs) → AllPass p xs
tail_passes p x xs h k d l = h (suc k) d (omega arith)

pub cons_passes : (p : ℕ → Bool) (x : ℕ) (xs : List ℕ) → p x ≡ true → AllPass p xs → AllPass p (x ∷ xs)
cons_passes p x xs first others zero d l = first
cons_passes p x xs first others (suc k) d l = others k d (omega arith)

pub none_passes : (p : ℕ → Bool) → AllPass p []
none_passes p k d l = absurd (omega arith)

pub append_passes : (p : ℕ → Bool) (xs ys : List ℕ) → AllPass p xs → AllPass p ys → AllPass p (xs ++ ys)
append_passes p [] ys h k = k
append_passes p (x ∷ xs) ys h k = cons_passes p x (xs ++ ys) (head_passes p x xs h) (append_passes p xs ys (tail_passes p x xs h) k)

pub more_pass : (p q : ℕ → Bool) → ((x : ℕ) → p x ≡ true → q x ≡ true) → (xs : List ℕ) → AllPass p xs → AllPass q xs
more_pass p q more xs h k d l = more (get_or xs k d) (h k d l)

-- lists that pass, with an element after them that doesn't, are equal
pub cut_once : (p : ℕ → Bool) (c : ℕ) → p c ≡ false → (xs ys r s : List ℕ) → AllPass p xs → AllPass p ys
    → xs ++ c ∷ r ≡ ys ++ c ∷ s → (xs ≡ ys) × (r ≡ s)
cut_once p c fails [] [] r s h k e = (refl, cc)
cut_once p c fails [] (y ∷ ys) r s h k e =
    let passes = head_passes p y ys k in
    let same : c ≡ y = cc in
    absurd (false≢true (sym fails ∙ ap p same ∙ passes))
cut_once p c fails (x ∷ xs) [] r s h k e =
    let passes = head_passes p x xs h in
    let same : c ≡ x = cc in
    absurd (false≢true (sym fails ∙ ap p same ∙ passes))
cut_once p c fails (x ∷ xs) (y ∷ ys) r s h k e =
    let same : x ≡ y = cc in
    let others = cut_once p c fails xs ys r s (tail_passes p x xs h) (tail_passes p y ys k) cc in
    (cc, others.1)

-- that many of its elements pass first
prefix_of_cut : (p : ℕ → Bool) (c : ℕ) → p c ≡ false → (xs r : List ℕ) → AllPass p xs → prefix_len p (xs ++ c ∷ r) ≡ length xs
prefix_of_cut p c fails [] r h = rw fails refl
prefix_of_cut p c fails (x ∷ xs) r h =
    let first = head_passes p x xs h in
    let others = prefix_of_cut p c fails xs r (tail_passes p x xs h) in
    rw (first, others) (omega arith)

drop_front : (xs ys : List ℕ) → drop (length xs) (xs ++ ys) ≡ ys
drop_front [] ys = refl
drop_front (x ∷ xs) ys = drop_front xs ys

pub take_front : (xs ys : List ℕ) → take (length xs) (xs ++ ys) ≡ xs
take_front [] ys = refl
take_front (x ∷ xs) ys = ap (λ zs. x ∷ zs) (take_front xs ys)

-- the rest after them begins with the element that doesn't pass
pub left_of_cut : (p : ℕ → Bool) (c : ℕ) → p c ≡ false → (text xs r : List ℕ) → AllPass p xs → text ≡ xs ++ c ∷ r
    → drop (prefix_len p text) text ≡ c ∷ r
left_of_cut p c fails text xs r h e =
    ap (λ t. drop (prefix_len p t) t) e ∙ ap (λ n. drop n (xs ++ c ∷ r)) (prefix_of_cut p c fails xs r h) ∙ drop_front xs (c ∷ r)

pub front_of_cut : (p : ℕ → Bool) (c : ℕ) → p c ≡ false → (text xs r : List ℕ) → AllPass p xs → text ≡ xs ++ c ∷ r
    → take (prefix_len p text) text ≡ xs
front_of_cut p c fails text xs r h e =
    ap (λ t. take (prefix_len p t) t) e ∙ ap (λ n. take n (xs ++ c ∷ r)) (prefix_of_cut p c fails xs r h) ∙ take_front xs (c ∷ r)

-- the first elements that pass do so
pub front_passes : (p : ℕ → Bool) (xs : List ℕ) → AllPass p (take (prefix_len p xs) xs)
front_passes p xs k d l =
    let within = prefix_len-le-length p xs in
    let below : k < prefix_len p xs = grind (arith, common_steps) in
    let passes = prefix_len_passes p xs k d below in
    grind (arith, common_steps)

pub word_passes : (p q : ℕ → Bool) → ((x : ℕ) → p x ≡ true → q x ≡ true) → (xs : List ℕ) → IsWord p q xs → AllPass q xs
word_passes p q more [] h = absurd h
word_passes p q more (x ∷ xs) h = cons_passes q x xs (more x h.0) h.1

pub or_left : (a b : Bool) → a ≡ true → (a || b) ≡ true
or_left true b e = refl
or_left false b e = absurd (false≢true e)

pub or_right : (a b : Bool) → b ≡ true → (a || b) ≡ true
or_right true b e = refl
or_right false b e = e

pub if_none : {A : Type 0} (o : Option A) (P : Type 0) → P → IfNone o P
if_none None P p = p
if_none (Some x) P p = tt

-- ---- The start of a text: brackets, a key, a sign

pub key_passes : (key : List ℕ) → IsSuffixKey key → AllPass is_key_char key
key_passes key h = word_passes is_key_initial is_key_char (λ x e. or_left _ _ (or_left _ _ e)) key h

-- a text isn't a key and values, since no equals sign follows
pub no_key : (text left : List ℕ) (n : ℕ) → n ≡ prefix_len is_key_char text → left ≡ drop n text
    → ((rest : List ℕ) → left ≢ 61 ∷ rest) → (key values : List ℕ) → IsKeyed text key values → ⊥
no_key text left n count back none key values h =
    none values (back ∙ ap (λ m. drop m text) count ∙ left_of_cut is_key_char 61 refl text key values (key_passes key h.is_key) h.whole)

-- or since the text before it is no key, or the text after it is no values
pub bad_key : (text front left rest : List ℕ) (n : ℕ) → n ≡ prefix_len is_key_char text → front ≡ take n text → left ≡ drop n text
    → left ≡ 61 ∷ rest → (IsSuffixKey front × AreSuffixValues rest → ⊥) → (key values : List ℕ) → IsKeyed text key values → ⊥
bad_key text front left rest n count cut back begins bad key values h =
    let passes = key_passes key h.is_key in
    let same_key : key ≡ front = sym (front_of_cut is_key_char 61 refl text key values passes h.whole) ∙ ap (λ m. take m text) (sym count) ∙ sym cut in
    let same_left : 61 ∷ rest ≡ 61 ∷ values =
    sym begins ∙ back ∙ ap (λ m. drop m text) count ∙ left_of_cut is_key_char 61 refl text key values passes h.whole in
    let same_values : values ≡ rest = cc in
    bad (subst IsSuffixKey same_key h.is_key, subst AreSuffixValues same_values h.are_values)

-- a text is no offset, since no time of day follows the sign
pub no_offset : (text time : List ℕ) (sign : ℕ) → text ≡ sign ∷ time → ((n : ℕ) → IsHourMinute time n → ⊥)
    → (o : UtcOffset) → IsNumOffset text o → ⊥
no_offset text time sign e none o h =
    let same : h.time ≡ time = elim h.signed [ inl p ↦ let q = p.0 in cc | inr p ↦ let q = p.0 in cc ] in
    none h.seconds (subst (λ t. IsHourMinute t h.seconds) same h.is_time)

abs_negated : (n : ℕ) → unsigned_abs (neg_ℤ (pos n)) ≡ n
abs_negated zero = refl
abs_negated (suc n) = refl

-- an offset that no text specifies, since it has seconds or is a day or more
pub untold_offset : (o : UtcOffset) (n : ℕ) → n ≡ unsigned_abs (offset_seconds o) → ((time : List ℕ) → IsHourMinute time n → ⊥)
    → (text : List ℕ) → IsNumOffset text o → ⊥
untold_offset o n e none text h =
    let size : unsigned_abs (offset_seconds o) ≡ h.seconds =
    elim h.signed [ inl p ↦ ap unsigned_abs p.1 | inr p ↦ ap unsigned_abs p.1 ∙ abs_negated h.seconds ] in
    none h.time (subst (IsHourMinute h.time) (sym (e ∙ size)) h.is_time)

bracketed_front : (c : Bool) (x r : List ℕ) → bracketed c x ++ r ≡ 91 ∷ flagged c (x ++ 93 ∷ r)
bracketed_front true x r = ap (λ t. 91 ∷ 33 ∷ t) (append_assoc x (93 ∷ []) r)
bracketed_front false x r = ap (λ t. 91 ∷ t) (append_assoc x (93 ∷ []) r)

-- a text determines whether it has a flag, since no text in brackets begins with one
flag_once : (c d : Bool) (x y : List ℕ) → (c ≡ false → (rest : List ℕ) → x ≢ 33 ∷ rest)
    → (d ≡ false → (rest : List ℕ) → y ≢ 33 ∷ rest)
    → flagged c x ≡ flagged d y → (c ≡ d) × (x ≡ y)
flag_once true true x y h k e = (refl, cc)
flag_once true false x y h k e = absurd (k refl x (sym e))
flag_once false true x y h k e = absurd (h refl y e)
flag_once false false x y h k e = (refl, e)

pub same_head : (a b : ℕ) (xs ys : List ℕ) → a ∷ xs ≡ b ∷ ys → a ≡ b
same_head a b xs ys e = cc

other_head : (a b : ℕ) (xs ys : List ℕ) → a ≢ b → a ∷ xs ≡ b ∷ ys → ⊥
other_head a b xs ys differs e = differs (same_head a b xs ys e)

flag_not_held : is_bracket_char 33 ≡ false
flag_not_held = refl

held_no_flag : (x r rest : List ℕ) → AllPass is_bracket_char x → x ++ 93 ∷ r ≢ 33 ∷ rest
held_no_flag [] r rest h e = absurd (other_head 93 33 r rest (omega arith) e)
held_no_flag (b ∷ x) r rest h e =
    let same = same_head b 33 (x ++ 93 ∷ r) rest e in
    absurd (false≢true (sym flag_not_held ∙ ap is_bracket_char (sym same) ∙ head_passes is_bracket_char b x h))

-- brackets at the start of a text are determined
pub brackets_once : (c d : Bool) (x y r s : List ℕ) → AllPass is_bracket_char x → AllPass is_bracket_char y → bracketed c x ++ r ≡ bracketed d y ++ s
    → (c ≡ d) × (x ≡ y) × (r ≡ s)
brackets_once c d x y r s h k e =
    let opened : 91 ∷ flagged c (x ++ 93 ∷ r) ≡ 91 ∷ flagged d (y ++ 93 ∷ s) = sym (bracketed_front c x r) ∙ e ∙ bracketed_front d y s in
    let same : flagged c (x ++ 93 ∷ r) ≡ flagged d (y ++ 93 ∷ s) = cc in
    let flags = flag_once c d (x ++ 93 ∷ r) (y ++ 93 ∷ s) (λ _ rest. held_no_flag x r rest h) (λ _ rest. held_no_flag y s rest k) same in
    let parts = cut_once is_bracket_char 93 refl x y r s h k flags.1 in
    (flags.0, parts.0, parts.1)

pub brackets_found : (text begun after inside left rest : List ℕ) (c : Bool) (n : ℕ) → text ≡ 91 ∷ begun → begun ≡ flagged c after
    → n ≡ prefix_len is_bracket_char after → inside ≡ take n after → left ≡ drop n after → left ≡ 93 ∷ rest → BeginsBracketed text c inside rest
brackets_found text begun after inside left rest c n opens flag count cut back closes =
    let front = cut ∙ ap (λ m. take m after) count in
    let cut_there : inside ++ left ≡ after = ap (λ x. x ++ left) cut ∙ ap (λ y. take n after ++ y) back ∙ take-append-drop n after in
    let whole_after : after ≡ inside ++ 93 ∷ rest = sym cut_there ∙ ap (λ y. inside ++ y) closes in
    record {
      whole = opens ∙ ap (λ t. 91 ∷ t) (flag ∙ ap (flagged c) whole_after) ∙ sym (bracketed_front c inside rest);
      are_bracket_chars = subst (AllPass is_bracket_char) (sym front) (front_passes is_bracket_char after);
    }

pub no_brackets : (text begun after left : List ℕ) (c : Bool) (n : ℕ) → text ≡ 91 ∷ begun → begun ≡ flagged c after
    → (c ≡ false → (rest : List ℕ) → begun ≢ 33 ∷ rest) → n ≡ prefix_len is_bracket_char after → left ≡ drop n after
    → ((rest : List ℕ) → left ≢ 93 ∷ rest) → (d : Bool) (inside rest : List ℕ) → BeginsBracketed text d inside rest → ⊥
no_brackets text begun after left c n opens flag none count back unclosed d inside rest h =
    let both : 91 ∷ begun ≡ 91 ∷ flagged d (inside ++ 93 ∷ rest) = sym opens ∙ h.whole ∙ bracketed_front d inside rest in
    let same : flagged c after ≡ flagged d (inside ++ 93 ∷ rest) = cc in
    let unflagged : (c ≡ false → (rest : List ℕ) → after ≢ 33 ∷ rest) = λ is left e. none is left (flag ∙ ap (λ b. flagged b after) is ∙ e) in
    let flags = flag_once c d after (inside ++ 93 ∷ rest) unflagged (λ _ left. held_no_flag inside rest left h.are_bracket_chars) same in
    unclosed rest (back ∙ ap (λ m. drop m after) count ∙ left_of_cut is_bracket_char 93 refl after inside rest h.are_bracket_chars flags.1)

-- no byte of the text is c
abbrev pub Lacks : ℕ → List ℕ → Type 0
Lacks c xs = (i : ℕ) → i < length xs → get_or xs i 0 ≢ c

head_differs : (c x : ℕ) (xs : List ℕ) → Lacks c (x ∷ xs) → (x == c) ≡ false
head_differs c x xs h = let ne : x ≢ c = h 0 (grind (arith, common_steps)) in grind (arith, nat_tests)

tail_lacks : (c x : ℕ) (xs : List ℕ) → Lacks c (x ∷ xs) → Lacks c xs
tail_lacks c x xs h i lt = let k = h (i + 1) (grind (arith, common_steps)) in grind (arith, common_steps)

split_alone : (c : ℕ) (xs : List ℕ) → Lacks c xs → slice_split (λ x. x == c) xs ≡ xs ∷ []
split_alone c [] h = refl
split_alone c (x ∷ xs) h = rw (head_differs c x xs h, split_alone c xs (tail_lacks c x xs h))

same_test : (c : ℕ) → (c == c) ≡ true
same_test c = grind (arith, nat_tests)

split_first : (c : ℕ) (xs ys : List ℕ) → Lacks c xs → slice_split (λ x. x == c) (xs ++ c ∷ ys) ≡ xs ∷ slice_split (λ x. x == c) ys
split_first c [] ys h = rw (same_test c)
split_first c (x ∷ xs) ys h = rw (head_differs c x xs h, split_first c xs ys (tail_lacks c x xs h))

-- a fact of all of a list holds for its first element and for the others
pub all_cons : {X : Type 0} (P : X → Type 0) (x : X) (xs : List X) → P x → All P xs → All P (x ∷ xs)
all_cons P x xs first others zero d l = first
all_cons P x xs first others (suc k) d l = others k d (omega arith)

-- a name with a slash is its first part, a slash and a name
pub part_and_name : (part after : List ℕ) → Lacks 47 part → IsPart part → IsZoneName after → IsZoneName (part ++ 47 ∷ after)
part_and_name part after lacks is name =
    subst (All IsPart) (sym (split_first 47 part after lacks)) (all_cons IsPart part (slice_split (λ b. b == 47) after) is name)

pub name_after : (part after : List ℕ) → Lacks 47 part → IsZoneName (part ++ 47 ∷ after) → IsPart part × IsZoneName after
name_after part after lacks name =
    let all = subst (All IsPart) (split_first 47 part after lacks) name in
    (all 0 [] (omega arith), λ k d l. all (suc k) d (omega arith))

-- a name without a slash is one part
pub one_part : (name : List ℕ) → Lacks 47 name → IsPart name → IsZoneName name
one_part name lacks is = subst (All IsPart) (sym (split_alone 47 name lacks)) (all_cons IsPart name [] is (λ k d l. absurd (omega arith)))

pub part_of_one : (name : List ℕ) → Lacks 47 name → IsZoneName name → IsPart name
part_of_one name lacks is = subst (All IsPart) (split_alone 47 name lacks) is 0 [] (omega arith)

-- a setting that isn't empty and doesn't begin with a colon
pub by_text : (setting : List ℕ) (place : Option Place) → setting ≢ [] → ((rest : List ℕ) → setting ≢ 58 ∷ rest)
    → IsRuleOrPath (read_whole setting) setting place → IsPlaceOfSetting setting place
by_text [] place some colon h = absurd (some refl)
by_text (c ∷ rest) place some colon h = elim (c == 58)
    as (λ b. (c == 58) ≡ b → MatchBool b (IsPlaceOfPath rest place) (IsRuleOrPath (read_whole (c ∷ rest)) (c ∷ rest) place)) [
      | true ↦ λ e. let same : c ≡ 58 = grind (arith, nat_tests) in absurd (colon rest (ap (λ x. x ∷ rest) same))
      | false ↦ λ e. h
    ] refl

pub none_of : {X : Type 0} (o : Option X) → (IsSome o → ⊥) → o ≡ None
none_of None h = refl
none_of (Some x) h = absurd (h refl)

-- ---- Names of zones in suffixes, compared to those of files

part_in_folder : (part : List ℕ) → IsTimeZonePart part → IsPart part
part_in_folder [] h = absurd h.0
part_in_folder (b ∷ rest) h = (λ e. cc, h.1, h.2)

pub names_in_folder : NamesInFolder
names_in_folder name h k d l = part_in_folder (get_or (slice_split (λ b. b == 47) name) k d) (h k d l)

pub written_is_suffix : WrittenIsSuffix
written_is_suffix text z h = record {
  front = bracketed false text;
  whole = sym (append-nil (bracketed false text));
  is_zone = record { inside = text; whole = refl; is_zone = h };
  are_tags = λ k d l. absurd (omega (arith, l));
}
