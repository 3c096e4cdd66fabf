-- The longest prefix of a text that is a suffix, and that a text is one in one way.
use Rattle.std.proofs.Common.{◌≡◌, ℕ, suc, ◌+◌, ◌-◌, ◌<◌, ◌≤◌, List, [], ◌∷◌, ◌++◌, length, take, drop, Option, Some, None, refl, sym, ap, subst, ◌∙◌, append_assoc, append-nil, take-append-drop, arith, length-append}
use Rattle.std.proofs.lemmas.List.{length-take-le}
use Rattle.std.specs.Prelude.{All, IfNone, option_map}
use Rattle.time_zones.proofs.NameLemmas.{cut_once, take_front, key_passes, brackets_once}
use Rattle.time_zones.proofs.SuffixTextLemmas.{zone_once, zone_no_tag, tag_held, zone_brackets, tag_brackets, same_brackets}
use Rattle.time_zones.specs.Suffix.{is_key_char, IsZoneText, ZoneTag, Tag, IsZoneTag, IsZoneTagIfAny, tag_text, IsSuffixTag, tags_text, IsSuffix, IsLongest, OneSuffix}
use Rattle.time_zones.specs.SuffixFronts.{BeginsWithZone, HasNoZone, BeginsWithTag, HasNoTag, BeginsWithTags}

tag_once : (t u : Tag) (r s : List ℕ) → IsSuffixTag t → IsSuffixTag u → tag_text t ++ r ≡ tag_text u ++ s → (t ≡ u) × (r ≡ s)
tag_once t u r s h k e =
    let same = brackets_once t.is_critical u.is_critical (t.key ++ 61 ∷ t.values) (u.key ++ 61 ∷ u.values) r s (tag_held t h) (tag_held u k) e in
    let parts = cut_once is_key_char 61 refl t.key u.key t.values u.values (key_passes t.key h.0) (key_passes u.key k.0) same.1 in
    (λ i. record { is_critical = same.0 i; key = parts.0 i; values = parts.1 i }, same.2)

tags_longest : (ts us : List Tag) (r s : List ℕ) → All IsSuffixTag ts → All IsSuffixTag us → HasNoTag r
    → tags_text ts ++ r ≡ tags_text us ++ s → length (tags_text us) ≤ length (tags_text ts)
tags_longest ts [] r s h k last e = omega arith
tags_longest [] (u ∷ us) r s h k last e = absurd (last u (tags_text us ++ s) (record {
  whole = e ∙ append_assoc (tag_text u) (tags_text us) s;
  is_tag = k 0 u (omega arith);
}))
tags_longest (t ∷ ts) (u ∷ us) r s h k last e =
    let same = tag_once t u (tags_text ts ++ r) (tags_text us ++ s) (h 0 t (omega arith)) (k 0 u (omega arith))
    (sym (append_assoc (tag_text t) (tags_text ts) r) ∙ e ∙ append_assoc (tag_text u) (tags_text us) s) in
    let others = tags_longest ts us r s (λ n d l. h (suc n) d (omega arith)) (λ n d l. k (suc n) d (omega arith)) last same.1 in
    let first : length (tag_text t) ≡ length (tag_text u) = ap (λ x. length (tag_text x)) same.0 in
    let left : length (tag_text t ++ tags_text ts) ≡ length (tag_text t) + length (tags_text ts) = length-append (tag_text t) (tags_text ts) in
    let right : length (tag_text u ++ tags_text us) ≡ length (tag_text u) + length (tags_text us) = length-append (tag_text u) (tags_text us) in
    omega arith

tags_once : (ts us : List Tag) → All IsSuffixTag ts → All IsSuffixTag us → tags_text ts ≡ tags_text us → ts ≡ us
tags_once [] [] h k e = refl
tags_once [] (u ∷ us) h k e = cc
tags_once (t ∷ ts) [] h k e = cc
tags_once (t ∷ ts) (u ∷ us) h k e =
    let same = tag_once t u (tags_text ts) (tags_text us) (h 0 t (omega arith)) (k 0 u (omega arith)) e in
    let others = tags_once ts us (λ n d l. h (suc n) d (omega arith)) (λ n d l. k (suc n) d (omega arith)) same.1 in
    λ i. same.0 i ∷ others i

zone_tag_once : (front front' r s : List ℕ) (z w : ZoneTag) → IsZoneTag front z → IsZoneTag front' w → front ++ r ≡ front' ++ s
    → (z ≡ w) × (r ≡ s)
zone_tag_once front front' r s z w h k e =
    let same = same_brackets (front ++ r) z.is_critical w.is_critical h.inside k.inside r s
    (zone_brackets (front ++ r) z r front refl h) (zone_brackets (front ++ r) w s front' e k) in
    let zone = zone_once h.inside z.zone w.zone h.is_zone (subst (λ t. IsZoneText t w.zone) (sym same.1) k.is_zone) in
    (λ i. record { is_critical = same.0 i; zone = zone i }, same.2)

zone_is_no_tag : (text front r : List ℕ) (z : ZoneTag) (t : Tag) (s : List ℕ) → IsZoneTag front z → text ≡ front ++ r
    → BeginsWithTag text t s → ⊥
zone_is_no_tag text front r z t s h e k =
    let same = same_brackets text z.is_critical t.is_critical h.inside (t.key ++ 61 ∷ t.values) r s
    (zone_brackets text z r front e h) (tag_brackets text t s k) in
    zone_no_tag h.inside t.key t.values z.zone h.is_zone same.1

-- no tag is at the start of a text that begins with a zone
no_tags : (text front r : List ℕ) (z : ZoneTag) (ts : List Tag) (s : List ℕ) → IsZoneTag front z → text ≡ front ++ r
    → All IsSuffixTag ts → text ≡ tags_text ts ++ s → ts ≡ []
no_tags text front r z [] s h e k f = refl
no_tags text front r z (t ∷ ts) s h e k f = absurd (zone_is_no_tag text front r z t (tags_text ts ++ s) h e (record {
  whole = f ∙ append_assoc (tag_text t) (tags_text ts) s;
  is_tag = k 0 t (omega arith);
}))

fronts_longest : (text mid rest front front' s : List ℕ) (zone zone' : Option ZoneTag) (tags tags' : List Tag) → text ≡ front ++ mid
    → IsZoneTagIfAny front zone → IfNone zone (HasNoZone text) → BeginsWithTags mid tags rest → text ≡ front' ++ (tags_text tags' ++ s)
    → IsZoneTagIfAny front' zone' → All IsSuffixTag tags'
    → length front' + length (tags_text tags') ≤ length front + length (tags_text tags)
fronts_longest text mid rest front front' s None None tags tags' e h none t f k all =
    let begun : mid ≡ text = sym (e ∙ ap (λ x. x ++ mid) h) in
    let other : text ≡ tags_text tags' ++ s = f ∙ ap (λ x. x ++ (tags_text tags' ++ s)) k in
    let tags_in = tags_longest tags tags' rest s t.are_tags all t.last (sym t.whole ∙ begun ∙ other) in
    let empty : length front' ≡ 0 = ap length k in
    omega arith
fronts_longest text mid rest front front' s None (Some w) tags tags' e h none t f k all = absurd (none w (tags_text tags' ++ s) (record {
  front = front';
  whole = f;
  is_zone = k;
}))
fronts_longest text mid rest front front' s (Some z) None tags tags' e h none t f k all =
    let other : text ≡ tags_text tags' ++ s = f ∙ ap (λ x. x ++ (tags_text tags' ++ s)) k in
    let no_further : length (tags_text tags') ≡ 0 = ap (λ x. length (tags_text x)) (no_tags text front mid z tags' s h e all other) in
    let empty : length front' ≡ 0 = ap length k in
    omega arith
fronts_longest text mid rest front front' s (Some z) (Some w) tags tags' e h none t f k all =
    let same = zone_tag_once front front' mid (tags_text tags' ++ s) z w h k (sym e ∙ f) in
    let tags_in = tags_longest tags tags' rest s t.are_tags all t.last (sym t.whole ∙ same.1) in
    let whole : length front + length mid ≡ length front' + length (tags_text tags' ++ s) =
    sym (length-append front mid) ∙ ap length (sym e ∙ f) ∙ length-append front' (tags_text tags' ++ s) in
    let left : length mid ≡ length (tags_text tags' ++ s) = ap length same.1 in
    omega arith

left_within : (text mid rest : List ℕ) (zone : Option ZoneTag) (tags : List Tag) → (h : BeginsWithZone text zone mid)
    → BeginsWithTags mid tags rest → length text ≡ length h.front + length (tags_text tags) + length rest
left_within text mid rest _ tags h t =
    let outer : length text ≡ length h.front + length mid = ap length h.whole ∙ length-append h.front mid in
    let inner : length mid ≡ length (tags_text tags) + length rest = ap length t.whole ∙ length-append (tags_text tags) rest in
    omega arith

pub longest : (text mid rest : List ℕ) (zone : Option ZoneTag) (tags : List Tag) → BeginsWithZone text zone mid
    → IfNone zone (HasNoZone text) → BeginsWithTags mid tags rest → IsLongest text (length text - length rest)
longest text mid rest zone tags h none t n zone' tags' within k =
    let whole : text ≡ k.front ++ (tags_text tags' ++ drop n text) =
    sym (take-append-drop n text) ∙ ap (λ x. x ++ drop n text) k.whole ∙ append_assoc k.front (tags_text tags') (drop n text) in
    let bound = fronts_longest text mid rest h.front k.front (drop n text) zone zone' tags tags' h.whole h.is_zone none t whole k.is_zone k.are_tags in
    let lengths = left_within text mid rest zone tags h t in
    let front_len : length (take n text) ≡ length k.front + length (tags_text tags') = ap length k.whole ∙ length-append k.front (tags_text tags') in
    let so_long : length (take n text) ≡ n = length-take-le n text within in
    omega arith

pub suffix_read : (text mid rest : List ℕ) (zone : Option ZoneTag) (tags : List Tag) → BeginsWithZone text zone mid
    → BeginsWithTags mid tags rest → IsSuffix (take (length text - length rest) text) zone tags
suffix_read text mid rest zone tags h t =
    let whole : text ≡ (h.front ++ tags_text tags) ++ rest =
    h.whole ∙ ap (λ x. h.front ++ x) t.whole ∙ sym (append_assoc h.front (tags_text tags) rest) in
    let lengths = left_within text mid rest zone tags h t in
    let front_len : length text - length rest ≡ length (h.front ++ tags_text tags) = omega (arith, length-append h.front (tags_text tags)) in
    record {
      front = h.front;
      whole = ap (λ n. take n text) front_len ∙ ap (take (length (h.front ++ tags_text tags))) whole ∙ take_front (h.front ++ tags_text tags) rest;
      is_zone = h.is_zone;
      are_tags = t.are_tags;
    }

pub none_of_map : {A B : Type 0} (f : A → B) (o : Option A) (P : Type 0) → IfNone o P → IfNone (option_map f o) P
none_of_map f None P h = h
none_of_map f (Some x) P h = tt

not_both : (text front r : List ℕ) (z : ZoneTag) → IsZoneTag front z → text ≡ front ++ r → text ≡ [] → ⊥
not_both text front r z h e f =
    let some : length text ≡ length front + length r = ap length e ∙ length-append front r in
    let bracket : 0 < length front = subst (λ x. 0 < length x) (sym h.whole) (omega arith) in
    let empty : length text ≡ 0 = ap length f in
    absurd (omega arith)

some_or_none : (text : List ℕ) (z : ZoneTag) (tags tags' : List Tag) → IsSuffix text (Some z) tags → IsSuffix text None tags' → ⊥
some_or_none text z tags tags' h k =
    let plain : text ≡ tags_text tags' = k.whole ∙ ap (λ x. x ++ tags_text tags') k.is_zone in
    let none = no_tags text h.front (tags_text tags) z tags' [] h.is_zone h.whole k.are_tags (plain ∙ sym (append-nil (tags_text tags'))) in
    not_both text h.front (tags_text tags) z h.is_zone h.whole (plain ∙ ap tags_text none)

pub suffix_once : OneSuffix
suffix_once text None None tags tags' h k =
    let left : text ≡ tags_text tags = h.whole ∙ ap (λ x. x ++ tags_text tags) h.is_zone in
    let right : text ≡ tags_text tags' = k.whole ∙ ap (λ x. x ++ tags_text tags') k.is_zone in
    (refl, tags_once tags tags' h.are_tags k.are_tags (sym left ∙ right))
suffix_once text None (Some w) tags tags' h k = absurd (some_or_none text w tags' tags k h)
suffix_once text (Some z) None tags tags' h k = absurd (some_or_none text z tags tags' h k)
suffix_once text (Some z) (Some w) tags tags' h k =
    let same = zone_tag_once h.front k.front (tags_text tags) (tags_text tags') z w h.is_zone k.is_zone (sym h.whole ∙ k.whole) in
    (ap Some same.0, tags_once tags tags' h.are_tags k.are_tags same.1)
