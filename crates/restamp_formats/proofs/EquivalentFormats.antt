-- Formats whose tables of zones differ only in names that a text doesn't have parse it alike.
use Rattle.time_values.specs.Calendar.{greatest_year}
use Rattle.std.proofs.Common.{◌≡◌, ℕ, zero, suc, ℤ, pos, Bool, true, false, List, [], ◌∷◌, ◌++◌, ◌+◌, ◌-◌, take, drop, sym, ap, subst, refl, ◌∙◌, None, Some, Ok, Err, append_assoc, append-nil, inl, inr, Option, Result, ◌-ℤ◌, MatchOption, MatchResult, MatchBool, slice_range}
use Rattle.std.proofs.lemmas.{List.take-append-drop, Result.MatchResult-weaker}
use Rattle.time_zones.specs.{Suffix.at_offset as by_offset, Suffix.tags_text, Suffix.IsSubstring, declared.checking.SuffixFault.TheVariants.UnknownZone}
use Rattle.restamp_formats.specs.Common.{offset_of, Refusal, OffsetDateTime, UtcOffset, Checked, AgreesWith, AgreesWithNamed, AgreesWithZone, IsSuffix, Zone, ZoneTag, Tag, IsZoneText, bracketed, critical_key, named, IsNameIn, NamedZone, zone_named, Zones, Clocks, Defaults, Reading, Match}
use Rattle.restamp_formats.specs.Zoned.{IsChecked, IsLongestSuffix, IsSuffixed, Suffix, has_tail, has_local_offset}
use Rattle.restamp_formats.specs.Reading.{IsReadInFront, ParsesAs, ParsesInZone, ParsesLocally, undated, at_offset, in_year, is_after, year_after, AreYearsTried, IsDated, AreTried, IsReadInTurn}
use Rattle.restamp_formats.specs.{Laws.SameZones, Laws.AreEquivalent, Laws.AllEquivalent, Reason.Reason, Reason.unread, Reason.is_local_time_error}
use Rattle.restamp_formats.proofs.FrontLemmas.{EndsBefore, front_ends}

-- a part of a part is a part of the whole
pub deeper : (name part bytes : List ℕ) → IsSubstring name part → IsSubstring part bytes → IsSubstring name bytes
deeper name part bytes p q = record {
  before = q.before ++ p.before;
  after = p.after ++ q.after;
  whole = q.whole ∙ ap (λ l. q.before ++ (l ++ q.after)) p.whole ∙ simp append_assoc;
}

pub of_take : (n : ℕ) (bytes : List ℕ) → IsSubstring (take n bytes) bytes
of_take n bytes = record { before = []; after = drop n bytes; whole = sym (take-append-drop n bytes) }

pub of_drop : (n : ℕ) (bytes : List ℕ) → IsSubstring (drop n bytes) bytes
of_drop n bytes = record {
  before = take n bytes;
  after = [];
  whole = sym (take-append-drop n bytes) ∙ ap (λ l. take n bytes ++ l) (sym (append-nil (drop n bytes)));
}

pub of_range : (start stop : ℕ) (bytes : List ℕ) → IsSubstring (slice_range bytes start stop) bytes
of_range start stop bytes = deeper (slice_range bytes start stop) (drop start bytes) bytes (of_take (stop - start) (drop start bytes)) (of_drop start bytes)

-- a name in a part is in the whole
name_deeper : (name part bytes : List ℕ) → IsNameIn part name → IsSubstring part bytes → IsNameIn bytes name
name_deeper name part bytes p q = record {
  end = p.end;
  is_critical = p.is_critical;
  is_end = p.is_end;
  is_name = p.is_name;
  stands = deeper (p.end ∷ bracketed p.is_critical name) part bytes p.stands q;
}

-- the zone's name in a suffix is in the text
name_of_suffix : (text rest : List ℕ) (len : ℕ) (tag : ZoneTag) (tags : List Tag) (name : List ℕ) → EndsBefore text rest
    → tag.zone ≡ named name → IsSuffix (take len rest) (Some tag) tags → IsNameIn text name
name_of_suffix text rest len tag tags name ends e s =
    let told = subst (IsZoneText s.is_zone.inside) e s.is_zone.is_zone in
    let front : take len rest ≡ bracketed tag.is_critical name ++ tags_text tags =
    s.whole ∙ ap (λ l. l ++ tags_text tags) (s.is_zone.whole ∙ ap (bracketed tag.is_critical) told.0) in
    record {
      end = ends.end;
      is_critical = tag.is_critical;
      is_end = ends.is_end;
      is_name = told.1;
      stands = record {
        before = ends.before;
        after = tags_text tags ++ drop len rest;
        whole =
            ends.whole ∙ ap (λ (l : List ℕ). ends.before ++ ends.end ∷ l)
            (sym (take-append-drop len rest) ∙ ap (λ (l : List ℕ). l ++ drop len rest) front
            ∙ append_assoc (bracketed tag.is_critical name) (tags_text tags) (drop len rest));
      };
    }

goes_zone : (zone : Zone) (zones other : Zones) (tells : Bool) (m : OffsetDateTime) (a : Checked)
    → ((name : List ℕ) → zone ≡ named name → zone_named other name ≡ zone_named zones name)
    → AgreesWithZone zones tells m zone a → AgreesWithZone other tells m zone a
goes_zone (named name) zones other tells m a same p =
    subst (λ (found : Option NamedZone). MatchOption found (a ≡ Err UnknownZone) (λ zone. AgreesWithNamed tells m zone a))
    (sym (same name refl)) p
goes_zone (by_offset o) zones other tells m a same p = p

goes : (tag : Option ZoneTag) (key : Option (List ℕ)) (zones other : Zones) (tells : Bool) (m : OffsetDateTime) (a : Checked)
    → ((z : ZoneTag) (name : List ℕ) → tag ≡ Some z → z.zone ≡ named name → zone_named other name ≡ zone_named zones name)
    → AgreesWith zones tells m tag key a → AgreesWith other tells m tag key a
goes tag (Some key) zones other tells m a same p = p
goes None None zones other tells m a same p = p
goes (Some z) None zones other tells m a same p = goes_zone z.zone zones other tells m a (λ name e. same z name refl e) p

-- what follows from each value, or from each truth value, follows from any
pub option_weaker : {V : Type 0} (o : Option V) (P : Type 0) {Q R : V → Type 0} → MatchOption o P Q → ((v : V) → Q v → R v) → MatchOption o P R
option_weaker None P h f = h
option_weaker (Some v) P h f = f v h

pub bool_weaker : (b : Bool) {P P' Q Q' : Type 0} → MatchBool b P Q → (P → P') → (Q → Q') → MatchBool b P' Q'
bool_weaker true h f g = f h
bool_weaker false h f g = g h

module _ (zones other : Zones) (text : List ℕ) (same : SameZones text zones other) where
  checked_alike : (front : Match) (s : Suffix) (a : Result Match Reason) → EndsBefore text (drop front.length text)
      → IsLongestSuffix (drop front.length text) s → IsChecked zones text front s a → IsChecked other text front s a
  checked_alike front s a ends longest p =
      let rest = drop front.length text in (
        p.0,
        goes s.zone (critical_key s.tags) zones other (has_local_offset (take front.length text)) front.moment p.0
            (λ z name e n. same name
            (name_of_suffix text rest s.len z s.tags name ends n
            (subst (λ (tag : Option ZoneTag). IsSuffix (take s.len rest) tag s.tags) e longest.is_suffix))) p.1,
        p.2,
      )

  told_alike : (is_prefix : Bool) (outcome : Result Match Refusal) (a : Result Match Reason) → IsReadInFront text outcome
      → MatchResult outcome (λ s. IsSuffixed zones is_prefix text s a) (λ e. a ≡ Err (unread e))
      → MatchResult outcome (λ s. IsSuffixed other is_prefix text s a) (λ e. a ≡ Err (unread e))
  told_alike is_prefix (Ok s) a front p =
      (p.0, p.1, bool_weaker (has_tail is_prefix text (s.length + p.0.len)) p.2 (λ q. q) (checked_alike s p.0 a (front_ends text s front) p.1))
  told_alike is_prefix (Err e) a front p = p

-- each match of a text by one format is its match by the other
abbrev Alike : Bool → List ℕ → Reading → Reading → Type 0
Alike is_prefix text format other =
    (d : Defaults) (a : Result Match Reason) → ParsesAs format is_prefix text d a → ParsesAs other is_prefix text d a

says_alike : (is_prefix : Bool) (text : List ℕ) (format other : Reading) → AreEquivalent text format other → Alike is_prefix text format other
says_alike is_prefix text format other (inl e) d a p = subst (λ (f : Reading). ParsesAs f is_prefix text d a) e p
says_alike is_prefix text format other (inr (zones, same, e, f, h)) d a p =
    let q : ParsesAs (Reading.Zoned zones) is_prefix text d a = subst (λ (r : Reading). ParsesAs r is_prefix text d a) e p in
    let r : ParsesAs (Reading.Zoned same) is_prefix text d a = (q.0, q.1, told_alike zones same text h is_prefix q.0 a q.1 q.2) in
    subst (λ (r : Reading). ParsesAs r is_prefix text d a) (sym f) r

-- equal matches have equal results: in zones, with years, by several formats
module _ (is_prefix : Bool) (text : List ℕ) (format other : Reading) (says : Alike is_prefix text format other) where
  on_clocks : (d : Defaults) (a : Result Match Reason) (clocks : Clocks)
      → ParsesInZone clocks format is_prefix text d a → ParsesInZone clocks other is_prefix text d a
  on_clocks d a clocks p = (
    p.0,
    p.1,
    p.2,
    says (at_offset p.0 d) p.2 p.3,
    MatchResult-weaker p.2 p.4 (λ s q. (q.0, q.1, MatchResult-weaker q.0 q.2 (λ m. says (at_offset (offset_of m) d) a) (λ why e. e))) (λ why e. e),
  )

  locally : (d : Defaults) (a : Result Match Reason) → ParsesLocally format is_prefix text d a → ParsesLocally other is_prefix text d a
  locally d a p =
      (p.0, says d p.0 p.1, MatchResult-weaker p.0 p.2 (λ s e. e) (λ reason q. option_weaker d.clocks _ q (on_clocks d a)))

  module _ (offset : Option UtcOffset) (clocks : Option Clocks) (latest : OffsetDateTime) where
    years : (n : ℕ) (year : ℤ) (reason : Reason) (a : Result Match Reason)
        → AreYearsTried (undated format is_prefix text offset clocks latest) n year reason a
        → AreYearsTried (undated other is_prefix text offset clocks latest) n year reason a
    unfolding AreYearsTried
    years zero year reason a p = p
    years (suc n) year reason a p = (
      p.0,
      locally (in_year year offset clocks) p.0 p.1,
      MatchResult-weaker p.0 p.2
          (λ s q. bool_weaker (is_after s.moment latest) q (years n (year -ℤ pos 1) reason a) (λ e. e))
          (λ why q. (
            q.0,
            bool_weaker (is_local_time_error why) q.1
                (λ early. (early.0, says (at_offset (offset_of latest) (in_year year offset clocks)) early.0 early.1, early.2)) (λ e. e),
            bool_weaker q.0 q.2 (λ e. e) (years n (year -ℤ pos 1) why a),
          )),
    )

  dated : (d : Defaults) (a : Result Match Reason) → IsDated format is_prefix text d a → IsDated other is_prefix text d a
  dated d a p = (
    p.0,
    locally d p.0 p.1,
    MatchResult-weaker p.0 p.2 (λ s e. e)
        (λ reason q. option_weaker d.latest _ q (λ v. years d.offset d.clocks v 10 (year_after v) reason a)),
  )

module _ (is_prefix : Bool) (text : List ℕ) where
  pub dated_alike : (format other : Reading) (d : Defaults) (a : Result Match Reason) → AreEquivalent text format other
      → IsDated format is_prefix text d a → IsDated other is_prefix text d a
  dated_alike format other d a alike p = dated is_prefix text format other (says_alike is_prefix text format other alike) d a p

  tried_alike : (formats others : List Reading) (d : Defaults) (reason : Reason) (a : Result Match Reason) → AllEquivalent text formats others
      → AreTried formats is_prefix text d reason a → AreTried others is_prefix text d reason a
  tried_alike [] [] d reason a alike p = p
  tried_alike (format ∷ formats) (other ∷ others) d reason a alike p = (
    p.0,
    dated_alike format other d p.0 alike.0 p.1,
    MatchResult-weaker p.0 p.2 (λ s e. e) (λ why q. tried_alike formats others d reason a alike.1 q),
  )
  tried_alike formats others d reason a alike p = absurd alike

  pub in_turn_alike : (format other : Reading) (formats others : List Reading) (d : Defaults) (a : Result Match Reason)
      → AreEquivalent text format other → AllEquivalent text formats others
      → IsReadInTurn format formats is_prefix text d a → IsReadInTurn other others is_prefix text d a
  in_turn_alike format other formats others d a alike all p = (
    p.0,
    dated_alike format other d p.0 alike p.1,
    MatchResult-weaker p.0 p.2 (λ s e. e) (λ reason q. tried_alike formats others d reason a all q),
  )

-- formats that are equal for some bytes are equal for a part of them
pub part_alike : (part bytes : List ℕ) (format other : Reading) → IsSubstring part bytes → AreEquivalent bytes format other → AreEquivalent part format other
part_alike part bytes format other stands (inl e) = inl e
part_alike part bytes format other stands (inr (zones, same, e, f, h)) =
    inr (zones, same, e, f, λ name p. h name (name_deeper name part bytes p stands))

pub parts_alike : (part bytes : List ℕ) (formats others : List Reading) → IsSubstring part bytes → AllEquivalent bytes formats others
    → AllEquivalent part formats others
parts_alike part bytes [] [] stands alike = alike
parts_alike part bytes (format ∷ formats) (other ∷ others) stands alike =
    (part_alike part bytes format other stands alike.0, parts_alike part bytes formats others stands alike.1)
parts_alike part bytes formats others stands alike = absurd alike
