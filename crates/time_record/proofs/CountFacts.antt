-- Worked values of counts and of whole characters, so that a wrong rule in the specs fails the check. They follow from the definitions, without any code. `Y`
-- is the greatest year.
use Rattle.std.proofs.Common.{◌≡◌, ℕ, List, [], ◌∷◌, true, false, codes, refl, sym, subst, inl, inr, arith}
use Rattle.time_components.specs.Spelling.{nothing, BeginsCharacter}
use Rattle.time_components.specs.Tree.{component, sequence, optional, first_of, trees}
use Rattle.time_components.specs.declared.format_description.Component.TheVariants as kind
use Rattle.time_components.specs.declared.modifier.Ignore.{Ignore}
use Rattle.time_record.specs.Reading.{Reads, ReadsAll, NoReading, Clean, CleanAll, CleanFirst, Begins, BeginsAll, BeginsFirst, places}
use Rattle.time_record.specs.Record.{Record}
use Rattle.time_record.proofs.Unique.{Reads-unique, one_count}
use Rattle.time_record.proofs.ReadingFacts.{at_12, at_12_34, clock, clock_or_hour, colon, hour, hour_reads_two_digits, list_reads_in_turn}
use Rattle.time_record.proofs.ReadingFacts.{minute, no_clock_at_12x, no_colon, no_hour_of_one_digit, reads_hour, reads_minute}

-- lists, alternatives and optional trees are places too
pub six_places_of_alternatives : places clock_or_hour ≡ 6
six_places_of_alternatives = refl

pub four_places_of_a_list : places clock ≡ 4
four_places_of_a_list = refl

pub two_places_of_an_optional : places (optional minute) ≡ 2
two_places_of_an_optional = refl

pub alternatives_are_a_place : places clock_or_hour ≡ 5 → ⊥
alternatives_are_a_place h = omega (arith, h)

pub list_is_a_place : places clock ≡ 3 → ⊥
list_is_a_place h = omega (arith, h)

pub optional_is_a_place : places (optional minute) ≡ 1 → ⊥
optional_is_a_place h = omega (arith, h)

module _ (Y : ℕ) (r : Record) where
  abbrev twelve : Record
  twelve = at_12 Y r

  abbrev late : Record
  late = at_12_34 Y r

  -- the list, the first alternative, its hour and its colon, and the second alternative
  pub five_are_begun : Begins Y clock_or_hour (codes "12x") r 5
  unfolding Begins BeginsAll BeginsFirst
  five_are_begun =
      let colon_at_x : BeginsAll Y (trees (colon ∷ minute ∷ [])) (codes "x") twelve 1 = (1, refl, inl (no_colon Y twelve [], refl)) in
      let reads_12 = hour_reads_two_digits Y r in
      let first : BeginsAll Y (trees (hour ∷ colon ∷ minute ∷ [])) (codes "12x") r 2 = (1, refl, inr (codes "x", twelve, reads_12, 1, colon_at_x, refl)) in
      let second : BeginsFirst Y (trees (hour ∷ [])) (codes "12x") r 1 = (1, refl, inl (codes "x", twelve, reads_12, refl)) in
      (4, (3, (2, first, refl), inr (no_clock_at_12x Y r, 1, second, refl)), refl)

  -- a list visits no item after one without a reading
  pub four_are_begun : Begins Y clock_or_hour (codes "1x") r 4
  unfolding Begins BeginsAll BeginsFirst Reads ReadsAll
  four_are_begun =
      let unread = no_hour_of_one_digit Y r in
      let no_clock : NoReading Y clock (codes "1x") r = λ rest q h. unread h.0 h.1 h.2 in
      let first : BeginsAll Y (trees (hour ∷ colon ∷ minute ∷ [])) (codes "1x") r 1 = (1, refl, inl (unread, refl)) in
      let second : BeginsFirst Y (trees (hour ∷ [])) (codes "1x") r 1 = (1, refl, inr (unread, 0, refl, refl)) in
      (3, (2, (1, first, refl), inr (no_clock, 1, second, refl)), refl)

  -- alternatives visit no item after one that reads
  pub five_of_a_whole_clock : Begins Y clock_or_hour (codes "12:34x") r 5
  unfolding Begins BeginsAll BeginsFirst Reads
  five_of_a_whole_clock =
      let reads_12 : Reads Y hour (codes "12:34x") r (codes ":34x") twelve = reads_hour Y r 12 (codes ":34x") twelve (omega arith) refl in
      let reads_34 : Reads Y minute (codes "34x") twelve (codes "x") late = reads_minute Y twelve 34 (codes "x") late (omega arith) refl in
      let last : BeginsAll Y (trees (minute ∷ [])) (codes "34x") twelve 1 = (1, refl, inr (codes "x", late, reads_34, 0, refl, refl)) in
      let two : BeginsAll Y (trees (colon ∷ minute ∷ [])) (codes ":34x") twelve 2 = (1, refl, inr (codes "34x", twelve, (refl, refl), 1, last, refl)) in
      let three : BeginsAll Y (trees (hour ∷ colon ∷ minute ∷ [])) (codes "12:34x") r 3 = (1, refl, inr (codes ":34x", twelve, reads_12, 2, two, refl)) in
      (4, (4, (3, three, refl), inl (codes "x", late, list_reads_in_turn Y r, refl)), refl)

  pub an_optional_begins_two : Begins Y (optional minute) (codes "x") r 2
  unfolding Begins
  an_optional_begins_two = (1, refl, refl)

  -- no alternative is visited twice
  pub no_eight_begun : Begins Y clock_or_hour (codes "12x") r 8 → ⊥
  no_eight_begun h = omega (arith, one_count Y clock_or_hour (codes "12x") r 5 8 five_are_begun h)

  -- the minute after the missing colon isn't visited
  pub no_six_begun : Begins Y clock_or_hour (codes "12x") r 6 → ⊥
  no_six_begun h = omega (arith, one_count Y clock_or_hour (codes "12x") r 5 6 five_are_begun h)

  pub no_optional_begins_one : Begins Y (optional minute) (codes "x") r 1 → ⊥
  no_optional_begins_one h = omega (arith, one_count Y (optional minute) (codes "x") r 2 1 an_optional_begins_two h)

-- ---- Bytes that are ignored, and whole characters

-- the two bytes of `é`
abbrev accented : List ℕ
accented = 195 ∷ 169 ∷ []

module _ (Y : ℕ) (r : Record) (m : Ignore) (one : m.count.value ≡ 1) where
  pub one_byte_is_ignored : Reads Y (component false (kind.Ignore m)) accented r (169 ∷ []) r
  unfolding Reads
  one_byte_is_ignored = record { text = 195 ∷ []; value = nothing; cut = refl; spells = (refl, sym one, tt); puts = refl }

  pub a_character_is_ignored : Reads Y (component true (kind.Ignore m)) (codes "ab") r (codes "b") r
  unfolding Reads
  a_character_is_ignored = record { text = codes "a"; value = nothing; cut = refl; spells = (refl, sym one, inl (omega arith)); puts = refl }

  -- a marked component reads no part of a character
  pub no_half_character_is_ignored : NoReading Y (component true (kind.Ignore m)) accented r
  unfolding Reads
  no_half_character_is_ignored = λ rest q h.
      let plain : Reads Y (component false (kind.Ignore m)) accented r rest q = record {
        text = h.text;
        value = h.value;
        cut = h.cut;
        spells =
            (h.spells.0, h.spells.1, tt);
        puts = h.puts;
      } in
      let same = Reads-unique Y (component false (kind.Ignore m)) accented r (169 ∷ []) r rest q one_byte_is_ignored plain in
      let begins : BeginsCharacter (169 ∷ []) = subst BeginsCharacter (sym same.0) h.spells.2 in
      elim begins [ inl a ↦ omega (arith, a) | inr a ↦ omega (arith, a) ]

  pub clean_where_a_character_ends : Clean Y (component false (kind.Ignore m)) (codes "ab") r
  unfolding Clean Reads
  clean_where_a_character_ends = λ other rest q is h.
      let plain : Reads Y (component false (kind.Ignore m))
      (codes "ab") r (codes "b") r = record { text = codes "a"; value = nothing; cut = refl; spells = (refl, sym one, tt); puts = refl } in
      let same = Reads-unique Y (component false (kind.Ignore m)) (codes "ab") r (codes "b") r rest q plain h in
      subst BeginsCharacter same.0 (inl (omega arith))

  pub not_clean_inside_a_character : Clean Y (component false (kind.Ignore m)) accented r → ⊥
  unfolding Clean Reads
  not_clean_inside_a_character clean =
      elim (clean m (169 ∷ []) r refl one_byte_is_ignored) [ inl a ↦ omega (arith, a) | inr a ↦ omega (arith, a) ]

  -- an item that isn't visited may end inside a character
  pub clean_after_a_fault : Clean Y (sequence (trees (colon ∷ component false (kind.Ignore m) ∷ []))) (codes "x") r
  unfolding Clean CleanAll
  clean_after_a_fault = (tt, λ mid q h. absurd (no_colon Y r [] mid q h))

  -- nor is an alternative visited after one that is read
  pub clean_after_an_alternative : Clean Y (first_of (trees (colon ∷ sequence (trees (colon ∷ component false (kind.Ignore m) ∷ [])) ∷ [])))
      (58 ∷ accented) r
  unfolding Clean CleanAll CleanFirst Reads
  clean_after_an_alternative = (tt, λ unread. absurd (unread accented r (refl, refl)))

  pub not_clean_in_a_list : Clean Y (sequence (trees (component false (kind.Ignore m) ∷ []))) accented r → ⊥
  unfolding Clean CleanAll
  not_clean_in_a_list clean = not_clean_inside_a_character clean.0

  pub not_clean_in_an_optional : Clean Y (optional (component false (kind.Ignore m))) accented r → ⊥
  unfolding Clean
  not_clean_in_an_optional clean = not_clean_inside_a_character clean
