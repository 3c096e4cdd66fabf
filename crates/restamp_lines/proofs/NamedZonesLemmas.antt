-- A verdict is unchanged by tables of zones that differ only in names that aren't in the line.
use Rattle.std.proofs.Common.{◌≡◌, ℕ, Bool, true, false, List, [], ◌∷◌, take, drop, ◌∙◌, None, Some, Option, MatchOption, MatchBool, is_some, option_map, slice_range}
use Rattle.std.proofs.lemmas.Result.{MatchResult-weaker}
use Rattle.time_values.specs.Calendar.{greatest_year}
use Rattle.time_zones.specs.Suffix.{IsSubstring}
use Rattle.restamp_place.specs.Places.{span_of, body_of, body_length, is_prefix}
use Rattle.restamp_place.specs.declared.place.Place.{Place}
use Rattle.restamp_place.specs.declared.fields.Span.{Span}
use Rattle.restamp_lines.specs.Job.{Verdict, IsJudgedAnywhere, IsJudgedIn, part_in, part_of, IsPut, IsFirst, MatchesAlone, AreTriedAlone, MatchesFrom, is_inside, missed}
use Rattle.restamp_formats.specs.Laws.{AreEquivalent, AllEquivalent}
use Rattle.restamp_lines.specs.Laws.{DiffersInZones, DependsOnNamedZones}
use Rattle.restamp_lines.specs.declared.job.Job.{Job}
use Rattle.restamp_lines.specs.declared.job.TheConstants.{REACH}
use Rattle.restamp_formats.specs.declared.reading.Reading.{Reading}
use Rattle.restamp_formats.specs.declared.reading.Match.{Match}
use Rattle.restamp_formats.proofs.EquivalentFormats.{deeper, of_take, of_drop, of_range, dated_alike, in_turn_alike, part_alike, parts_alike}

-- what follows in each case follows in all of them
bool_alike : (b : Bool) {P Q P' Q' : Type 0} → (P → P') → (Q → Q') → MatchBool b P Q → MatchBool b P' Q'
bool_alike true f g = f
bool_alike false f g = g

option_alike : {A : Type 0} (o : Option A) {P P' : Type 0} {Q Q' : A → Type 0} → (P → P') → ((a : A) → Q a → Q' a)
    → MatchOption o P Q → MatchOption o P' Q'
option_alike None f g = f
option_alike (Some a) f g = g a

module _ (job other : Job) (line : List ℕ) (same : DiffersInZones line job other) where
  put_alike : (start : ℕ) (matched : Match) (verdict : Verdict) → IsPut job start matched verdict → IsPut other start matched verdict
  put_alike start matched verdict p = rw (same.form, same.since, same.until) at p

  missed_alike : missed job ≡ missed other
  missed_alike = cc

  says_alone : (body : List ℕ) (k : ℕ) (format next : Reading) (a : Option Match) → IsSubstring body line → AreEquivalent line format next
      → MatchesAlone job body k format a → MatchesAlone other body k next a
  says_alone body k format next a stands alike p =
      let text = take REACH (drop k body) in (
        p.0,
        rw same.defaults at (dated_alike true text format next job.defaults p.0 (part_alike text line format next
            (deeper _ body line (deeper _ (drop k body) body (of_take REACH (drop k body)) (of_drop k body)) stands) alike) p.1),
        p.2,
      )

  tried_alone : (body : List ℕ) (k : ℕ) (formats others : List Reading) (a : Option Match) → IsSubstring body line → AllEquivalent line formats others
      → AreTriedAlone job body k formats a → AreTriedAlone other body k others a
  tried_alone body k [] [] a stands alike p = p
  tried_alone body k [] (next ∷ others) a stands alike p = absurd alike
  tried_alone body k (format ∷ formats) [] a stands alike p = absurd alike
  tried_alone body k (format ∷ formats) (next ∷ others) a stands alike p = (
    p.0,
    says_alone body k format next p.0 stands alike.0 p.1,
    option_alike p.0 (tried_alone body k formats others a stands alike.1) (λ s is. is) p.2,
  )

  says_from : (body : List ℕ) (k : ℕ) (a : Option Match) → IsSubstring body line → MatchesFrom job body k a → MatchesFrom other body k a
  says_from body k a stands p =
      bool_alike (is_inside body k) (λ is. is)
      (tried_alone body k (job.first.now ∷ job.others.now) (other.first.now ∷ other.others.now) a stands (same.first, same.others)) p

  first_alike : (body : List ℕ) (found : Option (ℕ × Match)) → IsSubstring body line → IsFirst job body found → IsFirst other body found
  first_alike body None stands p = λ k below. says_from body k None stands (p k below)
  first_alike body (Some found) stands p =
      (p.0, says_from body found.0 (Some found.1) stands p.1, λ k below. says_from body k None stands (p.2 k below))

  judged_anywhere : (verdict : Verdict) → IsJudgedAnywhere job line verdict → IsJudgedAnywhere other line verdict
  judged_anywhere verdict p = (
    p.0,
    first_alike (body_of line) p.0 (of_take (body_length line) line) p.1,
    option_alike p.0 (λ is. is ∙ missed_alike) (λ f. put_alike f.0 f.1 verdict) p.2,
  )

  judged_in : (found : Option Span) (prefix : Bool) (verdict : Verdict) → IsJudgedIn job (option_map (part_in line prefix) found) verdict
      → IsJudgedIn other (option_map (part_in line prefix) found) verdict
  judged_in None prefix verdict p = p ∙ missed_alike
  judged_in (Some span) prefix verdict p =
      let text = slice_range line span.start span.stop in
      let stands = of_range span.start span.stop line in (
        p.0,
        rw same.defaults at (in_turn_alike prefix text _ _ _ _ job.defaults p.0 (part_alike text line _ _ stands same.first)
            (parts_alike text line _ _ stands same.others) p.1),
        MatchResult-weaker p.0 p.2 (λ matched. put_alike span.start matched verdict) (λ e is. is),
      )

  judged_at : (place : Option Place) (verdict : Verdict) → IsJudgedIn job (part_of place line) verdict
      → IsJudgedIn other (part_of place line) verdict
  judged_at None verdict = λ p. p ∙ missed_alike
  judged_at (Some place) verdict = judged_in (span_of place line) (is_prefix place) verdict

pub needs_named_zones : DependsOnNamedZones
needs_named_zones job other line verdict same p =
    rw (← same.place) (bool_alike (is_some job.place) (judged_at job other line same job.place verdict)
    (judged_anywhere job other line same verdict) p)
