use Rattle.std.proofs.Common.{◌++◌, ℕ, refl, false, Option, Some, None, IfSome, Ok, List, []}
use Rattle.time_values.specs.Calendar.{greatest_year}
use Rattle.time_values.specs.declared.offset_date_time.OffsetDateTime.{OffsetDateTime}
use Rattle.time_readers.specs.Direct.{IsMade, RefusesRfc2822, rfc2822_numbers}
use Rattle.time_readers.specs.Readers.{MatchesPlaces}
use Rattle.time_readers.specs.Rfc2822.{PlaceSyntax, HasForm, day_places, nothing_read, offset_places, to_offset_places}
use Rattle.time_readers.specs.declared.rfc2822.Numbers.{Numbers}
use Rattle.time_readers.proofs.Walking.{MatchesPlaces-append}
use Rattle.time_parsing.specs.Outcome.{IsMomentOutcome, direct}
use Rattle.time_parsing.specs.Rfc2822.{Reads, Refuses}
use Rattle.time_parsing.specs.exact.RecordedRfc2822.{direct-value}
use Rattle.pelzaune_ffi.proofs.moments.fast.rfc2822.moment.Goals as goal

-- ---- Mail dates that are parsed in place

-- the places of a whole text, one after another
whole_matches : (bytes mid left : List ℕ) (n k m : Numbers) → MatchesPlaces (PlaceSyntax false) day_places nothing_read bytes mid n
    → MatchesPlaces (PlaceSyntax false) to_offset_places n mid left k → MatchesPlaces (PlaceSyntax false) offset_places k left [] m → HasForm false bytes [] m
whole_matches bytes mid left n k m first middle last =
    MatchesPlaces-append (PlaceSyntax false) day_places (to_offset_places ++ offset_places) nothing_read n m bytes mid [] first
    (MatchesPlaces-append (PlaceSyntax false) to_offset_places offset_places n k m mid left [] middle last)

-- parsing the whole text results in the moment of its numbers
outcome_of : (bytes : List ℕ) (n : Numbers) (o : Option OffsetDateTime) → HasForm false bytes [] n
    → IfSome o (λ v. IsMade greatest_year (rfc2822_numbers n) v)
    → IfSome o (λ v. IsMomentOutcome greatest_year (direct (RefusesRfc2822 greatest_year)) (Reads greatest_year)
    (Refuses greatest_year) bytes None (Ok v))
outcome_of bytes n None form made = made
outcome_of bytes n (Some v) form made = direct-value bytes v (n, form, refl, made)

pub returns : goal.returns
returns c =
    let text = c.args.text.now in
    let first = c.to_day.new.numbers in
    let second = c.to_offset.new.numbers in
    let third = c.offset.new.numbers in
    let matches = whole_matches text c.in_ok-rest.rest.now c.in_ok-rest-2.rest.now first second third
    c.in_ok-rest.ensures c.in_ok-rest-2.ensures.stands (rw c.in_ok-offset.ensures.end at c.in_ok-offset.ensures.stands) in
    outcome_of text third c.moment_from.result matches (rw c.rfc2822_numbers.ensures at c.moment_from.ensures)
