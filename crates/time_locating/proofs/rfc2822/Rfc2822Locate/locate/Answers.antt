use Rattle.std.proofs.Common.{◌≡◌, ℕ, ◌≤◌, List, [], true, Some, length, refl, inl, ap, ◌∙◌, arith}
use Rattle.std.proofs.lemmas.Option.{none-some, same_Some}
use Rattle.time_values.specs.Calendar.{greatest_year}
use Rattle.time_readers.specs.Rfc2822.{PlaceSyntax, FailsAt, nothing_read, places}
use Rattle.time_readers.specs.declared.rfc2822.Place.{Place}
use Rattle.time_parsing.specs.Outcome.{begun}
use Rattle.time_parsing.specs.Rfc2822.{Reads}
use Rattle.time_locating.specs.Misses.{missed}
use Rattle.time_locating.specs.Rfc2822.{expected_at, expected_from}
use Rattle.time_locating.proofs.MailParts.{expected_from-within}
use Rattle.time_locating.proofs.WholeTexts.{left-within, stands-located, mail_reads_form}
use Rattle.time_locating.proofs.rfc2822.Rfc2822Locate.locate.Goals as goal

pub after_all-requires : goal.after_all-requires
after_all-requires c =
    left-within (PlaceSyntax true) places nothing_read c.args.input.now c.in-Ok.found.0.now c.in-Ok.found.1 c.in-Ok.ensures

pub returns-in-Ok : goal.returns-in-Ok
returns-in-Ok c =
    stands-located (PlaceSyntax true) places nothing_read expected_from expected_at (Reads greatest_year) (begun c.args._defaults)
    c.args.input.now c.in-Ok.found.0.now c.in-Ok.found.1 c.after_all.result c.in-Ok.ensures
    (λ r form. mail_reads_form c.args.input.now [] c.in-Ok.found.1 r form) c.after_all.ensures

pub returns-in_err-rest-in-Err : goal.returns-in_err-rest-in-Err
returns-in_err-rest-in-Err c = absurd (none-some c.in-Err.ensures.mid (c.in_err-rest-in-Err.ensures c.in-Err.ensures))

within : (bytes : List ℕ) (p : Place) (s : FailsAt true bytes p) → length (expected_from p s.mid) ≤ length bytes
within bytes p s =
    let all = left-within (PlaceSyntax true) s.before nothing_read bytes s.mid s.numbers s.stand in
    omega (arith, expected_from-within p s.mid)

-- the result is where the expected text should begin
same_rest : (p : Place) (bytes rest from : List ℕ) (s : FailsAt true bytes p) → Some rest ≡ Some s.mid → from ≡ expected_from p rest
    → length from ≡ length (expected_from p s.mid)
same_rest p bytes rest from s is e = ap length e ∙ ap (λ b. length (expected_from p b)) (same_Some rest s.mid is)

pub overflow_sub-result : goal.overflow_sub-result
overflow_sub-result c =
    let stop = c.in-Err.ensures in
    let same = same_rest c.in-Err.place c.args.input.now c.in_ok-rest-in-Err.rest.now _ stop (c.in_ok-rest-in-Err.ensures stop) c.expected_from.ensures in
    omega (arith, within c.args.input.now c.in-Err.place stop)

pub returns-in_ok-rest-in-Err : goal.returns-in_ok-rest-in-Err
returns-in_ok-rest-in-Err c =
    let stop = c.in-Err.ensures in
    let same = same_rest c.in-Err.place c.args.input.now c.in_ok-rest-in-Err.rest.now _ stop (c.in_ok-rest-in-Err.ensures stop) c.expected_from.ensures in (
      missed (length (expected_from c.in-Err.place stop.mid)) (expected_at c.in-Err.place),
      inl (c.in-Err.place, stop, refl),
      omega (arith, within c.args.input.now c.in-Err.place stop),
      c.expected_at.ensures,
    )
