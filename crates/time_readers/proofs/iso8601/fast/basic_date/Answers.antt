use Rattle.std.proofs.Common.{◌∙◌, ◌∷◌, [], get_or, ap, sym, rules}
use Rattle.time_digits.specs.Digits.{AllDigits}
use Rattle.time_readers.specs.IsoDates.{date_text}
use Rattle.time_readers.specs.IsoPieces.{numbered, months}
use Rattle.time_digits.proofs.WordBytes.{take-drop}
use Rattle.time_readers.proofs.IsoDatesAndTimes.{basic_date, first_eight}
use Rattle.time_readers.proofs.iso8601.fast.basic_date.Goals as goal

pub returns-clause-digits : goal.returns-clause-digits
returns-clause-digits c m month some =
    let s = c.args.input.now in
    let d : AllDigits (get_or s 0 0 ∷ get_or s 1 0 ∷ get_or s 2 0 ∷ get_or s 3 0
    ∷ get_or s 4 0 ∷ get_or s 5 0 ∷ get_or s 6 0 ∷ get_or s 7 0 ∷ []) = search rules in
    let long = c.in-48-to-57.len_at_least in
    rw (take-drop s 8 long, c.two_digits.ensures, c.two_digits-2.ensures, c.two_digits-4.ensures)
    (ap date_text (first_eight s long) ∙ basic_date _ _ _ _ _ _ _ _ _ _ d.0 d.1.0 d.1.1.0 d.1.1.1.0 d.1.1.1.1.0 d.1.1.1.1.1.0 d.1.1.1.1.1.1.0 d.1.1.1.1.1.1.1.0
    (ap (numbered months) (sym c.two_digits-3.ensures) ∙ month) (λ e. some (c.two_digits-4.ensures ∙ e)))
