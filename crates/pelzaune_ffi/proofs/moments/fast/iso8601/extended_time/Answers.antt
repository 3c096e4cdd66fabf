use Rattle.std.proofs.Common.{◌≡◌, ◌≤◌, ◌∷◌, [], get_or, drop, arith, rules, None}
use Rattle.time_digits.specs.Digits.{AllDigits}
use Rattle.time_digits.proofs.WordBytes.{take-drop}
use Rattle.time_readers.specs.IsoGrammar.{two_digits}
use Rattle.time_readers.specs.IsoPieces.{point}
use Rattle.pelzaune_ffi.proofs.IsoInPlace.{extended_time}
use Rattle.pelzaune_ffi.proofs.moments.fast.iso8601.extended_time.Goals as goal

pub returns : goal.returns
returns c =
    let s = c.args.text.now in
    let long = c.in-84.len_at_least in
    let d : AllDigits (get_or s 1 0 ∷ get_or s 2 0 ∷ get_or s 4 0 ∷ get_or s 5 0 ∷ get_or s 7 0 ∷ get_or s 8 0 ∷ []) = search rules in
    let small : two_digits (get_or s 1 0) (get_or s 2 0) ≤ 23 = omega (arith, c.two_digits-hour.ensures) in
    let none : point (drop 9 s) ≡ None = rw (take-drop s 9 long) at (c.has_no_fraction.ensures c.if-not-has_no_fraction.false) in
    rw (take-drop s 9 long, c.two_digits-hour.ensures, c.two_digits.ensures, c.two_digits-2.ensures)
    (extended_time s long (search rules) d.0 d.1.0 small (search rules) d.1.1.0 (search rules) d.1.1.1.0 (search rules)
    d.1.1.1.1.0 (search rules) d.1.1.1.1.1.0 none)
