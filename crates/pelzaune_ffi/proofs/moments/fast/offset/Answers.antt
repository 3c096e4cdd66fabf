use Rattle.std.proofs.Common.{◌≡◌, ◌⊎◌, ◌-◌, ◌*◌, ◌+◌, false, get_or, inl, inr, arith}
use Rattle.std.proofs.lemmas.Bool.{cases_lt}
use Rattle.time_readers.proofs.ToSecond.{offset_stands, zulu_stands}
use Rattle.pelzaune_ffi.proofs.IsoInPlace.{nothing_left}
use Rattle.pelzaune_ffi.proofs.moments.fast.offset.Goals as goal

pub returns-in-90-clause-matches : goal.returns-in-90-clause-matches
returns-in-90-clause-matches c =
    let rest = c.args.rest.now in
    rw (nothing_left rest 1 (omega arith)) at (zulu_stands false c.args.numbers rest c.in-90.len_at_least (inl (omega arith)))

pub returns-clause-matches : goal.returns-clause-matches
returns-clause-matches c =
    let rest = c.args.rest.now in
    let sign : (get_or rest 0 0 ≡ 43) ⊎ (get_or rest 0 0 ≡ 45) =
    elim (cases_lt (get_or rest 0 0) 44) [ inl low ↦ inl (omega arith) | inr high ↦ inr (omega arith) ] in
    let hour = 10 * (get_or rest 1 0 - 48) + (get_or rest 2 0 - 48) in
    let minute = 10 * (get_or rest 4 0 - 48) + (get_or rest 5 0 - 48) in
    rw (nothing_left rest 6 (omega arith)) at
    (offset_stands false c.args.numbers rest hour minute c.in-45.len_at_least c.requires.utc sign (omega arith)
    (omega arith, omega arith) (omega arith, omega arith) (omega arith, omega arith) (omega arith, omega arith)
    (omega arith) (omega arith) (omega arith) (omega arith))
