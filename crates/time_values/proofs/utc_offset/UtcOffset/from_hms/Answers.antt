use Rattle.std.proofs.Common.{◌≡◌, ap, ◌∙◌, arith, w8}
use Rattle.std.proofs.lemmas.Int.{ints, to_z-of_z}
use Rattle.time_values.specs.Sign.{same_sign}
use Rattle.time_values.proofs.YearLemmas.{no_offset_refusal, signed-one}
use Rattle.time_values.proofs.utc_offset.UtcOffset.from_hms.Goals as goal

pub invariant_of-result-clause-minutes_in : goal.invariant_of-result-clause-minutes_in
invariant_of-result-clause-minutes_in c = grind (arith, to_z-of_z)

pub invariant_of-result-clause-seconds_in : goal.invariant_of-result-clause-seconds_in
invariant_of-result-clause-seconds_in c = grind (arith, to_z-of_z)

pub invariant_of-result-clause-one_sign : goal.invariant_of-result-clause-one_sign
invariant_of-result-clause-one_sign c =
    let h = to_z-of_z w8 c.args.hours (omega (arith, ints)) in
    let m = to_z-of_z w8 c.args.minutes (omega (arith, ints)) in
    let s = to_z-of_z w8 c.args.seconds (omega (arith, ints)) in
    let between = to_z-of_z w8 c.same_sign-2.result (omega (arith, ints)) in
    let minutes : c.same_sign.result ≡ same_sign c.args.hours c.args.minutes = simp (h, m) at c.same_sign.ensures.value in
    let later : c.same_sign-2.result ≡ same_sign c.args.minutes c.args.seconds = simp (m, s) at c.same_sign-2.ensures.value in
    let last : c.same_sign-3.result ≡ same_sign c.args.hours c.same_sign-2.result = simp (h, between) at c.same_sign-3.ensures.value in
    signed-one c.args.hours c.args.minutes c.args.seconds _ _ _ h
    (to_z-of_z w8 c.same_sign.result (omega (arith, ints)) ∙ minutes)
    (to_z-of_z w8 c.same_sign-3.result (omega (arith, ints)) ∙ last ∙ ap (same_sign c.args.hours) later)

pub returns : goal.returns
returns c =
    let none = no_offset_refusal c.args.hours c.args.minutes c.args.seconds
    (omega (arith, ints), omega (arith, ints)) (omega (arith, ints), omega (arith, ints)) (omega (arith, ints), omega (arith, ints)) in
    rw none (grind (arith, to_z-of_z))
