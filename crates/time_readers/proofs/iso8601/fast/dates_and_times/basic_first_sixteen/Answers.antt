use Rattle.std.proofs.Common.{◌≡◌, ◌∙◌, length, ◌++◌, ap, sym, refl, arith}
use Rattle.std.proofs.lemmas.List.{length-take-le, take-append-drop}
use Rattle.time_digits.proofs.WordBytes.{take-drop}
use Rattle.time_readers.proofs.IsoDatesAndTimes.{basic_first_sixteen}
use Rattle.time_readers.proofs.iso8601.fast.dates_and_times.basic_first_sixteen.Goals as goal

pub returns : goal.returns
returns c =
    let text = c.args.input.now in
    let first = c.in_ok-first.first.now in
    let rest = c.in_ok-first.field-0-1.now in
    let split = c.in_ok-first.ensures.cases in
    let within = c.if-not-is_within.ensures refl in
    let cut : text ≡ first ++ rest = sym (take-append-drop 16 text) ∙ (λ i. sym split.0 i ++ sym split.1 i) in
    let long : length first ≡ 16 = ap length split.0 ∙ length-take-le 16 text (omega arith) in
    rw (c.basic_pairs.ensures within, take-drop text 8 (omega arith), take-drop text 13 (omega arith))
    (basic_first_sixteen text first rest cut long within)
