use Rattle.std.proofs.Common.{map, refl, arith}
use Rattle.std.proofs.lemmas.List.{length-map}
use Rattle.time_values.specs.Refusal.{refusal_of_description}
use Rattle.time_record.proofs.WalkSteps.{steps_trees-end, Resumes-end}
use Rattle.pelzaune_ffi.specs.Described.{step_of}
use Rattle.pelzaune_ffi.proofs.StoredRows.{rest_reads, rest_refuses}
use Rattle.pelzaune_ffi.proofs.stored.read_stored.Goals as goal

pub returns-in_default : goal.returns-in_default
returns-in_default c =
    let left = c.read_front.result.0.now in
    let progress = rw c.steps_in_use.ensures.steps at c.read_front.ensures.progress in
    Resumes-end progress (steps_trees-end (map step_of left) (omega (arith, length-map left step_of)))

pub returns-in-Ok : goal.returns-in-Ok
returns-in-Ok c =
    let progress = rw c.steps_in_use.ensures.steps at c.read_front.ensures.progress in
    rest_reads progress c.in-Ok.rest.now c.read_left.new.parsed c.in-Ok.ensures

pub returns-in-Err : goal.returns-in-Err
returns-in-Err c =
    let progress = rw c.steps_in_use.ensures.steps at c.read_front.ensures.progress in
    (rest_refuses progress (refusal_of_description c.in-Err.fault) c.in-Err.ensures.0, refl)
