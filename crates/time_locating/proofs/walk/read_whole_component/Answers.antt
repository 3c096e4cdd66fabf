use Rattle.std.proofs.Common.{subst, true}
use Rattle.time_values.specs.Calendar.{greatest_year}
use Rattle.time_values.specs.Refusal.{refusal_of_description}
use Rattle.time_record.specs.Reading.{Reads, Refuses}
use Rattle.time_locating.proofs.TurnSteps.{component_misses, component_reads, v3_component}
use Rattle.time_locating.proofs.MarkSteps.{component_marks, marks_unread}
use Rattle.time_locating.proofs.walk.read_whole_component.Goals as goal

pub returns-in-Ok-clause-misses : goal.returns-in-Ok-clause-misses
returns-in-Ok-clause-misses c =
    let read = subst (λ t. Reads greatest_year t c.args.input.now c.args.parsed.now c.in-Ok.rest.now c.parse_v3.new.self)
    (v3_component c.args.component) c.in-Ok.ensures in
    component_reads _ _ _ true _ _ _ read

pub returns-clause-misses : goal.returns-clause-misses
returns-clause-misses c =
    let refused = subst (λ t. Refuses greatest_year t c.args.input.now c.args.parsed.now (refusal_of_description c.in-Err.fault))
    (v3_component c.args.component) c.in-Err.ensures.0 in
    rw (c.missed_at.ensures, c.expected_of.ensures) (component_misses _ _ _ true _ _ refused)

pub returns-in-Ok-clause-marks : goal.returns-in-Ok-clause-marks
returns-in-Ok-clause-marks c =
    let read = subst (λ t. Reads greatest_year t c.args.input.now c.args.parsed.now c.in-Ok.rest.now c.parse_v3.new.self)
    (v3_component c.args.component) c.in-Ok.ensures in
    component_marks _ _ _ true _ _ _ _ read c.mark_of.ensures

pub returns-clause-marks : goal.returns-clause-marks
returns-clause-marks c =
    let refused = subst (λ t. Refuses greatest_year t c.args.input.now c.args.parsed.now (refusal_of_description c.in-Err.fault))
    (v3_component c.args.component) c.in-Err.ensures.0 in
    marks_unread _ _ _ _ refused.unread
