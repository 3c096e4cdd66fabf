use Rattle.std.proofs.Common.{◌≡◌, ◌≤◌, length, drop}
use Rattle.restamp_place.specs.Fields as fields
use Rattle.restamp_place.proofs.WordLemmas.{further_on}
use Rattle.restamp_place.proofs.fields.nth_field.Given as goal

abbrev pub invariant-loop-left : goal.invariant-loop-left
invariant-loop-left l =
    (l.start ≤ length l.line)
    × (fields.nth_field l.kind l.n l.line ≡ further_on l.start (fields.nth_field l.kind l.left (drop l.start l.line)))

abbrev pub decreases-loop-left : goal.decreases-loop-left
decreases-loop-left l = l.left
