use Rattle.std.proofs.Common.{◌≡◌, ℕ, suc, ◌<◌, ◌≤◌, length}
use Rattle.time_descriptions.specs.Components.{modifiers}
use Rattle.time_descriptions.specs.Modifiers.{default}
use Rattle.time_descriptions.proofs.component.read_modifiers.Given as goal

-- the rest, with the values so far, gives the result of the whole text, with enough iterations left
abbrev pub invariant-loop-name : goal.invariant-loop-name
invariant-loop-name l =
    (n : ℕ) × (length l.rest < n) × (length l.rest ≤ length l.text)
    × (modifiers l.name n l.modifiers l.rest ≡ modifiers l.name (suc (length l.text)) default l.text)

abbrev pub decreases-loop-name : goal.decreases-loop-name
decreases-loop-name l = length l.rest
