use Rattle.std.proofs.Common.{◌≡◌, ℕ, false, ◌∷◌, take}
use Rattle.restamp_lines.specs.Begins.{IsInNone, is_in}
use Rattle.restamp_lines.proofs.anywhere.firsts.all_firsts.Given as goal

abbrev pub invariant-loop-reading : goal.invariant-loop-reading
invariant-loop-reading l =
    (x : ℕ) → is_in l.firsts x ≡ false → IsInNone x (l.first ∷ take l.reading-index l.others)
