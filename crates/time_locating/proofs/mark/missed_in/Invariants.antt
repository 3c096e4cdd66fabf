use Rattle.std.proofs.Common.{◌≡◌, length}
use Rattle.time_locating.specs.Misses.{all_bytes, literal_misses}
use Rattle.time_locating.proofs.mark.missed_in.Given as goal

abbrev pub invariant-loop-wanted : goal.invariant-loop-wanted
invariant-loop-wanted l = literal_misses all_bytes l.wanted l.rest ≡ literal_misses all_bytes l.fn.text l.fn.input

abbrev pub decreases-loop-wanted : goal.decreases-loop-wanted
decreases-loop-wanted l = length l.wanted
