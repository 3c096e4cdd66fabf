use Rattle.std.proofs.Common.{◌≡◌}
use Rattle.restamp_in_place.proofs.replacing.create_beside.Given as goal

abbrev pub invariant-loop-number : goal.invariant-loop-number
invariant-loop-number g l = g.F.Folder.events l.folder ≡ g.F.Folder.events l.fn.folder
