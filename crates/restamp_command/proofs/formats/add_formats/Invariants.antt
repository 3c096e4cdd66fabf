-- The formats before the index are in the list.
use Rattle.std.proofs.Common.{take, map}
use Rattle.restamp_command.specs.Request.{AddsFormats}
use Rattle.restamp_command.proofs.formats.add_formats.Given as goal

abbrev pub invariant-loop-name : goal.invariant-loop-name
invariant-loop-name g l =
    AddsFormats l.has_year (map (λ name. name.now) (take l.name-index l.names)) l.initial.formats.items l.formats.items
