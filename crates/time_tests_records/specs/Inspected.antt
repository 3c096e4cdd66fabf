-- The tree of an item that counts how often it is inspected.
use Rattle.time_components.specs.Tree.{Tree, literal, component, sequence, trees}
use Rattle.std.specs.Prelude.{false}
use Rattle.time_tests_records.specs.declared.inspected.Inspected.{Inspected}
use Rattle.time_tests_records.specs.declared.inspected.Inspected.TheOpen as inspected
use Rattle.time_tests_records.specs.declared.inspected.Inspected.TheFolds.{fold-Inspected}

abbrev pub inspected_step : inspected.Inspected-F Tree → Tree
inspected_step (inspected.Literal count text) = literal text.now
inspected_step (inspected.Component count c) = component false c
inspected_step (inspected.List count items) = sequence (trees items.now)

abbrev pub inspected_shape : Inspected → Tree
inspected_shape = fold-Inspected Tree inspected_step
