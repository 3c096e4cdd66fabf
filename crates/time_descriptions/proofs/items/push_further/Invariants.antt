use Rattle.std.proofs.Common.{◌≡◌, ◌≤◌, ◌++◌, length, map, take}
use Rattle.time_components.specs.declared.inspect.Step.TheVariants as step
use Rattle.time_descriptions.proofs.items.push_further.Given as goal

abbrev pub invariant-loop-byte : goal.invariant-loop-byte
invariant-loop-byte g l =
    record {
      added : l.steps.items ≡ l.fn.steps.items ++ map step.More (take l.byte-index l.bytes);
      room : length l.fn.steps.items ≤ g.row.N → length l.steps.items ≤ g.row.N;
    }
