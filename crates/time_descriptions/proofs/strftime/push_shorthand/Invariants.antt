use Rattle.std.proofs.Common.{◌≡◌, ◌≤◌, ◌++◌, length, map, take}
use Rattle.time_descriptions.specs.Strftime.{step_of_byte}
use Rattle.time_descriptions.proofs.strftime.push_shorthand.Given as goal

abbrev pub invariant-loop-byte : goal.invariant-loop-byte
invariant-loop-byte g l =
    record {
      added : l.steps.items ≡ l.fn.steps.items ++ map step_of_byte (take l.byte-index l.bytes);
      room : length l.fn.steps.items ≤ g.row.N → length l.steps.items ≤ g.row.N;
    }
