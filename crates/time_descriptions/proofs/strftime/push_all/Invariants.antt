use Rattle.std.proofs.Common.{◌≡◌, ◌≤◌, ◌++◌, length, take}
use Rattle.time_descriptions.proofs.strftime.push_all.Given as goal

abbrev pub invariant-loop-step : goal.invariant-loop-step
invariant-loop-step g l =
    record {
      added : l.steps.items ≡ l.fn.steps.items ++ take l.step-index l.added;
      room : length l.fn.steps.items ≤ g.row.N → length l.steps.items ≤ g.row.N;
    }
