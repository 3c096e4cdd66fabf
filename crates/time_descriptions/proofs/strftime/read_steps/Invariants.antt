use Rattle.std.proofs.Common.{◌≡◌, ◌≤◌, List, length}
use Rattle.time_descriptions.specs.Items.{Item, flat}
use Rattle.time_descriptions.specs.Strftime.{followed, strftime}
use Rattle.time_descriptions.proofs.strftime.read_steps.Given as goal

-- the items so far and their steps, and the rest has the other items
abbrev pub invariant-loop-rest : goal.invariant-loop-rest
invariant-loop-rest g l =
    record {
      front : List Item;
      told : strftime l.text ≡ followed front (strftime l.rest);
      steps : l.steps.items ≡ flat front;
      room : length l.steps.items ≤ g.row.N;
    }

abbrev pub decreases-loop-rest : goal.decreases-loop-rest
decreases-loop-rest g l = length l.rest
