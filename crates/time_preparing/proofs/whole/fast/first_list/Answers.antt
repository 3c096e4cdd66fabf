use Rattle.std.proofs.Common.{arith}
use Rattle.time_preparing.proofs.Wholes.{first_leads}
use Rattle.time_preparing.proofs.whole.fast.first_list.Goals as goal

pub returns : goal.returns
returns c =
    first_leads c.args.steps.now c.choice-item.result c.list-item.result c.in_ok-all.all c.in_ok-len.len (omega arith) c.choice-item.is
    (omega arith) c.list-item.is c.in_ok-all.ensures c.in_ok-len.ensures c.split_at.result.0.now (omega arith) (omega arith)
    c.split_at.ensures.front
