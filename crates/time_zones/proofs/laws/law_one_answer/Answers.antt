use Rattle.time_zones.proofs.FolderLemmas.{is_answer, one_answer}
use Rattle.time_zones.proofs.laws.law_one_answer.Goals as goal

pub returns : goal.returns
returns c = λ other. λ is.
    let answer = is_answer c.args.zone.now c.args.clock c.assume_zone.result c.assume_zone.ensures.ok c.assume_zone.ensures.err in
    one_answer c.args.zone.now c.args.clock other c.assume_zone.result is answer
