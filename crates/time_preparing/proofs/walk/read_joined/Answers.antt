use Rattle.std.proofs.Common.{arith}
use Rattle.time_preparing.proofs.Going.{front_goes, Resumes-further}
use Rattle.time_preparing.proofs.walk.read_joined.Goals as goal

pub loop-next-preserved : goal.loop-next-preserved
loop-next-preserved c =
    let read = front_goes c.args.joined.now c.args.steps.now c.loop-next.next _ c.index-joined-next.result _ _ _ _ c.requires.fits c.requires.each
    (omega arith) c.index-joined-next.is c.read-found.ensures.read in
    (Resumes-further c.loop-next.invariant.0 read, omega arith)

pub returns-then-not-found-clause-goes : goal.returns-then-not-found-clause-goes
returns-then-not-found-clause-goes c =
    Resumes-further c.loop-next.invariant.0 (front_goes c.args.joined.now c.args.steps.now c.loop-next.next _ c.index-joined-next.result _ _ _ _
    c.requires.fits c.requires.each (omega arith) c.index-joined-next.is c.read-found.ensures.read)
